-- A payload, as it is written, has the size of its message.
use Rattle.std.proofs.Common.{◌≡◌, ℕ, ◌+◌, Bool, true, false, List, [], ◌∷◌, length, Some, None, codes, ap, ◌∙◌, length-append, arith}
use Rattle.ssh_model.specs.Protocol.Wire.DataTypes.{IsByte, IsWrittenBoolean, IsUint32, IsString, IsNameList}
use Rattle.ssh_model.specs.Protocol.Wire.Message.{Msg, Msg.Disconnect, Msg.Ignore, Msg.Unimplemented, Msg.Debug, Msg.ServiceRequest, Msg.ServiceAccept, Msg.ExtInfo, Msg.KexInit, Msg.NewKeys, Msg.KexEcdhInit, Msg.KexEcdhReply, Msg.UserauthRequest, Msg.UserauthFailure, Msg.UserauthSuccess, Msg.UserauthBanner, Msg.UserauthPkOk, Msg.GlobalRequest, Msg.RequestSuccess, Msg.RequestFailure, Msg.ChannelOpen, Msg.ChannelOpenConfirmation, Msg.ChannelOpenFailure, Msg.ChannelWindowAdjust, Msg.ChannelData, Msg.ChannelExtendedData, Msg.ChannelEof, Msg.ChannelClose, Msg.ChannelRequest, Msg.ChannelSuccess, Msg.ChannelFailure, Msg.Unknown, Method, Method.NoMethod, Method.Password, Method.Publickey, Method.Other, Extension, IsExtensions, Proposal, Then, IsCookie, IsOtherName, IsMethod, IsProposal, IsWrittenPayload}
use Rattle.ssh_model.specs.Laws.Sizes.{text_size, names_size, method_size, extensions_size, proposal_size, HasPayloadSize}

-- What meets P has so many bytes.
pub record Sized (P : List ℕ → Type 0) (n : ℕ) : Type 0 where
  pub size : (bytes : List ℕ) → P bytes → length bytes ≡ n

-- one part and then the other
pub then_sized : {P Q : List ℕ → Type 0} {n m : ℕ} → Sized P n → Sized Q m → Sized (Then P Q) (n + m)
then_sized p q = record { size = λ bytes t. ap length t.parts ∙ omega (arith, length-append t.front t.back, p.size t.front t.first, q.size t.back t.second) }

byte_sized : (n : ℕ) → Sized (IsByte n) 1
byte_sized n = record { size = λ bytes h. ap length h }

boolean_sized : (b : Bool) → Sized (IsWrittenBoolean b) 1
boolean_sized b = record { size = λ bytes h. ap length h }

uint32_sized : (n : ℕ) → Sized (IsUint32 n) 4
uint32_sized n = record { size = λ bytes h. h.count }

text_sized : (text : List ℕ) → Sized (IsString text) (text_size text)
text_sized text = record { size = λ bytes h. ap length h.parts ∙ omega (arith, length-append h.front text, h.size.count) }

names_sized : (names : List (List ℕ)) → Sized (IsNameList names) (names_size names)
names_sized names = record { size = λ bytes h. (text_sized h.body).size bytes h.string ∙ ap text_size h.text.joined }

end_sized : Sized (λ bytes. bytes ≡ []) 0
end_sized = record { size = λ bytes h. ap length h }

rest_sized : (rest : List ℕ) → Sized (λ bytes. bytes ≡ rest) (length rest)
rest_sized rest = record { size = λ bytes h. ap length h }

cookie_sized : (cookie : List ℕ) → Sized (IsCookie cookie) 16
cookie_sized cookie = record { size = λ bytes h. h.count }

other_sized : (name : List ℕ) → Sized (IsOtherName name) (text_size name)
other_sized name = record { size = λ bytes h. (text_sized name).size bytes h.string }

-- the method of a request for authentication, from its name on
method_sized : (method : Method) (bytes : List ℕ) → IsMethod IsWrittenBoolean method bytes → length bytes ≡ method_size method
method_sized NoMethod bytes h = (then_sized (text_sized (codes "none")) (end_sized)).size bytes h ∙ omega arith
method_sized (Password password None) bytes h = (then_sized (text_sized (codes "password")) (then_sized (boolean_sized false) (then_sized (text_sized password) (end_sized)))).size bytes h ∙ omega arith
method_sized (Password password (Some new)) bytes h = (then_sized (text_sized (codes "password")) (then_sized (boolean_sized true) (then_sized (text_sized password) (then_sized (text_sized new) (end_sized))))).size bytes h ∙ omega arith
method_sized (Publickey algorithm key None) bytes h = (then_sized (text_sized (codes "publickey")) (then_sized (boolean_sized false) (then_sized (text_sized algorithm) (then_sized (text_sized key) (end_sized))))).size bytes h ∙ omega arith
method_sized (Publickey algorithm key (Some signature)) bytes h = (then_sized (text_sized (codes "publickey")) (then_sized (boolean_sized true) (then_sized (text_sized algorithm) (then_sized (text_sized key) (then_sized (text_sized signature) (end_sized)))))).size bytes h ∙ omega arith
method_sized (Other name rest) bytes h = (then_sized (other_sized name) (rest_sized rest)).size bytes h ∙ omega arith

proposal_sized : (p : Proposal) (bytes : List ℕ) → IsProposal IsWrittenBoolean p bytes → length bytes ≡ proposal_size p
proposal_sized p bytes h = (then_sized (cookie_sized p.cookie) (then_sized (names_sized p.kex) (then_sized (names_sized p.host) (then_sized (names_sized p.enc_cs) (then_sized (names_sized p.enc_sc) (then_sized (names_sized p.mac_cs) (then_sized (names_sized p.mac_sc) (then_sized (names_sized p.comp_cs) (then_sized (names_sized p.comp_sc) (then_sized (names_sized p.lang_cs) (then_sized (names_sized p.lang_sc) (then_sized (boolean_sized p.follows) (then_sized (uint32_sized 0) (end_sized)))))))))))))).size bytes h ∙ omega arith

extensions_sized : (extensions : List Extension) (bytes : List ℕ) → IsExtensions extensions bytes → length bytes ≡ extensions_size extensions
extensions_sized [] bytes h = ap length h
extensions_sized (x ∷ extensions) bytes h = (then_sized (text_sized x.name) (then_sized (text_sized x.value) (record { size = extensions_sized extensions }))).size bytes h

-- the whole payload
pub payload_sized : (message : Msg) (payload : List ℕ) → IsWrittenPayload message payload → HasPayloadSize message payload
payload_sized (Disconnect reason description language) payload h = (then_sized (byte_sized 1) (then_sized (uint32_sized reason) (then_sized (text_sized description) (then_sized (text_sized language) (end_sized))))).size payload h ∙ omega arith
payload_sized (Ignore body) payload h = (then_sized (byte_sized 2) (then_sized (text_sized body) (end_sized))).size payload h ∙ omega arith
payload_sized (Unimplemented number) payload h = (then_sized (byte_sized 3) (then_sized (uint32_sized number) (end_sized))).size payload h ∙ omega arith
payload_sized (Debug display message language) payload h = (then_sized (byte_sized 4) (then_sized (boolean_sized display) (then_sized (text_sized message) (then_sized (text_sized language) (end_sized))))).size payload h ∙ omega arith
payload_sized (ServiceRequest service) payload h = (then_sized (byte_sized 5) (then_sized (text_sized service) (end_sized))).size payload h ∙ omega arith
payload_sized (ServiceAccept service) payload h = (then_sized (byte_sized 6) (then_sized (text_sized service) (end_sized))).size payload h ∙ omega arith
payload_sized NewKeys payload h = (then_sized (byte_sized 21) (end_sized)).size payload h ∙ omega arith
payload_sized (KexEcdhInit q_c) payload h = (then_sized (byte_sized 30) (then_sized (text_sized q_c) (end_sized))).size payload h ∙ omega arith
payload_sized (KexEcdhReply k_s q_s signature) payload h = (then_sized (byte_sized 31) (then_sized (text_sized k_s) (then_sized (text_sized q_s) (then_sized (text_sized signature) (end_sized))))).size payload h ∙ omega arith
payload_sized (UserauthFailure methods partial) payload h = (then_sized (byte_sized 51) (then_sized (names_sized methods) (then_sized (boolean_sized partial) (end_sized)))).size payload h ∙ omega arith
payload_sized UserauthSuccess payload h = (then_sized (byte_sized 52) (end_sized)).size payload h ∙ omega arith
payload_sized (UserauthBanner message language) payload h = (then_sized (byte_sized 53) (then_sized (text_sized message) (then_sized (text_sized language) (end_sized)))).size payload h ∙ omega arith
payload_sized (UserauthPkOk algorithm key) payload h = (then_sized (byte_sized 60) (then_sized (text_sized algorithm) (then_sized (text_sized key) (end_sized)))).size payload h ∙ omega arith
payload_sized (GlobalRequest name want rest) payload h = (then_sized (byte_sized 80) (then_sized (text_sized name) (then_sized (boolean_sized want) (rest_sized rest)))).size payload h ∙ omega arith
payload_sized (RequestSuccess rest) payload h = (then_sized (byte_sized 81) (rest_sized rest)).size payload h ∙ omega arith
payload_sized RequestFailure payload h = (then_sized (byte_sized 82) (end_sized)).size payload h ∙ omega arith
payload_sized (ChannelOpen kind sender window max rest) payload h = (then_sized (byte_sized 90) (then_sized (text_sized kind) (then_sized (uint32_sized sender) (then_sized (uint32_sized window) (then_sized (uint32_sized max) (rest_sized rest)))))).size payload h ∙ omega arith
payload_sized (ChannelOpenConfirmation recipient sender window max rest) payload h = (then_sized (byte_sized 91) (then_sized (uint32_sized recipient) (then_sized (uint32_sized sender) (then_sized (uint32_sized window) (then_sized (uint32_sized max) (rest_sized rest)))))).size payload h ∙ omega arith
payload_sized (ChannelOpenFailure recipient reason description language) payload h = (then_sized (byte_sized 92) (then_sized (uint32_sized recipient) (then_sized (uint32_sized reason) (then_sized (text_sized description) (then_sized (text_sized language) (end_sized)))))).size payload h ∙ omega arith
payload_sized (ChannelWindowAdjust recipient bytes) payload h = (then_sized (byte_sized 93) (then_sized (uint32_sized recipient) (then_sized (uint32_sized bytes) (end_sized)))).size payload h ∙ omega arith
payload_sized (ChannelData recipient body) payload h = (then_sized (byte_sized 94) (then_sized (uint32_sized recipient) (then_sized (text_sized body) (end_sized)))).size payload h ∙ omega arith
payload_sized (ChannelExtendedData recipient kind body) payload h = (then_sized (byte_sized 95) (then_sized (uint32_sized recipient) (then_sized (uint32_sized kind) (then_sized (text_sized body) (end_sized))))).size payload h ∙ omega arith
payload_sized (ChannelEof recipient) payload h = (then_sized (byte_sized 96) (then_sized (uint32_sized recipient) (end_sized))).size payload h ∙ omega arith
payload_sized (ChannelClose recipient) payload h = (then_sized (byte_sized 97) (then_sized (uint32_sized recipient) (end_sized))).size payload h ∙ omega arith
payload_sized (ChannelRequest recipient name want rest) payload h = (then_sized (byte_sized 98) (then_sized (uint32_sized recipient) (then_sized (text_sized name) (then_sized (boolean_sized want) (rest_sized rest))))).size payload h ∙ omega arith
payload_sized (ChannelSuccess recipient) payload h = (then_sized (byte_sized 99) (then_sized (uint32_sized recipient) (end_sized))).size payload h ∙ omega arith
payload_sized (ChannelFailure recipient) payload h = (then_sized (byte_sized 100) (then_sized (uint32_sized recipient) (end_sized))).size payload h ∙ omega arith
payload_sized (ExtInfo extensions) payload h = (then_sized (byte_sized 7) (then_sized (uint32_sized (length extensions)) (record { size = extensions_sized extensions }))).size payload h
payload_sized (KexInit proposal) payload h = (then_sized (byte_sized 20) (record { size = proposal_sized proposal })).size payload h
payload_sized (UserauthRequest user service method) payload h = (then_sized (byte_sized 50) (then_sized (text_sized user) (then_sized (text_sized service) (record { size = method_sized method })))).size payload h ∙ omega arith
payload_sized (Unknown number) payload h = omega (arith, ap length h.parts, length-append h.front h.back, ap length h.first)
