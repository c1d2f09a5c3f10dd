-- The number of bytes of a message's payload as it is written.
use Rattle.std.specs.Prelude.{◌≡◌, ◌≤◌, ◌+◌, ℕ, Some, None, List, [], ◌∷◌, length, codes}
use Rattle.std.specs.List.{join_with_byte}
use Rattle.ssh_model.specs.Protocol.Wire.Message.{Msg, Msg.Disconnect, Msg.Ignore, Msg.Unimplemented, Msg.Debug}
use Rattle.ssh_model.specs.Protocol.Wire.Message.{Msg.ServiceRequest, Msg.ServiceAccept, Msg.ExtInfo, Msg.KexInit, Msg.NewKeys}
use Rattle.ssh_model.specs.Protocol.Wire.Message.{Msg.KexEcdhInit, Msg.KexEcdhReply, Msg.UserauthRequest, Msg.UserauthFailure}
use Rattle.ssh_model.specs.Protocol.Wire.Message.{Msg.UserauthSuccess, Msg.UserauthBanner, Msg.UserauthPkOk, Msg.GlobalRequest}
use Rattle.ssh_model.specs.Protocol.Wire.Message.{Msg.RequestSuccess, Msg.RequestFailure, Msg.ChannelOpen}
use Rattle.ssh_model.specs.Protocol.Wire.Message.{Msg.ChannelOpenConfirmation, Msg.ChannelOpenFailure, Msg.ChannelWindowAdjust}
use Rattle.ssh_model.specs.Protocol.Wire.Message.{Msg.ChannelData, Msg.ChannelExtendedData, Msg.ChannelEof, Msg.ChannelClose}
use Rattle.ssh_model.specs.Protocol.Wire.Message.{Msg.ChannelRequest, Msg.ChannelSuccess, Msg.ChannelFailure, Msg.Unknown}
use Rattle.ssh_model.specs.Protocol.Wire.Message.{Method, Method.NoMethod, Method.Password, Method.Publickey, Method.Other}
use Rattle.ssh_model.specs.Protocol.Wire.Message.{Extension, Proposal}

-- a text with its length before it
abbrev pub text_size : List ℕ → ℕ
text_size text = 4 + length text

-- a name-list
abbrev pub names_size : List (List ℕ) → ℕ
names_size names = 4 + length (join_with_byte 44 names)

-- a method of authentication, from its name on
abbrev pub method_size : Method → ℕ
method_size NoMethod = text_size (codes "none")
method_size (Password password None) = text_size (codes "password") + (1 + text_size password)
method_size (Password password (Some new)) = text_size (codes "password") + (1 + (text_size password + text_size new))
method_size (Publickey algorithm key None) = text_size (codes "publickey") + (1 + (text_size algorithm + text_size key))
method_size (Publickey algorithm key (Some signature)) =
    text_size (codes "publickey") + (1 + (text_size algorithm + (text_size key + text_size signature)))
method_size (Other name rest) = text_size name + length rest

-- a KEXINIT after its number: the cookie, ten name-lists, a boolean, and the reserved uint32
abbrev pub proposal_size : Proposal → ℕ
proposal_size p =
    16 + (names_size p.kex + (names_size p.host + (names_size p.enc_cs + (names_size p.enc_sc + (names_size p.mac_cs
    + (names_size p.mac_sc + (names_size p.comp_cs + (names_size p.comp_sc
    + (names_size p.lang_cs + (names_size p.lang_sc + 5))))))))))

-- the names and values of extensions
abbrev pub extensions_size : List Extension → ℕ
extensions_size [] = 0
extensions_size (extension ∷ extensions) =
    text_size extension.name + (text_size extension.value + extensions_size extensions)

-- A message without its number. An unknown message has no fields as it is written.
abbrev pub fields_size : Msg → ℕ
fields_size (Disconnect reason description language) = 4 + (text_size description + text_size language)
fields_size (Ignore body) = text_size body
fields_size (Unimplemented number) = 4
fields_size (Debug display message language) = 1 + (text_size message + text_size language)
fields_size (ServiceRequest service) = text_size service
fields_size (ServiceAccept service) = text_size service
fields_size (ExtInfo extensions) = 4 + extensions_size extensions
fields_size (KexInit proposal) = proposal_size proposal
fields_size NewKeys = 0
fields_size (KexEcdhInit q_c) = text_size q_c
fields_size (KexEcdhReply k_s q_s signature) = text_size k_s + (text_size q_s + text_size signature)
fields_size (UserauthRequest user service method) = text_size user + (text_size service + method_size method)
fields_size (UserauthFailure methods partial) = names_size methods + 1
fields_size UserauthSuccess = 0
fields_size (UserauthBanner message language) = text_size message + text_size language
fields_size (UserauthPkOk algorithm key) = text_size algorithm + text_size key
fields_size (GlobalRequest name want rest) = text_size name + (1 + length rest)
fields_size (RequestSuccess rest) = length rest
fields_size RequestFailure = 0
fields_size (ChannelOpen kind sender window max rest) = text_size kind + (12 + length rest)
fields_size (ChannelOpenConfirmation recipient sender window max rest) = 16 + length rest
fields_size (ChannelOpenFailure recipient reason description language) =
    8 + (text_size description + text_size language)
fields_size (ChannelWindowAdjust recipient bytes) = 8
fields_size (ChannelData recipient body) = 4 + text_size body
fields_size (ChannelExtendedData recipient kind body) = 8 + text_size body
fields_size (ChannelEof recipient) = 4
fields_size (ChannelClose recipient) = 4
fields_size (ChannelRequest recipient name want rest) = 4 + (text_size name + (1 + length rest))
fields_size (ChannelSuccess recipient) = 4
fields_size (ChannelFailure recipient) = 4
fields_size (Unknown number) = 0

-- the payload: the number and the fields
abbrev pub payload_size : Msg → ℕ
payload_size message = 1 + fields_size message

-- The payload has the size of the message. After the number of an unknown message any bytes may follow.
abbrev pub HasPayloadSize : Msg → List ℕ → Type 0
HasPayloadSize (Unknown number) payload = 1 ≤ length payload
HasPayloadSize message payload = length payload ≡ payload_size message
