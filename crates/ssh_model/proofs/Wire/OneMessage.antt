-- A payload is one message at most.
use Rattle.std.proofs.Common.{◌≡◌, ℕ, Bool, true, not, eqb, List, [], ◌∷◌, length, Some, None, refl, sym, ap, ◌∙◌, arith}
use Rattle.std.specs.Prelude.{codes}
use Rattle.std.proofs.lemmas.Bool.{eq-eqb}
use Rattle.ssh_model.specs.Protocol.Wire.DataTypes.{IsBoolean, IsString}
use Rattle.ssh_model.specs.Protocol.Wire.Message.{Method, Method.NoMethod, Method.Password, Method.Publickey, Method.Other, Msg, Msg.Disconnect, Msg.Ignore, Msg.Unimplemented, Msg.Debug, Msg.ServiceRequest, Msg.ServiceAccept, Msg.ExtInfo, Msg.KexInit, Msg.NewKeys, Msg.KexEcdhInit, Msg.KexEcdhReply, Msg.UserauthRequest, Msg.UserauthFailure, Msg.UserauthSuccess, Msg.UserauthBanner, Msg.UserauthPkOk, Msg.GlobalRequest, Msg.RequestSuccess, Msg.RequestFailure, Msg.ChannelOpen, Msg.ChannelOpenConfirmation, Msg.ChannelOpenFailure, Msg.ChannelWindowAdjust, Msg.ChannelData, Msg.ChannelExtendedData, Msg.ChannelEof, Msg.ChannelClose, Msg.ChannelRequest, Msg.ChannelSuccess, Msg.ChannelFailure, Msg.Unknown, ◌▸◌, FitsContext, IsAny, Extension, IsExtensions, IsMethod, IsRow, IsPayload, is_unknown, message_number}
use Rattle.ssh_model.proofs.Wire.Fields.{Wholes, ◌▹◌, byte, boolean, uint32, string, names, cookie, other, end, rest, stop}
use Rattle.ssh_model.proofs.Wire.Payloads.{not_both, tag}

-- ---- the method of a request for authentication

-- the name in front of a method
abbrev name_of : Method → List ℕ
name_of NoMethod = codes "none"
name_of (Password password new_password) = codes "password"
name_of (Publickey algorithm key signature) = codes "publickey"
name_of (Other name left) = name

-- Each method begins with its name.
named : (m : Method) (bytes : List ℕ) → IsMethod IsBoolean m bytes → (IsString (name_of m) ▸ IsAny) bytes
named (Password password None) bytes p = record { front = p.front; back = p.back; first = p.first; second = tt; parts = p.parts }
named (Password password (Some new)) bytes p = record { front = p.front; back = p.back; first = p.first; second = tt; parts = p.parts }
named (Publickey algorithm key None) bytes p = record { front = p.front; back = p.back; first = p.first; second = tt; parts = p.parts }
named (Publickey algorithm key (Some signature)) bytes p = record { front = p.front; back = p.back; first = p.first; second = tt; parts = p.parts }
named (Other name left) bytes p = record { front = p.front; back = p.back; first = p.first.string; second = tt; parts = p.parts }
named m bytes p = record { front = p.front; back = p.back; first = p.first; second = tt; parts = p.parts }

-- methods of one name
same_method : (m n : Method) (bytes : List ℕ) → name_of m ≡ name_of n → IsMethod IsBoolean m bytes → IsMethod IsBoolean n bytes → m ≡ n
same_method NoMethod NoMethod bytes e p q = refl
same_method (Password a None) (Password k None) bytes e p q =
    let h = (string ▹ boolean ▹ string ▹ end).same bytes p q in λ i. Password (h.1.1.0 i) None
same_method (Password a (Some b)) (Password k (Some l)) bytes e p q =
    let h = (string ▹ boolean ▹ string ▹ string ▹ end).same bytes p q in λ i. Password (h.1.1.0 i) (Some (h.1.1.1.0 i))
same_method (Publickey a b None) (Publickey k l None) bytes e p q =
    let h = (string ▹ boolean ▹ string ▹ string ▹ end).same bytes p q in λ i. Publickey (h.1.1.0 i) (h.1.1.1.0 i) None
same_method (Publickey a b (Some c)) (Publickey k l (Some n)) bytes e p q =
    let h = (string ▹ boolean ▹ string ▹ string ▹ string ▹ end).same bytes p q in λ i. Publickey (h.1.1.0 i) (h.1.1.1.0 i) (Some (h.1.1.1.1.0 i))
same_method (Other a b) (Other k l) bytes e p q =
    let h = (other ▹ rest).same bytes p q in λ i. Other (h.0 i) (h.1 i)
same_method (Password a b) (Password k l) bytes e p q = let h = (string ▹ boolean ▹ stop).same bytes p q in cc
same_method (Publickey a b c) (Publickey k l n) bytes e p q = let h = (string ▹ boolean ▹ stop).same bytes p q in cc
same_method (Other a b) NoMethod bytes e p q = absurd (p.first.other.not_none e)
same_method (Other a b) (Password k l) bytes e p q = absurd (p.first.other.not_password e)
same_method (Other a b) (Publickey k l n) bytes e p q = absurd (p.first.other.not_publickey e)
same_method NoMethod (Other k l) bytes e p q = absurd (q.first.other.not_none (sym e))
same_method (Password a b) (Other k l) bytes e p q = absurd (q.first.other.not_password (sym e))
same_method (Publickey a b c) (Other k l) bytes e p q = absurd (q.first.other.not_publickey (sym e))
same_method m n bytes e p q = absurd cc

method : {m n : Method} → Wholes (IsMethod IsBoolean m) (IsMethod IsBoolean n) (m ≡ n)
method {m} {n} = record { same = λ bytes p q. same_method m n bytes ((string ▹ stop).same bytes (named m bytes p) (named n bytes q)).0 p q }

-- ---- extensions

-- as many of them
pairs : (a b : List Extension) → length a ≡ length b → Wholes (IsExtensions a) (IsExtensions b) (a ≡ b)
pairs [] [] e = record { same = λ bytes p q. refl }
pairs [] (y ∷ b) e = absurd (omega (arith, e))
pairs (x ∷ a) [] e = absurd (omega (arith, e))
pairs (x ∷ a) (y ∷ b) e =
    record {
      same = λ bytes p q.
          let h = (string ▹ string ▹ pairs a b (omega (arith, e))).same bytes p q in λ i. record { name = h.0 i; value = h.1.0 i } ∷ h.1.1 i;
    }

-- ---- the rows

-- messages of one number
same_row : (probing : Bool) (m n : Msg) (payload : List ℕ) → eqb (message_number m) (message_number n) ≡ true → is_unknown probing (message_number m) ≡ is_unknown probing (message_number n) → FitsContext probing m → FitsContext probing n → IsRow IsBoolean m payload → IsRow IsBoolean n payload → m ≡ n
same_row probing (Disconnect a b c) (Disconnect k l m) payload _ _ _ _ p q =
    let h = (byte ▹ uint32 ▹ string ▹ string ▹ end).same payload p q in λ i. Disconnect (h.1.0 i) (h.1.1.0 i) (h.1.1.1.0 i)
same_row probing (Ignore a) (Ignore k) payload _ _ _ _ p q =
    let h = (byte ▹ string ▹ end).same payload p q in λ i. Ignore (h.1.0 i)
same_row probing (Unimplemented a) (Unimplemented k) payload _ _ _ _ p q =
    let h = (byte ▹ uint32 ▹ end).same payload p q in λ i. Unimplemented (h.1.0 i)
same_row probing (Debug a b c) (Debug k l m) payload _ _ _ _ p q =
    let h = (byte ▹ boolean ▹ string ▹ string ▹ end).same payload p q in λ i. Debug (h.1.0 i) (h.1.1.0 i) (h.1.1.1.0 i)
same_row probing (ServiceRequest a) (ServiceRequest k) payload _ _ _ _ p q =
    let h = (byte ▹ string ▹ end).same payload p q in λ i. ServiceRequest (h.1.0 i)
same_row probing (ServiceAccept a) (ServiceAccept k) payload _ _ _ _ p q =
    let h = (byte ▹ string ▹ end).same payload p q in λ i. ServiceAccept (h.1.0 i)
same_row probing (ExtInfo a) (ExtInfo k) payload _ _ _ _ p q =
    let n = (byte ▹ uint32 ▹ stop).same payload p q in
    let h = (byte ▹ uint32 ▹ pairs a k n.1.0).same payload p q in λ i. ExtInfo (h.1.1 i)
same_row probing (KexInit p) (KexInit q) payload _ _ _ _ r w =
    let h = (byte ▹ cookie ▹ names ▹ names ▹ names ▹ names ▹ names ▹ names ▹ names ▹ names ▹ names ▹ names ▹ boolean ▹ uint32 ▹ end).same payload r w in
    λ i. KexInit (record { cookie = h.1.0 i; kex = h.1.1.0 i; host = h.1.1.1.0 i; enc_cs = h.1.1.1.1.0 i; enc_sc = h.1.1.1.1.1.0 i; mac_cs = h.1.1.1.1.1.1.0 i; mac_sc = h.1.1.1.1.1.1.1.0 i; comp_cs = h.1.1.1.1.1.1.1.1.0 i; comp_sc = h.1.1.1.1.1.1.1.1.1.0 i; lang_cs = h.1.1.1.1.1.1.1.1.1.1.0 i; lang_sc = h.1.1.1.1.1.1.1.1.1.1.1.0 i; follows = h.1.1.1.1.1.1.1.1.1.1.1.1.0 i })
same_row probing NewKeys NewKeys payload _ _ _ _ p q = refl
same_row probing (KexEcdhInit a) (KexEcdhInit k) payload _ _ _ _ p q =
    let h = (byte ▹ string ▹ end).same payload p q in λ i. KexEcdhInit (h.1.0 i)
same_row probing (KexEcdhReply a b c) (KexEcdhReply k l m) payload _ _ _ _ p q =
    let h = (byte ▹ string ▹ string ▹ string ▹ end).same payload p q in λ i. KexEcdhReply (h.1.0 i) (h.1.1.0 i) (h.1.1.1.0 i)
same_row probing (UserauthRequest a b c) (UserauthRequest k l m) payload _ _ _ _ p q =
    let h = (byte ▹ string ▹ string ▹ method).same payload p q in λ i. UserauthRequest (h.1.0 i) (h.1.1.0 i) (h.1.1.1 i)
same_row probing (UserauthFailure a b) (UserauthFailure k l) payload _ _ _ _ p q =
    let h = (byte ▹ names ▹ boolean ▹ end).same payload p q in λ i. UserauthFailure (h.1.0 i) (h.1.1.0 i)
same_row probing UserauthSuccess UserauthSuccess payload _ _ _ _ p q = refl
same_row probing (UserauthBanner a b) (UserauthBanner k l) payload _ _ _ _ p q =
    let h = (byte ▹ string ▹ string ▹ end).same payload p q in λ i. UserauthBanner (h.1.0 i) (h.1.1.0 i)
same_row probing (UserauthPkOk a b) (UserauthPkOk k l) payload _ _ _ _ p q =
    let h = (byte ▹ string ▹ string ▹ end).same payload p q in λ i. UserauthPkOk (h.1.0 i) (h.1.1.0 i)
same_row probing (GlobalRequest a b c) (GlobalRequest k l m) payload _ _ _ _ p q =
    let h = (byte ▹ string ▹ boolean ▹ rest).same payload p q in λ i. GlobalRequest (h.1.0 i) (h.1.1.0 i) (h.1.1.1 i)
same_row probing (RequestSuccess a) (RequestSuccess k) payload _ _ _ _ p q =
    let h = (byte ▹ rest).same payload p q in λ i. RequestSuccess (h.1 i)
same_row probing RequestFailure RequestFailure payload _ _ _ _ p q = refl
same_row probing (ChannelOpen a b c d e) (ChannelOpen k l m n o) payload _ _ _ _ p q =
    let h = (byte ▹ string ▹ uint32 ▹ uint32 ▹ uint32 ▹ rest).same payload p q in λ i. ChannelOpen (h.1.0 i) (h.1.1.0 i) (h.1.1.1.0 i) (h.1.1.1.1.0 i) (h.1.1.1.1.1 i)
same_row probing (ChannelOpenConfirmation a b c d e) (ChannelOpenConfirmation k l m n o) payload _ _ _ _ p q =
    let h = (byte ▹ uint32 ▹ uint32 ▹ uint32 ▹ uint32 ▹ rest).same payload p q in λ i. ChannelOpenConfirmation (h.1.0 i) (h.1.1.0 i) (h.1.1.1.0 i) (h.1.1.1.1.0 i) (h.1.1.1.1.1 i)
same_row probing (ChannelOpenFailure a b c d) (ChannelOpenFailure k l m n) payload _ _ _ _ p q =
    let h = (byte ▹ uint32 ▹ uint32 ▹ string ▹ string ▹ end).same payload p q in λ i. ChannelOpenFailure (h.1.0 i) (h.1.1.0 i) (h.1.1.1.0 i) (h.1.1.1.1.0 i)
same_row probing (ChannelWindowAdjust a b) (ChannelWindowAdjust k l) payload _ _ _ _ p q =
    let h = (byte ▹ uint32 ▹ uint32 ▹ end).same payload p q in λ i. ChannelWindowAdjust (h.1.0 i) (h.1.1.0 i)
same_row probing (ChannelData a b) (ChannelData k l) payload _ _ _ _ p q =
    let h = (byte ▹ uint32 ▹ string ▹ end).same payload p q in λ i. ChannelData (h.1.0 i) (h.1.1.0 i)
same_row probing (ChannelExtendedData a b c) (ChannelExtendedData k l m) payload _ _ _ _ p q =
    let h = (byte ▹ uint32 ▹ uint32 ▹ string ▹ end).same payload p q in λ i. ChannelExtendedData (h.1.0 i) (h.1.1.0 i) (h.1.1.1.0 i)
same_row probing (ChannelEof a) (ChannelEof k) payload _ _ _ _ p q =
    let h = (byte ▹ uint32 ▹ end).same payload p q in λ i. ChannelEof (h.1.0 i)
same_row probing (ChannelClose a) (ChannelClose k) payload _ _ _ _ p q =
    let h = (byte ▹ uint32 ▹ end).same payload p q in λ i. ChannelClose (h.1.0 i)
same_row probing (ChannelRequest a b c d) (ChannelRequest k l m n) payload _ _ _ _ p q =
    let h = (byte ▹ uint32 ▹ string ▹ boolean ▹ rest).same payload p q in λ i. ChannelRequest (h.1.0 i) (h.1.1.0 i) (h.1.1.1.0 i) (h.1.1.1.1 i)
same_row probing (ChannelSuccess a) (ChannelSuccess k) payload _ _ _ _ p q =
    let h = (byte ▹ uint32 ▹ end).same payload p q in λ i. ChannelSuccess (h.1.0 i)
same_row probing (ChannelFailure a) (ChannelFailure k) payload _ _ _ _ p q =
    let h = (byte ▹ uint32 ▹ end).same payload p q in λ i. ChannelFailure (h.1.0 i)
same_row probing (Unknown a) (Unknown k) payload _ _ _ _ p q = let h = (byte ▹ stop).same payload p q in λ i. Unknown (h.0 i)
same_row probing (Unknown a) (UserauthPkOk k l) payload e s t u p q = absurd (not_both (sym t ∙ (s ∙ ap not u)))
same_row probing (UserauthPkOk a b) (Unknown k) payload e s t u p q = absurd (not_both (sym u ∙ (sym s ∙ ap not t)))
same_row probing (Unknown a) n payload e s t u p q = absurd (not_both (sym t ∙ s))
same_row probing m (Unknown k) payload e s t u p q = absurd (not_both (sym u ∙ sym s))
same_row probing m n payload e s t u p q = absurd (not_both (sym e))

pub same_message : {probing : Bool} (m n : Msg) (payload : List ℕ) → IsPayload probing m payload → IsPayload probing n payload → m ≡ n
same_message {probing} m n payload p q =
    let s = tag m payload probing p in
    let t = tag n payload probing q in
    let front : message_number m ∷ s.0 ≡ message_number n ∷ t.0 = sym s.1 ∙ t.1 in
    let number : message_number m ≡ message_number n = cc in
    same_row probing m n payload (eq-eqb _ _ number) (ap (is_unknown probing) number) p.context q.context p.row q.row
