-- Messages whose payloads fit into a packet: each small message has a payload that encodes it.
use Rattle.std.proofs.Common.{◌≡◌, ℕ, ◌<◌, ◌≤◌, ◌+◌, ◌^◌, Bool, true, false, List, [], ◌∷◌, ◌++◌, length, refl, arith, length-append, None, Some}
use Rattle.std.specs.Prelude.{if◌then◌else◌, codes}
use Rattle.std.specs.List.{list_all, join_with_byte}
use Rattle.std.specs.Int.{w32, to_be_bytes}
use Rattle.ssh_model.specs.Protocol.Bounds.{largest_data, longest_algorithm_name, longest_description, longest_payload, longest_user_key}
use Rattle.ssh_model.specs.Protocol.Wire.DataTypes.{IsByte, IsWrittenBoolean, IsUint32, IsString, IsNameList, is_name}
use Rattle.ssh_model.specs.Protocol.Wire.Message.{◌▸◌, IsEnd, IsRest, IsAny, IsCookie, Msg, Msg.ChannelClose, Msg.ChannelData, Msg.ChannelEof, Msg.ChannelExtendedData, Msg.ChannelFailure, Msg.ChannelOpen, Msg.ChannelOpenConfirmation, Msg.ChannelOpenFailure, Msg.ChannelRequest, Msg.ChannelSuccess, Msg.ChannelWindowAdjust, Msg.Disconnect, Msg.GlobalRequest, Msg.KexEcdhInit, Msg.KexEcdhReply, Msg.NewKeys, Msg.RequestFailure, Msg.RequestSuccess, Msg.ServiceAccept, Msg.ServiceRequest, Msg.Unimplemented, Msg.Unknown, Msg.UserauthPkOk, Msg.UserauthRequest, Msg.UserauthSuccess, Method.NoMethod, Method.Password, Method.Publickey, FitsContext, IsWrittenPayload}
use Rattle.ssh_model.specs.Protocol.Sessions.TurnClaims.{HasEncoding}

-- ---- bytes of a known count

-- bytes of a known count that encode something
pub record Made (Encodes : List ℕ → Type 0) (count : ℕ) : Type 0 where
  pub bytes : List ℕ
  pub encodes : Encodes bytes
  pub size : length bytes ≡ count

-- no bytes, for the end of a payload
pub ended : Made IsEnd 0
ended = record { bytes = []; encodes = refl; size = refl }

-- no bytes, for a place where any bytes may stand
pub any : Made IsAny 0
any = record { bytes = []; encodes = tt; size = refl }

-- these bytes, up to the end of a payload
pub rest : (l : List ℕ) → Made (IsRest l) (length l)
rest l = record { bytes = l; encodes = refl; size = refl }

is_uint32 : (n : ℕ) → n < 2 ^ 32 → IsUint32 n (to_be_bytes w32 n)
is_uint32 n small = record { are_bytes = (omega arith, (omega arith, (omega arith, (omega arith, tt)))); count = refl; value = omega arith }

module _ {G : List ℕ → Type 0} {k : ℕ} where
  pub byte : (n : ℕ) → Made G k → Made (IsByte n ▸ G) (1 + k)
  byte n more = record { bytes = n ∷ more.bytes; encodes = record { front = n ∷ []; back = more.bytes; first = refl; second = more.encodes; parts = refl }; size = omega (arith, more.size) }

  pub truth : (t : Bool) → Made G k → Made (IsWrittenBoolean t ▸ G) (1 + k)
  truth t more =
      let b : ℕ = if t then 1 else 0 in
      record { bytes = b ∷ more.bytes; encodes = record { front = b ∷ []; back = more.bytes; first = refl; second = more.encodes; parts = refl }; size = omega (arith, more.size) }

  pub uint32 : (n : ℕ) → n < 2 ^ 32 → Made G k → Made (IsUint32 n ▸ G) (4 + k)
  uint32 n small more = record {
    bytes = to_be_bytes w32 n ++ more.bytes;
    encodes = record { front = to_be_bytes w32 n; back = more.bytes; first = is_uint32 n small; second = more.encodes; parts = refl };
    size = omega (arith, more.size);
  }

  pub string : (text : List ℕ) → length text < 2 ^ 32 → Made G k → Made (IsString text ▸ G) (4 + length text + k)
  string text small more =
      let front : List ℕ = to_be_bytes w32 (length text) in
      record {
        bytes = (front ++ text) ++ more.bytes;
        encodes = record { front = front ++ text; back = more.bytes; first = record { front = front; size = is_uint32 (length text) small; parts = refl }; second = more.encodes; parts = refl };
        size = omega (arith, more.size, length-append (front ++ text) more.bytes, length-append front text);
      }

  pub cookie : (l : List ℕ) → length l ≡ 16 → Made G k → Made (IsCookie l ▸ G) (16 + k)
  cookie l n more = record { bytes = l ++ more.bytes; encodes = record { front = l; back = more.bytes; first = record { same = refl; count = n }; second = more.encodes; parts = refl }; size = omega (arith, n, more.size, length-append l more.bytes) }

  pub names : (l : List (List ℕ)) → list_all is_name l ≡ true → length (join_with_byte 44 l) < 2 ^ 32 → Made G k → Made (IsNameList l ▸ G) (4 + length (join_with_byte 44 l) + k)
  names l good small more =
      let text : List ℕ = join_with_byte 44 l in
      let front : List ℕ = to_be_bytes w32 (length text) in
      let list : IsNameList l (front ++ text) = record { body = text; text = record { all = good; joined = refl }; string = record { front = front; size = is_uint32 (length text) small; parts = refl } } in
      record {
        bytes = (front ++ text) ++ more.bytes;
        encodes = record { front = front ++ text; back = more.bytes; first = list; second = more.encodes; parts = refl };
        size = omega (arith, more.size, length-append (front ++ text) more.bytes, length-append front text);
      }

-- A message of at most 34,000 bytes that its context allows has an encoding.
pub encoded : (m : Msg) (k : ℕ) → Made (IsWrittenPayload m) k → FitsContext true m → k ≤ longest_payload → HasEncoding m
encoded m k made fits n = record { payload = made.bytes; encodes = record { context = fits; row = made.encodes; size = omega (arith, made.size, n) } }

-- ---- messages

-- Each of these messages has an encoding if its parts are as short, and its numbers as small, as the premises say.
pub disconnect_encoded : (reason : ℕ) (text : List ℕ) → reason < 2 ^ 32 → length text ≤ longest_description → HasEncoding (Disconnect reason text [])
disconnect_encoded reason text a b = encoded (Disconnect reason text []) _ (byte 1 (uint32 reason a (string text (omega (arith, b)) (string [] (omega arith) ended)))) tt (omega (arith, b))

pub unimplemented_encoded : (n : ℕ) → n < 2 ^ 32 → HasEncoding (Unimplemented n)
unimplemented_encoded n a = encoded (Unimplemented n) _ (byte 3 (uint32 n a ended)) tt (omega arith)

pub service_request_encoded : (s : List ℕ) → length s ≤ 100 → HasEncoding (ServiceRequest s)
service_request_encoded s a = encoded (ServiceRequest s) _ (byte 5 (string s (omega (arith, a)) ended)) tt (omega (arith, a))

pub service_accept_encoded : (s : List ℕ) → length s ≤ 100 → HasEncoding (ServiceAccept s)
service_accept_encoded s a = encoded (ServiceAccept s) _ (byte 6 (string s (omega (arith, a)) ended)) tt (omega (arith, a))

pub new_keys_encoded : HasEncoding NewKeys
new_keys_encoded = encoded NewKeys _ (byte 21 ended) tt (omega arith)

pub kex_init_encoded : (q : List ℕ) → length q ≤ 32 → HasEncoding (KexEcdhInit q)
kex_init_encoded q a = encoded (KexEcdhInit q) _ (byte 30 (string q (omega (arith, a)) ended)) tt (omega (arith, a))

pub kex_reply_encoded : (k q s : List ℕ) → length k ≤ 4096 → length q ≤ 32 → length s ≤ 4096 → HasEncoding (KexEcdhReply k q s)
kex_reply_encoded k q s a b c = encoded (KexEcdhReply k q s) _ (byte 31 (string k (omega (arith, a)) (string q (omega (arith, b)) (string s (omega (arith, c)) ended)))) tt (omega (arith, a, b, c))

pub success_encoded : HasEncoding UserauthSuccess
success_encoded = encoded UserauthSuccess _ (byte 52 ended) tt (omega arith)

pub pk_ok_encoded : (a k : List ℕ) → length a ≤ longest_algorithm_name → length k ≤ longest_user_key → HasEncoding (UserauthPkOk a k)
pk_ok_encoded a k m n = encoded (UserauthPkOk a k) _ (byte 60 (string a (omega (arith, m)) (string k (omega (arith, n)) ended))) refl (omega (arith, m, n))

pub unknown_0_encoded : HasEncoding (Unknown 0)
unknown_0_encoded = encoded (Unknown 0) _ (byte 0 any) refl (omega arith)

pub no_method_encoded : (u : List ℕ) → 1 + (4 + length u) + 18 + 8 ≤ longest_payload → HasEncoding (UserauthRequest u (codes "ssh-connection") NoMethod)
no_method_encoded u n = encoded (UserauthRequest u (codes "ssh-connection") NoMethod) _ (byte 50 (string u (omega (arith, n)) (string (codes "ssh-connection") (omega arith) (string (codes "none") (omega arith) ended)))) tt (omega (arith, n))

pub password_encoded : (u w : List ℕ) → 1 + (4 + length u) + 18 + 12 + 1 + (4 + length w) ≤ longest_payload → HasEncoding (UserauthRequest u (codes "ssh-connection") (Password w None))
password_encoded u w n = encoded (UserauthRequest u (codes "ssh-connection") (Password w None)) _ (byte 50 (string u (omega (arith, n)) (string (codes "ssh-connection") (omega arith) (string (codes "password") (omega arith) (truth false (string w (omega (arith, n)) ended)))))) tt (omega (arith, n))

pub probe_encoded : (u a k : List ℕ) → 1 + (4 + length u) + 18 + 13 + 1 + (4 + length a) + (4 + length k) ≤ longest_payload → HasEncoding (UserauthRequest u (codes "ssh-connection") (Publickey a k None))
probe_encoded u a k n = encoded (UserauthRequest u (codes "ssh-connection") (Publickey a k None)) _ (byte 50 (string u (omega (arith, n)) (string (codes "ssh-connection") (omega arith) (string (codes "publickey") (omega arith) (truth false (string a (omega (arith, n)) (string k (omega (arith, n)) ended))))))) tt (omega (arith, n))

pub sign_encoded : (u a k s : List ℕ) → 1 + (4 + length u) + 18 + 13 + 1 + (4 + length a) + (4 + length k) + 4 + 4096 ≤ longest_payload → length s ≤ 4096 → HasEncoding (UserauthRequest u (codes "ssh-connection") (Publickey a k (Some s)))
sign_encoded u a k s n o = encoded (UserauthRequest u (codes "ssh-connection") (Publickey a k (Some s))) _ (byte 50 (string u (omega (arith, n)) (string (codes "ssh-connection") (omega arith) (string (codes "publickey") (omega arith) (truth true (string a (omega (arith, n)) (string k (omega (arith, n)) (string s (omega (arith, o)) ended)))))))) tt (omega (arith, n, o))

pub global_request_encoded : (name : List ℕ) (want : Bool) (l : List ℕ) → 2 + (4 + length name) + length l ≤ longest_payload → HasEncoding (GlobalRequest name want l)
global_request_encoded name want l n = encoded (GlobalRequest name want l) _ (byte 80 (string name (omega (arith, n)) (truth want (rest l)))) tt (omega (arith, n))

pub request_success_encoded : (l : List ℕ) → 1 + length l ≤ longest_payload → HasEncoding (RequestSuccess l)
request_success_encoded l n = encoded (RequestSuccess l) _ (byte 81 (rest l)) tt (n)

pub request_failure_encoded : HasEncoding RequestFailure
request_failure_encoded = encoded RequestFailure _ (byte 82 ended) tt (omega arith)

pub open_encoded : (kind : List ℕ) (x w m : ℕ) (l : List ℕ) → x < 2 ^ 32 → w < 2 ^ 32 → m < 2 ^ 32 → 13 + (4 + length kind) + length l ≤ longest_payload → HasEncoding (ChannelOpen kind x w m l)
open_encoded kind x w m l a b c n = encoded (ChannelOpen kind x w m l) _ (byte 90 (string kind (omega (arith, n)) (uint32 x a (uint32 w b (uint32 m c (rest l)))))) tt (omega (arith, n))

pub confirmation_encoded : (r x w m : ℕ) (l : List ℕ) → r < 2 ^ 32 → x < 2 ^ 32 → w < 2 ^ 32 → m < 2 ^ 32 → 17 + length l ≤ longest_payload → HasEncoding (ChannelOpenConfirmation r x w m l)
confirmation_encoded r x w m l d a b c n = encoded (ChannelOpenConfirmation r x w m l) _ (byte 91 (uint32 r d (uint32 x a (uint32 w b (uint32 m c (rest l)))))) tt (omega (arith, n))

pub open_failure_encoded : (r reason : ℕ) → r < 2 ^ 32 → reason < 2 ^ 32 → HasEncoding (ChannelOpenFailure r reason [] [])
open_failure_encoded r reason a b = encoded (ChannelOpenFailure r reason [] []) _ (byte 92 (uint32 r a (uint32 reason b (string [] (omega arith) (string [] (omega arith) ended))))) tt (omega arith)

pub adjust_encoded : (r n : ℕ) → r < 2 ^ 32 → n < 2 ^ 32 → HasEncoding (ChannelWindowAdjust r n)
adjust_encoded r n a b = encoded (ChannelWindowAdjust r n) _ (byte 93 (uint32 r a (uint32 n b ended))) tt (omega arith)

pub data_message_encoded : (r : ℕ) (body : List ℕ) → r < 2 ^ 32 → length body ≤ largest_data → HasEncoding (ChannelData r body)
data_message_encoded r body a n = encoded (ChannelData r body) _ (byte 94 (uint32 r a (string body (omega (arith, n)) ended))) tt (omega (arith, n))

pub extended_data_encoded : (r kind : ℕ) (body : List ℕ) → r < 2 ^ 32 → kind < 2 ^ 32 → length body ≤ largest_data → HasEncoding (ChannelExtendedData r kind body)
extended_data_encoded r kind body a b n = encoded (ChannelExtendedData r kind body) _ (byte 95 (uint32 r a (uint32 kind b (string body (omega (arith, n)) ended)))) tt (omega (arith, n))

pub eof_encoded : (r : ℕ) → r < 2 ^ 32 → HasEncoding (ChannelEof r)
eof_encoded r a = encoded (ChannelEof r) _ (byte 96 (uint32 r a ended)) tt (omega arith)

pub close_encoded : (r : ℕ) → r < 2 ^ 32 → HasEncoding (ChannelClose r)
close_encoded r a = encoded (ChannelClose r) _ (byte 97 (uint32 r a ended)) tt (omega arith)

pub request_encoded : (r : ℕ) (name : List ℕ) (want : Bool) (l : List ℕ) → r < 2 ^ 32 → 6 + (4 + length name) + length l ≤ longest_payload → HasEncoding (ChannelRequest r name want l)
request_encoded r name want l a n = encoded (ChannelRequest r name want l) _ (byte 98 (uint32 r a (string name (omega (arith, n)) (truth want (rest l))))) tt (omega (arith, n))

pub channel_success_encoded : (r : ℕ) → r < 2 ^ 32 → HasEncoding (ChannelSuccess r)
channel_success_encoded r a = encoded (ChannelSuccess r) _ (byte 99 (uint32 r a ended)) tt (omega arith)

pub channel_failure_encoded : (r : ℕ) → r < 2 ^ 32 → HasEncoding (ChannelFailure r)
channel_failure_encoded r a = encoded (ChannelFailure r) _ (byte 100 (uint32 r a ended)) tt (omega arith)
