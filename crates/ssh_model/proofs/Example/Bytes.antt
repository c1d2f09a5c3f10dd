-- The bytes of the toy run: what encodes its messages, and which packets they come in.
use Rattle.std.proofs.Common.{◌≡◌, ℕ, zero, suc, ◌+◌, ◌-◌, ◌%◌, ◌^◌, ◌<◌, ◌≤◌, Bool, true, List, [], ◌∷◌, ◌++◌, length, refl, subst, arith, length-append, Option, Some, None}
use Rattle.std.specs.Prelude.{replicate, nat_le, ◌==◌}
use Rattle.std.specs.List.{list_all, join_with_byte}
use Rattle.std.specs.Int.{w32, to_be_bytes}
use Rattle.std.proofs.lemmas.Bool.{le-leb, eq-eqb}
use Rattle.std.proofs.lemmas.List.{length-replicate}
use Rattle.ssh_model.specs.Protocol.Bounds.{largest_packet, longest_payload}
use Rattle.ssh_model.specs.Protocol.Wire.DataTypes.{AreBytes, IsByte, IsWrittenBoolean, IsUint32, IsString, IsNameList, is_name}
use Rattle.ssh_model.specs.Protocol.Wire.Message.{◌▸◌}
use Rattle.ssh_model.specs.Protocol.Wire.Packet.{IsPacket, is_size, with_length}
use Rattle.ssh_model.specs.Protocol.Wire.Sealing.{Crypto, IsSealing, IsWire, is_wire_size, sealed_under}
use Rattle.ssh_model.specs.Laws.MacOnly.{mac_only, tag_of, append_bytes, hash_bytes, word_bytes, mac_only_laws}
use Rattle.ssh_model.specs.Protocol.KeyExchange.Exchange.{string_of}
use Rattle.ssh_model.specs.Protocol.Wire.Outcome.{Outcome.Opens}
use Rattle.ssh_model.specs.Protocol.Wire.Unit.{PacketUnit, PacketUnit.opens, HasNumber}
use Rattle.ssh_model.specs.Example.Run.{uint32_of, boolean_of, names_of}
use Rattle.ssh_model.proofs.KeyExchange.Texts.{is_string}
use Rattle.ssh_model.proofs.Wire.Sealed.{wire_size}

-- ---- fields

module _ {G : List ℕ → Type 0} where
  pub byte_then : (n : ℕ) (rest : List ℕ) → G rest → (IsByte n ▸ G) ((n ∷ []) ++ rest)
  byte_then n rest g = record { front = n ∷ []; back = rest; first = refl; second = g; parts = refl }

  pub string_then : (text rest : List ℕ) → length text < 2 ^ 32 → G rest → (IsString text ▸ G) (string_of text ++ rest)
  string_then text rest small g = record { front = string_of text; back = rest; first = is_string text small; second = g; parts = refl }

  pub truth_then : (truth : Bool) (rest : List ℕ) → G rest → (IsWrittenBoolean truth ▸ G) (boolean_of truth ++ rest)
  truth_then truth rest g = record { front = boolean_of truth; back = rest; first = refl; second = g; parts = refl }

pub uint32 : (n : ℕ) → n < 2 ^ 32 → IsUint32 n (uint32_of n)
uint32 n small = record { are_bytes = (omega arith, (omega arith, (omega arith, (omega arith, tt)))); count = refl; value = omega arith }

pub name_list : (names : List (List ℕ)) → list_all is_name names ≡ true → length (join_with_byte 44 names) < 2 ^ 32 → IsNameList names (names_of names)
name_list names good small = record { body = join_with_byte 44 names; text = record { all = good; joined = refl }; string = is_string (join_with_byte 44 names) small }

module _ {G : List ℕ → Type 0} where
  pub word_then : (n : ℕ) (rest : List ℕ) → n < 2 ^ 32 → G rest → (IsUint32 n ▸ G) (uint32_of n ++ rest)
  word_then n rest small g = record { front = uint32_of n; back = rest; first = uint32 n small; second = g; parts = refl }

  pub names_then : (names : List (List ℕ)) (rest : List ℕ) → list_all is_name names ≡ true → length (join_with_byte 44 names) < 2 ^ 32 → G rest → (IsNameList names ▸ G) (names_of names ++ rest)
  names_then names rest good small g = record { front = names_of names; back = rest; first = name_list names good small; second = g; parts = refl }

-- ---- bytes

pub string_bytes : (text : List ℕ) → AreBytes text → AreBytes (string_of text)
unfolding string_of
string_bytes text p = append_bytes (to_be_bytes w32 (length text)) text (word_bytes (length text)) p

pub string_size : (text : List ℕ) → length (string_of text) ≡ 4 + length text
unfolding string_of
string_size text = omega arith

zero_bytes : (n : ℕ) → AreBytes (replicate n 0)
zero_bytes zero = tt
zero_bytes (suc n) = (omega arith, zero_bytes n)

-- ---- packets

-- some padding that fills whole blocks of 8 bytes
pad_of : List ℕ → ℕ
pad_of payload = 16 - (length payload + 5) % 8

body_of : List ℕ → List ℕ
body_of payload = pad_of payload ∷ payload ++ replicate (pad_of payload) 0

packet_of : List ℕ → List ℕ
packet_of payload = to_be_bytes w32 (length (body_of payload)) ++ body_of payload

body_length : (payload : List ℕ) → length (body_of payload) ≡ 1 + (length payload + pad_of payload)
unfolding body_of
body_length payload = omega (arith, length-append payload (replicate (pad_of payload) 0), length-replicate {A = ℕ} (pad_of payload) 0)

packet_length : (payload : List ℕ) → length (packet_of payload) ≡ 5 + (length payload + pad_of payload)
unfolding packet_of
packet_length payload = omega (arith, body_length payload)

good_size : (tag n : ℕ) → n % 8 ≡ 0 → 16 ≤ n → n + tag ≤ largest_packet → is_size (with_length 8) tag n ≡ true
good_size tag n whole from to =
    let a : (n % 8 == 0) ≡ true = eq-eqb (n % 8) 0 whole in
    let b : nat_le 16 n ≡ true = le-leb 16 n from in
    let c : nat_le (n + tag) largest_packet ≡ true = le-leb (n + tag) largest_packet to in rw (a, b, c) refl

packet_size : (tag : ℕ) (payload : List ℕ) → tag ≤ 64 → 1 ≤ length payload → length payload ≤ longest_payload → is_size (with_length 8) tag (length (packet_of payload)) ≡ true
unfolding pad_of
packet_size tag payload t some small = let e = packet_length payload in good_size tag (length (packet_of payload)) (omega (arith, e)) (omega (arith, e)) (omega (arith, e))

packet_is : (tag : ℕ) (payload : List ℕ) → tag ≤ 64 → 1 ≤ length payload → length payload ≤ longest_payload → IsPacket (with_length 8) tag payload (packet_of payload)
unfolding packet_of body_of pad_of
packet_is tag payload t some small = record {
  body = body_of payload;
  is_body = record { padding = replicate (pad_of payload) 0; parts = let e = length-replicate {A = ℕ} (pad_of payload) 0 in rw e refl; some_payload = some; padding_from = omega (arith, length-replicate {A = ℕ} (pad_of payload) 0); padding_to = omega (arith, length-replicate {A = ℕ} (pad_of payload) 0) };
  string = record { front = to_be_bytes w32 (length (body_of payload)); size = uint32 (length (body_of payload)) (omega (arith, body_length payload)); parts = refl };
  size = packet_size tag payload t some small;
}

packet_bytes : (payload : List ℕ) → AreBytes payload → AreBytes (packet_of payload)
unfolding packet_of body_of pad_of
packet_bytes payload p =
    let body : AreBytes (body_of payload) = (omega arith, append_bytes payload (replicate (pad_of payload) 0) p (zero_bytes (pad_of payload))) in append_bytes (to_be_bytes w32 (length (body_of payload))) (body_of payload) (word_bytes _) body

-- under a key, or in clear
pub wire_of : Option (List ℕ) → ℕ → List ℕ → List ℕ
wire_of key n payload = sealed_under mac_only key n (packet_of payload)

-- what is sealed is a wire
sealed_is : {K : Type 0} (c : Crypto K) → IsSealing c → (key : K) (n : ℕ) (payload packet : List ℕ) → n < 2 ^ 32 → AreBytes packet → IsPacket (c.blocks key) (c.tag key) payload packet
    → IsWire c (Some key) n payload (c.sealed key n packet)
sealed_is c laws key n payload packet below are is =
    let opens = laws.opens key n packet below are is.size in
    let count = laws.sealed_length key n packet below are is.size in
    record { size = rw count (wire_size (c.blocks key) (c.tag key) (length packet) is.size); good = rw opens refl; packet = rw opens is }

wire_is : (key : Option (List ℕ)) (n : ℕ) (payload : List ℕ) → n < 2 ^ 32 → AreBytes payload → 1 ≤ length payload → length payload ≤ longest_payload → IsWire mac_only key n payload (wire_of key n payload)
unfolding wire_of
wire_is None n payload below are some small =
    record {
      size = let z : length (packet_of payload) + 0 ≡ length (packet_of payload) = omega arith in subst (λ (k : ℕ). is_wire_size (with_length 8) 0 k ≡ true) z (wire_size (with_length 8) 0 (length (packet_of payload)) (packet_size 0 payload (omega arith) some small));
      good = refl;
      packet = packet_is 0 payload (omega arith) some small;
    }
wire_is (Some key) n payload below are some small = sealed_is mac_only mac_only_laws key n payload (packet_of payload) below (packet_bytes payload are) (packet_is 32 payload (omega arith) some small)

wire_bytes : (key : Option (List ℕ)) (n : ℕ) (payload : List ℕ) → AreBytes payload → AreBytes (wire_of key n payload)
unfolding wire_of
wire_bytes None n payload are = packet_bytes payload are
wire_bytes (Some key) n payload are = append_bytes (packet_of payload) (tag_of key n (packet_of payload)) (packet_bytes payload are) (hash_bytes _)

pub packet_unit : (key : Option (List ℕ)) (n taken : ℕ) (payload : List ℕ) → HasNumber n taken → AreBytes payload → 1 ≤ length payload → length payload ≤ longest_payload → PacketUnit mac_only key n taken (wire_of key n payload) (Opens payload)
packet_unit key n taken payload below are some small = opens payload below (wire_bytes key n payload are) (wire_is key n payload below.1 are some small)
