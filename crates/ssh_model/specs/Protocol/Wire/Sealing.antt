-- Sealing and opening packets, by a supplied sealing (RFC 4253 sections 6 and 6.4, if nothing else is said).
use Rattle.std.specs.Prelude.{◌≡◌, ◌≤◌, ◌<◌, ◌+◌, ◌-◌, ◌^◌, ℕ, Bool, true, false, ◌&&◌, nat_le, IsTrue, List, ◌++◌}
use Rattle.std.specs.Prelude.{length, take, Option, Some, None, IfSome}
use Rattle.ssh_model.specs.Protocol.Bounds.{longest_key_material, longest_tag}
use Rattle.ssh_model.specs.Protocol.Wire.DataTypes.{AreBytes, IsUint32}
use Rattle.ssh_model.specs.Protocol.Wire.Packet.{Blocks, IsBlock, IsPacket, IsLeastPacket, is_size, with_length}

-- how many bytes of key material a sealing takes (RFC 4253 section 7.2)
pub record Lengths : Type 0 where
  pub iv : ℕ
  pub cipher : ℕ
  pub mac : ℕ

-- the result of opening: whether the tag is good, and the packet without its tag (own)
pub record Opened : Type 0 where
  pub good : Bool
  pub bytes : List ℕ

-- The functions of a sealing. `sealed` turns a packet without its tag into the bytes on the wire, and `opened` turns them
-- back (own).
pub record Crypto (K : Type 0) : Type 0 where
  pub lengths : List ℕ → List ℕ → Option Lengths
  pub made : List ℕ → List ℕ → List ℕ → List ℕ → List ℕ → K
  pub blocks : K → Blocks
  pub tag : K → ℕ
  pub sealed : K → ℕ → List ℕ → List ℕ
  pub opened : K → ℕ → List ℕ → Opened

-- ---- with a key, or in the clear before there is one

-- the blocks that packets fill under a key, or in the clear
abbrev pub blocks_under : {K : Type 0} → Crypto K → Option K → Blocks
blocks_under c None = with_length 8
blocks_under c (Some key) = c.blocks key

-- the bytes of a tag under a key; in the clear there is no tag
abbrev pub tag_under : {K : Type 0} → Crypto K → Option K → ℕ
tag_under c None = 0
tag_under c (Some key) = c.tag key

-- the bytes on the wire for a packet
abbrev pub sealed_under : {K : Type 0} → Crypto K → Option K → ℕ → List ℕ → List ℕ
sealed_under c None number packet = packet
sealed_under c (Some key) number packet = c.sealed key number packet

-- the result of opening bytes from the wire
abbrev pub opened_under : {K : Type 0} → Crypto K → Option K → ℕ → List ℕ → Opened
opened_under c None number bytes = record { good = true; bytes = bytes }
opened_under c (Some key) number bytes = c.opened key number bytes

-- ---- the bytes on the wire

-- A packet with its tag may have this size.
abbrev pub is_wire_size : Blocks → ℕ → ℕ → Bool
is_wire_size blocks tag size = nat_le tag size && is_size blocks tag (size - tag)

-- The bytes open under the key and the number to a packet of the payload, with a good tag.
pub record IsWire {K : Type 0} (c : Crypto K) (key : Option K) (number : ℕ) (payload bytes : List ℕ) : Type 0 where
  pub size : IsTrue (is_wire_size (blocks_under c key) (tag_under c key) (length bytes))
  pub good : (opened_under c key number bytes).good ≡ true
  pub packet : IsPacket (blocks_under c key) (tag_under c key) payload (opened_under c key number bytes).bytes

-- The bytes are a packet of the payload, sealed under the key and the number. It has the least padding, of any bytes.
pub record IsSealed {K : Type 0} (c : Crypto K) (key : Option K) (number : ℕ) (payload bytes : List ℕ) : Type 0 where
  pub packet : List ℕ
  pub are_bytes : AreBytes packet
  pub least : IsLeastPacket (blocks_under c key) (tag_under c key) payload packet
  pub sealed : bytes ≡ sealed_under c key number packet

-- ---- the laws of a sealing

-- Opening restores a packet that was sealed under the same key and number. Both keep the first four bytes, the length.
-- The result of sealing is a list of bytes again (own).
pub record IsSealing {K : Type 0} (c : Crypto K) : Type 0 where
  pub lengths : (enc mac : List ℕ) → IfSome (c.lengths enc mac)
      (λ n. (n.iv ≤ longest_key_material) × (n.cipher ≤ longest_key_material) × (n.mac ≤ longest_key_material))
  pub blocks : (key : K) → IsBlock (c.blocks key).size
  pub tag : (key : K) → c.tag key ≤ longest_tag
  pub opens : (key : K) (number : ℕ) (packet : List ℕ) → number < 2 ^ 32 → AreBytes packet →
      IsTrue (is_size (c.blocks key) (c.tag key) (length packet)) →
      c.opened key number (c.sealed key number packet) ≡ record { good = true; bytes = packet }
  pub sealed_front : (key : K) (number : ℕ) (packet : List ℕ) → number < 2 ^ 32 → AreBytes packet →
      IsTrue (is_size (c.blocks key) (c.tag key) (length packet)) →
      take 4 (c.sealed key number packet) ≡ take 4 packet
  pub sealed_length : (key : K) (number : ℕ) (packet : List ℕ) → number < 2 ^ 32 → AreBytes packet →
      IsTrue (is_size (c.blocks key) (c.tag key) (length packet)) →
      length (c.sealed key number packet) ≡ length packet + c.tag key
  pub sealed_bytes : (key : K) (number : ℕ) (packet : List ℕ) → number < 2 ^ 32 → AreBytes packet →
      IsTrue (is_size (c.blocks key) (c.tag key) (length packet)) →
      AreBytes (c.sealed key number packet)
  pub opened_front : (key : K) (number : ℕ) (bytes : List ℕ) → number < 2 ^ 32 → AreBytes bytes →
      IsTrue (is_wire_size (c.blocks key) (c.tag key) (length bytes)) →
      take 4 (c.opened key number bytes).bytes ≡ take 4 bytes
  pub opened_length : (key : K) (number : ℕ) (bytes : List ℕ) → number < 2 ^ 32 → AreBytes bytes →
      IsTrue (is_wire_size (c.blocks key) (c.tag key) (length bytes)) →
      length (c.opened key number bytes).bytes + c.tag key ≡ length bytes

-- ---- what can be told before a whole packet is there

-- The bytes are a length field that no packet has. It is refused as soon as its four bytes are there.
pub record IsBadLength (blocks : Blocks) (tag : ℕ) (bytes : List ℕ) : Type 0 where
  pub count : ℕ
  pub field : IsUint32 count bytes
  pub size : is_size blocks tag (4 + count) ≡ false

-- The bytes begin with a length field that a packet may have, and `size_on_wire` counts the packet's bytes with its
-- tag.
pub record HasSize (blocks : Blocks) (tag size_on_wire : ℕ) (bytes : List ℕ) : Type 0 where
  pub field : List ℕ
  pub rest : List ℕ
  pub count : ℕ
  pub parts : bytes ≡ field ++ rest
  pub counts : IsUint32 count field
  pub size : IsTrue (is_size blocks tag (4 + count))
  pub whole : size_on_wire ≡ 4 + count + tag

-- The bytes are a whole packet with its tag, by its length field.
pub record IsWhole (blocks : Blocks) (tag : ℕ) (bytes : List ℕ) : Type 0 where
  pub has : HasSize blocks tag (length bytes) bytes

-- The bytes are a whole packet, and its tag is not good under this key and number.
pub record IsBadTag {K : Type 0} (c : Crypto K) (key : Option K) (number : ℕ) (bytes : List ℕ) : Type 0 where
  pub whole : IsWhole (blocks_under c key) (tag_under c key) bytes
  pub bad : (opened_under c key number bytes).good ≡ false

-- The tag is good, but the opened bytes are not a packet of any payload: the padding is too short, or leaves no payload.
pub record IsBadPadding {K : Type 0} (c : Crypto K) (key : Option K) (number : ℕ) (bytes : List ℕ) : Type 0 where
  pub whole : IsWhole (blocks_under c key) (tag_under c key) bytes
  pub good : (opened_under c key number bytes).good ≡ true
  pub none : (payload : List ℕ) →
      IsPacket (blocks_under c key) (tag_under c key) payload (opened_under c key number bytes).bytes → ⊥
