-- The binary packet without its tag (RFC 4253 section 6, if nothing else is said).
use Rattle.std.specs.Prelude.{◌≡◌, ℕ, ◌+◌, ◌-◌, ◌%◌, ◌≤◌, Bool, true, false, nat_le, ◌==◌, ◌&&◌, ◌⊎◌, if◌then◌else◌}
use Rattle.std.specs.Prelude.{IsTrue, max, List, ◌∷◌, ◌++◌, length}
use Rattle.ssh_model.specs.Protocol.Bounds.{largest_packet}
use Rattle.ssh_model.specs.Protocol.Wire.DataTypes.{IsString}

-- the block sizes of the ciphers; 8 if there is no cipher (own)
abbrev pub IsBlock : ℕ → Type 0
IsBlock size = (size ≡ 8) ⊎ ((size ≡ 16) ⊎ ((size ≡ 32) ⊎ (size ≡ 64)))

-- the blocks that packets fill: the bytes of one block, and whether the four bytes of packet_length count (RFC 4253 section 6,
-- RFC 5647 section 7.2)
pub record Blocks : Type 0 where
  pub size : ℕ
  pub counts_length : Bool

-- blocks that include packet_length (RFC 4253 section 6)
abbrev pub with_length : ℕ → Blocks
with_length size = record { size = size; counts_length = true }

-- blocks that begin after packet_length, which stands in clear (RFC 5647 section 7.2, OpenSSH's PROTOCOL section 1.5)
abbrev pub without_length : ℕ → Blocks
without_length size = record { size = size; counts_length = false }

-- the part of a packet that packet_length counts: padding_length, the payload and the padding
pub record IsBody (payload body : List ℕ) : Type 0 where
  pub padding : List ℕ
  pub parts : body ≡ length padding ∷ payload ++ padding
  pub some_payload : 1 ≤ length payload
  pub padding_from : 4 ≤ length padding
  pub padding_to : length padding ≤ 255

-- how many bytes of a packet of this size have to fill blocks: all, or those after packet_length (RFC 4253 section 6, RFC 5647
-- section 7.2)
abbrev pub counted : Blocks → ℕ → ℕ
counted blocks size = if blocks.counts_length then size else size - 4

-- the least size of a packet: the larger of 16 bytes and one block, or one block after packet_length (RFC 4253 section 6, RFC
-- 5647 section 7.2)
abbrev pub least_size : Blocks → ℕ
least_size blocks = if blocks.counts_length then max 16 blocks.size else 4 + max 8 blocks.size

-- A packet may have this size without its tag. The counted bytes fill whole blocks of at least 8 bytes. The size is no
-- smaller than the least size. With the tag it is at most 35,000 bytes (RFC 4253 sections 6 and 6.1).
abbrev pub is_size : Blocks → ℕ → ℕ → Bool
is_size blocks tag size =
    (counted blocks size % max blocks.size 8 == 0) && (nat_le (least_size blocks) size && nat_le (size + tag) largest_packet)

-- The bytes are a packet of the payload: packet_length, and the body that it counts.
pub record IsPacket (blocks : Blocks) (tag : ℕ) (payload bytes : List ℕ) : Type 0 where
  pub body : List ℕ
  pub is_body : IsBody payload body
  pub string : IsString body bytes
  pub size : IsTrue (is_size blocks tag (length bytes))

-- The bytes are a packet of the payload, and no other packet of the payload is shorter (own).
pub record IsLeastPacket (blocks : Blocks) (tag : ℕ) (payload bytes : List ℕ) : Type 0 where
  pub packet : IsPacket blocks tag payload bytes
  pub least : (other : List ℕ) → IsPacket blocks tag payload other → length bytes ≤ length other
