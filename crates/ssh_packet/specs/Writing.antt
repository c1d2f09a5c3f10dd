-- Writing packets.
use Rattle.std.specs.Prelude.{◌≡◌, ℕ, ◌+◌, ◌-◌, ◌%◌, nat_lt, if◌then◌else◌, List, ◌∷◌, ◌++◌, length, Option}
use Rattle.ssh_model.specs.Protocol.Wire.DataTypes.{IsUint32}
use Rattle.ssh_model.specs.Protocol.Wire.Packet.{Blocks, counted}
use Rattle.ssh_model.specs.Laws.Reading.{Writes}
use Rattle.ssh_model.specs.Protocol.Wire.Sealing.{Crypto, sealed_under}

-- how many bytes fill up the last block after this many that count, with at least four
abbrev pub gap_following : ℕ → ℕ → ℕ
gap_following size front =
    let gap = size - front % size in
    if nat_lt gap 4 then gap + size else gap

-- how many bytes of padding follow a payload of this length
abbrev pub padding_for : Blocks → ℕ → ℕ
padding_for blocks count = gap_following blocks.size (counted blocks (5 + count))

-- how many bytes the least packet of such a payload has, with its tag
abbrev pub packet_size : Blocks → ℕ → ℕ → ℕ
packet_size blocks tag count = 5 + count + padding_for blocks count + tag

-- The bytes after a payload: this many bytes of given padding, and room for a tag of this length.
pub record IsTail (count tag : ℕ) (IsGiven : List ℕ → Type 0) (bytes : List ℕ) : Type 0 where
  pub padding : List ℕ
  pub room : List ℕ
  pub filled : length padding ≡ count
  pub given : IsGiven padding
  pub left : length room ≡ tag
  pub parts : bytes ≡ padding ++ room

-- The bytes are the four parts of a packet, with this many bytes of given padding, and room for a tag of this length.
pub record HasParts (count tag : ℕ) (IsGiven : List ℕ → Type 0) (payload bytes : List ℕ) : Type 0 where
  pub length_field : List ℕ
  pub padding : List ℕ
  pub room : List ℕ
  pub filled : length padding ≡ count
  pub given : IsGiven padding
  pub left : length room ≡ tag
  pub counts : IsUint32 (1 + length payload + count) length_field
  pub parts : bytes ≡ (length_field ++ (count ∷ payload ++ padding)) ++ room

-- The bytes are the packet of a payload with this padding, sealed.
pub record IsPadded {K : Type 0} (c : Crypto K) (key : Option K) (number : ℕ) (payload padding bytes : List ℕ) : Type 0 where
  pub length_field : List ℕ
  pub counts : IsUint32 (1 + length payload + length padding) length_field
  pub sealed : bytes ≡ sealed_under c key number (length_field ++ (length padding ∷ payload ++ padding))

-- Such bytes were put at the end, and the padding was given.
pub record Pads {K : Type 0} (c : Crypto K) (key : Option K) (number : ℕ) (payload : List ℕ) (IsGiven : List ℕ → Type 0) (old new : List ℕ) : Type 0 where
  pub padding : List ℕ
  pub given : IsGiven padding
  pub writes : Writes (IsPadded c key number payload padding) old new
