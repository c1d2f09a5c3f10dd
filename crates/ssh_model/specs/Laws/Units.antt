-- Bytes that are no unit yet, and the stages at which an end can be.
use Rattle.std.specs.Prelude.{List, [], ℕ, length, ◌<◌, ◌≡◌, ◌++◌, ◌∷◌, Option, ◌≤◌, ◌^◌}
use Rattle.ssh_model.specs.Protocol.Wire.Line.{IsLine, IsText, IsVersionText}
use Rattle.ssh_model.specs.Protocol.Wire.Packet.{Blocks}
use Rattle.ssh_model.specs.Protocol.Wire.Sealing.{HasSize, Crypto, blocks_under, tag_under}
use Rattle.ssh_model.specs.Protocol.Bounds.{numbers_of_epoch}
use Rattle.ssh_model.specs.Protocol.Wire.Unit.{Stage, Stage.Lines, Stage.Packets}
use Rattle.ssh_model.specs.Protocol.Wire.Outcome.{Outcome}

-- ---- lines

-- At most 254 bytes: a text, or a text and CR. They may be a text of 254 bytes, although that can't become a line.
pub data IsPartialLine (bytes : List ℕ) : Type 0 where
  in_text : IsText bytes → length bytes < 255 → IsPartialLine bytes
  at_line_end : (text : List ℕ) → IsText text → bytes ≡ text ++ 13 ∷ [] → length bytes < 255 → IsPartialLine bytes

-- The bytes are a version line of these parts, CR LF included.
pub record IsVersionLine (protoversion software : List ℕ) (comments : Option (List ℕ)) (bytes : List ℕ) : Type 0 where
  pub text : List ℕ
  pub line : IsLine text bytes
  pub version : IsVersionText protoversion software comments text

-- ---- packets

-- The bytes are a part of a packet: fewer than the four of a length field, or fewer than the field says, which a packet may have.
pub data IsPartial (blocks : Blocks) (tag : ℕ) (bytes : List ℕ) : Type 0 where
  no_length : length bytes < 4 → IsPartial blocks tag bytes
  has_length : (size_on_wire : ℕ) → HasSize blocks tag size_on_wire bytes → length bytes < size_on_wire →
      IsPartial blocks tag bytes

-- The bytes are no unit yet: they are a part of a packet. If the numbers are spent, they are fewer than four.
pub record IsPartialPacket {K : Type 0} (c : Crypto K) (key : Option K) (count : ℕ) (bytes : List ℕ) : Type 0 where
  pub buffered : IsPartial (blocks_under c key) (tag_under c key) bytes
  pub unspent : 4 ≤ length bytes → count < numbers_of_epoch

-- An end never took more packets under one key than there are numbers. While a number is left, the next one is a uint32.
abbrev pub IsPlace : (number count : ℕ) → Type 0
IsPlace number count = (count ≤ numbers_of_epoch) × (count < numbers_of_epoch → number < 2 ^ 32)

-- ---- units

-- An end can be at this stage.
abbrev pub IsStage : {K : Type 0} → Stage K → Type 0
IsStage (Lines from_server others) = Unit {0}
IsStage (Packets key number count) = IsPlace number count

-- The bytes are a prefix of the next unit.
abbrev pub IsPartialUnit : {K : Type 0} → Crypto K → Stage K → List ℕ → Type 0
IsPartialUnit c (Lines from_server others) bytes = IsPartialLine bytes
IsPartialUnit c (Packets key number count) bytes = IsPartialPacket c key count bytes

-- The bytes begin with a unit. `IsUnit` says which bytes are a unit, and with which outcome.
pub record HasUnit (IsUnit : List ℕ → Outcome → Type 0) (bytes : List ℕ) : Type 0 where
  pub unit : List ℕ
  pub more : List ℕ
  pub outcome : Outcome
  pub parts : unit ++ more ≡ bytes
  pub is_unit : IsUnit unit outcome
