-- The outcomes of one unit of the byte stream that comes to an end (own).
use Rattle.std.specs.Prelude.{ℕ, List}
use Rattle.ssh_model.specs.declared.refusal.Refusal.{Refusal}

-- The outcome of a unit. Lines are without CR LF.
pub data Outcome : Type 0 where
  OtherLine : List ℕ → Outcome
  VersionLine : List ℕ → Outcome
  RefusedLine : Refusal → Outcome
  Opens : List ℕ → Outcome
  RefusedPacket : Refusal → Outcome
