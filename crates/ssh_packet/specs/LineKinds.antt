-- The kinds of the text of a complete line, for a reader of lines.
use Rattle.std.specs.Prelude.{◌≤◌, ◌<◌, ◌+◌, ℕ, Bool, List, length, take, drop, Option}
use Rattle.ssh_model.specs.Protocol.Bounds.{most_other_lines}
use Rattle.ssh_model.specs.Protocol.Wire.Outcome.{Outcome.OtherLine, Outcome.VersionLine, Outcome.RefusedLine}
use Rattle.ssh_model.specs.Protocol.Wire.Line.{HasVersion, IsSoftware, LineIs}
use Rattle.ssh_packet.specs.Refusals.{line_refusal}
use Rattle.ssh_packet.specs.declared.version.LineKind.{LineKind}
use Rattle.ssh_packet.specs.declared.version.LineKind.TheVariants.{Other, Version, Refused}

-- The second minus of the text is at this place.
pub record HasMinusAt (minus : ℕ) (text : List ℕ) : Type 0 where
  pub from : 4 ≤ minus
  pub to : minus < length text
  pub has : HasVersion (drop 4 (take minus text)) (drop (minus + 1) text) text

abbrev pub IsKind : (from_server : Bool) (others : ℕ) (text : List ℕ) → LineKind → Type 0
IsKind from_server others text Other = LineIs from_server others text (OtherLine text) × (others < most_other_lines)
IsKind from_server others text (Version minus) = LineIs from_server others text (VersionLine text) × HasMinusAt minus text
IsKind from_server others text (Refused refusal) = LineIs from_server others text (RefusedLine (line_refusal refusal))

-- The bytes are the software's version, and comments if there are any.
abbrev pub HasSoftware : List ℕ → Type 0
HasSoftware bytes = (software : List ℕ) × (comments : Option (List ℕ)) × IsSoftware software comments bytes
