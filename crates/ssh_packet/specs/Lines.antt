-- The state of a reader of lines.
use Rattle.std.specs.Prelude.{◌≤◌, ◌<◌, ◌+◌, ℕ, Bool, true, false, List, [], ◌∷◌, ◌++◌, length, take, drop, Option, None, Some}
use Rattle.ssh_model.specs.Protocol.Wire.Line.{IsText}
use Rattle.ssh_packet.specs.declared.refusal.LineRefusal.{LineRefusal}
use Rattle.ssh_packet.specs.declared.line_reader.Verdict.{Verdict}
use Rattle.ssh_packet.specs.declared.line_reader.Verdict.TheVariants as verdict

-- the result with which a reader of lines ended: the text of a version line, with its two parts, or a refusal
pub data Ended : Type 0 where
  WithVersion : (text protoversion software : List ℕ) → Ended
  WithRefusal : LineRefusal → Ended

-- the side whose lines are read, the other lines taken, the text of the one that the last call took, the bytes of the partial
-- line, and the result with which the reader ended
pub record LineReading : Type 0 where
  pub from_server : Bool
  pub others : ℕ
  pub text : List ℕ
  pub buffered : List ℕ
  pub ended : Option Ended

-- the text of the version line that was taken
abbrev pub version_in : Option Ended → Option (List ℕ)
version_in None = None
version_in (Some (WithVersion text protoversion software)) = Some text
version_in (Some (WithRefusal refusal)) = None

-- the reader before any byte: no line was taken
abbrev pub no_lines : Bool → LineReading
no_lines from_server = record { from_server = from_server; others = 0; text = []; buffered = []; ended = None }

-- the reader without a line that the last call took
abbrev pub cleared : LineReading → LineReading
cleared reading = record reading { text = [] }

-- ---- the fields of a reader

-- the text that was read, and CR if that was read
abbrev pub with_cr : Bool → List ℕ → List ℕ
with_cr false text = text
with_cr true text = text ++ 13 ∷ []

abbrev pub buffered_by : Option Verdict → Bool → List ℕ → List ℕ
buffered_by None after_cr text = with_cr after_cr text
buffered_by (Some end) after_cr text = []

abbrev pub ended_by : Option Verdict → List ℕ → Option Ended
ended_by None text = None
ended_by (Some (verdict.Version minus)) text = Some (WithVersion text (drop 4 (take minus text)) (drop (minus + 1) text))
ended_by (Some (verdict.Refused refusal)) text = Some (WithRefusal refusal)

-- A partial line is a text that leaves room. The second minus of a version line stands in its text, which leaves room for CR LF.
abbrev pub IsKept : Option Verdict → Bool → ℕ → List ℕ → Type 0
IsKept None after_cr filled line = IsText (take filled line) × (length (with_cr after_cr (take filled line)) < 255)
IsKept (Some (verdict.Version minus)) after_cr filled line = (4 ≤ minus) × (minus < filled) × (filled ≤ 253)
IsKept (Some (verdict.Refused refusal)) after_cr filled line = Unit {0}
