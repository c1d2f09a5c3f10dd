-- The result of one call of a reader of lines.
use Rattle.std.specs.Prelude.{◌≡◌, ◌<◌, ◌≤◌, ◌+◌, ℕ, Bool, false, List, [], ◌∷◌, ◌++◌, length, take, None, Some, IfSome}
use Rattle.ssh_model.specs.Protocol.Bounds.{most_other_lines}
use Rattle.ssh_model.specs.Protocol.Wire.Outcome.{Outcome.OtherLine, Outcome.VersionLine, Outcome.RefusedLine}
use Rattle.ssh_model.specs.Protocol.Wire.Line.{HasVersion, IsText, LineUnit}
use Rattle.ssh_model.specs.Laws.Units.{IsPartialLine}
use Rattle.ssh_packet.specs.Lines.{with_cr, Ended, Ended.WithVersion, Ended.WithRefusal, LineReading, cleared}
use Rattle.ssh_packet.specs.LineKinds.{HasMinusAt}
use Rattle.ssh_packet.specs.Refusals.{line_refusal}
use Rattle.ssh_packet.specs.declared.line_reader.LineStep.{LineStep}
use Rattle.ssh_packet.specs.declared.line_reader.LineStep.TheVariants.{Other, Version, More, Refused}
use Rattle.ssh_packet.specs.declared.version.LineKind.{LineKind}
use Rattle.ssh_packet.specs.declared.version.LineKind.TheVariants as kind
use Rattle.ssh_packet.specs.declared.line_reader.ByteKind.{ByteKind}
use Rattle.ssh_packet.specs.declared.line_reader.ByteKind.TheVariants as byte
use Rattle.ssh_packet.specs.declared.line_reader.Found.{Found}
use Rattle.ssh_packet.specs.declared.line_reader.Found.TheVariants as found

-- The unit with this text ends as a line of this kind.
abbrev pub EndsSo : (from_server : Bool) (others : ℕ) (text unit : List ℕ) → LineKind → Type 0
EndsSo from_server others text unit kind.Other = LineUnit from_server others unit (OtherLine text) × (others < most_other_lines)
EndsSo from_server others text unit (kind.Version minus) = LineUnit from_server others unit (VersionLine text) × HasMinusAt minus text × (length text ≤ 253)
EndsSo from_server others text unit (kind.Refused refusal) = LineUnit from_server others unit (RefusedLine (line_refusal refusal))

-- The kind of a byte after this text of a line, and after a CR if `after_cr` holds.
abbrev pub IsByteKind : (from_server : Bool) (others : ℕ) (text : List ℕ) (after_cr : Bool) (code : ℕ) → ByteKind → Type 0
IsByteKind from_server others text after_cr code byte.Text = (after_cr ≡ false) × IsText (text ++ code ∷ []) × (length text < 254)
IsByteKind from_server others text after_cr code byte.Return = (after_cr ≡ false) × (code ≡ 13) × (length text < 254)
IsByteKind from_server others text after_cr code (byte.End end) = EndsSo from_server others text (with_cr after_cr text ++ code ∷ []) end

-- The result with which a reader ended, from the unit of the stream with which it ended. The two parts of a version line are
-- those before its second minus and after it.
abbrev pub IsEnd : (from_server : Bool) (others : ℕ) (unit : List ℕ) → Ended → Type 0
IsEnd from_server others unit (WithVersion text protoversion software) = LineUnit from_server others unit (VersionLine text) × HasVersion protoversion software text
IsEnd from_server others unit (WithRefusal refusal) = LineUnit from_server others unit (RefusedLine (line_refusal refusal))

-- The bytes were a unit, and the reader ended with it.
abbrev pub EndsWith : LineReading → List ℕ → LineReading → Ended → Type 0
EndsWith old bytes new ended = IsEnd old.from_server old.others bytes ended × (new ≡ record old { buffered = []; ended = Some ended })

-- The bytes were another line. The reader shows its text, and the next line may come.
abbrev pub GoesOn : LineReading → List ℕ → LineReading → Type 0
GoesOn old bytes new = LineUnit old.from_server old.others bytes (OtherLine new.text) × (new ≡ record old { others = old.others + 1; text = new.text; buffered = [] })

-- The result of a reader that held the beginning of these bytes, after it used them all.
abbrev pub Finds : LineReading → List ℕ → Found → LineReading → Type 0
Finds old bytes found.More new = IsPartialLine bytes × (new ≡ record old { buffered = bytes })
Finds old bytes found.Other new = GoesOn old bytes new
Finds old bytes found.Ended new = (ended : Ended) × EndsWith old bytes new ended

-- The step shows these parts.
abbrev pub ShowsVersion : (protoversion software : List ℕ) → LineStep → Type 0
ShowsVersion protoversion software (Version first second) = (first.now ≡ protoversion) × (second.now ≡ software)
ShowsVersion protoversion software Other = ⊥
ShowsVersion protoversion software More = ⊥
ShowsVersion protoversion software (Refused refusal) = ⊥

-- The step shows the result with which the reader ended.
abbrev pub Shows : Ended → LineStep → Type 0
Shows (WithVersion text protoversion software) step = ShowsVersion protoversion software step
Shows (WithRefusal refusal) step = step ≡ Refused refusal

-- the same result as the step that the call answers
abbrev pub LineFinds : LineReading → List ℕ → LineStep → LineReading → Type 0
LineFinds old bytes More new = IsPartialLine bytes × (new ≡ record old { buffered = bytes })
LineFinds old bytes Other new = GoesOn old bytes new
LineFinds old bytes (Version first second) new = (text : List ℕ) × EndsWith old bytes new (WithVersion text (first.now) (second.now))
LineFinds old bytes (Refused refusal) new = EndsWith old bytes new (WithRefusal refusal)

-- The effect of one call. A reader that had ended uses nothing, and shows the same again. Another reader goes to the end of one
-- line and no further.
pub record Takes (old : LineReading) (bytes : List ℕ) (used : ℕ) (step : LineStep) (new : LineReading) : Type 0 where
  pub going : old.ended ≡ None → LineFinds (cleared old) (old.buffered ++ take used bytes) step new
  pub again : IfSome old.ended (λ ended. (used ≡ 0) × Shows ended step × (new ≡ old))
