-- What an end makes of its peer's lines.
use Rattle.std.specs.Prelude.{◌≡◌, ℕ, ◌+◌, true, List, []}
use Rattle.ssh_model.specs.Protocol.Wire.Line.{LineUnit}
use Rattle.ssh_model.specs.Laws.Units.{IsPartialLine}
use Rattle.ssh_model.specs.Protocol.Wire.Outcome.{Outcome.OtherLine, Outcome.VersionLine, Outcome.RefusedLine}
use Rattle.ssh_model.specs.State.TransportLayer.Kept.{after_line, after_other_line}
use Rattle.ssh_packet.specs.Refusals.{line_refusal}
use Rattle.ssh_packet.specs.declared.refusal.LineRefusal.{LineRefusal}
use Rattle.ssh_transport_machine.specs.State.{State}
use Rattle.ssh_transport_machine.specs.declared.machine.LineTurn.{LineTurn}
use Rattle.ssh_transport_machine.specs.declared.machine.LineTurn.TheVariants.{More, Other, Version, Refused}

-- no whole line yet
pub record LineBuffered {K : Type 0} (old : State K) (bytes : List ℕ) (new : State K) : Type 0 where
  pub buffered : IsPartialLine bytes
  pub after : new ≡ record old { reading = record old.reading { text = []; buffered = bytes } }

-- another line, whose text is shown, and the next one may come
pub record OtherTaken {K : Type 0} (old : State K) (bytes : List ℕ) (new : State K) : Type 0 where
  pub unit : LineUnit old.reading.from_server old.reading.others bytes (OtherLine new.reading.text)
  pub after : new ≡ record old { reading = record old.reading { others = old.reading.others + 1; text = new.reading.text; buffered = [] }; kept = after_other_line old.kept }

-- the version line, which is kept
pub record VersionTaken {K : Type 0} (old : State K) (bytes : List ℕ) (new : State K) : Type 0 where
  pub text : List ℕ
  pub unit : LineUnit old.reading.from_server old.reading.others bytes (VersionLine text)
  pub after : new ≡ record old { reading = new.reading; kept = after_line text old.kept }

-- no line that may come
pub record LineRefused {K : Type 0} (old : State K) (bytes : List ℕ) (refusal : LineRefusal) (new : State K) : Type 0 where
  pub unit : LineUnit old.reading.from_server old.reading.others bytes (RefusedLine (line_refusal refusal))
  pub after : new ≡ record old { reading = new.reading; kept = record old.kept { dead = true } }

-- what a call made of the buffered bytes followed by those that it used
abbrev pub LineTaken : {K : Type 0} → State K → List ℕ → LineTurn → State K → Type 0
LineTaken old bytes More new = LineBuffered old bytes new
LineTaken old bytes Other new = OtherTaken old bytes new
LineTaken old bytes Version new = VersionTaken old bytes new
LineTaken old bytes (Refused refusal) new = LineRefused old bytes refusal new
