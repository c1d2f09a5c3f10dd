-- The step of an end on the bytes of one line or one packet, as a turn of a session.
use Rattle.std.specs.Prelude.{◌≡◌, ℕ, false, None, List, []}
use Rattle.ssh_model.specs.Protocol.Authentication.Requests.{Judge}
use Rattle.ssh_model.specs.declared.side.Side.{Side}
use Rattle.ssh_model.specs.State.End.Reading.{end_reading}
use Rattle.ssh_model.specs.State.End.Summary.{EndSumsUp}
use Rattle.ssh_model.specs.Protocol.Sessions.Items.{Item}
use Rattle.ssh_model.specs.Protocol.Sessions.Parties.{AreLawful, Parties}
use Rattle.ssh_model.specs.Protocol.Sessions.Phases.{Phase.Normal}
use Rattle.ssh_model.specs.Protocol.Sessions.Turns.{EndRun}
use Rattle.ssh_model.specs.Protocol.Wire.Delivery.{Waits}
use Rattle.ssh_transport_machine.specs.Puts.{Outs}
use Rattle.ssh_transport_machine.specs.State.{State, buffered_of}
use Rattle.ssh_transport_machine.specs.Answering.{IsQuiet}
use Rattle.ssh_end_machine.specs.Layers.{Layers}
use Rattle.ssh_end_machine.specs.Reading.{IsReading}
use Rattle.ssh_end_machine.specs.Sessions.{AreOf, IsJudgedBy, end_of}
use Rattle.ssh_end_machine.specs.Steps.{UnitTurned, shown_by}
use Rattle.ssh_end_machine.specs.declared.step.Step.{Step}
use Rattle.ssh_end_machine.specs.declared.step.Step.TheVariants as step

-- What an end keeps sums up the history of a run of one end of lawful parties, whose layers and verdicts it has. Outside an
-- exchange there is a session id, and the buffered bytes are a partial line or packet.
pub record IsRunning {K : Type 0} (p : Parties K) (side : Side) (judge : Judge) (history : List Item) (old : State K)
    (layers : Layers) : Type 0 where
  pub lawful : AreLawful p
  pub layers_are : AreOf p layers
  pub judged : IsJudgedBy p judge layers.authentication
  pub sums : EndSumsUp p side history (end_of old.kept layers)
  pub run : EndRun p side history
  pub identified : old.kept.phase ≡ Normal → old.kept.session ≡ None → ⊥
  pub reading : old.kept.dead ≡ false → IsReading p.crypto old

-- The bytes are no whole line or packet yet: they are buffered, nothing is put out, and the history is as it was.
pub record IsWaiting {K : Type 0} (p : Parties K) (side : Side) (history : List Item) (bytes : List ℕ) (new : State K)
    (later : Layers) (o : Outs) : Type 0 where
  pub sums : EndSumsUp p side history (end_of new.kept later)
  pub waits : Waits (end_reading p side) history bytes
  pub quiet : IsQuiet o
  pub alive : new.kept.dead ≡ false
  pub buffered : buffered_of new ≡ bytes
  pub reading : IsReading p.crypto new
  pub layers_are : AreOf p later

-- The bytes are one line or one packet. The step, with the payload that is shown, is a turn of a session.
-- No byte is buffered.
pub record IsUnitTurned {K : Type 0} (p : Parties K) (side : Side) (history : List Item) (bytes : List ℕ) (done : Step)
    (new : State K) (later : Layers) (o : Outs) : Type 0 where
  pub turned : UnitTurned p side history bytes (shown_by done new) done (end_of new.kept later) o
  pub buffered : new.kept.dead ≡ false → buffered_of new ≡ []
  pub reading : new.kept.dead ≡ false → IsReading p.crypto new
  pub layers_are : AreOf p later

-- one or the other, by the step
abbrev pub EndTurnsOn : {K : Type 0} → Parties K → Side → (history : List Item) → (bytes : List ℕ) → Step → State K →
    Layers → Outs → Type 0
EndTurnsOn p side history bytes step.More new later o = IsWaiting p side history bytes new later o
EndTurnsOn p side history bytes done new later o = IsUnitTurned p side history bytes done new later o
