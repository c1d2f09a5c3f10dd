-- Where the calls of an end that a program holds take it. A place of such an end is a property of a history.
use Rattle.std.specs.Prelude.{◌≡◌, ◌++◌, ℕ, Bool, false, List, [], Result, Ok, Err, take}
use Rattle.ssh_model.specs.Protocol.Sessions.Items as session
use Rattle.ssh_model.specs.Protocol.Sessions.Items.{Item}
use Rattle.ssh_model.specs.Protocol.Sessions.Parties.{Parties}
use Rattle.ssh_model.specs.Protocol.Sessions.Turns.{FeedsTurn}
use Rattle.ssh_model.specs.Protocol.Wire.Delivery.{Waits}
use Rattle.ssh_model.specs.State.End.Reading.{end_reading}
use Rattle.ssh_model.specs.State.End.State.{EndState}
use Rattle.ssh_model.specs.declared.side.Side.{Side}
use Rattle.ssh_transport_machine.specs.Answering.{IsQuiet}
use Rattle.ssh_transport_machine.specs.Puts.{Outs}
use Rattle.ssh_transport_machine.specs.State.{State, buffered_of}
use Rattle.ssh_end_machine.specs.Asking.{DoneInSession}
use Rattle.ssh_end_machine.specs.Calls.{outs_of}
use Rattle.ssh_end_machine.specs.Ends.{EndValue}
use Rattle.ssh_end_machine.specs.Places.{added, fed_items}
use Rattle.ssh_end_machine.specs.Stands.{state_of}
use Rattle.ssh_end_machine.specs.Steps.{UnitTurned, shown_by}
use Rattle.ssh_end_machine.specs.declared.asking.outcome.AskStep.{AskStep}
use Rattle.ssh_end_machine.specs.declared.asking.outcome.Fault.{Fault}
use Rattle.ssh_end_machine.specs.declared.step.Step.{Step}
use Rattle.ssh_end_machine.specs.declared.step.Step.TheVariants as step
use Rattle.ssh_held.specs.declared.taken.Taken.{Taken}
use Rattle.ssh_held.specs.declared.taken.Taken.TheVariants as taken

-- ---- bytes of the peer

-- The bytes are no whole line or packet yet: they are kept, and it stands where it stood. Or they are one, and it made a turn of the session
-- of these parties for them, after which it stands.
pub data TurnedOn {K : Type 0} (At : List Item → Type 0) (p : Parties K) (side : Side) (history : List Item) (bytes : List ℕ) (done : Step)
    (new : State K) (e : EndState K) (o : Outs) : Type 0 where
  waits : done ≡ step.More → Waits (end_reading p side) history bytes → IsQuiet o → buffered_of new ≡ bytes → At history →
      TurnedOn At p side history bytes done new e o
  turns : (x : UnitTurned p side history bytes (shown_by done new) done e o) → (new.kept.dead ≡ false → buffered_of new ≡ []) →
      At (x.items ++ history) → TurnedOn At p side history bytes done new e o

-- It went on from this history with these items.
pub record WentOn (At : List Item → Type 0) (history : List Item) : Type 0 where
  pub items : List Item
  pub place : At (items ++ history)

-- Where bytes of the peer took it, after those that it had kept: nowhere, if an answer is wanted.
abbrev pub TakenTo : {K R F : Type 0} → (At : List Item → Type 0) → Parties K → Side → List Item → State K → (bytes : List ℕ) →
    (before after : List ℕ) → Result Taken Fault → EndValue K R F → Type 0
TakenTo At p side history old bytes before after (Ok taken.Wanted) new = At history
TakenTo At p side history old bytes before after (Ok (taken.Used used)) new =
    TurnedOn At p side history (buffered_of old ++ take used bytes) new.step new.machine (state_of new) (outs_of before after new.sent)
TakenTo At p side history old bytes before after (Err why) new = WentOn At history

-- It holds of the bytes that were used, if an answer was not wanted.
abbrev pub IfUsed : Taken → (ℕ → Type 0) → Type 0
IfUsed (taken.Used used) P = P used
IfUsed taken.Wanted P = Unit {0}

-- It holds unless an answer was wanted.
abbrev pub UnlessWanted : Result Taken Fault → Type 0 → Type 0
UnlessWanted (Ok taken.Wanted) P = Unit {0}
UnlessWanted given P = P

-- ---- asks, and pairs of cookie and secret

-- An ask was a turn of the session of these parties, after which it stands.
pub record AskedOn {K : Type 0} (At : List Item → Type 0) (p : Parties K) (side : Side) (history : List Item) (old : EndState K)
    (asked : session.Ask) (given : Result AskStep Fault) (new : EndState K) (o : Outs) : Type 0 where
  pub done : DoneInSession p side history old asked given new o
  pub place : At (added p side history old asked given new o done ++ history)

-- A pair of cookie and secret was a turn of a session, by the answer, after which it stands.
pub record FedOn (At : List Item → Type 0) (side : Side) (history : List Item) (cookie secret : List ℕ) (answer : Bool) : Type 0 where
  pub turn : FeedsTurn side history cookie secret (fed_items cookie secret answer)
  pub place : At (fed_items cookie secret answer ++ history)
