-- How the items of an end are recorded.
use Rattle.std.specs.Prelude.{◌≡◌, ℕ, Bool, true, false, Option, Some, None, Result, Ok, Err, List, [], ◌∷◌, ◌++◌}
use Rattle.ssh_model.specs.declared.refusal.Refusal.{Refusal}
use Rattle.ssh_model.specs.declared.side.Side.{Side}
use Rattle.ssh_model.specs.Protocol.Side.{done_by}
use Rattle.ssh_model.specs.Protocol.Sessions.Items as session
use Rattle.ssh_model.specs.Protocol.Sessions.Items.{has_died, messages_sent}
use Rattle.ssh_transport_machine.specs.Puts.{payloads_of}
use Rattle.ssh_end_machine.specs.Asking.{ShowsAsk}
use Rattle.ssh_end_machine.specs.Owed.{channels_sent}
use Rattle.ssh_end_machine.specs.Steps.{AreSent, Shows}
use Rattle.ssh_end_machine.specs.Turn.{ShowsTaken, TurnShows, channels_in, payloads_in}
use Rattle.ssh_end_machine.specs.declared.asking.outcome.AskStep.{AskStep}
use Rattle.ssh_end_machine.specs.declared.asking.outcome.Fault.{Fault}
use Rattle.ssh_end_machine.specs.declared.asking.outcome.Fault.TheVariants as fault
use Rattle.ssh_end_machine.specs.declared.step.Step.{Step}
use Rattle.ssh_end_machine.specs.declared.turn.Took.{Took}
use Rattle.ssh_end_machine.specs.declared.turn.Turn.{Turn}
use Rattle.ssh_end.specs.TwoEnds.Items.{Records}
use Rattle.ssh_end.specs.declared.item.Done.{Done}

-- These records go on with these items of one side, whatever was recorded before.
abbrev pub Adds : Side → List session.Item → (old new : List Done) → Type 0
Adds side items old new = (run : List session.Done) → Records old run → Records new (done_by side items ++ run)

-- The record adds the item that was taken, if any.
abbrev pub AddsTook : Side → Option Took → (old new : List Done) → Type 0
AddsTook side None old new = new ≡ old
AddsTook side (Some took) old new =
    (item : session.Item) → ShowsTaken (Some took) (Some item) → Adds side (item ∷ []) old new

-- The record adds the refusal of the peer, if any.
abbrev pub AddsRefused : Side → Option Refusal → (old new : List Done) → Type 0
AddsRefused side None old new = new ≡ old
AddsRefused side (Some why) old new =
    (opened : Option (List ℕ)) → Adds side (session.Item.Refused why opened ∷ []) old new

-- The record adds the payloads that were sent, each with its channel.
abbrev pub AddsSent : Side → List (List ℕ) → (channels : List (Option ℕ)) → (old new : List Done) → Type 0
AddsSent side payloads channels old new =
    (sent : List session.Item) → AreSent sent → payloads ≡ payloads_of (messages_sent sent) →
    channels ≡ channels_sent sent → Adds side sent old new

-- The record adds the fact that is told, if any.
abbrev pub AddsTold : Side → Option session.Fact → (old new : List Done) → Type 0
AddsTold side None old new = new ≡ old
AddsTold side (Some fact) old new = Adds side (session.Item.Told fact ∷ []) old new

-- The record adds the death of the end, if it is over.
abbrev pub AddsDeath : Side → Bool → (old new : List Done) → Type 0
AddsDeath side false old new = new ≡ old
AddsDeath side true old new = Adds side (session.Item.Died ∷ []) old new

-- The record adds the items of an ask, which sent these payloads on these channels. `is_over`: the end is over by it.
abbrev pub AddsAsk : Side → session.Ask → Result AskStep Fault → List (List ℕ) → (channels : List (Option ℕ)) → Bool →
    (old new : List Done) → Type 0
AddsAsk side asked (Ok step) payloads channels is_over old new =
    (items : List session.Item) → ShowsAsk asked step items → payloads ≡ payloads_of (messages_sent items) →
    channels ≡ channels_sent items → is_over ≡ has_died items → Adds side items old new
AddsAsk side asked (Err (fault.Ask why)) payloads channels is_over old new =
    Adds side (session.Item.AskRefused why ∷ session.Item.Asked asked ∷ []) old new
AddsAsk side asked (Err fault.Memory) payloads channels is_over old new = Adds side (session.Item.Died ∷ []) old new
AddsAsk side asked (Err fault.Dead) payloads channels is_over old new = new ≡ old

-- the fact that a channel is being opened, if one is
abbrev pub opening_fact : Option ℕ → Option session.Fact
opening_fact None = None
opening_fact (Some channel) = Some (session.Fact.Opening channel)

-- The record of an ask that was done, before the end may be over by it.
pub record AddsStep (side : Side) (step : AskStep) (payloads : List (List ℕ)) (channels : List (Option ℕ))
    (old new : List Done) : Type 0 where
  pub refused : List Done
  pub sent : List Done
  pub adds_refused : AddsRefused side step.refused old refused
  pub adds_sent : AddsSent side payloads channels refused sent
  pub adds_opening : AddsTold side (opening_fact step.opening) sent new

-- The record of a turn. If nothing was done, nothing is added.
pub record AddsTurn (side : Side) (turn : Turn) (is_over : Bool) (old new : List Done) : Type 0 where
  pub shown : (payload : List ℕ) (step : Step) (items : List session.Item) → Shows payload step items →
      TurnShows turn items →
      payloads_in turn.sent ≡ payloads_of (messages_sent items) → channels_in turn.sent ≡ channels_sent items →
      is_over ≡ has_died items → Adds side items old new
  pub quiet : TurnShows turn [] → payloads_in turn.sent ≡ [] → channels_in turn.sent ≡ [] → is_over ≡ false →
      Adds side [] old new
