-- What a transport did alone, with nothing left to be done.
use Rattle.std.proofs.Common.{◌≡◌, ℕ, List, true, false, refl, sym, ap, ◌∙◌}
use Rattle.std.proofs.lemmas.Bool.{false≢true}
use Rattle.ssh_model.specs.declared.side.Side.{Side}
use Rattle.ssh_model.specs.Protocol.Sessions.Items.{Item, Encoded}
use Rattle.ssh_model.specs.Protocol.Sessions.Parties.{Parties}
use Rattle.ssh_model.specs.State.TransportLayer.Kept.{Transport}
use Rattle.ssh_transport_machine.specs.Puts.{Outs}
use Rattle.ssh_transport.specs.Sessions.{is_up}
use Rattle.ssh_transport.specs.Shown as shown
use Rattle.ssh_transport.specs.Shown.{IsTurn, TurnOf}
use Rattle.ssh_transport_machine.specs.State.{State}
use Rattle.ssh_transport.specs.declared.outcome.TransportTurn.{TransportTurn}
use Rattle.ssh_transport.specs.declared.outcome.TransportTurn.TheVariants as outcome
use Rattle.ssh_end_machine.specs.Outcomes.{is_whole}
use Rattle.ssh_end_machine.specs.Steps.{Shows}
use Rattle.ssh_end_machine.specs.declared.step.Step.TheVariants as step
use Rattle.ssh_transport.specs.Own.{Share.Shared}

-- What is told of a turn is whole.
pub is_whole_turn : {K : Type 0} {s : Transport K} {payload : List ℕ} {given : TransportTurn} {said : List Encoded} {items : List Item} → shown.Shows s payload given said items → is_whole given ≡ true
is_whole_turn (shown.Shows.refused why) = refl
is_whole_turn shown.Shows.skipped = refl
is_whole_turn (shown.Shows.disconnected reason description language is) = refl
is_whole_turn (shown.Shows.told message fact is told) = refl
is_whole_turn (shown.Shows.unknown number reply is) = refl
is_whole_turn (shown.Shows.service_requested service reply is) = refl
is_whole_turn (shown.Shows.service_accepted service is) = refl
is_whole_turn (shown.Shows.newkeys is) = refl

-- What was done with a payload that is not for the layers above is a turn.
pub is_turn : {K : Type 0} (p : Parties K) (side : Side) (history : List Item) (s : Transport K) (old : State K) (given : TransportTurn) (new : State K) (o : Outs) → is_up given ≡ false → TurnOf p side history s old (Shared given) new o → IsTurn p side history s old.receiver.payload given new.kept o
is_turn p side history s old given new o e (TurnOf.turned x) = x
is_turn p side history s old given new o e (TurnOf.above is x) = absurd (false≢true (sym e ∙ ap is_up is))

-- No items are shown where nothing whole came.
pub no_more : (payload : List ℕ) (items : List Item) → Shows payload step.More items → ⊥
no_more payload items x = elim x [ ]

-- No payload is answered by waiting for more.
no_waiting : {K : Type 0} {s : Transport K} {payload : List ℕ} {said : List Encoded} {items : List Item} → shown.Shows s payload outcome.More said items → ⊥
no_waiting x = elim x [ ]

pub payload_waits : {K : Type 0} (p : Parties K) (side : Side) (history : List Item) (s : Transport K) (old new : State K) (o : Outs) → TurnOf p side history s old (Shared outcome.More) new o → ⊥
payload_waits p side history s old new o x = no_waiting (is_turn p side history s old outcome.More new o refl x).shows
