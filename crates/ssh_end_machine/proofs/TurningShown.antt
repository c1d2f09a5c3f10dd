-- What an end shows of a packet is its payload.
use Rattle.std.proofs.Common.{◌≡◌, ℕ, List, refl, ap}
use Rattle.std.specs.Prelude.{Result, Ok, Err}
use Rattle.ssh_model.specs.declared.refusal.Refusal.{Refusal}
use Rattle.ssh_model.specs.State.Channels.Kept.{Channels}
use Rattle.ssh_model.specs.Protocol.Sessions.Items.{Item, Encoded}
use Rattle.ssh_model.specs.Protocol.Wire.Sealing.{Crypto}
use Rattle.ssh_model.specs.State.TransportLayer.Kept.{Transport}
use Rattle.ssh_transport_machine.specs.Puts.{Outs}
use Rattle.ssh_transport.specs.Shown as shown
use Rattle.ssh_transport_machine.specs.State.{State}
use Rattle.ssh_transport.specs.declared.outcome.TransportTurn.{TransportTurn}
use Rattle.ssh_end_machine.specs.Above.{Finished}
use Rattle.ssh_end_machine.specs.OwedReplies.{OwedFlushed}
use Rattle.ssh_end_machine.specs.Outcomes.{step_given}
use Rattle.ssh_end_machine.specs.Steps.{shown_by}
use Rattle.ssh_end_machine.specs.declared.replying.ServiceReply.{ServiceReply}
use Rattle.ssh_end_machine.specs.declared.step.Step.{Step}

pub shown_packet : {K : Type 0} {k : Transport K} {payload : List ℕ} {given : TransportTurn} {said : List Encoded} {items : List Item} → shown.Shows k payload given said items → (s : State K) → shown_by (step_given given) s ≡ s.receiver.payload
shown_packet (shown.Shows.refused why) s = refl
shown_packet shown.Shows.skipped s = refl
shown_packet (shown.Shows.disconnected reason description language is) s = refl
shown_packet (shown.Shows.told message fact is told) s = refl
shown_packet (shown.Shows.unknown number reply is) s = refl
shown_packet (shown.Shows.service_requested service reply is) s = refl
shown_packet (shown.Shows.service_accepted service is) s = refl
shown_packet (shown.Shows.newkeys is) s = refl

pub shown_finished : {K : Type 0} (c : Crypto K) (old : State K) (given : Result ServiceReply Refusal) (done : Step) (new : State K) (o : Outs) → Finished c old given done new o → (s : State K) → shown_by done s ≡ s.receiver.payload
shown_finished c old (Ok above) done new o x s = ap (λ (d : Step). shown_by d s) x.shown
shown_finished c old (Err why) done new o x s = ap (λ (d : Step). shown_by d s) x.shown

pub shown_completing : {K : Type 0} (c : Crypto K) (old : State K) (channels : Channels) (done : Step) (new : State K) (later : Channels) (o : Outs) → OwedFlushed c old channels done new later o → (s : State K) → shown_by done s ≡ s.receiver.payload
shown_completing c old channels done new later o (OwedFlushed.given owed is) s = ap (λ (d : Step). shown_by d s) is
shown_completing c old channels done new later o (OwedFlushed.spent few over same quiet is) s = ap (λ (d : Step). shown_by d s) is
