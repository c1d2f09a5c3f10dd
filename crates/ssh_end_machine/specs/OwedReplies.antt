-- The turn of an end after its transport completed a key exchange.
use Rattle.std.specs.Prelude.{◌≡◌, ℕ, ◌<◌, ◌+◌, false, None, length}
use Rattle.ssh_model.specs.Protocol.Wire.Sealing.{Crypto}
use Rattle.ssh_model.specs.State.Channels.Kept.{Channels}
use Rattle.ssh_transport_machine.specs.Puts.{Outs}
use Rattle.ssh_transport_machine.specs.State.{State, dead_state}
use Rattle.ssh_transport_machine.specs.Answering.{IsQuiet}
use Rattle.ssh_model.specs.declared.refusal.Refusal.TheVariants as refusal
use Rattle.ssh_end_machine.specs.Owed.{OwedGiven}
use Rattle.ssh_end_machine.specs.declared.step.Step.{Step}
use Rattle.ssh_end_machine.specs.declared.step.Step.TheVariants as step
use Rattle.ssh_end_machine.specs.declared.step.EventKind.TheVariants as event_kind
use Rattle.ssh_model.specs.Protocol.Bounds.{numbers_of_epoch}

-- the fact that the exchange at this position is completed
abbrev pub completed_at : ℕ → Step
completed_at position = step.Took (record { channel = None; probing = false; event_kind = event_kind.Completed position })

-- The owed replies are sent after NEWKEYS, or too few numbers are left for them.
pub data OwedFlushed {K : Type 0} (c : Crypto K) (old : State K) (channels : Channels) (done : Step) (new : State K)
    (later : Channels) (o : Outs) : Type 0 where
  given : OwedGiven c old.kept channels new.kept later o →
      done ≡ completed_at old.kept.sending.epoch →
      OwedFlushed c old channels done new later o
  spent : numbers_of_epoch < old.kept.sending.count + length channels.owed → new ≡ dead_state old → later ≡ channels → IsQuiet o →
      done ≡ step.Refused refusal.NumberSpent → OwedFlushed c old channels done new later o
