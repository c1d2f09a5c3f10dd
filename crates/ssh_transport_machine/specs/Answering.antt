-- What an end answers, where a number is left for it.
use Rattle.std.specs.Prelude.{◌≡◌, ◌<◌, IsSome}
use Rattle.ssh_model.specs.Protocol.Wire.Message.{Msg}
use Rattle.ssh_model.specs.Protocol.Wire.Sealing.{Crypto}
use Rattle.ssh_model.specs.Protocol.Sessions.Refusals.{refusal_reason}
use Rattle.ssh_model.specs.State.TransportLayer.Kept.{Transport}
use Rattle.ssh_model.specs.declared.refusal.Refusal.{Refusal}
use Rattle.ssh_transport_machine.specs.Puts.{Outs, Sends}
use Rattle.ssh_transport_machine.specs.State.{State, dead_state}
use Rattle.ssh_transport_machine.specs.declared.machine.sending.SendOutcome.{SendOutcome}
use Rattle.ssh_transport_machine.specs.declared.machine.sending.SendOutcome.TheVariants.{Done, Spent}
use Rattle.ssh_model.specs.Protocol.Bounds.{numbers_of_epoch}

-- Nothing was put out.
pub record IsQuiet (o : Outs) : Type 0 where
  pub out : o.after ≡ o.before
  pub sent : o.payloads_after ≡ o.payloads_before

-- The message was sent, and this is kept.
pub record SentBy {K : Type 0} (c : Crypto K) (old : State K) (message : Msg) (kept : Transport K) (new : State K)
    (o : Outs) : Type 0 where
  pub sends : Sends c old.kept.sending message o
  pub after : new ≡ record old { kept = kept }

-- No number was left for what would have been sent: nothing was put out, and the end is over. All else stays as it was.
pub record SpentBy {K : Type 0} (old new : State K) (o : Outs) : Type 0 where
  pub none_left : old.kept.sending.count ≡ numbers_of_epoch
  pub after : new ≡ dead_state old
  pub quiet : IsQuiet o

-- The message was sent, and then this is kept, or no number was left for it.
abbrev pub Answers : {K : Type 0} → Crypto K → State K → Msg → Transport K → SendOutcome → State K → Outs → Type 0
Answers c old message kept Done new o = SentBy c old message kept new o
Answers c old message kept Spent new o = SpentBy old new o

-- ---- where memory is refused

-- A number is left.
abbrev pub HasRoom : {K : Type 0} → State K → Type 0
HasRoom s = s.kept.sending.count < numbers_of_epoch

-- The refusal would be said.
pub record RefusalNeedsMemory {K : Type 0} (old : State K) (why : Refusal) : Type 0 where
  pub reason : IsSome (refusal_reason why)
  pub room : HasRoom old
