-- What a layer above has an end do.
use Rattle.std.specs.Prelude.{◌≡◌, ℕ, false, List}
use Rattle.ssh_model.specs.Protocol.Wire.Sealing.{Crypto}
use Rattle.ssh_model.specs.State.TransportLayer.Kept.{after_sent}
use Rattle.ssh_model.specs.declared.refusal.Refusal.{Refusal}
use Rattle.ssh_transport.specs.Asks.{WasDead}
use Rattle.ssh_transport_machine.specs.Puts.{Outs, PutsPayload, Refuses}
use Rattle.ssh_transport_machine.specs.State.{State, dead_state}
use Rattle.ssh_transport_machine.specs.Answering.{HasRoom, RefusalNeedsMemory, SpentBy}
use Rattle.ssh_transport_machine.specs.declared.machine.sending.SendOutcome.{SendOutcome}
use Rattle.ssh_transport_machine.specs.declared.machine.sending.SendOutcome.TheVariants.{Done, Spent}
use Rattle.ssh_transport.specs.declared.outcome.TransportFault.{TransportFault}
use Rattle.ssh_transport.specs.declared.outcome.TransportFault.TheVariants as fault

-- The end was not over, and refused its peer. What is read of it stays as it was.
pub record PeerRefused {K : Type 0} (c : Crypto K) (old : State K) (why : Refusal) (new : State K) (o : Outs) :
    Type 0 where
  pub alive : old.kept.dead ≡ false
  pub refuses : Refuses c old.kept why new.kept o
  pub reading : new ≡ record old { kept = new.kept }

-- Memory was refused for why it is refused, and the end is over. All else stays as it was.
pub record RefuseDied {K : Type 0} (old : State K) (why : Refusal) (new : State K) : Type 0 where
  pub alive : old.kept.dead ≡ false
  pub needs_memory : RefusalNeedsMemory old why
  pub after : new ≡ dead_state old

-- why the peer was not refused
abbrev pub RefuseFailed : {K : Type 0} → State K → Refusal → TransportFault → State K → Type 0
RefuseFailed old why fault.Memory new = RefuseDied old why new
RefuseFailed old why fault.Dead new = WasDead old new

-- The payload was sent.
pub record IsPut {K : Type 0} (c : Crypto K) (old : State K) (payload : List ℕ) (new : State K) (o : Outs) : Type 0
  where
    pub puts : PutsPayload c old.kept.sending payload o
    pub after : new ≡ record old { kept = after_sent old.kept }

-- the payload was sent, or no number was left for it
abbrev pub PutOrSpent : {K : Type 0} → Crypto K → State K → List ℕ → SendOutcome → State K → Outs → Type 0
PutOrSpent c old payload Done new o = IsPut c old payload new o
PutOrSpent c old payload Spent new o = SpentBy old new o

-- The end was not over, and sent a payload, or had no number left for it.
pub record PayloadSent {K : Type 0} (c : Crypto K) (old : State K) (payload : List ℕ) (answer : SendOutcome) (new : State K)
    (o : Outs) : Type 0 where
  pub alive : old.kept.dead ≡ false
  pub sent : PutOrSpent c old payload answer new o

-- Memory was refused for the payload, and the end is over. All else stays as it was.
pub record SendDied {K : Type 0} (old new : State K) : Type 0 where
  pub alive : old.kept.dead ≡ false
  pub room : HasRoom old
  pub after : new ≡ dead_state old

-- why the payload was not sent
abbrev pub SendFailed : {K : Type 0} → State K → TransportFault → State K → Type 0
SendFailed old fault.Memory new = SendDied old new
SendFailed old fault.Dead new = WasDead old new
