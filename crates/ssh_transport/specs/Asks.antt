-- What a user asks of an end, and what the end does on it.
use Rattle.std.specs.Prelude.{◌≡◌, true, false}
use Rattle.ssh_model.specs.Protocol.Wire.Sealing.{Crypto}
use Rattle.ssh_model.specs.Protocol.Sessions.Items.{Ask.AskRekey, Ask.AskService}
use Rattle.ssh_transport.specs.Asking.{AskDone, AskNeedsMemory, DisconnectDone, DisconnectNeedsMemory}
use Rattle.ssh_transport_machine.specs.Puts.{Outs}
use Rattle.ssh_transport_machine.specs.State.{State}
use Rattle.ssh_transport.specs.declared.outcome.AskTurn.{AskTurn}
use Rattle.ssh_transport.specs.declared.outcome.TransportAsk.{TransportAsk}
use Rattle.ssh_transport.specs.declared.outcome.TransportAsk.TheVariants as ask
use Rattle.ssh_transport.specs.declared.outcome.TransportFault.{TransportFault}
use Rattle.ssh_transport.specs.declared.outcome.TransportFault.TheVariants as fault

-- what was done on an ask
abbrev pub AskTurned : {K : Type 0} → Crypto K → State K → TransportAsk → AskTurn → State K → Outs → Type 0
AskTurned c old ask.Service done new o = AskDone c old AskService done new o
AskTurned c old ask.Rekey done new o = AskDone c old AskRekey done new o
AskTurned c old (ask.Disconnect description) done new o = DisconnectDone c old description.now done new o

-- The end was not over, and this was done.
pub record AskTaken {K : Type 0} (c : Crypto K) (old : State K) (given : TransportAsk) (done : AskTurn) (new : State K)
    (o : Outs) : Type 0 where
  pub alive : old.kept.dead ≡ false
  pub turned : AskTurned c old given done new o

-- ---- where nothing is done

-- Something would be sent on the ask.
abbrev pub AskNeededMemory : {K : Type 0} → State K → TransportAsk → Type 0
AskNeededMemory old ask.Service = AskNeedsMemory old AskService
AskNeededMemory old ask.Rekey = AskNeedsMemory old AskRekey
AskNeededMemory old (ask.Disconnect description) = DisconnectNeedsMemory old description.now

-- Memory was refused for what would be sent, and the end is over.
pub record AskDied {K : Type 0} (old : State K) (given : TransportAsk) (new : State K) : Type 0 where
  pub alive : old.kept.dead ≡ false
  pub lacked : AskNeededMemory old given
  pub dead : new.kept.dead ≡ true

-- The end was over before, and is as it was.
pub record WasDead {K : Type 0} (old new : State K) : Type 0 where
  pub dead : old.kept.dead ≡ true
  pub after : new ≡ old

-- why nothing was done
abbrev pub AskFailed : {K : Type 0} → State K → TransportAsk → TransportFault → State K → Type 0
AskFailed old given fault.Memory new = AskDied old given new
AskFailed old given fault.Dead new = WasDead old new
