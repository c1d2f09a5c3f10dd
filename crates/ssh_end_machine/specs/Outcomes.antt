-- The effect of an answer of the transport after which nothing more is to be done.
use Rattle.std.specs.Prelude.{◌≡◌, ◌≤◌, Bool, true, false, None}
use Rattle.ssh_model.specs.Protocol.Sessions.Turns.{number_of}
use Rattle.ssh_model.specs.State.Authentication.Kept.{opened_client, opened_server}
use Rattle.ssh_model.specs.State.End.State.{Authentication, Authentication.OfClient, Authentication.OfServer}
use Rattle.ssh_transport.specs.Asks.{WasDead}
use Rattle.ssh_transport_machine.specs.State.{State}
use Rattle.ssh_transport.specs.declared.outcome.Handled.{Handled}
use Rattle.ssh_transport.specs.declared.outcome.Handled.TheVariants as effect
use Rattle.ssh_transport.specs.declared.outcome.TransportFault.{TransportFault}
use Rattle.ssh_transport.specs.declared.outcome.TransportFault.TheVariants as fault
use Rattle.ssh_transport.specs.declared.outcome.TransportTurn.{TransportTurn}
use Rattle.ssh_transport.specs.declared.outcome.TransportTurn.TheVariants as outcome
use Rattle.ssh_end_machine.specs.declared.step.Step.{Step}
use Rattle.ssh_end_machine.specs.declared.step.Step.TheVariants as step
use Rattle.ssh_end_machine.specs.declared.step.EventKind.TheVariants as event_kind

-- the effect of a line or a packet
abbrev pub handled_step_of : Handled → Step
handled_step_of effect.OtherLine = step.OtherLine
handled_step_of effect.VersionLine = step.VersionLine
handled_step_of effect.Skipped = step.Skipped
handled_step_of _ = step.Took (record { channel = None; probing = false; event_kind = event_kind.Message })

abbrev pub step_given : TransportTurn → Step
step_given (outcome.Done done) = handled_step_of done
step_given (outcome.Refused why) = step.Refused why
step_given _ = step.More

-- Nothing is left to be done with it.
abbrev pub is_whole : TransportTurn → Bool
is_whole (outcome.Up number) = false
is_whole (outcome.Completed choice) = false
is_whole _ = true

-- the state of authentication after it
abbrev pub opened_where : TransportTurn → Authentication → Authentication
opened_where (outcome.Done effect.ServiceRequested) (OfServer server) = OfServer (opened_server server)
opened_where (outcome.Done effect.ServiceAccepted) (OfClient client) = OfClient (opened_client client)
opened_where given authentication = authentication

-- ---- what is left to do

-- Where a payload is left it is one from 50 on, and the end is not over.
pub record IsUp {K : Type 0} (m : State K) : Type 0 where
  pub above : 50 ≤ number_of m.receiver.payload
  pub alive : m.kept.dead ≡ false
  pub let_in : m.kept.blocked ≡ true → m.kept.authenticated ≡ true

-- Where an exchange is completed the end is not over and not blocked.
pub record IsFree {K : Type 0} (m : State K) : Type 0 where
  pub alive : m.kept.dead ≡ false
  pub free : m.kept.blocked ≡ false

abbrev pub IsReady : {K : Type 0} → State K → TransportTurn → Type 0
IsReady m (outcome.Up number) = IsUp m
IsReady m (outcome.Completed choice) = IsFree m
IsReady m (outcome.Done effect.ServiceAccepted) = m.kept.dead ≡ false → m.kept.accepted ≡ true
IsReady m _ = Unit {0}

-- The end was not over, and is.
pub record DiesOf {K : Type 0} (old new : State K) : Type 0 where
  pub alive : old.kept.dead ≡ false
  pub dead : new.kept.dead ≡ true

-- Memory was refused, and the end is over, or it was over before and is as it was.
abbrev pub IsOver : {K : Type 0} → State K → TransportFault → State K → Type 0
IsOver old fault.Memory new = DiesOf old new
IsOver old fault.Dead new = WasDead old new
