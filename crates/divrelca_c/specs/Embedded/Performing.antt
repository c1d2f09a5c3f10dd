-- What is done on an ask: by the end, and in what is kept besides it.
use Rattle.std.specs.Prelude.{◌≡◌, ℕ, List, Option, Some, None, Result, Err}
use Rattle.ssh_model.specs.Protocol.Sessions.Items as session
use Rattle.ssh_model.specs.Protocol.Wire.Sealing.{Crypto}
use Rattle.ssh_model.specs.declared.ask_refusal.AskRefusal.{AskRefusal}
use Rattle.ssh_transport.specs.declared.role.Role as exchange
use Rattle.ssh_end_machine.specs.Asking.{ask_of}
use Rattle.ssh_end_machine.specs.Ends.{EndValue}
use Rattle.ssh_end_machine.specs.RoleValues.{RoleValue}
use Rattle.ssh_end_machine.specs.declared.asking.Ask.{Ask}
use Rattle.ssh_end_machine.specs.declared.asking.outcome.AskStep.{AskStep}
use Rattle.ssh_end_machine.specs.declared.asking.outcome.Fault.{Fault}
use Rattle.ssh_end_machine.specs.declared.asking.outcome.Fault.TheVariants as fault
use Rattle.ssh_end_machine.specs.declared.role.EndRole as role
use Rattle.divrelca.specs.Ends.{Performs}
use Rattle.divrelca_c.specs.Embedded.Flows.{FlowCounts, after_ask, flows_of}
use Rattle.divrelca_c.specs.declared.embedded.state.Embedded.{Embedded}

-- What an ask changes: the end, the bytes that wait for the peer, and the account of the windows.
pub record Acting (R X F K : Type 0) : Type 0 where
  pub end : EndValue K (RoleValue X R) F
  pub out : List ℕ
  pub flows : List FlowCounts

abbrev pub acting_of : {R X S F K : Type 0} → Embedded R X S F K → Acting R X F K
acting_of e = record { end = e.end; out = e.out.items; flows = flows_of e.flows }

-- The end was asked for this, once, and answered so. The account of the windows follows that.
pub record Acts {R X S F K : Type 0} (ends : role.Ghosts R X S F K) (exchanges : exchange.Ghosts X S F K) (c : Crypto K)
    (gives : F → List ℕ → F → Type 0) (old : Acting R X F K) (asked : Ask) (given : Result AskStep Fault) (new : Acting R X F K) :
    Type 0 where
  pub performs : Performs ends exchanges c gives old.end asked old.out new.out given new.end
  pub flows_are : new.flows ≡ after_ask (ask_of asked) given old.flows

-- What waits is refused like this, and the end does nothing: it is no ask of this end, or the channel for which it waits is over.
pub record IsLeft {R X F K : Type 0} (old : Acting R X F K) (given : Result AskStep Fault) (new : Acting R X F K) (why : AskRefusal) :
    Type 0 where
  pub refused : given ≡ Err (fault.Ask why)
  pub same : new ≡ old

-- It was done on an ask for just this.
pub record IsDoneOn (asked : session.Ask) (Does : Ask → Type 0) : Type 0 where
  pub ask : Ask
  pub is : ask_of ask ≡ asked
  pub done : Does ask

-- What is asked for, if it is an ask, was done. Else this is left.
abbrev pub IsMade : Option session.Ask → (Does : Ask → Type 0) → (Left : Type 0) → Type 0
IsMade None Does Left = Left
IsMade (Some asked) Does Left = IsDoneOn asked Does
