-- The result of an ask, by the answer of an end.
use Rattle.std.specs.Prelude.{◌≡◌, ◌⊎◌, Option, Some, None, Result, Ok, Err}
use Rattle.ssh_model.specs.declared.ask_refusal.AskRefusal.TheVariants as refusal
use Rattle.ssh_end_machine.specs.declared.asking.outcome.AskStep.{AskStep}
use Rattle.ssh_end_machine.specs.declared.asking.outcome.Fault.{Fault}
use Rattle.ssh_end_machine.specs.declared.asking.outcome.Fault.TheVariants as fault
use Rattle.divrelca.specs.declared.end.AskOutcome.{AskOutcome}
use Rattle.divrelca.specs.declared.end.AskOutcome.TheVariants.{Done, Later, Gone}

-- The result of an ask: an error if the end could never do it, or got no memory.
abbrev pub outcome_of : Result AskStep Fault → Result AskOutcome Fault
outcome_of (Ok step) = Ok Done
outcome_of (Err (fault.Ask refusal.NotYet)) = Ok Later
outcome_of (Err (fault.Ask refusal.Busy)) = Ok Later
outcome_of (Err (fault.Ask refusal.RekeyDue)) = Ok Later
outcome_of (Err (fault.Ask refusal.NoChannel)) = Ok Gone
outcome_of (Err (fault.Ask refusal.Ended)) = Ok Gone
outcome_of (Err (fault.Ask refusal.NothingOwed)) = Ok Gone
outcome_of (Err fault.Dead) = Ok Gone
outcome_of (Err why) = Err why

-- The end was asked once, and answered. It has the value that the ask left. This is the result of the ask.
pub record IsOutcome {E : Type 0} (Answers : (given : Result AskStep Fault) → E → Type 0) (outcome : Result AskOutcome Fault) (new : E) :
    Type 0 where
  pub given : Result AskStep Fault
  pub answered : Answers given new
  pub outcome_is : outcome ≡ outcome_of given

-- The end answered so, or memory was refused for something that is made of its answer.
pub record IsPassedOn {A E : Type 0} (Answers : (given : Result A Fault) → E → Type 0) (passed : Result A Fault) (new : E) : Type 0 where
  pub given : Result A Fault
  pub answered : Answers given new
  pub is : (passed ≡ given) ⊎ (passed ≡ Err fault.Memory)

-- the fault, if there is one
abbrev pub fault_in : {A : Type 0} → Result A Fault → Option Fault
fault_in (Ok done) = None
fault_in (Err why) = Some why
