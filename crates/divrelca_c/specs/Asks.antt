-- What C is answered for what it asks of an end, and what becomes of the end.
use Rattle.std.specs.Prelude.{◌≡◌, ℕ, ℤ, cond, drop, List, Option, Some, None, Result, Ok, Err}
use Rattle.ssh_model.specs.Protocol.Sessions.Items as session
use Rattle.ssh_model.specs.declared.ask_refusal.AskRefusal.{AskRefusal}
use Rattle.ssh_end_machine.specs.Asking.{ask_of}
use Rattle.ssh_end_machine.specs.declared.asking.Ask.{Ask}
use Rattle.ssh_end_machine.specs.declared.asking.outcome.AskStep.{AskStep}
use Rattle.ssh_end_machine.specs.declared.asking.outcome.Fault.{Fault}
use Rattle.divrelca_c.specs.Embedded.Queues.{IsOldestMade, is_early}
use Rattle.divrelca_c.specs.Embedded.Flows.{FlowCounts}
use Rattle.divrelca_c.specs.declared.embedded.waiting.Queued.{Queued}
use Rattle.divrelca_c.specs.Codes.{code_asked}

-- the number that is there, or else the one that stood there
abbrev pub number_or : Option ℕ → (old : ℕ) → ℕ
number_or None old = old
number_or (Some number) old = number

-- the number of the channel that opens, in place of what stood there
abbrev pub channel_after : Result AskStep Fault → (old : ℕ) → ℕ
channel_after (Ok step) old = number_or step.opening old
channel_after (Err why) old = old

-- This was done on the ask that a form is, and it is answered so.
pub record IsAnswered (form : Option session.Ask) (Does : Ask → Result AskStep Fault → Type 0) (code : ℤ) (old new : ℕ) : Type 0 where
  pub asked : Ask
  pub is : form ≡ Some (ask_of asked)
  pub given : Result AskStep Fault
  pub done : Does asked given
  pub code_is : code ≡ code_asked given
  pub channel_is : new ≡ channel_after given old

-- This was done on the oldest of the asks that wait, by this account, and it is answered so. It waits on where it came too early.
pub record IsWorked (waiting : List Queued) (flows : List FlowCounts) (key : Option (List ℕ)) (Does : Ask → Result AskStep Fault → Type 0)
    (Left : Result AskStep Fault → AskRefusal → Type 0) (later : List Queued) (code : ℤ) (old new : ℕ) : Type 0 where
  pub given : Result AskStep Fault
  pub made : IsOldestMade waiting flows key (λ asked. Does asked given) (Left given)
  pub waits : later ≡ cond (is_early given) waiting (drop 1 waiting)
  pub code_is : code ≡ code_asked given
  pub channel_is : new ≡ channel_after given old
