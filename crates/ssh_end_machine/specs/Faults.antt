-- The words in which it is told why nothing was done on an ask.
use Rattle.std.specs.Prelude.{ℕ, List, codes}
use Rattle.ssh_model.specs.Laws.RefusalTexts.{ask_refusal_text}
use Rattle.ssh_end_machine.specs.declared.asking.outcome.Fault.{Fault}
use Rattle.ssh_end_machine.specs.declared.asking.outcome.Fault.TheVariants as fault

-- an ask that is refused is told as its refusal
abbrev pub fault_text : Fault → List ℕ
fault_text fault.Memory = codes "memory was refused"
fault_text fault.Dead = codes "the end is over"
fault_text (fault.Ask refusal) = ask_refusal_text refusal
