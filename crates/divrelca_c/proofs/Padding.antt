-- An ask that was done or refused is answered so by its code.
use Rattle.std.proofs.Common.{◌≡◌, ℤ, negsuc, Result, Ok, Err}
use Rattle.ssh_end_machine.specs.Asking.{OnAnswered}
use Rattle.ssh_end_machine.specs.declared.asking.outcome.AskStep.{AskStep}
use Rattle.ssh_end_machine.specs.declared.asking.outcome.Fault.{Fault}
use Rattle.ssh_end_machine.specs.declared.asking.outcome.Fault.TheVariants as fault
use Rattle.divrelca_c.specs.Codes.{code_asked, code_of}
pub use Rattle.divrelca_c.specs.Embedded.PaddingLaws.{pads_on, pads_on_none}

-- what holds of an ask that was done or refused, by its code
pub answered_by : {P : Type 0} (done : Result AskStep Fault) → OnAnswered done P → (code : ℤ) → code ≡ code_asked done →
    (code ≡ negsuc 0 → ⊥) → (code ≡ negsuc 1 → ⊥) → P
answered_by (Ok step) holds code is memory over = holds
answered_by (Err (fault.Ask why)) holds code is memory over = holds
answered_by (Err fault.Memory) holds code is memory over = absurd (memory is)
answered_by (Err fault.Dead) holds code is memory over = absurd (over is)

-- the same of a fault alone
pub refused_by : (A : Type 0) {P : Type 0} (why : Fault) → OnAnswered {A = A} (Err why) P → (code : ℤ) → code ≡ code_of why →
    (code ≡ negsuc 0 → ⊥) → (code ≡ negsuc 1 → ⊥) → P
refused_by A (fault.Ask why) holds code is memory over = holds
refused_by A fault.Memory holds code is memory over = absurd (memory is)
refused_by A fault.Dead holds code is memory over = absurd (over is)
