-- Where an end's call answers that memory was refused.
use Rattle.std.proofs.Common.{◌≡◌, refl, sym, ◌∙◌, subst}
use Rattle.std.specs.Prelude.{Result, Ok, Err, IfErr}
use Rattle.std.specs.Result.{IsErrAnd}
use Rattle.ssh_transport.specs.declared.outcome.TransportFault.{TransportFault}
use Rattle.ssh_transport.specs.declared.outcome.TransportFault.TheVariants as transport_fault
use Rattle.ssh_end_machine.specs.Asking.{fault_by}
use Rattle.ssh_end_machine.specs.declared.asking.outcome.Fault.{Fault}
use Rattle.ssh_end_machine.specs.declared.asking.outcome.Fault.TheVariants as fault

is_memory : (why : TransportFault) → fault_by why ≡ fault.Memory → why ≡ transport_fault.Memory
is_memory transport_fault.Memory e = refl
is_memory transport_fault.Dead e = absurd (cc e)

-- A fault of its transport is one of the end.
pub as_fault : {A P : Type 0} (r : Result A Fault) (why : TransportFault) → IsErrAnd r (λ given. given ≡ fault_by why) → (why ≡ transport_fault.Memory → P) → IfErr r (λ f. f ≡ fault.Memory → P)
as_fault (Ok a) why x f = tt
as_fault (Err e) why x f = λ m. f (is_memory why (sym x ∙ m))

-- what holds of a fault of its transport, by which it is
pub by_fault : {A : Type 0} (P : Fault → Type 0) (r : Result A Fault) (why : TransportFault) → IsErrAnd r (λ given. given ≡ fault_by why) → (why ≡ transport_fault.Memory → P fault.Memory) → (why ≡ transport_fault.Dead → P fault.Dead) → IfErr r P
by_fault P (Ok a) why x memory dead = tt
by_fault P (Err e) transport_fault.Memory x memory dead = subst P (sym x) (memory refl)
by_fault P (Err e) transport_fault.Dead x memory dead = subst P (sym x) (dead refl)

-- what is said of an error, of the one that it is
pub at_error : {A E : Type 0} (P : E → Type 0) (r : Result A E) (why : E) → r ≡ Err why → IfErr r P → P why
at_error P r why was x = subst (λ w. IfErr w P) was x
