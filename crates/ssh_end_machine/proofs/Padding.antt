-- Packets that are put out with the padding that a filler gave, in a call of an end.
use Rattle.std.specs.Prelude.{Result, Ok, Err}
use Rattle.ssh_transport.specs.declared.outcome.TransportFault.{TransportFault}
use Rattle.ssh_transport.specs.declared.outcome.TransportFault.TheVariants as transport_fault
use Rattle.ssh_end_machine.specs.Asking.{OnAnswered, fault_by}
use Rattle.ssh_end_machine.specs.declared.asking.outcome.Fault.{Fault}
use Rattle.ssh_end_machine.specs.declared.asking.outcome.Fault.TheVariants as fault
pub use Rattle.ssh_transport_machine.specs.PaddingLaws.{pads_none, pads_then}

-- what holds anyway
pub answered : {A fact : Type 0} (given : Result A Fault) → fact → OnAnswered given fact
answered (Ok x) holds = holds
answered (Err (fault.Ask why)) holds = holds
answered (Err fault.Memory) holds = tt
answered (Err fault.Dead) holds = tt

-- A fault of the machine refuses no ask.
pub failed : (A fact : Type 0) (why : TransportFault) → OnAnswered {A = A} (Err (fault_by why)) fact
failed A fact transport_fault.Memory = tt
failed A fact transport_fault.Dead = tt
