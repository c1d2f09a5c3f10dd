use Rattle.std.proofs.Common.{arith}
use Rattle.ssh_transport_machine.proofs.machine.kexinit_payload.KexinitPayload.new.Goals as goal

pub invariant_of-result : goal.invariant_of-result
invariant_of-result c = (c.in_ok-with_capacity.ensures.capacity, rw c.in_ok-with_capacity.ensures.items (omega arith))
