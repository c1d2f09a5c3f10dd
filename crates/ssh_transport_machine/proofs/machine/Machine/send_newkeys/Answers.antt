use Rattle.ssh_transport_machine.proofs.Sending.{newkeys_out}
use Rattle.ssh_transport_machine.proofs.machine.Machine.send_newkeys.Goals as goal

pub returns-clause-sends : goal.returns-clause-sends
returns-clause-sends g c = newkeys_out _ _ _ c.in_default.ensures.puts
