use Rattle.std.proofs.Common.{◌∙◌}
use Rattle.ssh_transport_machine.proofs.Sending.{own_sent}
use Rattle.ssh_transport_machine.proofs.machine.Machine.send_kexinit.Goals as goal

pub returns-in-Ok-clause-sends : goal.returns-in-Ok-clause-sends
returns-in-Ok-clause-sends g c = own_sent _ _ _ _ _ _ _ _ c.put.result c.self.view_is (c.set.ensures ∙ c.deref.ensures.value) c.in-Ok.ensures.encoded c.put.ensures.puts c.put.ensures.after
