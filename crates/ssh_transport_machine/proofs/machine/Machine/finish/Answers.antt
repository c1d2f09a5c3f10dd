use Rattle.ssh_transport_machine.proofs.Finishing.{silently}
use Rattle.ssh_transport_machine.proofs.Sending.{on_ok}
use Rattle.ssh_transport_machine.proofs.machine.Machine.finish.Goals as goal

pub returns-in-None-clause-finishes : goal.returns-in-None-clause-finishes
returns-in-None-clause-finishes g c = rw c.in-None.is (on_ok c.finish_silently.result (λ x. silently _ _ _ _ _ _ _ x) c.finish_silently.ensures.sends)
