use Rattle.ssh_transport_machine.proofs.Sending.{on_ok, encoded_out}
use Rattle.ssh_transport_machine.proofs.machine.Machine.send.Goals as goal

pub returns-in-Ok-clause-sends : goal.returns-in-Ok-clause-sends
returns-in-Ok-clause-sends g c = on_ok c.put.result (λ x. encoded_out _ _ _ _ _ c.in-Ok.ensures.encoded x) c.put.ensures.puts
