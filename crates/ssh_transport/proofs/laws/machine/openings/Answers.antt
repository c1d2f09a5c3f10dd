use Rattle.ssh_transport.proofs.MachineUnits.{opened}
use Rattle.ssh_transport.proofs.laws.machine.openings.Goals as goal

pub returns : goal.returns
returns g c = opened c.new_transports.ensures
