use Rattle.ssh_packet.proofs.Wires.{sealed_wire}
use Rattle.ssh_packet.proofs.laws.every_sealed_is_a_wire.Goals as goal

pub returns : goal.returns
returns g c = λ key number payload bytes n s. sealed_wire g.S.Sealing.crypto key number payload bytes g.met.S.Sealing.laws n s
