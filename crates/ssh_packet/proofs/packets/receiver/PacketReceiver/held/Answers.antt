use Rattle.ssh_packet.proofs.DirectionUnits.{begun_packet}
use Rattle.ssh_packet.proofs.packets.receiver.PacketReceiver.held.Goals as goal

pub returns-clause-buffered : goal.returns-clause-buffered
returns-clause-buffered g c = λ live. begun_packet (record { same = c.self.view_is; kept = c.self.invariant; live = live })
