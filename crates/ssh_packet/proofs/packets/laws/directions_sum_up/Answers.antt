use Rattle.ssh_packet.proofs.Numbers.{either_way}
use Rattle.ssh_packet.proofs.packets.laws.directions_sum_up.Goals as goal

pub returns-clause-first_epoch : goal.returns-clause-first_epoch
returns-clause-first_epoch g c = λ strict other l direction none s. either_way strict other l direction none s
