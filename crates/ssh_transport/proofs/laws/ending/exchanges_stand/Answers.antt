use Rattle.ssh_transport.proofs.Exchanging.{exchange_stands}
use Rattle.ssh_transport.proofs.laws.ending.exchanges_stand.Goals as goal

pub returns : goal.returns
returns g c = exchange_stands c.exchanges_live.ensures.keyed c.exchanges_live.ensures.ended c.live_machines.ensures.others
