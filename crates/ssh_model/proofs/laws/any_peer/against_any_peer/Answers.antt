use Rattle.ssh_model.proofs.AnyPeer.Guarded.{guarded}
use Rattle.ssh_model.proofs.laws.any_peer.against_any_peer.Goals as goal

pub returns : goal.returns
returns g c = guarded
