use Rattle.ssh_model.proofs.AnyPeer.Guarded.{keeps_transport}
use Rattle.ssh_model.proofs.Sessions.TransportRuns.{transport_run}
use Rattle.ssh_model.proofs.laws.any_peer.against_any_layers.Goals as goal

pub returns : goal.returns
returns g c = record { kept = keeps_transport; ends = transport_run }
