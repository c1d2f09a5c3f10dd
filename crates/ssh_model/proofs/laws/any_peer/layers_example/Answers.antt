use Rattle.ssh_model.proofs.Example.AnyPeer.{unasked_runs, unasked_keeps, not_unasked}
use Rattle.ssh_model.proofs.laws.any_peer.layers_example.Goals as goal

pub returns : goal.returns
returns c = record { runs = unasked_runs; keeps = unasked_keeps; is_no_end = not_unasked }
