use Rattle.ssh_model.proofs.WholeEnd.Pair.{opened}
use Rattle.ssh_model.proofs.laws.pair.openings.Goals as goal

pub returns : goal.returns
returns g c = λ p client server from_client from_server a b x y. opened p client server from_client from_server a b x y
