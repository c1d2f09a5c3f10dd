use Rattle.ssh_model.proofs.WholeEnd.PeerNumbers.{peer_named}
use Rattle.ssh_model.proofs.laws.end.peer_numbers.Goals as goal

pub returns : goal.returns
returns g c = λ p laws side h e sums alive run x. peer_named p laws side h run e.channels (sums.above alive).channels_sum x
