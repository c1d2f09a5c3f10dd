use Rattle.ssh_model.proofs.WholeEnd.Owed.{can_settle}
use Rattle.ssh_model.proofs.laws.end.owed_replies.Goals as goal

pub returns : goal.returns
returns g c = λ p laws side h e sums alive run. can_settle p laws side h run e.channels (sums.above alive).channels_sum
