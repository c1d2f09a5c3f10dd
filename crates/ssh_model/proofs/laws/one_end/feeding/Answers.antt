use Rattle.ssh_model.proofs.Sessions.Deaths.{feeds_one, keeps_one, most_are_fed}
use Rattle.ssh_model.proofs.laws.one_end.feeding.Goals as goal

pub returns : goal.returns
returns c = record { feeds_one = feeds_one; keeps_one = keeps_one; most = most_are_fed }
