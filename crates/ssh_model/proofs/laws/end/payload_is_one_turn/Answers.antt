use Rattle.ssh_model.proofs.WholeEnd.Ending.{payload_turned}
use Rattle.ssh_model.proofs.laws.end.payload_is_one_turn.Goals as goal

pub returns : goal.returns
returns g c = λ p side h e sums alive payload items more new x. payload_turned p side h e sums alive payload items more new x
