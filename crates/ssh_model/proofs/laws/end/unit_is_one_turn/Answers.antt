use Rattle.ssh_model.proofs.WholeEnd.Laws.{unit_runs}
use Rattle.ssh_model.proofs.WholeEnd.Units.{unit_turned}
use Rattle.ssh_model.proofs.laws.end.unit_is_one_turn.Goals as goal

pub returns : goal.returns
returns g c = record {
  taken = λ p side h e sums alive unit items more new x. unit_turned p side h e sums alive unit items more new x;
  run = λ p side h e sums r alive unit items more new t. unit_runs p side h e sums r alive unit items more new t;
}
