use Rattle.ssh_model.proofs.WholeEnd.Laws.{feed_runs}
use Rattle.ssh_model.proofs.WholeEnd.Units.{pair_turned}
use Rattle.ssh_model.proofs.laws.end.feed_is_one_turn.Goals as goal

pub returns : goal.returns
returns g c = record {
  taken = λ p side h e sums cookie secret items new x. pair_turned p side h e sums cookie secret items new x;
  run = λ p side h e sums r cookie secret items more new t. feed_runs p side h e sums r cookie secret items more new t;
}
