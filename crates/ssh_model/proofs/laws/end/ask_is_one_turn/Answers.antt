use Rattle.ssh_model.proofs.WholeEnd.Asks.{asks_refused}
use Rattle.ssh_model.proofs.WholeEnd.Laws.{ask_runs, asked}
use Rattle.ssh_model.proofs.laws.end.ask_is_one_turn.Goals as goal

pub returns : goal.returns
returns g c = record {
  refused = λ p side h e sums alive ask. asks_refused p side h e sums alive ask;
  taken = λ p side h e sums ask items more new x. asked p side h e sums ask items more new x;
  run = λ p side h e sums r ask items more new t. ask_runs p side h e sums r ask items more new t;
}
