use Rattle.ssh_model.proofs.Sessions.TurnLaws.{end_numbers}
use Rattle.ssh_model.proofs.Sessions.EndRuns.{end_run}
use Rattle.ssh_model.proofs.laws.turn.numbers_are_fresh.Goals as goal

pub returns : goal.returns
returns g c = λ p run r side. end_numbers p side _ (end_run p run r side)
