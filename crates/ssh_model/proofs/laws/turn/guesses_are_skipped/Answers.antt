use Rattle.ssh_model.proofs.Sessions.TurnLaws.{skipped}
use Rattle.ssh_model.proofs.laws.turn.guesses_are_skipped.Goals as goal

pub returns : goal.returns
returns g c = skipped
