use Rattle.ssh_model.proofs.Sessions.AnswerLaws.{same_answer}
use Rattle.ssh_model.proofs.laws.turn.answers_are_fixed.Goals as goal

pub returns : goal.returns
returns g c = same_answer
