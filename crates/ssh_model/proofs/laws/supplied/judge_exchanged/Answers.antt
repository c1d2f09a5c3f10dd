use Rattle.ssh_model.proofs.Sessions.Judged.{agree_on_judged}
use Rattle.ssh_model.proofs.laws.supplied.judge_exchanged.Goals as goal

pub returns : goal.returns
returns g c = agree_on_judged
