use Rattle.ssh_model.proofs.Sessions.Deaths.{asked_when_spent}
use Rattle.ssh_model.proofs.laws.one_end.asks_when_spent.Goals as goal

pub returns : goal.returns
returns g c = asked_when_spent
