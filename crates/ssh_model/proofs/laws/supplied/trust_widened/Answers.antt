use Rattle.ssh_model.proofs.Sessions.Widened.{widened}
use Rattle.ssh_model.proofs.laws.supplied.trust_widened.Goals as goal

pub returns : goal.returns
returns g c = λ p trusts wider side h run alive. widened p trusts wider side h run alive
