use Rattle.ssh_model.proofs.Sessions.Signing.{settled_exchanged}
use Rattle.ssh_model.proofs.laws.supplied.signer_exchanged.Goals as goal

pub returns : goal.returns
returns g c = λ p signature settled h agrees y. settled_exchanged p settled signature agrees h y
