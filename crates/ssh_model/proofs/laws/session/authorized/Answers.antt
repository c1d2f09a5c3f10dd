use Rattle.ssh_model.proofs.Sessions.Accepted.{authorized_holds}
use Rattle.ssh_model.proofs.laws.session.authorized.Goals as goal

pub returns : goal.returns
returns g c = authorized_holds
