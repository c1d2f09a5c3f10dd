use Rattle.ssh_model.proofs.Sessions.Whole.{beginning_holds}
use Rattle.ssh_model.proofs.laws.session.beginning.Goals as goal

pub returns : goal.returns
returns g c = beginning_holds
