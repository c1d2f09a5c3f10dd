use Rattle.ssh_model.proofs.Channels.Run.{windows_hold}
use Rattle.ssh_model.proofs.laws.session.windows.Goals as goal

pub returns : goal.returns
returns g c = windows_hold
