use Rattle.ssh_model.proofs.Channels.Run.{windows_at}
use Rattle.ssh_model.proofs.laws.session.windows_at_each_end.Goals as goal

pub returns : goal.returns
returns g c = windows_at
