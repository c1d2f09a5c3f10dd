use Rattle.ssh_model.proofs.Channels.End.{windows_here}
use Rattle.ssh_model.proofs.laws.channel.windows_here.Goals as goal

pub returns : goal.returns
returns c = windows_here
