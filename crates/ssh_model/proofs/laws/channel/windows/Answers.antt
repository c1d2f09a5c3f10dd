use Rattle.ssh_model.proofs.Channels.Whole.{within_holds}
use Rattle.ssh_model.proofs.laws.channel.windows.Goals as goal

pub returns : goal.returns
returns c = within_holds
