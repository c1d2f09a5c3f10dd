use Rattle.ssh_model.proofs.Channels.Whole.{data_begins}
use Rattle.ssh_model.proofs.laws.channel.data.Goals as goal

pub returns : goal.returns
returns c = data_begins
