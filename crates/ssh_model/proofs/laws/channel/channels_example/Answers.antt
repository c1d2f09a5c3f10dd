use Rattle.ssh_model.proofs.Channels.Example.{example}
use Rattle.ssh_model.proofs.laws.channel.channels_example.Goals as goal

pub returns : goal.returns
returns c = example
