use Rattle.ssh_model.proofs.Channels.SinceOpen.{channels_since_open}
use Rattle.ssh_model.proofs.laws.channel.channels_since_open.Goals as goal

pub returns : goal.returns
returns c = channels_since_open
