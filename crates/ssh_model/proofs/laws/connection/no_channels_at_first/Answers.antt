use Rattle.ssh_model.proofs.Channels.Elsewhere.{starts}
use Rattle.ssh_model.proofs.laws.connection.no_channels_at_first.Goals as goal

pub returns : goal.returns
returns c = starts
