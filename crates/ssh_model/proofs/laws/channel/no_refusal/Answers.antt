use Rattle.ssh_model.proofs.Channels.Whole.{welcome}
use Rattle.ssh_model.proofs.laws.channel.no_refusal.Goals as goal

pub returns : goal.returns
returns c = welcome
