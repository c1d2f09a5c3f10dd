use Rattle.ssh_model.proofs.Channels.Replying.{accepted}
use Rattle.ssh_model.proofs.laws.connection.messages.Goals as goal

pub returns-clause-accepted : goal.returns-clause-accepted
returns-clause-accepted c = accepted
