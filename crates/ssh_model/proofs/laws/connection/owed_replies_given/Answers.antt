use Rattle.ssh_model.proofs.Channels.Unblocking.{unblocked}
use Rattle.ssh_model.proofs.laws.connection.owed_replies_given.Goals as goal

pub returns-clause-given : goal.returns-clause-given
returns-clause-given c = unblocked
