use Rattle.ssh_model.proofs.TransportLayer.Ending as ending
use Rattle.ssh_model.proofs.laws.transport.exchange_ends.Goals as goal

pub returns-clause-ended : goal.returns-clause-ended
returns-clause-ended g c = λ p side history s sums alive chosen message payload last announced completed new early late reads awaited fine completes first second. ending.ended_by p side history s sums alive chosen message payload last announced completed new early late reads awaited fine completes first second

pub returns-clause-closed : goal.returns-clause-closed
returns-clause-closed g c = λ p side history message payload position items owed more late new ended replies out. ending.closed p side history message payload position items owed more late new ended replies out
