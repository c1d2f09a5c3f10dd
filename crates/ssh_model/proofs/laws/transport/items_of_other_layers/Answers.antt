use Rattle.ssh_model.proofs.Items as items
use Rattle.ssh_model.proofs.laws.transport.items_of_other_layers.Goals as goal

pub returns-clause-sent : goal.returns-clause-sent
returns-clause-sent g c = λ p side history s channel message payload plain sums. items.plain_sent p side history s channel message payload plain sums

pub returns-clause-taken : goal.returns-clause-taken
returns-clause-taken g c = λ p side history s channel message payload plain sums. items.plain_taken p side history s channel message payload plain sums
