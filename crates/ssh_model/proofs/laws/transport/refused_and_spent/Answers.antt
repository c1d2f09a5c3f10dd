use Rattle.ssh_model.proofs.TransportLayer.Ending as ending
use Rattle.ssh_model.proofs.laws.transport.refused_and_spent.Goals as goal

pub returns-clause-ask_refused : goal.returns-clause-ask_refused
returns-clause-ask_refused g c = λ p side history s sums alive ask refusal known why. ending.ask_refused p side history s sums alive ask refusal known why

pub returns-clause-ask_spent : goal.returns-clause-ask_spent
returns-clause-ask_spent g c = λ p side history s sums alive ask message payload new dead fine asks encoded all died. ending.ask_spent p side history s sums alive ask message payload new dead fine asks encoded all died

pub returns-clause-disconnect_spent : goal.returns-clause-disconnect_spent
returns-clause-disconnect_spent g c = λ p side history s sums alive description payload dead fine encoded all died. ending.disconnect_spent p side history s sums alive description payload dead fine encoded all died

pub returns-clause-end_spent : goal.returns-clause-end_spent
returns-clause-end_spent g c = λ p side history s sums alive chosen message payload last announced completed new dead owed reads awaited fine completes encoded replies owed_encoded few died. ending.end_spent p side history s sums alive chosen message payload last announced completed new dead owed reads awaited fine completes encoded replies owed_encoded few died
