use Rattle.ssh_model.proofs.TransportLayer.Turning as turning
use Rattle.ssh_model.proofs.laws.transport.payload_is_one_turn.Goals as goal

pub returns-clause-answered : goal.returns-clause-answered
returns-clause-answered g c = λ p side history s sums alive chosen message payload answered new more reads awaited fine takes puts. turning.turned p side history s sums alive chosen message payload answered new more reads awaited fine takes puts

pub returns-clause-skipped : goal.returns-clause-skipped
returns-clause-skipped g c = λ p side history s sums alive payload below taken here. turning.skipped p side history s sums alive payload below taken here

pub returns-clause-disconnected : goal.returns-clause-disconnected
returns-clause-disconnected g c = λ p side history s sums alive reason description language payload new reads dead. turning.disconnected p side history s sums alive reason description language payload new reads dead

pub returns-clause-refused : goal.returns-clause-refused
returns-clause-refused g c = λ p side history s sums alive payload refusal sent more new why says dead. turning.refused p side history s sums alive payload refusal sent more new why says dead

pub returns-clause-spent : goal.returns-clause-spent
returns-clause-spent g c = λ p side history s sums alive chosen message payload answered new dead reads awaited fine takes encoded some few died. turning.spent p side history s sums alive chosen message payload answered new dead reads awaited fine takes encoded some few died
