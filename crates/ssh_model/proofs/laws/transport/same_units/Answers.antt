use Rattle.ssh_model.proofs.TransportLayer.Turning as turning
use Rattle.ssh_model.proofs.laws.transport.same_units.Goals as goal

pub returns-clause-refused : goal.returns-clause-refused
returns-clause-refused g c = λ p side history s sums alive refusal sent more new says dead. turning.unit_refused p side history s sums alive refusal sent more new says dead
