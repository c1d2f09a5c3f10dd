use Rattle.ssh_model.proofs.TransportLayer.Rows.{accepted}
use Rattle.ssh_model.proofs.laws.transport.messages.Goals as goal

pub returns : goal.returns
returns g c = λ p side history s sums alive payload message answered new takes. accepted p side history s sums alive payload message answered new takes
