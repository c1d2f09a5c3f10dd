use Rattle.ssh_model.proofs.TransportLayer.Rows.{ended}
use Rattle.ssh_model.proofs.laws.transport.exchanges.Goals as goal

pub returns : goal.returns
returns g c = λ p side history s sums alive chosen payload message last announced completed new completes. ended p side history s sums alive chosen payload message last announced completed new completes
