use Rattle.ssh_model.proofs.TransportLayer.Rows.{allowed}
use Rattle.ssh_model.proofs.laws.transport.asks_are_summed_up.Goals as goal

pub returns : goal.returns
returns g c = λ p side history s sums alive ask message payload new asks. allowed p side history s sums alive ask message payload new asks
