use Rattle.ssh_model.proofs.Sessions.Widened as widened
use Rattle.ssh_model.proofs.laws.supplied.asks_take_none.Goals as goal

pub returns : goal.returns
returns g c = widened.asks_take_none
