use Rattle.ssh_model.proofs.Sessions.Deaths.{dies_at_unit, dies_at_ask}
use Rattle.ssh_model.proofs.laws.one_end.deaths.Goals as goal

pub returns : goal.returns
returns g c = record { units = dies_at_unit; asks = dies_at_ask }
