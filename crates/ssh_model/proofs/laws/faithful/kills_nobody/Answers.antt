use Rattle.ssh_model.proofs.Faithful.Whole.{kills_nobody}
use Rattle.ssh_model.proofs.laws.faithful.kills_nobody.Goals as goal

pub returns : goal.returns
returns g c = kills_nobody
