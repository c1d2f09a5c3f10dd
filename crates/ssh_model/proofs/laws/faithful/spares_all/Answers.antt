use Rattle.ssh_model.proofs.Faithful.Carried.{bytes_faithful, spares_all}
use Rattle.ssh_model.proofs.laws.faithful.spares_all.Goals as goal

pub returns : goal.returns
returns g c = record { faithful = bytes_faithful; spared = spares_all }
