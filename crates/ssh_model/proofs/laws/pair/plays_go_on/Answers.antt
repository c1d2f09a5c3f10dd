use Rattle.ssh_model.proofs.WholeEnd.Pair.{plays_then}
use Rattle.ssh_model.proofs.laws.pair.plays_go_on.Goals as goal

pub returns : goal.returns
returns g c = λ p w between next events event more on. plays_then p w between next events event more on
