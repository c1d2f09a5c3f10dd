use Rattle.ssh_model.proofs.Sessions.Fixed.{unit_fixed, ask_fixed, feed_fixed}
use Rattle.ssh_model.proofs.laws.turn.turns_are_fixed.Goals as goal

pub returns : goal.returns
returns g c = record {
  units = λ p laws side h unit items others a b. unit_fixed p side h laws unit items others a b;
  asks = λ p side h ask items others a b. ask_fixed p side h ask items others a b;
  feeds = feed_fixed;
}
