use Rattle.ssh_model.proofs.WholeEnd.Below.{exchange_ended, replies_given}
use Rattle.ssh_model.proofs.laws.end.exchange_ends.Goals as goal

pub returns : goal.returns
returns g c = record {
  ended = λ p side h e sums alive message payload position items more later s owed n by lives o none w. exchange_ended p side h e sums alive message payload position items more later s owed n by lives o none w;
  given = λ p side h e sums alive owed n o none. replies_given p side h e sums alive owed n o none;
}
