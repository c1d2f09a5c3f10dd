use Rattle.ssh_model.proofs.WholeEnd.Reading.{run_dead, run_unit, run_waits}
use Rattle.ssh_model.proofs.laws.pair.deliveries.Goals as goal

pub returns : goal.returns
returns g c = record {
  unit = λ p side run e sums alive unit items more new t following last rest d. run_unit p side run e sums alive unit items more new t following last rest d;
  waits = λ p side run e sums alive bytes w. run_waits p side run e sums alive bytes w;
  dead = λ p side run e sums d bytes. run_dead p side run e sums d bytes;
}
