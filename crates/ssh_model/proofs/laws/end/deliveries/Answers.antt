use Rattle.std.proofs.Common.{refl}
use Rattle.ssh_model.proofs.WholeEnd.Reading.{after_unit, dead_now, delivered_to, end_delivered, waits_now}
use Rattle.ssh_model.proofs.laws.end.deliveries.Goals as goal

pub returns : goal.returns
returns g c = record {
  unit = λ p side h e sums alive unit items more new t following last rest d. after_unit p side h e sums alive unit items more new t following last rest d;
  waits = λ p side h e sums alive bytes w. waits_now p side h e sums alive bytes w;
  dead = λ p side h e sums d bytes. dead_now p side h e sums d bytes;
  run = λ p side h last bytes rest d r. end_delivered p side h last bytes rest d r;
  session = λ p side run last bytes rest d. delivered_to p side run _ last bytes rest refl d;
}
