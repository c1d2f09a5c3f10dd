use Rattle.ssh_model.proofs.WholeEnd.Above.{checks_above, numbers_above, probing_now, session_now}
use Rattle.ssh_model.proofs.laws.end.layers_above.Goals as goal

pub returns : goal.returns
returns g c = record {
  numbers = λ p side h e sums alive number from normal. numbers_above p side h e sums alive number from normal;
  refused = λ p side h e sums alive message payload reads. checks_above p side h e sums alive message payload reads;
  session = λ p side h e sums alive normal. session_now p side h e sums alive normal;
  probes = λ p side h e sums alive. probing_now p side h e sums alive;
}
