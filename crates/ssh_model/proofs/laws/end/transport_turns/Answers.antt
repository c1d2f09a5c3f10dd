use Rattle.ssh_model.proofs.WholeEnd.Below.{ask_below, ask_over, payload_below, payload_over}
use Rattle.ssh_model.proofs.laws.end.transport_turns.Goals as goal

pub returns : goal.returns
returns g c = record {
  payload = λ p side h e sums alive payload items more s n t. payload_below p side h e sums alive payload items more s n t;
  payload_over = λ p side h e sums alive payload items more new t d. payload_over p side h e sums alive payload items more new t d;
  ask = λ p side h e sums alive ask items more s n t. ask_below p side h e sums alive ask items more s n t;
  ask_over = λ p side h e sums alive ask items more new t d. ask_over p side h e sums alive ask items more new t d;
}
