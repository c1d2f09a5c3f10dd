use Rattle.ssh_model.proofs.WholeEnd.Below.{line_over, other_taken, packet_over, unit_opened, version_taken}
use Rattle.ssh_model.proofs.laws.end.unit_turns.Goals as goal

pub returns : goal.returns
returns g c = record {
  version = λ p side h e sums alive unit line s u t. version_taken p side h e sums alive unit line s u t;
  other = λ p side h e sums alive unit line s u t. other_taken p side h e sums alive unit line s u t;
  refused_line = λ p side h e sums alive unit why items more new u r d. line_over p side h e sums alive unit why items more new u r d;
  refused_packet = λ p side h e sums alive unit why items more new u r d. packet_over p side h e sums alive unit why items more new u r d;
  opened = λ p side h e sums alive unit payload items more new u t. unit_opened p side h e sums alive unit payload items more new u t;
}
