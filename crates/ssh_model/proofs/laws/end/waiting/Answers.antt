use Rattle.ssh_model.proofs.WholeEnd.Reading.{line_waits, packet_waits}
use Rattle.ssh_model.proofs.laws.end.waiting.Goals as goal

pub returns : goal.returns
returns g c = record {
  packets = λ p side h s sums alive sealing found bytes b. packet_waits p side h s sums alive sealing found bytes b;
  lines = λ p side h s sums alive sealing found bytes b. line_waits p side h s sums alive sealing found bytes b;
}
