use Rattle.ssh_model.proofs.WholeEnd.Below.{ask_died, unit_died}
use Rattle.ssh_model.proofs.laws.end.deaths.Goals as goal

pub returns : goal.returns
returns g c = record {
  units = λ p side h unit new t d. unit_died p side h unit new t d;
  asks = λ p side h ask new t d. ask_died p side h ask new t d;
}
