use Rattle.ssh_model.proofs.WholeEnd.Above.{normal_identified, opened_identified}
use Rattle.ssh_model.proofs.laws.end.identified.Goals as goal

pub returns : goal.returns
returns g c = record {
  normal = λ p side h e sums run alive normal none. normal_identified p side h e sums alive normal none;
  opened = λ p laws h s client channels sums run alive opened none. opened_identified p laws h s client channels sums run alive opened none;
}
