use Rattle.ssh_model.proofs.WholeEnd.Units.{end_opened}
use Rattle.ssh_model.specs.Protocol.Sessions.Turns.{EndRun.start}
use Rattle.ssh_model.proofs.laws.end.openings.Goals as goal

pub returns : goal.returns
returns g c = record {
  opened = λ p side cookie secret payload more m x. end_opened p side cookie secret payload more m x;
  run = λ p side items bytes e x. start x.opening;
}
