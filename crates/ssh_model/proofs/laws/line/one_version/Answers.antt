use Rattle.ssh_model.proofs.Wire.LineOutcomes.{version_line}
use Rattle.ssh_model.proofs.laws.line.one_version.Goals as goal

pub returns : goal.returns
returns c = λ p a x q b y bytes. version_line p a x q b y bytes
