use Rattle.ssh_model.proofs.Example.Bounded.{has_parts}
use Rattle.ssh_model.proofs.laws.quiet.lawful_parts.Goals as goal

pub returns : goal.returns
returns c = has_parts
