use Rattle.ssh_model.proofs.Example.Parties.{toy_is_lawful, toy_is_good}
use Rattle.ssh_model.proofs.examples.toy_parts.Goals as goal

pub returns : goal.returns
returns c = record { lawful = toy_is_lawful; good = toy_is_good }
