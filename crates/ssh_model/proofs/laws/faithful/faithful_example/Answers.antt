use Rattle.ssh_model.proofs.Example.Faithful.{plain_is_not_faithful, toy_is_faithful, toy_kills_nobody}
use Rattle.ssh_model.proofs.laws.faithful.faithful_example.Goals as goal

pub returns : goal.returns
returns c = record { faithful = toy_is_faithful; kills_nobody = toy_kills_nobody; lossy = plain_is_not_faithful }
