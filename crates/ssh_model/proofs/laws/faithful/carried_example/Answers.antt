use Rattle.ssh_model.proofs.Example.Faithful.{line_carried, not_moved}
use Rattle.ssh_model.proofs.laws.faithful.carried_example.Goals as goal

pub returns : goal.returns
returns c = record { line = line_carried; not_moved = not_moved }
