use Rattle.ssh_end_machine.proofs.LayerLaws.{accepts, refuses}
use Rattle.ssh_end_machine.proofs.layers.laws.layers_in_sessions.Goals as goal

pub returns-clause-taken : goal.returns-clause-taken
returns-clause-taken g c = accepts

pub returns-clause-refused : goal.returns-clause-refused
returns-clause-refused g c = refuses
