use Rattle.ssh_model.proofs.KeyExchange.OneChoice.{marker_chooses_nothing, marker_there}
use Rattle.ssh_model.proofs.laws.choice.markers.Goals as goal

pub returns-clause-there : goal.returns-clause-there
returns-clause-there c = marker_there

pub returns-clause-chooses_nothing : goal.returns-clause-chooses_nothing
returns-clause-chooses_nothing c = marker_chooses_nothing
