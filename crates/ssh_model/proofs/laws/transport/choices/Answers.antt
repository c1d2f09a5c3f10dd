use Rattle.ssh_model.proofs.TransportLayer.Underway.{choices_are}
use Rattle.ssh_model.proofs.laws.transport.choices.Goals as goal

pub returns : goal.returns
returns g c = choices_are
