use Rattle.ssh_model.proofs.KeyExchange.Choices.{agreement_holds}
use Rattle.ssh_model.proofs.laws.session.agreement.Goals as goal

pub returns : goal.returns
returns g c = agreement_holds
