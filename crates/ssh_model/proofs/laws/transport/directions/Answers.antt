use Rattle.ssh_model.proofs.TransportLayer.Steps.{either_way}
use Rattle.ssh_model.proofs.laws.transport.directions.Goals as goal

pub returns-clause-first_epoch : goal.returns-clause-first_epoch
returns-clause-first_epoch g c = λ strict other l direction none s. either_way strict other l direction none s
