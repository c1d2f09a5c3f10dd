use Rattle.ssh_end_machine.proofs.AsksTransport.{answered, failed}
use Rattle.ssh_end_machine.proofs.EndsAlone.{ends_step}
use Rattle.ssh_end_machine.proofs.asking.transport.ask_transport.Goals as goal

pub returns-in-Ok-clause-row : goal.returns-in-Ok-clause-row
returns-in-Ok-clause-row g c = answered _ c.args.transport.now.machine c.ask_machine.new.transport.machine _ c.args.ask _ c.in-Ok.ensures.asked c.outcome_step.result c.outcome_step.ensures

pub returns-in-Err-clause-row : goal.returns-in-Err-clause-row
returns-in-Err-clause-row g c = failed _ c.args.transport.now.machine c.ask_machine.new.transport.machine _ c.args.ask _ c.in-Err.ensures.refused

pub returns-in-Ok-clause-over : goal.returns-in-Ok-clause-over
returns-in-Ok-clause-over g c = ends_step c.args.transport.now.machine c.ask_machine.new.transport.machine c.args.ask c.in-Ok.answer c.outcome_step.result c.outcome_step.ensures c.in-Ok.ensures.over
