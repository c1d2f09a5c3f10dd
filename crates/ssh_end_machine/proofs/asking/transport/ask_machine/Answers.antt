use Rattle.ssh_end_machine.proofs.Following.{asked_reads}
use Rattle.ssh_end_machine.proofs.asking.transport.ask_machine.Goals as goal

pub returns-in-Ok-Answered-clause-reading : goal.returns-in-Ok-Answered-clause-reading
returns-in-Ok-Answered-clause-reading g c = λ alive. asked_reads g.X.Sealing.Sealing.crypto c.args.transport.now.machine c.ask.new.self.machine _ alive c.args.ask c.in-Ok-Answered.answer (rw c.in-Ok-Answered.field-0-is at c.in-Ok-Answered.ensures.asked)
