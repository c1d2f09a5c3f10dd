use Rattle.divrelca.proofs.Stepping.{asked_after}
use Rattle.divrelca.proofs.end.Ssh_endEndEnd.ask_step.Goals as goal

pub returns-clause-out : goal.returns-clause-out
returns-clause-out g c = asked_after g.R.Exchange.Sealing.Sealing.crypto g.R.Exchange.Filler.Filler.gives c.args.self.now
    c.ask_step.new.self c.args.out.now.items c.ask_step.new.out.items c.ask_step.result c.ask_step.ensures.padded c.ask_step.ensures.out
