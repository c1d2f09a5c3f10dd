use Rattle.divrelca.proofs.Stepping.{stepped, stepped_after}
use Rattle.divrelca.proofs.end.Ssh_endEndEnd.take_step.Goals as goal

pub returns-clause-takes : goal.returns-clause-takes
returns-clause-takes g c =
    let said = c.take_step.ensures in
    stepped g.R.EndRole g.R.Exchange.Role g.R.Exchange.Sealing.Sealing.crypto g.R.Exchange.Filler.Filler.gives c.args.self.now
    c.take_step.new.self c.args.bytes.now c.args.out.now.items c.take_step.new.out.items c.take_step.result
    (record {
      most = said.used;
      progress = said.progress;
      all = said.more;
      shown = said.shown;
      advances = said.advances;
      padded = said.padded;
    })
    (record {
      failed = said.failed;
      dead = said.dead;
      unchanged = said.unchanged;
      needs_memory = said.needs_memory;
      placed = said.placed;
      none = said.none;
      unused = said.unused;
      unsent = said.unsent;
      out = said.out;
    }) said.role

pub returns-clause-out : goal.returns-clause-out
returns-clause-out g c =
    let said = c.take_step.ensures in
    stepped_after g.R.EndRole g.R.Exchange.Role g.R.Exchange.Sealing.Sealing.crypto g.R.Exchange.Filler.Filler.gives c.args.self.now
    c.take_step.new.self c.args.bytes.now c.args.out.now.items c.take_step.new.out.items c.take_step.result said.padded said.out
