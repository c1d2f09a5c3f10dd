use Rattle.std.proofs.lemmas.List.{map-set}
use Rattle.divrelca_c.specs.Embedded.Flows.{flow_of}
use Rattle.divrelca_c.proofs.embedded.flows.Flows.set.Goals as goal

pub returns-then-has : goal.returns-then-has
returns-then-has c = map-set flow_of c.args.self.now.list.items c.args.channel c.args.flow
