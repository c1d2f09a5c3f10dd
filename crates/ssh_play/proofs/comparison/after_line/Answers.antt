use Rattle.ssh_play.proofs.Fronts.{no_line}
use Rattle.ssh_play.proofs.comparison.after_line.Goals as goal

pub returns-clause-none : goal.returns-clause-none
returns-clause-none c = no_line c.args.text.now c.args.line.now c.in-Some.rest.now c.after-2.result c.in-Some.ensures.found c.after-2.ensures.none
