use Rattle.std.proofs.Common.{arith}
use Rattle.ssh_play.proofs.Fronts.{differs_at_end, differs_here, one_more}
use Rattle.ssh_play.proofs.comparison.compare.Goals as goal

pub loop-index-preserved : goal.loop-index-preserved
loop-index-preserved c = one_more c.args.expected.now c.loop-index.index c.index-expected-index.result c.args.lines.now c.loop-index.rest.now c.as_bytes.result.now c.in-Some.after.now c.index-expected-index.is c.loop-index-test.true c.as_bytes.ensures.value c.loop-index.invariant c.in-Some.ensures.found

pub returns-in_default : goal.returns-in_default
returns-in_default c = differs_here c.args.lines.now c.args.expected.now c.loop-index.index c.index-expected-index.result c.loop-index.rest.now c.as_bytes.result.now c.index-expected-index.is c.loop-index-test.true c.as_bytes.ensures.value c.loop-index.invariant c.in_default.ensures.none

pub returns-else-is_empty : goal.returns-else-is_empty
returns-else-is_empty c = differs_at_end c.args.lines.now c.args.expected.now c.loop-index.index c.loop-index.rest.now (omega arith) c.loop-index.invariant c.if-is_empty.ensures
