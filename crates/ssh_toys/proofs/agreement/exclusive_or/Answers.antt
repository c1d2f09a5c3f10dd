use Rattle.std.proofs.Common.{rules}
use Rattle.ssh_toys.proofs.Sums.{one_more}
use Rattle.ssh_toys.proofs.agreement.exclusive_or.Goals as goal

pub loop-i-preserved : goal.loop-i-preserved
loop-i-preserved c =
    let before = c.loop-i.invariant in
    record {
      whole = search rules;
      done = one_more c.loop-i.i c.args.one.now c.args.other.now c.loop-i.bytes c.told-one c.told-other before.whole c.loop-i-test.true before.done;
    }
