use Rattle.std.proofs.Common.{◌∙◌, ap, rules}
use Rattle.divrelca_c.specs.Making.{IsTaken, entry_by}
use Rattle.divrelca_c.proofs.Faults.{faultless_up_to, first_code}
use Rattle.divrelca_c.proofs.UpTo.{all_up_to, map_up_to}
use Rattle.divrelca_c.proofs.making.users_in.Goals as goal

pub loop-user-preserved : goal.loop-user-preserved
loop-user-preserved c =
    let given = c.args.given.now in let below = c.loop-user-test.true in let add = c.in_ok-add_user.ensures in record {
      users = map_up_to entry_by given c.loop-user.user-index _ below c.loop-user.invariant.users add.added;
      taken = all_up_to IsTaken given c.loop-user.user-index _ below c.loop-user.invariant.taken add.taken;
      faultless = faultless_up_to given c.loop-user.user-index _ below c.loop-user.invariant.faultless add.faultless;
      book = ap (λ b. b.list.items) add.book ∙ c.loop-user.invariant.book;
    }

pub returns-in_err-add_user-clause-refused : goal.returns-in_err-add_user-clause-refused
returns-in_err-add_user-clause-refused c =
    let code = first_code c.args.given.now c.loop-user.user-index _ _ c.loop-user-test.true c.loop-user.invariant.faultless
    c.in_err-add_user.ensures.refused in search (rules)
