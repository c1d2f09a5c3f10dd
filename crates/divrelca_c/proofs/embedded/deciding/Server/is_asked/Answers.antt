use Rattle.std.proofs.Common.{refl, rules}
use Rattle.divrelca_c.proofs.embedded.deciding.Server.is_asked.Goals as goal

pub returns-clause-wanted : goal.returns-clause-wanted
returns-clause-wanted c = λ e. record {
  looks = search rules;
  wanted = e;
  asks = c.is_undecided-is_wanted.ensures.undecided e;
  same = refl;
}

pub returns-clause-settled : goal.returns-clause-settled
returns-clause-settled c = λ e looks. c.is_undecided-is_wanted.ensures.settled e
