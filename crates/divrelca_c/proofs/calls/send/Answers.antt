use Rattle.std.proofs.Common.{Err, rules, ℕ}
use Rattle.divrelca_c.proofs.Padding.{refused_by}
use Rattle.divrelca_c.proofs.calls.send.Goals as goal

pub returns-in-Err : goal.returns-in-Err
returns-in-Err g c = record {
  given = Err c.in-Err.fault;
  sends = search rules;
  code_is = search rules;
  count_is = search rules;
  padded = search rules;
  chains = refused_by ℕ c.in-Err.fault c.in-Err.ensures.chains _ (search rules);
}
