use Rattle.std.proofs.Common.{◌++◌}
use Rattle.ssh_model.specs.Laws.Verdicts.{judged_by}
use Rattle.ssh_held.specs.Book.{judge_by}
use Rattle.ssh_held.proofs.Books.{agree_on_all, all_decided}
use Rattle.ssh_held.proofs.laws.verdicts_added.Goals as goal

pub returns : goal.returns
returns g c = record {
  agrees = λ p signatures verdicts more h decided. c.judge_exchanged.ensures (judged_by (judge_by signatures verdicts) p)
      (judge_by signatures (verdicts ++ more)) h (agree_on_all signatures verdicts more p.server.methods h decided);
  decided = all_decided;
}
