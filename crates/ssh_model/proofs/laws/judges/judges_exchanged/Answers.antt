use Rattle.ssh_model.proofs.Sessions.Judged.{judged_run, judged_sums, judged_laws, judge_is}
use Rattle.ssh_model.proofs.laws.judges.judges_exchanged.Goals as goal

pub returns : goal.returns
returns g c = record { runs = judged_run; sums = judged_sums; lawful = judged_laws; judge = judge_is }
