use Rattle.ssh_model.proofs.Sessions.EndRuns.{part_other, part_own}
use Rattle.ssh_model.proofs.laws.pair.items_stay_on_one_side.Goals as goal

pub returns : goal.returns
returns c = record {
  here = λ side items run. part_own side items run;
  there = λ side items run. part_other side items run;
}
