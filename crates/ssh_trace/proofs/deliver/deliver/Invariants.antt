use Rattle.std.proofs.Common.{◌-◌, ◌≤◌, List, length}
use Rattle.ssh_model.specs.OneEpoch.History.{Item}
use Rattle.ssh_trace.specs.EpochEnd.{EndSums, SameKeys, left_of}
use Rattle.ssh_trace.proofs.Turning.{Going}
use Rattle.ssh_trace.proofs.deliver.deliver.Given as goal

abbrev pub invariant-loop-at : goal.invariant-loop-at
invariant-loop-at l = record {
  within : l.at ≤ length l.piece;
  keys : SameKeys l.fn.end l.end;
  going : (h : List Item) → EndSums h (left_of l.fn.end) l.fn.end → Going l.fn.end.taking_key l.side l.piece l.at h l.fn.end l.end l.fn.log.items l.log.items;
}

abbrev pub decreases-loop-at : goal.decreases-loop-at
decreases-loop-at l = length l.piece - l.at
