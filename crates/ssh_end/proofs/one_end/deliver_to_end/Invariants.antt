use Rattle.std.proofs.Common.{◌≡◌, ◌-◌, ◌≤◌, length, take}
use Rattle.ssh_model.specs.Protocol.Side.{peer}
use Rattle.ssh_end.specs.TwoEnds.Recorded.{recorded_sent}
use Rattle.ssh_end.specs.TwoEnds.Padding.{PadsOn}
use Rattle.ssh_end.specs.TwoEnds.Playing.{Advances}
use Rattle.ssh_end.proofs.one_end.deliver_to_end.Given as goal

abbrev pub invariant-loop-at : goal.invariant-loop-at
invariant-loop-at g l = record {
  within : l.at ≤ length l.piece;
  padded : PadsOn g.R.Exchange.Sealing.Sealing.crypto g.R.Exchange.Filler.Filler.gives g.R.Exchange.Role.SIDE l.fn.end l.fn.log.items l.fn.out.items l.end l.log.items l.out.items;
  alone : recorded_sent (peer g.R.Exchange.Role.SIDE) l.log.items ≡ recorded_sent (peer g.R.Exchange.Role.SIDE) l.fn.log.items;
  role : l.end.role ≡ l.fn.end.role;
  going : Advances g.R.EndRole g.R.Exchange.Role.SIDE l.fn.end (take l.at l.piece) l.end l.fn.log.items l.log.items l.fn.out.items l.out.items;
}

abbrev pub decreases-loop-at : goal.decreases-loop-at
decreases-loop-at g l = length l.piece - l.at
