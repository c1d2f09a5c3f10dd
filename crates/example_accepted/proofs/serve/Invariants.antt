use Rattle.std.proofs.Common.{◌-◌, ◌≤◌, List, length, take}
use Rattle.ssh_model.specs.Protocol.Sessions.Items.{Item}
use Rattle.ssh_model.specs.Protocol.Sessions.Parties.{Parties}
use Rattle.example_accepted.specs.Serving.{Serves}
use Rattle.example_accepted.proofs.serve.Given as goal

abbrev pub invariant-loop-at : goal.invariant-loop-at
invariant-loop-at g l = record {
  within : l.at ≤ length l.bytes;
  going : (p : Parties g.row.P-Sealing-Key.Denot) (history : List Item) → Serves g.P.Sealing.Sealing.crypto g.P.Agreement.Agreement.does g.P.HostSigner.HostSigner.keys g.U.UserJudge.verdicts p history l.fn.server (take l.at l.bytes) l.is_in l.server;
}

abbrev pub decreases-loop-at : goal.decreases-loop-at
decreases-loop-at g l = length l.bytes - l.at
