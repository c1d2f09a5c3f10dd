use Rattle.std.proofs.Common.{◌-◌, ◌≤◌, List, false, length, take}
use Rattle.ssh_model.specs.Protocol.Sessions.Items.{Item}
use Rattle.ssh_model.specs.Protocol.Sessions.Parties.{Parties}
use Rattle.ssh_held.specs.Held.{HeldAt, signatures_by}
use Rattle.ssh_held.specs.declared.book.Verdict.{Verdict}
use Rattle.example_held.specs.LookUps.{SaidOn}
use Rattle.example_held.specs.Serving.{ServedTo}
use Rattle.example_held.proofs.server.serve.Given as goal

abbrev pub invariant-loop-at : goal.invariant-loop-at
invariant-loop-at g l = record {
  within : l.at ≤ length l.bytes;
  said : SaidOn (λ old (verdict : Verdict) new. g.L.LookUp.answers old verdict.asked verdict.accepts new)
      l.fn.server.end.role.own.judge.list.items l.server.end.role.own.judge.list.items l.fn.look_up l.look_up;
  going : (p : Parties g.row.P-Sealing-Key.Denot) (history : List Item) →
      HeldAt g.P.Sealing.Sealing.crypto g.P.Agreement.Agreement.does g.P.HostSigner.HostSigner.keys
      (signatures_by g.S.UserJudge.verdicts g.S.KnowsAlgorithms.knows) p l.fn.server.end
      history → ServedTo g.P.Sealing.Sealing.crypto g.P.Agreement.Agreement.does g.P.HostSigner.HostSigner.keys
      (signatures_by g.S.UserJudge.verdicts g.S.KnowsAlgorithms.knows) p
      history
      l.fn.server.end (take l.at l.bytes) false l.server.end;
}

abbrev pub decreases-loop-at : goal.decreases-loop-at
decreases-loop-at g l = length l.bytes - l.at
