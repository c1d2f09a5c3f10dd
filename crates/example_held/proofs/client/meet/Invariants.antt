use Rattle.std.proofs.Common.{◌-◌, ◌≤◌, List, false, length, take}
use Rattle.ssh_model.specs.Protocol.Sessions.Items.{Item}
use Rattle.ssh_model.specs.Protocol.Sessions.Parties.{Parties}
use Rattle.ssh_held.specs.HeldHosts.{ClientHeldAt}
use Rattle.ssh_held.specs.declared.host_book.HostVerdict.{HostVerdict}
use Rattle.example_held.specs.LookUps.{SaidOn}
use Rattle.example_held.specs.Meeting.{MetBy}
use Rattle.example_held.proofs.client.meet.Given as goal

abbrev pub invariant-loop-at : goal.invariant-loop-at
invariant-loop-at g l = record {
  within : l.at ≤ length l.bytes;
  said : SaidOn (λ old (verdict : HostVerdict) new. g.L.LookUp.answers old verdict.asked verdict.accepts new)
      l.fn.client.end.role.exchange.host_trust.list.items l.client.end.role.exchange.host_trust.list.items l.fn.look_up l.look_up;
  going : (p : Parties g.row.P-Sealing-Key.Denot) (history : List Item) →
      ClientHeldAt g.P.Sealing.Sealing.crypto g.P.Agreement.Agreement.does g.S.KnowsAlgorithms.knows g.S.HostTrust.judged g.U.UserSigner.signature_of p
      l.fn.client.end
      history → MetBy g.P.Sealing.Sealing.crypto g.P.Agreement.Agreement.does g.S.KnowsAlgorithms.knows g.S.HostTrust.judged g.U.UserSigner.signature_of p history
      l.fn.client.end (take l.at l.bytes) false l.client.end;
}

abbrev pub decreases-loop-at : goal.decreases-loop-at
decreases-loop-at g l = length l.bytes - l.at
