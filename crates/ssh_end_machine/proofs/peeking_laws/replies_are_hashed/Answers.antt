use Rattle.std.proofs.Common.{◌≡◌, ap, subst}
use Rattle.ssh_model.specs.Protocol.Sessions.Parties.{Agreement}
use Rattle.ssh_model.specs.Protocol.Sessions.Transport.{is_point}
use Rattle.ssh_model.specs.State.TransportLayer.Kept.{is_good_point}
use Rattle.ssh_model.specs.declared.side.Side.TheVariants.{Client}
use Rattle.ssh_transport_machine.specs.Replies.{TrustingParts}
use Rattle.ssh_end_machine.proofs.Hashing.{judged_over, points_same}
use Rattle.ssh_end_machine.proofs.peeking_laws.replies_are_hashed.Goals as goal

pub returns : goal.returns
returns g c = record {
  judged = λ p crypto agreement trusts user history machine layers at payload hash k_s q_s signature x read.
      judged_over p history machine.kept at.sums.transport x.alive x.phase
      (λ given. c.parts_exchanged.ensures.transport_sums p given Client history machine.kept at.sums.transport)
      (λ q sums message chosen. c.checks.ensures q Client history machine.kept sums x.alive message chosen)
      (λ m n bytes. c.one_message.ensures _ m n bytes) agreement
      (ap (λ (parts : TrustingParts). parts.agreement) at.parts_are.exchange.parts_are) payload hash k_s q_s signature x.is read;
  points = λ p crypto agreement trusts user history machine layers at alive awaited point.
      subst (λ (a : Agreement). is_point p Client history point ≡ is_good_point a machine.kept point)
      (ap (λ (parts : TrustingParts). parts.agreement) at.parts_are.exchange.parts_are)
      (points_same p history machine.kept at.sums.transport alive awaited
      (λ given. c.parts_exchanged.ensures.transport_sums p given Client history machine.kept at.sums.transport)
      (λ q sums message chosen. c.checks.ensures q Client history machine.kept sums alive message chosen) point);
}
