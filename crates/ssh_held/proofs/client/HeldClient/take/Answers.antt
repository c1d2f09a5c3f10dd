use Rattle.std.proofs.Common.{refl, subst}
use Rattle.ssh_held.specs.HeldHosts.{IsHostAnswered, trusting_book}
use Rattle.ssh_held.specs.declared.host_book.HostVerdicts.{HostVerdicts}
use Rattle.ssh_held.proofs.HostGoing.{host_failed, host_went_on}
use Rattle.ssh_held.proofs.client.HeldClient.take.Goals as goal

pub returns-in-Err-clause-placed : goal.returns-in-Err-clause-placed
returns-in-Err-clause-placed g c = λ p history at.
    host_failed g.P.Sealing.Sealing.crypto g.P.Agreement.Agreement.does g.S.KnowsAlgorithms.knows g.S.HostTrust.judged g.U.UserSigner.signature_of p history
    c.args.self.now.end c.take_step.new.self c.args.bytes.now c.take_step.ensures.role c.in-Err.fault
    (c.in-Err.ensures.placed (trusting_book g.S.KnowsAlgorithms.knows g.S.HostTrust.judged c.args.self.now.end.role.exchange.host_trust p) history at)

pub returns-in-Ok-clause-placed : goal.returns-in-Ok-clause-placed
returns-in-Ok-clause-placed g c = λ p history at.
    host_went_on g.P.Sealing.Sealing.crypto g.P.Agreement.Agreement.does g.S.KnowsAlgorithms.knows g.S.HostTrust.judged g.U.UserSigner.signature_of p history
    c.args.self.now.end c.take_step.new.self c.args.bytes.now c.in-Ok.used c.take_step.ensures.role _
    (c.in-Ok.ensures.advances.placed (trusting_book g.S.KnowsAlgorithms.knows g.S.HostTrust.judged c.args.self.now.end.role.exchange.host_trust p) history at)

pub returns-in-Ok-clause-answered : goal.returns-in-Ok-clause-answered
returns-in-Ok-clause-answered g c =
    subst (λ (b : HostVerdicts g.row.S.Denot). IsHostAnswered g.P.Sealing.Sealing.crypto
    (g.P.Agreement.Agreement.does c.args.self.now.end.role.exchange.agreement) (g.S.KnowsAlgorithms.knows b.signatures)
    c.args.self.now.end.machine b.list.items
    c.args.bytes.now) c.host_trust.ensures (c.if-look.ensures.answered refl)

pub returns-in-Err-clause-answered : goal.returns-in-Err-clause-answered
returns-in-Err-clause-answered g c =
    subst (λ (b : HostVerdicts g.row.S.Denot). IsHostAnswered g.P.Sealing.Sealing.crypto
    (g.P.Agreement.Agreement.does c.args.self.now.end.role.exchange.agreement) (g.S.KnowsAlgorithms.knows b.signatures)
    c.args.self.now.end.machine b.list.items
    c.args.bytes.now) c.host_trust.ensures (c.if-look.ensures.answered refl)
