use Rattle.std.proofs.Common.{◌++◌, ap, subst, sym, ◌∙◌}
use Rattle.ssh_end_machine.specs.Ends.{EndValue}
use Rattle.ssh_end_machine.specs.Parts.{ClientRole}
use Rattle.ssh_held.specs.HeldHosts.{ClientHeldAt}
use Rattle.ssh_held.specs.declared.held_parts.HeldParts.{HeldParts}
use Rattle.ssh_held.specs.declared.host_book.HostVerdicts.{HostVerdicts}
use Rattle.ssh_held.proofs.Going.{more_said}
use Rattle.ssh_held.proofs.HostGoing.{host_given}
use Rattle.ssh_held.proofs.client.HeldClient.give.Goals as goal

pub returns-clause-placed : goal.returns-clause-placed
returns-clause-placed g c = λ p history at.
    let old = c.args.self.now.end in
    let book = c.give-done.new.self in
    let same = c.give-done.ensures.signatures
    ∙ ap (λ (b : HostVerdicts g.row.S.Denot). b.signatures) c.replace_host_trust-verdicts.ensures.old in
    let more = more_said c.replace_host_trust-verdicts.result.list.items book.list.items
    (record { asked = c.args.asked; accepts = c.args.accepts }) c.give-done.result c.give-done.ensures.given c.give-done.ensures.same in
    let added = more.is ∙ ap (λ (b : HostVerdicts g.row.S.Denot). b.list.items ++ more.verdicts) c.replace_host_trust-verdicts.ensures.old in
    let path = c.replace_host_trust.ensures.new
    ∙ ap (λ (s : EndValue g.row.P-Sealing-Key.Denot (ClientRole (HeldParts g.row.P.Denot g.row.S.Denot
    g.row.P-Sealing.Denot g.row.P-Filler.Denot g.row.P-Agreement.Denot g.row.P-HostTrust.Denot g.row.P-Sealing-Key.Denot) g.row.U.Denot g.row.P-Sealing.Denot
    g.row.P-Filler.Denot g.row.P-Agreement.Denot (HostVerdicts g.row.S.Denot) g.row.P-Sealing-Key.Denot) g.row.P-Filler.Denot).
    record s { role = record s.role { exchange = record s.role.exchange { host_trust = book } } }) c.replace_host_trust-verdicts.ensures.new in
    subst (λ s. ClientHeldAt g.P.Sealing.Sealing.crypto g.P.Agreement.Agreement.does g.S.KnowsAlgorithms.knows g.S.HostTrust.judged g.U.UserSigner.signature_of p s
    history) (sym path)
    (host_given g.P.Sealing.Sealing.crypto g.P.Agreement.Agreement.does g.S.KnowsAlgorithms.knows g.S.HostTrust.judged g.U.UserSigner.signature_of p history
    (λ q agreement one other signing h machine layers.
    c.parts_exchanged.ensures.host_trust q g.P.Sealing.Sealing.crypto agreement one other signing h machine layers)
    (λ q other wide run alive. c.trust_widened.ensures q other wide _ history run alive)
    c.hosts_added.ensures
    old book more.verdicts (sym c.if-is_dead.ensures) same added at)
