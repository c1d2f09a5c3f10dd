use Rattle.std.proofs.Common.{◌++◌, ap, subst, sym, ◌∙◌}
use Rattle.ssh_end_machine.specs.Ends.{EndValue}
use Rattle.ssh_end_machine.specs.Parts.{ClientRole}
use Rattle.ssh_held.specs.Signing.{SigningAt}
use Rattle.ssh_held.specs.declared.signing.GivenSignatures.{GivenSignatures}
use Rattle.ssh_held.proofs.Going.{more_said}
use Rattle.ssh_held.proofs.Signatures.{with_signer}
use Rattle.ssh_held.proofs.known_signature.add.Goals as goal

pub returns-clause-placed : goal.returns-clause-placed
returns-clause-placed g c = λ p history alive at.
    let old = c.args.end.now in
    let signer = c.give-done.new.self in
    let same = c.give-done.ensures.own
    ∙ ap (λ (s : GivenSignatures g.row.U.Denot). s.own) c.replace_user-signer.ensures.old in
    let more = more_said c.replace_user-signer.result.list.items signer.list.items c.args.given c.give-done.result c.give-done.ensures.given
    c.give-done.ensures.same in
    let added = more.is ∙ ap (λ (s : GivenSignatures g.row.U.Denot). s.list.items ++ more.verdicts) c.replace_user-signer.ensures.old in
    let path = c.replace_user.ensures.new
    ∙ ap (λ (s : EndValue g.row.P-Sealing-Key.Denot (ClientRole g.row.P.Denot (GivenSignatures g.row.U.Denot) g.row.P-Sealing.Denot
    g.row.P-Filler.Denot g.row.P-Agreement.Denot g.row.P-HostTrust.Denot g.row.P-Sealing-Key.Denot) g.row.P-Filler.Denot).
    record s { role = record s.role { own = record s.role.own { signer = signer } } }) c.replace_user-signer.ensures.new in
    subst (λ s. SigningAt g.P.Sealing.Sealing.crypto g.P.Agreement.Agreement.does g.P.HostTrust.HostTrust.judged g.U.UserSigner.signature_of p s
    history) (sym path)
    (with_signer g.P.Sealing.Sealing.crypto g.P.Agreement.Agreement.does g.P.HostTrust.HostTrust.judged g.U.UserSigner.signature_of p history
    (λ q agreement trusts one other h machine layers.
    c.parts_exchanged.ensures.user_signature q g.P.Sealing.Sealing.crypto agreement trusts one other h machine layers)
    (λ mine list more h. c.signatures_added.ensures.agrees p mine list more h)
    (λ mine list more h. c.signatures_added.ensures.known p mine list more h)
    old alive signer more.verdicts same added at)
