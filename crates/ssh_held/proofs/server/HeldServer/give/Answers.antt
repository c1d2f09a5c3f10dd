use Rattle.std.proofs.Common.{◌++◌, ap, subst, sym, ◌∙◌}
use Rattle.ssh_end_machine.specs.Ends.{EndValue}
use Rattle.ssh_end_machine.specs.Parts.{ServerRole}
use Rattle.ssh_held.specs.Held.{HeldAt, signatures_by}
use Rattle.ssh_held.specs.declared.book.Verdicts.{Verdicts}
use Rattle.ssh_held.proofs.Going.{given, more_said}
use Rattle.ssh_held.proofs.server.HeldServer.give.Goals as goal

pub returns-clause-placed : goal.returns-clause-placed
returns-clause-placed g c = λ p history at.
    let old = c.args.self.now.end in
    let book = c.give-done.new.self in
    let same = c.give-done.ensures.signatures ∙ ap (λ (b : Verdicts g.row.S.Denot). b.signatures) c.replace_user-verdicts.ensures.old in
    let more = more_said c.replace_user-verdicts.result.list.items book.list.items
    (record { asked = c.args.asked; accepts = c.args.accepts }) c.give-done.result c.give-done.ensures.given c.give-done.ensures.same in
    let added = more.is ∙ ap (λ (b : Verdicts g.row.S.Denot). b.list.items ++ more.verdicts) c.replace_user-verdicts.ensures.old in
    let path = c.replace_user.ensures.new
    ∙ ap (λ (s : EndValue g.row.P-Sealing-Key.Denot (ServerRole g.row.P.Denot (Verdicts g.row.S.Denot) g.row.P-Sealing.Denot
    g.row.P-Filler.Denot g.row.P-Agreement.Denot g.row.P-HostSigner.Denot g.row.P-Sealing-Key.Denot) g.row.P-Filler.Denot).
    record s { role = record s.role { own = record s.role.own { judge = book } } }) c.replace_user-verdicts.ensures.new in
    subst (λ s. HeldAt g.P.Sealing.Sealing.crypto g.P.Agreement.Agreement.does g.P.HostSigner.HostSigner.keys
    (signatures_by g.S.UserJudge.verdicts g.S.KnowsAlgorithms.knows) p s
    history) (sym path)
    (given g.P.Sealing.Sealing.crypto g.P.Agreement.Agreement.does g.P.HostSigner.HostSigner.keys
    (signatures_by g.S.UserJudge.verdicts g.S.KnowsAlgorithms.knows) p history
    (λ q parts one other h machine layers.
    c.parts_exchanged.ensures.judge q g.P.Sealing.Sealing.crypto parts one other h machine layers)
    (λ signatures verdicts later d. c.verdicts_added.ensures.agrees p signatures verdicts later history d)
    (λ knows verdicts later d. c.verdicts_added.ensures.decided knows verdicts later history d)
    old book more.verdicts (sym c.if-is_dead.ensures) (sym c.if-is_authenticated.ensures) same added at)
