use Rattle.std.proofs.Common.{ap, sym, ◌∙◌}
use Rattle.ssh_transport_machine.proofs.Sharing.{shared_so}
use Rattle.ssh_transport_machine.proofs.machine.Machine.shared_with_point.Goals as goal

pub returns-in-Some : goal.returns-in-Some
returns-in-Some g c =
    let secret = ap (λ s. s.kept.underway.secret) c.self.view_is in
    shared_so _ c.in-Some.shared (sym (c.in-Some.ensures.value ∙ ap (λ t. (g.A.Agreement.does c.args.agreement.now).shared t c.args.theirs.now) secret)) c.has_32_bytes.ensures c.are_bytes.ensures c.in-Some.ensures.not_zero
