use Rattle.std.proofs.Common.{ℕ, List, false, is_some, ap, subst, sym, ◌∙◌}
use Rattle.ssh_model.specs.Protocol.Wire.Message.{IsPayload}
use Rattle.ssh_model.specs.Protocol.Wire.Message.Msg.{KexEcdhReply}
use Rattle.ssh_held.specs.HeldHosts.{NextHost, algorithm_of}
use Rattle.ssh_held.proofs.HostKeys.{some_before}
use Rattle.ssh_held.proofs.next_reply.NextReply.host_key.Goals as goal

pub returns-in_default-host_reply_in-clause-some : goal.returns-in_default-host_reply_in-clause-some
returns-in_default-host_reply_in-clause-some c = λ e.
    let r = c.self.invariant (some_before algorithm_of c.self.inside.wanted (ap (λ (n : NextHost). is_some n.algorithm) c.self.view_is ∙ e)) in
    absurd (c.in_default-host_reply_in.ensures.only false r.key r.has.point r.has.signature
    (subst (λ (b : List ℕ). IsPayload false (KexEcdhReply r.key r.has.point r.has.signature) b) (sym c.payload.ensures.payload) r.has.is))
