use Rattle.std.proofs.Common.{ℕ, List, false, ap, subst, sym, ◌∙◌}
use Rattle.ssh_model.specs.Protocol.Wire.Message.{IsPayload}
use Rattle.ssh_model.specs.Protocol.Wire.Message.Msg.{UserauthRequest}
use Rattle.ssh_held.specs.Held.{Next}
use Rattle.ssh_held.proofs.Requesting.{some_found}
use Rattle.ssh_held.proofs.next_request.NextRequest.request.Goals as goal

pub returns-clause-some : goal.returns-clause-some
returns-clause-some c = λ e.
    let r = c.self.invariant (ap (λ (n : Next). n.is_wanted) c.self.view_is ∙ e) in
    some_found c.request_in.result r.user r.service r.method (c.request_in.ensures.only false r.user r.service r.method
    (subst (λ (b : List ℕ). IsPayload false (UserauthRequest r.user r.service r.method) b) (sym c.payload.ensures.payload) r.is))
