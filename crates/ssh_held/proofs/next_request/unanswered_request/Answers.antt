use Rattle.std.proofs.Common.{ℕ, List, false, refl, subst, sym, ◌∙◌}
use Rattle.ssh_model.specs.Protocol.Wire.Message.{IsPayload}
use Rattle.ssh_model.specs.Protocol.Wire.Message.Msg.{UserauthRequest}
use Rattle.ssh_message.specs.Meaning.{method_meaning}
use Rattle.ssh_held.specs.Held.{IsSettled.foreseen, IsSettled.unforeseen}
use Rattle.ssh_held.proofs.Finding.{not_false, not_true}
use Rattle.ssh_held.proofs.Requesting.{unasked, was_said}
use Rattle.ssh_held.proofs.next_request.unanswered_request.Goals as goal

pub returns-then-not-peek-clause-answered : goal.returns-then-not-peek-clause-answered
returns-then-not-peek-clause-answered g c = λ _. unforeseen (c.if-not-peek.ensures.none refl)

pub returns-in_default-clause-answered : goal.returns-in_default-clause-answered
returns-in_default-clause-answered g c = λ _. foreseen c.peek.new.other.payload (c.if-not-peek.ensures.opens refl)
    (λ probing user service method x e.
    absurd (c.in_default.ensures.only probing user service method
    (subst (λ (b : List ℕ). IsPayload probing (UserauthRequest user service method) b) (sym c.payload.ensures.payload) x)))

pub returns-then-not-asks-clause-answered : goal.returns-then-not-asks-clause-answered
returns-then-not-asks-clause-answered g c = λ _. foreseen c.peek.new.other.payload (c.if-not-peek.ensures.opens refl)
    (λ probing user service method x e.
    let is = c.in-Some.ensures.only probing user service method
    (subst (λ (b : List ℕ). IsPayload probing (UserauthRequest user service method) b) (sym c.payload.ensures.payload) x) in
    absurd (unasked c.in-Some.request user service method is c.if-not-asks.ensures e))

pub returns-clause-answered : goal.returns-clause-answered
returns-clause-answered g c = λ e. foreseen c.peek.new.other.payload (c.if-not-peek.ensures.opens refl)
    (λ probing user service method x _.
    let is = c.in-Some.ensures.only probing user service method
    (subst (λ (b : List ℕ). IsPayload probing (UserauthRequest user service method) b) (sym c.payload.ensures.payload) x) in
    was_said (g.S.KnowsAlgorithms.knows c.args.book.now.signatures) c.args.book.now.list.items c.in-Some.request user service method is
    (sym c.settles.ensures ∙ not_false c.settles.result e))

pub returns-clause-wanted : goal.returns-clause-wanted
returns-clause-wanted g c = λ e. record {
  peeks = c.if-not-peek.ensures.opens refl;
  request = record {
    user = c.in-Some.request.user.now;
    service = c.in-Some.request.service.now;
    method = method_meaning c.in-Some.request.method;
    is = subst (λ (b : List ℕ). IsPayload false (UserauthRequest c.in-Some.request.user.now c.in-Some.request.service.now
        (method_meaning c.in-Some.request.method)) b) c.payload.ensures.payload c.in-Some.ensures.found;
  };
  asks = sym c.if-not-asks.ensures;
  out = sym c.if-is_authenticated.ensures;
  unsaid = sym c.settles.ensures ∙ not_true c.settles.result e;
}
