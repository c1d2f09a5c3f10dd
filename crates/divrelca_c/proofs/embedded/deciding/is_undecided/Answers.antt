use Rattle.std.proofs.Common.{◌≡◌, ℕ, Bool, false, true, List, not, ap, refl, subst, sym, ◌∙◌}
use Rattle.ssh_model.specs.Protocol.Wire.Message.{IsPayload}
use Rattle.ssh_model.specs.Protocol.Wire.Message.Msg.{UserauthRequest}
use Rattle.ssh_message.specs.Meaning.{method_meaning}
use Rattle.ssh_held.specs.Asking.{UserRequest}
use Rattle.ssh_held.specs.Held.{IsAnswered, IsWanted}
use Rattle.divrelca.specs.Parts.AesGcm.{aes_gcm}
use Rattle.divrelca.specs.Parts.Ed25519.{is_name}
use Rattle.divrelca_c.specs.Embedded.Users.{is_settled}
use Rattle.divrelca_c.specs.declared.embedded.users.Users.{Users}
use Rattle.divrelca_c.proofs.OfEmbedded.Deciding.{request_settles, said_settles}
use Rattle.divrelca_c.proofs.embedded.deciding.is_undecided.Goals as goal

other_false : (b : Bool) → not b ≡ true → b ≡ false
other_false true e = absurd (cc e)
other_false false e = refl

other_true : (b : Bool) → not b ≡ false → b ≡ true
other_true true e = refl
other_true false e = absurd (cc e)

pub returns-then-not-unanswered_request-clause-settled : goal.returns-then-not-unanswered_request-clause-settled
returns-then-not-unanswered_request-clause-settled c = λ _.
    let users = c.args.end.now.role.own.judge in
    said_settles aes_gcm c.args.end.now.machine users.book.list.items users.list.items c.args.bytes.now
    (subst (λ (u : Users). IsAnswered aes_gcm c.args.end.now.machine is_name u.book.list.items c.args.bytes.now) c.user.ensures
    (c.if-not-unanswered_request.ensures.answered refl))

pub returns-in-Some-clause-undecided : goal.returns-in-Some-clause-undecided
returns-in-Some-clause-undecided c = λ e.
    let users = c.args.end.now.role.own.judge in
    let wanted = subst (λ (u : Users). IsWanted aes_gcm c.args.end.now.machine is_name u.book.list.items c.args.bytes.now
    c.unanswered_request.new.ahead.payload) c.user.ensures (c.if-not-unanswered_request.ensures.wanted refl) in
    let only = c.in-Some.ensures.only false wanted.request.user wanted.request.service wanted.request.method
    (subst (λ (b : List ℕ). IsPayload false (UserauthRequest wanted.request.user wanted.request.service wanted.request.method) b)
    (sym c.payload.ensures.payload) wanted.request.is) in
    record {
      wanted = wanted;
      unsettled = ap (λ (r : UserRequest). is_settled users.book.list.items users.list.items r.user r.method) (sym only)
          ∙ ap (λ (u : Users). is_settled u.book.list.items u.list.items c.in-Some.request.user.now (method_meaning c.in-Some.request.method))
          (sym c.user-in-Some.ensures)
          ∙ sym c.settles.ensures ∙ other_false c.settles.result e;
    }

pub returns-in-Some-clause-settled : goal.returns-in-Some-clause-settled
returns-in-Some-clause-settled c = λ e.
    let users = c.args.end.now.role.own.judge in
    let wanted = c.if-not-unanswered_request.ensures.wanted refl in
    request_settles aes_gcm c.args.end.now.machine users.book.list.items users.list.items c.args.bytes.now
    c.unanswered_request.new.ahead.payload wanted.peeks c.in-Some.request
    (λ probing user service method x. c.in-Some.ensures.only probing user service method
    (subst (λ (b : List ℕ). IsPayload probing (UserauthRequest user service method) b) (sym c.payload.ensures.payload) x))
    (ap (λ (u : Users). is_settled u.book.list.items u.list.items c.in-Some.request.user.now (method_meaning c.in-Some.request.method))
    (sym c.user-in-Some.ensures)
    ∙ sym c.settles.ensures ∙ other_true c.settles.result e)

pub returns-in-None-clause-settled : goal.returns-in-None-clause-settled
returns-in-None-clause-settled c = λ _.
    let wanted = c.if-not-unanswered_request.ensures.wanted refl in
    absurd (c.in-None.ensures.only false wanted.request.user wanted.request.service wanted.request.method
    (subst (λ (b : List ℕ). IsPayload false (UserauthRequest wanted.request.user wanted.request.service wanted.request.method) b)
    (sym c.payload.ensures.payload) wanted.request.is))
