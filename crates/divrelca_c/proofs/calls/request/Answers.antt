use Rattle.std.proofs.Common.{ap, ◌∙◌}
use Rattle.ssh_held.specs.Asking.{UserRequest}
use Rattle.ssh_held.specs.Book.{awaits_signature}
use Rattle.ssh_message.specs.Meaning.{method_meaning}
use Rattle.divrelca.specs.Parts.Ed25519.{is_name}
use Rattle.divrelca_c.specs.Wanted.{request_shown}
use Rattle.divrelca_c.specs.declared.embedded.users.Users.{Users}
use Rattle.divrelca_c.proofs.calls.request.Goals as goal

pub returns-in-Some-clause-request : goal.returns-in-Some-clause-request
returns-in-Some-clause-request c = λ asked user service method x.
    let request = c.in-Some.request in
    let book = c.args.server.now.end.role.own.judge.book.list.items in
    c.wanted_request.ensures
    ∙ ap (λ b. request_shown b request.user.now (method_meaning request.method)) c.awaits_signature.ensures
    ∙ ap (λ (u : Users). request_shown (awaits_signature is_name u.book.list.items request.user.now (method_meaning request.method))
    request.user.now (method_meaning request.method)) c.user.ensures
    ∙ ap (λ (r : UserRequest). request_shown (awaits_signature is_name book r.user r.method) r.user r.method)
    ((c.in-Some.ensures.reads asked).found user service method x)

pub returns-in-None-clause-request : goal.returns-in-None-clause-request
returns-in-None-clause-request c = λ asked user service method x. absurd ((c.in-None.ensures.reads asked).found user service method x)
