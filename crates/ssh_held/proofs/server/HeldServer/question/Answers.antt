use Rattle.std.proofs.Common.{◌≡◌, ap, rules, sym, ◌∙◌}
use Rattle.ssh_message.specs.Meaning.{method_meaning}
use Rattle.ssh_held.specs.Book.{is_next}
use Rattle.ssh_held.specs.Held.{session_of}
use Rattle.ssh_held.specs.declared.book.Verdicts.{Verdicts}
use Rattle.ssh_held.proofs.Requesting.{asks_next}
use Rattle.ssh_held.proofs.server.HeldServer.question.Goals as goal

pub returns-clause-is : goal.returns-clause-is
returns-clause-is g c =
    let server = c.args.self.now in
    let judge = server.end.role.own.judge in
    let request = c.in-Some.request in
    let asked = c.in_ok-next_question.field-0 in
    let session : c.unwrap_or-session.result ≡ session_of server.end.machine = search rules in
    asks_next c.one_message.ensures (g.S.KnowsAlgorithms.knows judge.signatures) judge.list.items (session_of server.end.machine)
    server.next.payload request.user.now request.service.now (method_meaning request.method) asked c.in-Some.ensures.is
    (λ e. ap (λ s. is_next (g.S.KnowsAlgorithms.knows judge.signatures) judge.list.items s request.user.now (method_meaning request.method)
    asked) (sym session)
    ∙ ap (λ (b : Verdicts g.row.S.Denot). is_next (g.S.KnowsAlgorithms.knows b.signatures) b.list.items c.unwrap_or-session.result
    request.user.now (method_meaning request.method) asked) (sym c.user.ensures) ∙ c.in_ok-next_question.ensures e)
