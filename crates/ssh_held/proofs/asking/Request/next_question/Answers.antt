use Rattle.std.proofs.Common.{rules, sym, ◌∙◌}
use Rattle.ssh_message.specs.Meaning.{method_meaning}
use Rattle.ssh_held.proofs.Requesting.{signature_next}
use Rattle.ssh_held.proofs.asking.Request.next_question.Goals as goal

pub returns-in-Publickey-default-default-Some : goal.returns-in-Publickey-default-default-Some
returns-in-Publickey-default-default-Some g c =
    let given = c.in-Publickey-default-default-Some in
    signature_next (g.S.KnowsAlgorithms.knows c.args.book.now.signatures) c.args.book.now.list.items c.args.session.now
    c.args.self.now.user.now c.args.self.now.service.now (method_meaning c.args.self.now.method) given.algorithm.now given.key.now
    given.signature.now (search rules) (sym c.awaits_signature.ensures ∙ search rules) c.signature_question.result
    c.signature_question.ensures.signature c.signature_question.ensures.over
