use Rattle.std.proofs.Common.{ℕ, List, Bool, Option, Some, ap, is_some, refl, sym, ◌∙◌}
use Rattle.ssh_held.specs.Hosts.{asks_signature, said_of_host}
use Rattle.ssh_held.proofs.HostQuestions.{one_hash, said_settles}
use Rattle.ssh_held.proofs.next_reply.unanswered_hash.Goals as goal

pub returns-in_default-clause-settled : goal.returns-in_default-clause-settled
returns-in_default-clause-settled g c = λ e hash at.
    absurd (c.in_default.ensures.none refl at.alive at.phase at.is.host_key at.is.point at.is.signature at.is.read at.is.good c.requires.most)

pub returns-in-Some-said_of_signature-clause-settled : goal.returns-in-Some-said_of_signature-clause-settled
returns-in-Some-said_of_signature-clause-settled g c = λ e hash at.
    let verdicts = c.args.book.now.list.items in
    let algorithm = c.args.algorithm.now in
    let key = c.args.reply.key.now in
    let agreement = g.P.Agreement.Agreement.does c.args.end.now.role.exchange.agreement in
    let same = one_hash (λ m n payload. c.one_message.ensures _ m n payload) agreement c.args.end.now.machine.kept c.args.payload.now
    c.in-Some.hash hash c.in-Some.ensures.hash at in
    said_settles (asks_signature (g.S.KnowsAlgorithms.knows c.args.book.now.signatures) verdicts algorithm key)
    (is_some (said_of_host verdicts algorithm key (Some (record { hash = hash; signature = c.args.reply.signature.now }))))
    (ap (λ (h : List ℕ). is_some (said_of_host verdicts algorithm key (Some (record { hash = h; signature = c.args.reply.signature.now }))))
    (sym same)
    ∙ ap (λ (o : Option Bool). is_some o) (sym c.in-Some-said_of_signature.ensures))
