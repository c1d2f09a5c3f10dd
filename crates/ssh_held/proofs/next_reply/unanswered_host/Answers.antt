use Rattle.std.proofs.Common.{ℕ, List, refl, subst, sym}
use Rattle.ssh_model.specs.Protocol.Wire.Message.{IsPayload}
use Rattle.ssh_model.specs.Protocol.Wire.Message.Msg.{KexEcdhReply}
use Rattle.ssh_types.specs.Values.{owned_text}
use Rattle.ssh_held.specs.HeldHosts.{HasReply, IsHostSettled.foreseen, IsHostSettled.unforeseen, IsReplySettled}
use Rattle.ssh_held.specs.Hosts.{is_host_settled}
use Rattle.ssh_held.proofs.HostQuestions.{wanted_by}
use Rattle.ssh_held.proofs.next_reply.unanswered_host.Goals as goal

pub returns-then-not-peek-clause-answered : goal.returns-then-not-peek-clause-answered
returns-then-not-peek-clause-answered g c = λ _. unforeseen (c.if-not-peek.ensures.none refl)

pub returns-in_default-host_reply_in-clause-answered : goal.returns-in_default-host_reply_in-clause-answered
returns-in_default-host_reply_in-clause-answered g c = λ _. foreseen c.peek.new.other.payload (owned_text c.in-Some.algorithm)
    (c.if-not-peek.ensures.opens refl) c.in-Some.ensures.awaited
    (λ probing key point signature x.
    absurd (c.in_default-host_reply_in.ensures.only probing key point signature
    (subst (λ (b : List ℕ). IsPayload probing (KexEcdhReply key point signature) b) (sym c.payload.ensures.payload) x)))

pub returns-clause-answered : goal.returns-clause-answered
returns-clause-answered g c = λ e.
    let agreement = g.P.Agreement.Agreement.does c.args.end.now.role.exchange.agreement in
    let settled = is_host_settled (g.S.KnowsAlgorithms.knows c.args.book.now.signatures) c.args.book.now.list.items in
    let kept = c.args.end.now.machine.kept in
    let algorithm = owned_text c.in-Some.algorithm in
    let here = subst (λ (b : List ℕ). IsReplySettled agreement kept settled b algorithm c.in-Some-host_reply_in.reply.key.now
    c.in-Some-host_reply_in.reply.signature.now) c.payload-2.ensures.payload (c.unanswered_reply.ensures.settled e) in
    foreseen c.peek.new.other.payload algorithm (c.if-not-peek.ensures.opens refl) c.in-Some.ensures.awaited
    (λ probing key point signature x.
    let texts = c.in-Some-host_reply_in.ensures.only probing key point signature
    (subst (λ (b : List ℕ). IsPayload probing (KexEcdhReply key point signature) b) (sym c.payload.ensures.payload) x) in
    subst (λ (k : List ℕ). IsReplySettled agreement kept settled c.peek.new.other.payload algorithm k signature) texts.0
    (subst (λ (s : List ℕ). IsReplySettled agreement kept settled c.peek.new.other.payload algorithm c.in-Some-host_reply_in.reply.key.now s)
    texts.1 here))

pub returns-clause-wanted : goal.returns-clause-wanted
returns-clause-wanted g c =
    wanted_by g.P.Sealing.Sealing.crypto (g.P.Agreement.Agreement.does c.args.end.now.role.exchange.agreement)
    (g.S.KnowsAlgorithms.knows c.args.book.now.signatures) c.args.end.now.machine c.args.book.now.list.items c.args.bytes.now
    c.peek.new.other.payload c.payload-2.result.now c.in-Some.algorithm c.in-Some-host_reply_in.reply.key.now
    c.in-Some-host_reply_in.reply.signature.now c.payload-2.ensures.payload (c.if-not-peek.ensures.opens refl) c.in-Some.ensures.awaited
    (subst (λ (b : List ℕ). HasReply b c.in-Some-host_reply_in.reply.key.now c.in-Some-host_reply_in.reply.signature.now)
    c.payload.ensures.payload c.in-Some-host_reply_in.ensures.found)
    c.unanswered_reply.result c.unanswered_reply.ensures.algorithm c.unanswered_reply.ensures.wanted
