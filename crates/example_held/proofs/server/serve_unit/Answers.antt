use Rattle.std.proofs.Common.{[], ◌∷◌, append-nil, ap, refl, subst, sym, ◌∙◌}
use Rattle.ssh_transport_machine.specs.State.{State, buffered_of}
use Rattle.ssh_held.specs.Held.{HeldAt, signatures_by}
use Rattle.ssh_held.specs.declared.book.Verdict.{Verdict}
use Rattle.example_held.proofs.Serving.{answered, answered_twice, said_twice, same_verdicts, served_taken}
use Rattle.example_held.proofs.Turning.{said_nothing, said_on, said_one}
use Rattle.example_held.proofs.server.serve_unit.Goals as goal

pub returns-in-Used-clause-said : goal.returns-in-Used-clause-said
returns-in-Used-clause-said g c =
    said_nothing (λ old (verdict : Verdict) new. g.L.LookUp.answers old verdict.asked verdict.accepts new)
    c.args.server.now.end.role.own.judge.list.items c.take.new.self.end.role.own.judge.list.items c.args.look_up.now
    (same_verdicts c.args.server.now.end c.take.new.self.end c.take.ensures.role)

pub returns-in-Used-clause-serves : goal.returns-in-Used-clause-serves
returns-in-Used-clause-serves g c = λ p history at.
    served_taken g.P.Sealing.Sealing.crypto g.P.Agreement.Agreement.does g.P.HostSigner.HostSigner.keys
    (signatures_by g.S.UserJudge.verdicts g.S.KnowsAlgorithms.knows) p history
    c.accepted_by_verdict.ensures c.args.server.now.end c.args.server.now.end c.take.new.self.end c.args.bytes.now c.args.out.now.items
    c.take.new.out.items [] c.after_turn.result c.in_ok-used.field-0 c.in-Used.used refl
    (sym (append-nil c.args.server.now.end.role.own.judge.list.items)) c.take.ensures.role c.after_turn.ensures.used
    c.after_turn.ensures.says
    c.after_turn.ensures.waits c.in-Used.is (c.in_ok-used.ensures.placed p history at)

-- Where one answer was wanted and given.
pub returns-in-Used-2-clause-said : goal.returns-in-Used-2-clause-said
returns-in-Used-2-clause-said g c =
    said_one (λ old (verdict : Verdict) new. g.L.LookUp.answers old verdict.asked verdict.accepts new) _
    c.args.server.now.end.role.own.judge.list.items c.take.new.self.end.role.own.judge.list.items
    c.answer.new.server.end.role.own.judge.list.items c.take-2.new.self.end.role.own.judge.list.items c.args.look_up.now
    c.answer.new.look_up
    (same_verdicts c.args.server.now.end c.take.new.self.end c.take.ensures.role)
    (same_verdicts c.answer.new.server.end c.take-2.new.self.end c.take-2.ensures.role) c.in_ok-answer.ensures.said

pub returns-in-Used-2-clause-serves : goal.returns-in-Used-2-clause-serves
returns-in-Used-2-clause-serves g c = λ p history at.
    let same = c.in_ok-used.ensures.same c.in_default.is in
    let said = c.in_ok-answer.ensures.said in
    let one = answered g.P.Sealing.Sealing.crypto g.S.KnowsAlgorithms.knows c.answer_settles.ensures.request
    (λ old (verdict : Verdict) new. g.L.LookUp.answers old verdict.asked verdict.accepts new) c.args.server.now.end c.take.new.self.end
    c.answer.new.server.end c.take.new.self.next.payload c.args.look_up.now c.answer.new.look_up same c.answer.ensures.rest
    c.answer.ensures.signatures said in
    served_taken g.P.Sealing.Sealing.crypto g.P.Agreement.Agreement.does g.P.HostSigner.HostSigner.keys
    (signatures_by g.S.UserJudge.verdicts g.S.KnowsAlgorithms.knows) p history
    c.accepted_by_verdict.ensures c.args.server.now.end c.answer.new.server.end c.take-2.new.self.end c.args.bytes.now c.take.new.out.items
    c.take-2.new.out.items (said.verdict ∷ []) c.after_turn-in-Used-2.result c.in_ok-used-2.field-0 c.in-Used-2.used
    (ap (λ (m : State g.row.P-Sealing-Key.Denot). buffered_of m) one.machine_is) one.verdicts_are
    c.take-2.ensures.role c.after_turn-in-Used-2.ensures.used c.after_turn-in-Used-2.ensures.says c.after_turn-in-Used-2.ensures.waits
    c.in-Used-2.is (c.in_ok-used-2.ensures.placed p history (c.answer.ensures.placed p history
    (subst (λ s. HeldAt g.P.Sealing.Sealing.crypto g.P.Agreement.Agreement.does g.P.HostSigner.HostSigner.keys
    (signatures_by g.S.UserJudge.verdicts g.S.KnowsAlgorithms.knows) p s history) (sym same) at)))

-- Where a second one was.
pub unreachable-requires : goal.unreachable-requires
unreachable-requires g c =
    let answers = λ (old : g.row.L.Denot) (verdict : Verdict) (new : g.row.L.Denot). g.L.LookUp.answers old verdict.asked verdict.accepts
    new in
    let one = answered g.P.Sealing.Sealing.crypto g.S.KnowsAlgorithms.knows c.answer_settles.ensures.request answers
    c.args.server.now.end c.take.new.self.end c.answer.new.server.end c.take.new.self.next.payload c.args.look_up.now c.answer.new.look_up
    (c.in_ok-used.ensures.same c.in_default.is) c.answer.ensures.rest c.answer.ensures.signatures c.in_ok-answer.ensures.said in
    let other = answered g.P.Sealing.Sealing.crypto g.S.KnowsAlgorithms.knows c.answer_settles.ensures.request answers
    c.answer.new.server.end c.take-2.new.self.end c.answer-2.new.server.end c.take-2.new.self.next.payload c.answer.new.look_up
    c.answer-2.new.look_up (c.in_ok-used-2.ensures.same c.in_default-2.is) c.answer-2.ensures.rest c.answer-2.ensures.signatures
    c.in_ok-answer-2.ensures.said in
    answered_twice g.P.Sealing.Sealing.crypto g.S.KnowsAlgorithms.knows c.args.server.now.end c.answer.new.server.end
    c.answer-2.new.server.end c.take.new.self.next.payload c.take-2.new.self.next.payload c.in_ok-answer.ensures.said.verdict
    c.in_ok-answer-2.ensures.said.verdict one other c.args.bytes.now c.take-3.new.self.next.payload
    (c.in_ok-used.ensures.wanted c.in_default.is) (c.in_ok-used-2.ensures.wanted c.in_default-2.is)
    (c.in_ok-used-3.ensures.wanted c.in-Wanted.is)

pub returns-clause-said : goal.returns-clause-said
returns-clause-said g c =
    let answers = λ (old : g.row.L.Denot) (verdict : Verdict) (new : g.row.L.Denot). g.L.LookUp.answers old verdict.asked verdict.accepts
    new in
    said_on answers c.args.server.now.end.role.own.judge.list.items c.take-2.new.self.end.role.own.judge.list.items
    c.take-3.new.self.end.role.own.judge.list.items c.args.look_up.now c.answer.new.look_up c.answer-2.new.look_up
    (said_one answers _ c.args.server.now.end.role.own.judge.list.items c.take.new.self.end.role.own.judge.list.items
    c.answer.new.server.end.role.own.judge.list.items c.take-2.new.self.end.role.own.judge.list.items c.args.look_up.now
    c.answer.new.look_up
    (same_verdicts c.args.server.now.end c.take.new.self.end c.take.ensures.role)
    (same_verdicts c.answer.new.server.end c.take-2.new.self.end c.take-2.ensures.role) c.in_ok-answer.ensures.said)
    (said_one answers _ c.take-2.new.self.end.role.own.judge.list.items c.take-2.new.self.end.role.own.judge.list.items
    c.answer-2.new.server.end.role.own.judge.list.items c.take-3.new.self.end.role.own.judge.list.items c.answer.new.look_up
    c.answer-2.new.look_up refl
    (same_verdicts c.answer-2.new.server.end c.take-3.new.self.end c.take-3.ensures.role) c.in_ok-answer-2.ensures.said)

pub returns-clause-serves : goal.returns-clause-serves
returns-clause-serves g c = λ p history at.
    let same = c.in_ok-used.ensures.same c.in_default.is in
    let still = c.in_ok-used-2.ensures.same c.in_default-2.is in
    let said = c.in_ok-answer.ensures.said in
    let more = c.in_ok-answer-2.ensures.said in
    let answers = λ (old : g.row.L.Denot) (verdict : Verdict) (new : g.row.L.Denot). g.L.LookUp.answers old verdict.asked verdict.accepts
    new in
    let signatures = signatures_by g.S.UserJudge.verdicts g.S.KnowsAlgorithms.knows in
    let one = answered g.P.Sealing.Sealing.crypto g.S.KnowsAlgorithms.knows c.answer_settles.ensures.request answers
    c.args.server.now.end c.take.new.self.end c.answer.new.server.end c.take.new.self.next.payload c.args.look_up.now c.answer.new.look_up
    same c.answer.ensures.rest c.answer.ensures.signatures said in
    let other = answered g.P.Sealing.Sealing.crypto g.S.KnowsAlgorithms.knows c.answer_settles.ensures.request answers
    c.answer.new.server.end c.take-2.new.self.end c.answer-2.new.server.end c.take-2.new.self.next.payload c.answer.new.look_up
    c.answer-2.new.look_up still c.answer-2.ensures.rest c.answer-2.ensures.signatures more in
    served_taken g.P.Sealing.Sealing.crypto g.P.Agreement.Agreement.does g.P.HostSigner.HostSigner.keys signatures p history
    c.accepted_by_verdict.ensures c.args.server.now.end c.answer-2.new.server.end c.take-3.new.self.end c.args.bytes.now
    c.take-2.new.out.items c.take-3.new.out.items (said.verdict ∷ more.verdict ∷ []) c.after_turn-in-Used-3.result
    c.in_ok-used-3.field-0 c.in-Used-3.used
    (ap (λ (m : State g.row.P-Sealing-Key.Denot). buffered_of m) (other.machine_is ∙ one.machine_is))
    (said_twice c.args.server.now.end.role.own.judge.list.items c.answer.new.server.end.role.own.judge.list.items
    c.answer-2.new.server.end.role.own.judge.list.items said.verdict more.verdict one.verdicts_are other.verdicts_are)
    c.take-3.ensures.role c.after_turn-in-Used-3.ensures.used c.after_turn-in-Used-3.ensures.says c.after_turn-in-Used-3.ensures.waits
    c.in-Used-3.is (c.in_ok-used-3.ensures.placed p history (c.answer-2.ensures.placed p history
    (subst (λ s. HeldAt g.P.Sealing.Sealing.crypto g.P.Agreement.Agreement.does g.P.HostSigner.HostSigner.keys signatures p s history)
    (sym still) (c.answer.ensures.placed p history
    (subst (λ s. HeldAt g.P.Sealing.Sealing.crypto g.P.Agreement.Agreement.does g.P.HostSigner.HostSigner.keys signatures p s history)
    (sym same) at)))))
