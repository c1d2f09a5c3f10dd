use Rattle.std.proofs.Common.{[], ◌∷◌, ◌++◌, append-nil, append_assoc, ap, refl, subst, sym, ◌∙◌, List}
use Rattle.ssh_transport_machine.specs.State.{State, buffered_of}
use Rattle.ssh_held.specs.HeldHosts.{ClientHeldAt}
use Rattle.ssh_held.specs.declared.host_book.HostVerdict.{HostVerdict}
use Rattle.example_held.proofs.Meeting.{machine_is, no_third, same_host_verdicts, met_taken, settled, verdicts_are}
use Rattle.example_held.proofs.Turning.{said_nothing, said_on, said_one}
use Rattle.example_held.specs.Meeting.{IsOnHost}
use Rattle.example_held.proofs.client.meet_unit.Goals as goal

pub returns-in-Used-clause-said : goal.returns-in-Used-clause-said
returns-in-Used-clause-said g c =
    said_nothing (λ old (verdict : HostVerdict) new. g.L.LookUp.answers old verdict.asked verdict.accepts new)
    c.args.client.now.end.role.exchange.host_trust.list.items c.take.new.self.end.role.exchange.host_trust.list.items c.args.look_up.now
    (same_host_verdicts c.args.client.now.end c.take.new.self.end c.take.ensures.role)

pub returns-in-Used-clause-meets : goal.returns-in-Used-clause-meets
returns-in-Used-clause-meets g c = λ p history at.
    met_taken g.P.Sealing.Sealing.crypto g.P.Agreement.Agreement.does g.S.KnowsAlgorithms.knows g.S.HostTrust.judged g.U.UserSigner.signature_of p
    history c.trusted_by_verdict.ensures c.args.client.now.end c.args.client.now.end c.take.new.self.end c.args.bytes.now
    c.args.out.now.items c.take.new.out.items [] c.after_turn.result c.in_ok-used.field-0 c.in-Used.used refl
    (sym (append-nil c.args.client.now.end.role.exchange.host_trust.list.items)) c.take.ensures.role c.after_turn.ensures.used
    c.after_turn.ensures.says
    c.after_turn.ensures.waits c.in-Used.is (c.in_ok-used.ensures.placed p history at)

-- Where an answer was wanted and given.
pub returns-in-Used-2-clause-said : goal.returns-in-Used-2-clause-said
returns-in-Used-2-clause-said g c =
    said_one (λ old (verdict : HostVerdict) new. g.L.LookUp.answers old verdict.asked verdict.accepts new) (IsOnHost c.take.new.self.next)
    c.args.client.now.end.role.exchange.host_trust.list.items c.take.new.self.end.role.exchange.host_trust.list.items
    c.answer.new.client.end.role.exchange.host_trust.list.items c.take-2.new.self.end.role.exchange.host_trust.list.items c.args.look_up.now
    c.answer.new.look_up
    (same_host_verdicts c.args.client.now.end c.take.new.self.end c.take.ensures.role)
    (same_host_verdicts c.answer.new.client.end c.take-2.new.self.end c.take-2.ensures.role) c.in_ok-answer.ensures.said

pub returns-in-Used-2-clause-meets : goal.returns-in-Used-2-clause-meets
returns-in-Used-2-clause-meets g c = λ p history at.
    let same = c.in_ok-used.ensures.same c.in_default.is in
    let said = c.in_ok-answer.ensures.said in
    let answers = λ (old : g.row.L.Denot) (verdict : HostVerdict) (new : g.row.L.Denot). g.L.LookUp.answers old verdict.asked
    verdict.accepts new in
    met_taken g.P.Sealing.Sealing.crypto g.P.Agreement.Agreement.does g.S.KnowsAlgorithms.knows g.S.HostTrust.judged g.U.UserSigner.signature_of p
    history c.trusted_by_verdict.ensures c.args.client.now.end c.answer.new.client.end c.take-2.new.self.end c.args.bytes.now
    c.take.new.out.items c.take-2.new.out.items (said.verdict ∷ []) c.after_turn-in-Used-2.result c.in_ok-used-2.field-0 c.in-Used-2.used
    (ap (λ (m : State g.row.P-Sealing-Key.Denot). buffered_of m)
    (machine_is g.P.Sealing.Sealing.crypto g.P.Agreement.Agreement.does g.S.KnowsAlgorithms.knows c.answer_settles.ensures.host answers
    c.args.client.now.end c.take.new.self.end c.answer.new.client.end c.take.new.self.next c.args.look_up.now c.answer.new.look_up same
    c.answer.ensures.rest c.answer.ensures.signatures said))
    (verdicts_are g.P.Sealing.Sealing.crypto g.P.Agreement.Agreement.does g.S.KnowsAlgorithms.knows c.answer_settles.ensures.host answers
    c.args.client.now.end c.take.new.self.end c.answer.new.client.end c.take.new.self.next c.args.look_up.now c.answer.new.look_up same
    c.answer.ensures.rest c.answer.ensures.signatures said)
    c.take-2.ensures.role c.after_turn-in-Used-2.ensures.used c.after_turn-in-Used-2.ensures.says c.after_turn-in-Used-2.ensures.waits
    c.in-Used-2.is (c.in_ok-used-2.ensures.placed p history (c.answer.ensures.placed p history
    (subst (λ s. ClientHeldAt g.P.Sealing.Sealing.crypto g.P.Agreement.Agreement.does g.S.KnowsAlgorithms.knows g.S.HostTrust.judged
    g.U.UserSigner.signature_of p s history) (sym same) at)))

-- Where two were.
pub unreachable-requires : goal.unreachable-requires
unreachable-requires g c =
    let answers = λ (old : g.row.L.Denot) (verdict : HostVerdict) (new : g.row.L.Denot). g.L.LookUp.answers old verdict.asked
    verdict.accepts new in
    let second = c.in_ok-used-2.ensures.wanted c.in_default-2.is in
    let first = settled g.P.Sealing.Sealing.crypto g.P.Agreement.Agreement.does g.S.KnowsAlgorithms.knows c.answer_settles.ensures.host answers
    c.args.client.now.end c.take.new.self.end c.answer.new.client.end c.take.new.self.next c.args.look_up.now c.answer.new.look_up
    (c.in_ok-used.ensures.same c.in_default.is) c.answer.ensures.rest c.answer.ensures.signatures c.in_ok-answer.ensures.said c.args.bytes.now
    c.take-2.new.self.next (c.in_ok-used.ensures.wanted c.in_default.is) second in
    let last = settled g.P.Sealing.Sealing.crypto g.P.Agreement.Agreement.does g.S.KnowsAlgorithms.knows c.answer_settles.ensures.host answers
    c.answer.new.client.end c.take-2.new.self.end c.answer-2.new.client.end c.take-2.new.self.next c.answer.new.look_up c.answer-2.new.look_up
    (c.in_ok-used-2.ensures.same c.in_default-2.is) c.answer-2.ensures.rest c.answer-2.ensures.signatures c.in_ok-answer-2.ensures.said
    c.args.bytes.now c.take-3.new.self.next second (c.in_ok-used-3.ensures.wanted c.in-Wanted.is) in
    no_third c.take-2.new.self.next.hash last.0 first.2

pub returns-clause-said : goal.returns-clause-said
returns-clause-said g c =
    let answers = λ (old : g.row.L.Denot) (verdict : HostVerdict) (new : g.row.L.Denot). g.L.LookUp.answers old verdict.asked
    verdict.accepts new in
    said_on answers c.args.client.now.end.role.exchange.host_trust.list.items c.take-2.new.self.end.role.exchange.host_trust.list.items
    c.take-3.new.self.end.role.exchange.host_trust.list.items c.args.look_up.now c.answer.new.look_up c.answer-2.new.look_up
    (said_one answers (IsOnHost c.take.new.self.next)
    c.args.client.now.end.role.exchange.host_trust.list.items c.take.new.self.end.role.exchange.host_trust.list.items
    c.answer.new.client.end.role.exchange.host_trust.list.items c.take-2.new.self.end.role.exchange.host_trust.list.items c.args.look_up.now
    c.answer.new.look_up
    (same_host_verdicts c.args.client.now.end c.take.new.self.end c.take.ensures.role)
    (same_host_verdicts c.answer.new.client.end c.take-2.new.self.end c.take-2.ensures.role) c.in_ok-answer.ensures.said)
    (said_one answers (IsOnHost c.take-2.new.self.next)
    c.take-2.new.self.end.role.exchange.host_trust.list.items c.take-2.new.self.end.role.exchange.host_trust.list.items
    c.answer-2.new.client.end.role.exchange.host_trust.list.items c.take-3.new.self.end.role.exchange.host_trust.list.items
    c.answer.new.look_up c.answer-2.new.look_up refl
    (same_host_verdicts c.answer-2.new.client.end c.take-3.new.self.end c.take-3.ensures.role) c.in_ok-answer-2.ensures.said)

pub returns-clause-meets : goal.returns-clause-meets
returns-clause-meets g c = λ p history at.
    let answers = λ (old : g.row.L.Denot) (verdict : HostVerdict) (new : g.row.L.Denot). g.L.LookUp.answers old verdict.asked
    verdict.accepts new in
    let same = c.in_ok-used.ensures.same c.in_default.is in
    let again = c.in_ok-used-2.ensures.same c.in_default-2.is in
    let early = c.in_ok-answer.ensures.said in
    let late = c.in_ok-answer-2.ensures.said in
    let first_machine = machine_is g.P.Sealing.Sealing.crypto g.P.Agreement.Agreement.does g.S.KnowsAlgorithms.knows c.answer_settles.ensures.host
    answers c.args.client.now.end c.take.new.self.end c.answer.new.client.end c.take.new.self.next c.args.look_up.now c.answer.new.look_up same
    c.answer.ensures.rest c.answer.ensures.signatures early in
    let first_verdicts = verdicts_are g.P.Sealing.Sealing.crypto g.P.Agreement.Agreement.does g.S.KnowsAlgorithms.knows
    c.answer_settles.ensures.host answers c.args.client.now.end c.take.new.self.end c.answer.new.client.end c.take.new.self.next
    c.args.look_up.now c.answer.new.look_up same c.answer.ensures.rest c.answer.ensures.signatures early in
    let last_machine = machine_is g.P.Sealing.Sealing.crypto g.P.Agreement.Agreement.does g.S.KnowsAlgorithms.knows c.answer_settles.ensures.host
    answers c.answer.new.client.end c.take-2.new.self.end c.answer-2.new.client.end c.take-2.new.self.next c.answer.new.look_up
    c.answer-2.new.look_up again c.answer-2.ensures.rest c.answer-2.ensures.signatures late in
    let last_verdicts = verdicts_are g.P.Sealing.Sealing.crypto g.P.Agreement.Agreement.does g.S.KnowsAlgorithms.knows
    c.answer_settles.ensures.host answers c.answer.new.client.end c.take-2.new.self.end c.answer-2.new.client.end c.take-2.new.self.next
    c.answer.new.look_up c.answer-2.new.look_up again c.answer-2.ensures.rest c.answer-2.ensures.signatures late in
    met_taken g.P.Sealing.Sealing.crypto g.P.Agreement.Agreement.does g.S.KnowsAlgorithms.knows g.S.HostTrust.judged g.U.UserSigner.signature_of p
    history c.trusted_by_verdict.ensures c.args.client.now.end c.answer-2.new.client.end c.take-3.new.self.end c.args.bytes.now
    c.take-2.new.out.items c.take-3.new.out.items ((early.verdict ∷ []) ++ (late.verdict ∷ [])) c.after_turn-in-Used-3.result
    c.in_ok-used-3.field-0 c.in-Used-3.used
    (ap (λ (m : State g.row.P-Sealing-Key.Denot). buffered_of m) last_machine
    ∙ ap (λ (m : State g.row.P-Sealing-Key.Denot). buffered_of m) first_machine)
    (last_verdicts ∙ (ap (λ (l : List HostVerdict). l ++ (late.verdict ∷ [])) first_verdicts
    ∙ append_assoc c.args.client.now.end.role.exchange.host_trust.list.items (early.verdict ∷ []) (late.verdict ∷ [])))
    c.take-3.ensures.role c.after_turn-in-Used-3.ensures.used c.after_turn-in-Used-3.ensures.says c.after_turn-in-Used-3.ensures.waits
    c.in-Used-3.is (c.in_ok-used-3.ensures.placed p history (c.answer-2.ensures.placed p history
    (subst (λ s. ClientHeldAt g.P.Sealing.Sealing.crypto g.P.Agreement.Agreement.does g.S.KnowsAlgorithms.knows g.S.HostTrust.judged
    g.U.UserSigner.signature_of p s history) (sym again) (c.answer.ensures.placed p history
    (subst (λ s. ClientHeldAt g.P.Sealing.Sealing.crypto g.P.Agreement.Agreement.does g.S.KnowsAlgorithms.knows g.S.HostTrust.judged
    g.U.UserSigner.signature_of p s history) (sym same) at)))))
