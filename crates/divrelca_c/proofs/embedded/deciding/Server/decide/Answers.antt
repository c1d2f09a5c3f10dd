use Rattle.std.proofs.Common.{ap, rules, subst, sym, ◌∙◌}
use Rattle.ssh_model.specs.Laws.Verdicts.{judged_by}
use Rattle.ssh_end_machine.specs.Stands.{ServerStandsAt}
use Rattle.ssh_held.specs.Held.{session_of}
use Rattle.divrelca.specs.Parts.AesGcm.{aes_gcm}
use Rattle.divrelca_c.specs.Embedded.Deciding.{Asks}
use Rattle.divrelca_c.specs.Embedded.Users.{AreSettled, verdicts_of}
use Rattle.divrelca_c.proofs.OfEmbedded.Deciding.{VerdictLaws, answered_stands}
use Rattle.divrelca_c.proofs.embedded.deciding.Server.decide.Goals as goal

pub returns-clause-answered : goal.returns-clause-answered
returns-clause-answered c = λ _.
    let asks : Asks c.args.self.now c.in-Some.asked = search rules in
    record {
      asked = c.in-Some.asked;
      asks = asks;
      added = ap (λ s. s.end.role.own.judge.book.list.items) c.shut.ensures.same ∙ c.in_ok-say.ensures.said;
      entries = ap (λ s. s.end.role.own.judge.list) c.shut.ensures.same ∙ c.say.ensures.entries;
      shut = c.shut.ensures.shut;
    }

pub returns-clause-stands : goal.returns-clause-stands
returns-clause-stands c = λ _ p parts history place settled.
    let asks : Asks c.args.self.now c.in-Some.asked = search rules in
    let old = c.args.self.now in let new = c.shut.new.self in
    let laws : VerdictLaws = record {
      kept = c.first_verdict_counts.ensures.kept;
      other = c.first_verdict_counts.ensures.other;
      kept_signature = c.first_verdict_counts.ensures.kept_signature;
      judged = c.judged_asks.ensures;
    } in
    let moved = ap (λ s. s.end) c.shut.ensures.same ∙ c.say.ensures.rest in
    subst (λ m. ServerStandsAt (judged_by (verdicts_of new.end.role.own.judge) p) aes_gcm parts (verdicts_of new.end.role.own.judge) history m
    new.end.layers × AreSettled new.end.role.own.judge history) (sym (ap (λ e. e.machine) moved))
    (subst (λ l. ServerStandsAt (judged_by (verdicts_of new.end.role.own.judge) p) aes_gcm parts (verdicts_of new.end.role.own.judge) history
    old.end.machine l × AreSettled new.end.role.own.judge history) (sym (ap (λ e. e.layers) moved))
    (answered_stands laws c.parts_exchanged.ensures.judge c.judge_exchanged.ensures old.end.role.own.judge new.end.role.own.judge
    (record { asked = c.in-Some.asked; accepts = c.args.accepts }) (session_of old.end.machine) asks.request.user asks.request.method
    asks.unsettled asks.about
    (ap (λ s. s.end.role.own.judge.book.list.items) c.shut.ensures.same ∙ c.in_ok-say.ensures.said)
    (ap (λ s. s.end.role.own.judge.list.items) c.shut.ensures.same ∙ ap (λ l. l.items) c.say.ensures.entries) aes_gcm old.end.machine old.end.layers
    asks.alive asks.out p parts history place settled))
