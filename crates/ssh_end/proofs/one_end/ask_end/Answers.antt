use Rattle.std.proofs.Common.{◌≡◌, false, refl, sym, ◌∙◌, subst}
use Rattle.std.specs.Prelude.{OnErr}
use Rattle.ssh_model.specs.Protocol.Side.{part}
use Rattle.ssh_end_machine.specs.Asking.{ask_of}
use Rattle.ssh_end.specs.TwoEnds.Standing.{standing_of}
use Rattle.ssh_end.proofs.TwoEnds.Going.{answers, over}
use Rattle.ssh_end.proofs.TwoEnds.Recording.{on_ok}
use Rattle.ssh_end.specs.TwoEnds.Recorded.{RecordsAsked}
use Rattle.ssh_end.proofs.TwoEnds.Recorded.{asked_alone}
use Rattle.ssh_end.proofs.TwoEnds.Padding.{asks_padded, stays_padded}
use Rattle.ssh_end.proofs.one_end.ask_end.Goals as goal

pub returns-then-is_dead-clause-answers : goal.returns-then-is_dead-clause-answers
returns-then-is_dead-clause-answers g c = λ p run s. over p g.R.Exchange.Role.SIDE run (standing_of g.R.EndRole c.args.end.now) (ask_of c.args.ask.now) c.args.log.now.items c.args.out.now.items s (sym c.is_dead.ensures ∙ c.if-is_dead.true)

pub returns-clause-answers : goal.returns-clause-answers
returns-clause-answers g c =
    let alive : c.args.end.now.machine.kept.dead ≡ false = sym c.is_dead.ensures ∙ c.if-is_dead.false in
    let side = g.R.Exchange.Role.SIDE in
    on_ok c.record_ask.result (λ recorded p run s.
    answers p side run (standing_of g.R.EndRole c.args.end.now) (standing_of g.R.EndRole c.ask_step-done.new.self) s alive c.items_stay_on_one_side.ensures.here c.ask_step-done.ensures.reading (ask_of c.args.ask.now) c.args.log.now.items c.record_ask.new.log.items c.args.out.now.items c.ask_step-done.new.out.items
    c.ask_step-done.new.self.sent _ c.last_turn.ensures.sent c.ask_step-done.new.self.channels _ c.last_turn.ensures.channels c.ask_step-done.result c.is_dead-is_over.result c.is_dead-is_over.ensures
    (λ fault e. subst (λ r. OnErr r (c.ask_step-done.new.out.items ≡ c.args.out.now.items)) e c.ask_step-done.ensures.out)
    (c.ask_step-done.ensures.placed p (part side run) s) c.ask_step-done.ensures.channels recorded) (rw c.SIDE.ensures at c.record_ask.ensures.records)

pub returns-then-is_dead-clause-padded : goal.returns-then-is_dead-clause-padded
returns-then-is_dead-clause-padded g c = stays_padded g.R.Exchange.Sealing.Sealing.crypto g.R.Exchange.Filler.Filler.gives g.R.Exchange.Role.SIDE c.args.end.now c.args.log.now.items c.args.log.now.items c.args.out.now.items refl

pub returns-clause-padded : goal.returns-clause-padded
returns-clause-padded g c =
    let alive : c.args.end.now.machine.kept.dead ≡ false = sym c.is_dead.ensures ∙ c.if-is_dead.false in
    on_ok c.record_ask.result (λ recorded.
    asks_padded g.R.Exchange.Sealing.Sealing.crypto g.R.Exchange.Filler.Filler.gives g.R.Exchange.Role.SIDE c.args.end.now c.args.log.now.items c.args.out.now.items c.ask_step-done.new.self c.record_ask.new.log.items c.ask_step-done.new.out.items
    c.ask_step-done.result alive c.ask_step-done.ensures.padded c.ask_step-done.ensures.fails c.ask_step-done.ensures.out c.ask_step-done.ensures.unsent
    (subst (λ l. RecordsAsked g.R.Exchange.Role.SIDE c.ask_step-done.result l c.args.log.now.items c.record_ask.new.log.items) c.last_turn.ensures.sent recorded)) (rw c.SIDE.ensures at c.record_ask.ensures.sent)

pub returns-clause-alone : goal.returns-clause-alone
returns-clause-alone g c = on_ok c.record_ask.result (λ recorded. asked_alone g.R.Exchange.Role.SIDE c.ask_step-done.result _ c.args.log.now.items c.record_ask.new.log.items recorded) (rw c.SIDE.ensures at c.record_ask.ensures.sent)
