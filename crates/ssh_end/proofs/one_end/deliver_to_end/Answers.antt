use Rattle.std.proofs.Common.{◌≡◌, ◌+◌, false, List, ℕ, [], ◌∷◌, drop, take, ◌++◌, arith, refl, sym, ap, ◌∙◌, subst}
use Rattle.std.proofs.Common.{take-add, take-append-drop}
use Rattle.ssh_model.specs.Protocol.Sessions.Items.{Item.Died}
use Rattle.ssh_model.specs.Protocol.Side.{done_by, part}
use Rattle.ssh_transport_machine.specs.State.{buffered_of}
use Rattle.ssh_end.specs.TwoEnds.Playing.{Advanced}
use Rattle.ssh_end.specs.TwoEnds.Recorded.{recorded_sent}
use Rattle.ssh_end.specs.TwoEnds.Standing.{EndStands, kept_bytes, standing_of, state_in}
use Rattle.ssh_end.proofs.TwoEnds.Advancing.{advanced_dead, advanced_more, advanced_none}
use Rattle.ssh_end.proofs.TwoEnds.Going.{fallen, went}
use Rattle.ssh_end.proofs.TwoEnds.Losing.{fell}
use Rattle.ssh_end.proofs.TwoEnds.Padding.{fallen_dead, falls_padded, padded_then, puts_padded, stays_padded}
use Rattle.ssh_end.proofs.one_end.deliver_to_end.Goals as goal

pub loop-at-init : goal.loop-at-init
loop-at-init g c = record {
  within = omega arith;
  padded = stays_padded g.R.Exchange.Sealing.Sealing.crypto g.R.Exchange.Filler.Filler.gives g.R.Exchange.Role.SIDE c.args.end.now c.args.log.now.items c.args.log.now.items c.args.out.now.items refl;
  alone = refl;
  role = refl;
  going = λ p run s. advanced_none p g.R.Exchange.Role.SIDE c.items_stay_on_one_side.ensures.here run (kept_bytes c.args.end.now.machine) (EndStands p g.R.Exchange.Role.SIDE (standing_of g.R.EndRole c.args.end.now)) c.args.log.now.items c.args.out.now.items s;
}

pub returns-then-is_dead-clause-advanced : goal.returns-then-is_dead-clause-advanced
returns-then-is_dead-clause-advanced g c = λ p run s.
    let side = g.R.Exchange.Role.SIDE in
    let x = c.loop-at.invariant.going p run s in
    let stands = EndStands p side (standing_of g.R.EndRole c.loop-at.end) in
    let dead = sym x.stands.sums.transport.dead_is ∙ (sym c.is_dead.ensures ∙ c.if-is_dead.true) in
    subst (λ (bytes : List ℕ). Advanced p side run bytes (kept_bytes c.args.end.now.machine) (kept_bytes c.loop-at.end.machine) stands c.args.log.now.items c.loop-at.log.items c.args.out.now.items c.loop-at.out.items) (take-append-drop c.loop-at.at c.args.piece.now)
    (advanced_dead p side c.items_stay_on_one_side.ensures.here run (take c.loop-at.at c.args.piece.now) (drop c.loop-at.at c.args.piece.now) (kept_bytes c.args.end.now.machine) (kept_bytes c.loop-at.end.machine) stands c.args.log.now.items c.loop-at.log.items c.args.out.now.items c.loop-at.out.items x dead)

pub loop-at-preserved : goal.loop-at-preserved
loop-at-preserved g c =
    let side = g.R.Exchange.Role.SIDE in
    let old = c.loop-at.end in
    let new = c.take_step.new.self in
    let used = c.in-Ok.used in
    let alive : old.machine.kept.dead ≡ false = sym c.is_dead.ensures ∙ c.if-is_dead.false in
    let advances = rw c.in-Ok.is at c.take_step.ensures.advances in
    let recorded = rw c.SIDE-side.ensures at c.in_ok-record_turn.ensures.sent in
    let was = c.loop-at.invariant.role in
    let now = c.take_step.ensures.role in
    record {
      within = omega (arith, (rw c.in-Ok.is at c.take_step.ensures.used), c.split_at.ensures.back_len);
      padded = padded_then g.R.Exchange.Sealing.Sealing.crypto g.R.Exchange.Filler.Filler.gives side c.args.end.now c.args.log.now.items c.args.out.now.items old c.loop-at.log.items c.loop-at.out.items new c.record_turn.new.log.items c.take_step.new.out.items c.loop-at.invariant.padded
          (puts_padded g.R.Exchange.Sealing.Sealing.crypto g.R.Exchange.Filler.Filler.gives side old c.loop-at.log.items c.loop-at.out.items new c.record_turn.new.log.items c.take_step.new.out.items alive
          (rw c.in-Ok.is at c.take_step.ensures.padded) (recorded.own ∙ ap (λ (l : List (List ℕ)). recorded_sent side c.loop-at.log.items ++ l) c.last_turn.ensures.sent));
      alone = recorded.others ∙ c.loop-at.invariant.alone;
      role = now ∙ was;
      going = λ p run s.
          let x = c.loop-at.invariant.going p run s in
          let before = done_by side x.items ++ run in
          let standing = standing_of g.R.EndRole old in
          let y =
          went p side before standing (standing_of g.R.EndRole new) x.stands alive c.items_stay_on_one_side.ensures.here (take used c.split_at.result.1.now) c.last_turn.result c.loop-at.log.items c.record_turn.new.log.items c.loop-at.out.items c.take_step.new.out.items new.sent
          (rw c.SIDE-side.ensures at (rw c.is_dead-is_over.ensures at c.in_ok-record_turn.ensures.records)) c.last_turn.ensures.sent
          (λ unit items more e turned following last rest d. c.deliveries.ensures.unit p side before (state_in standing) x.stands.sums alive unit items more e turned following last rest d)
          new.step (c.last_turn.ensures.channels ∙ advances.channels) (advances.placed p (part side before) x.stands) c.last_turn.ensures.shows c.last_turn.ensures.more in
          let first = EndStands p side (standing_of g.R.EndRole old) in
          let second = EndStands p side (standing_of g.R.EndRole new) in
          let bytes : take (c.loop-at.at + used) c.args.piece.now ≡ take c.loop-at.at c.args.piece.now ++ take used c.split_at.result.1.now =
          take-add c.loop-at.at used c.args.piece.now ∙ ap (λ (l : List ℕ). take c.loop-at.at c.args.piece.now ++ take used l) (sym c.split_at.ensures.back) in
          subst (λ (l : List ℕ). Advanced p side run l (kept_bytes c.args.end.now.machine) (kept_bytes new.machine) second c.args.log.now.items c.record_turn.new.log.items c.args.out.now.items c.take_step.new.out.items) (sym bytes)
          (advanced_more p side c.items_stay_on_one_side.ensures.here run (take c.loop-at.at c.args.piece.now) (take used c.split_at.result.1.now) (kept_bytes c.args.end.now.machine) (kept_bytes old.machine) (kept_bytes new.machine) first second
          c.args.log.now.items c.loop-at.log.items c.record_turn.new.log.items c.args.out.now.items c.loop-at.out.items c.take_step.new.out.items x y);
    }

pub returns-in_default-clause-advanced : goal.returns-in_default-clause-advanced
returns-in_default-clause-advanced g c = λ p run s.
    let side = g.R.Exchange.Role.SIDE in
    let old = c.loop-at.end in
    let new = c.take_step.new.self in
    let alive : old.machine.kept.dead ≡ false = sym c.is_dead.ensures ∙ c.if-is_dead.false in
    let x = c.loop-at.invariant.going p run s in
    let now = done_by side x.items ++ run in
    let was = standing_of g.R.EndRole old in
    let end = standing_of g.R.EndRole new in
    let lost = fell g.R.EndRole g.R.Exchange.Role p (part side now) old new c.split_at.result.1.now c.in_default.field-0 c.in_default.ensures.failed alive (c.in_default.ensures.placed p (part side now) x.stands) in
    let unit = buffered_of old.machine ++ take lost.lost.used c.split_at.result.1.now in
    let died = lost.lost.needs_memory in
    let turned = c.deaths.ensures.units p side (part side now) unit (state_in end) died.died lost.dead in
    let y =
    fallen p side now was end x.stands alive c.items_stay_on_one_side.ensures.here lost.dead c.split_at.result.1.now c.loop-at.log.items c.record_death.new.log.items c.loop-at.out.items c.take_step.new.out.items lost.lost.used died.place turned
    (λ following last rest d. c.deliveries.ensures.unit p side now (state_in was) x.stands.sums alive unit (Died ∷ []) [] (state_in end) turned following last rest d)
    (rw c.SIDE-side.ensures at c.in_ok-record_death.ensures.records) c.in_default.ensures.out in
    subst (λ (l : List ℕ). Advanced p side run l (kept_bytes c.args.end.now.machine) (kept_bytes new.machine) (EndStands p side end) c.args.log.now.items c.record_death.new.log.items c.args.out.now.items c.take_step.new.out.items)
    (ap (λ (l : List ℕ). take c.loop-at.at c.args.piece.now ++ l) c.split_at.ensures.back ∙ take-append-drop c.loop-at.at c.args.piece.now)
    (advanced_more p side c.items_stay_on_one_side.ensures.here run (take c.loop-at.at c.args.piece.now) c.split_at.result.1.now (kept_bytes c.args.end.now.machine) (kept_bytes old.machine) (kept_bytes new.machine) (EndStands p side was) (EndStands p side end)
    c.args.log.now.items c.loop-at.log.items c.record_death.new.log.items c.args.out.now.items c.loop-at.out.items c.take_step.new.out.items x y)

pub returns-in_default-clause-padded : goal.returns-in_default-clause-padded
returns-in_default-clause-padded g c =
    let side = g.R.Exchange.Role.SIDE in
    let old = c.loop-at.end in
    let new = c.take_step.new.self in
    let alive : old.machine.kept.dead ≡ false = sym c.is_dead.ensures ∙ c.if-is_dead.false in
    let recorded = rw c.SIDE-side.ensures at c.in_ok-record_death.ensures.sent in
    padded_then g.R.Exchange.Sealing.Sealing.crypto g.R.Exchange.Filler.Filler.gives side c.args.end.now c.args.log.now.items c.args.out.now.items old c.loop-at.log.items c.loop-at.out.items new c.record_death.new.log.items c.take_step.new.out.items c.loop-at.invariant.padded
    (falls_padded g.R.Exchange.Sealing.Sealing.crypto g.R.Exchange.Filler.Filler.gives side old c.loop-at.log.items c.loop-at.out.items new c.record_death.new.log.items c.take_step.new.out.items alive
    (fallen_dead old.machine new.machine c.in_default.field-0 c.in_default.ensures.failed alive) c.in_default.ensures.out recorded.own)

pub returns-in_default-clause-alone : goal.returns-in_default-clause-alone
returns-in_default-clause-alone g c = let recorded = rw c.SIDE-side.ensures at c.in_ok-record_death.ensures.sent in recorded.others ∙ c.loop-at.invariant.alone
