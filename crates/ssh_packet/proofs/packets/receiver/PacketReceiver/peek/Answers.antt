use Rattle.std.proofs.Common.{ap, arith, refl, sym, ◌∙◌}
use Rattle.ssh_packet.specs.Directions.{Receiver, direction_of}
use Rattle.ssh_packet.specs.Reading.{Reading}
use Rattle.ssh_packet.proofs.DirectionUnits.{Live, count_is, found_more, found_payload, found_refused, unrefused}
use Rattle.ssh_packet.proofs.Peeking.{Alone, more_opens, refused_opens}
use Rattle.ssh_packet.proofs.packets.receiver.PacketReceiver.peek.Goals as goal

pub take-step-requires : goal.take-step-requires
take-step-requires g c = record { buffered = rw (c.as_ref.ensures.value, c.copy_from.ensures) c.self.invariant.buffered }

pub returns-in-Payload-clause-opens : goal.returns-in-Payload-clause-opens
returns-in-Payload-clause-opens g c = λ _.
    let live : Live g.S.Sealing.crypto (direction_of c.self.inside.key c.self.inside.number c.self.inside.count c.self.inside.epoch) c.self.inside.reader c.self.inside.ended c.args.self.now =
    record { same = c.self.view_is; kept = c.self.invariant; live = ap (λ (t : Receiver g.row.S-Key.Denot). t.ended) (sym c.self.view_is) ∙ c.in_default.is } in
    let found = c.take-step.ensures.found (ap (λ (r : Reading). r.refused) c.copy_from.ensures ∙ unrefused live) in
    let r = found_payload live (omega (arith, c.self.invariant.count, count_is live)) _ _ c.are_bytes.ensures _ (rw (c.as_ref.ensures.value, c.copy_from.ensures, c.in-Payload.is) at found) in
    record { used = c.take-step.result.0; within = c.take-step.ensures.used; live = live.live; opens = r.0 }

pub returns-in-More-clause-none : goal.returns-in-More-clause-none
returns-in-More-clause-none g c = λ _ payload n.
    let l : Alone g.S.Sealing.crypto c.args.self.now.direction.key c.args.self.now.direction.number c.args.self.now.direction.count = record {
      alone = λ unit more other a b. c.packet_units.ensures.stand_alone g.S.Sealing.crypto c.args.self.now.direction.key c.args.self.now.direction.number c.args.self.now.direction.count unit more other a b g.met.S.Sealing.laws;
      outcome = λ unit a b. c.packet_units.ensures.have_one_outcome g.S.Sealing.crypto c.args.self.now.direction.key c.args.self.now.direction.number c.args.self.now.direction.count unit a b g.met.S.Sealing.laws;
      begun = λ part unit more a. c.packet_units.ensures.come_after_what_is_begun g.S.Sealing.crypto c.args.self.now.direction.key c.args.self.now.direction.number c.args.self.now.direction.count part unit more a g.met.S.Sealing.laws;
    } in
    let live : Live g.S.Sealing.crypto (direction_of c.self.inside.key c.self.inside.number c.self.inside.count c.self.inside.epoch) c.self.inside.reader c.self.inside.ended c.args.self.now =
    record { same = c.self.view_is; kept = c.self.invariant; live = ap (λ (t : Receiver g.row.S-Key.Denot). t.ended) (sym c.self.view_is) ∙ c.in_default.is } in
    let found = c.take-step.ensures.found (ap (λ (r : Reading). r.refused) c.copy_from.ensures ∙ unrefused live) in
    let r = found_more live (omega (arith, c.self.invariant.count, count_is live)) _ _ c.are_bytes.ensures _ (rw (c.as_ref.ensures.value, c.copy_from.ensures, c.in-More.is) at found) in
    more_opens l c.args.bytes.now c.take-step.result.0 _ payload (c.take-step.ensures.more c.in-More.is) r n

pub returns-in-Refused-clause-none : goal.returns-in-Refused-clause-none
returns-in-Refused-clause-none g c = λ _ payload n.
    let l : Alone g.S.Sealing.crypto c.args.self.now.direction.key c.args.self.now.direction.number c.args.self.now.direction.count = record {
      alone = λ unit more other a b. c.packet_units.ensures.stand_alone g.S.Sealing.crypto c.args.self.now.direction.key c.args.self.now.direction.number c.args.self.now.direction.count unit more other a b g.met.S.Sealing.laws;
      outcome = λ unit a b. c.packet_units.ensures.have_one_outcome g.S.Sealing.crypto c.args.self.now.direction.key c.args.self.now.direction.number c.args.self.now.direction.count unit a b g.met.S.Sealing.laws;
      begun = λ part unit more a. c.packet_units.ensures.come_after_what_is_begun g.S.Sealing.crypto c.args.self.now.direction.key c.args.self.now.direction.number c.args.self.now.direction.count part unit more a g.met.S.Sealing.laws;
    } in
    let live : Live g.S.Sealing.crypto (direction_of c.self.inside.key c.self.inside.number c.self.inside.count c.self.inside.epoch) c.self.inside.reader c.self.inside.ended c.args.self.now =
    record { same = c.self.view_is; kept = c.self.invariant; live = ap (λ (t : Receiver g.row.S-Key.Denot). t.ended) (sym c.self.view_is) ∙ c.in_default.is } in
    let found = c.take-step.ensures.found (ap (λ (r : Reading). r.refused) c.copy_from.ensures ∙ unrefused live) in
    let r = found_refused live (omega (arith, c.self.invariant.count, count_is live)) _ _ c.are_bytes.ensures _ _ _ refl (rw (c.as_ref.ensures.value, c.copy_from.ensures, c.in-Refused.is) at found) in
    refused_opens l c.args.bytes.now c.take-step.result.0 _ payload _ r n
