use Rattle.std.proofs.Common.{arith, ap, sym, ◌∙◌}
use Rattle.ssh_packet.specs.Directions.{Receiver, direction_of}
use Rattle.ssh_packet.proofs.DirectionUnits.{Live, count_is, found_more, found_payload, found_refused, kept_more, unrefused}
use Rattle.ssh_packet.proofs.packets.receiver.PacketReceiver.take.Goals as goal

pub take-used-requires : goal.take-used-requires
take-used-requires g c = record { buffered = rw c.as_ref.ensures.value c.self.invariant.buffered }

pub invariant_of-self-in-More : goal.invariant_of-self-in-More
invariant_of-self-in-More g c =
    let l : Live g.S.Sealing.crypto (direction_of c.self.inside.key c.self.inside.number c.self.inside.count c.self.inside.epoch) c.self.inside.reader c.self.inside.ended c.args.self.now =
    record { same = c.self.view_is; kept = c.self.invariant; live = ap (λ (t : Receiver g.row.S-Key.Denot). t.ended) (sym c.self.view_is) ∙ c.in_default.is } in
    kept_more l (omega (arith, c.self.invariant.count, count_is l)) _ _ c.are_bytes.ensures _ (rw (c.as_ref.ensures.value, c.in-More.is) at (c.take-used.ensures.found (unrefused l)))

pub returns-in-Payload-clause-received : goal.returns-in-Payload-clause-received
returns-in-Payload-clause-received g c = λ live.
    let l : Live g.S.Sealing.crypto (direction_of c.self.inside.key c.self.inside.number c.self.inside.count c.self.inside.epoch) c.self.inside.reader c.self.inside.ended c.args.self.now =
    record { same = c.self.view_is; kept = c.self.invariant; live = live } in
    found_payload l (omega (arith, c.self.invariant.count, count_is l)) _ _ c.are_bytes.ensures _ (rw (c.as_ref.ensures.value, c.in-Payload.is) at (c.take-used.ensures.found (unrefused l)))

pub returns-in-More-clause-received : goal.returns-in-More-clause-received
returns-in-More-clause-received g c = λ live.
    let l : Live g.S.Sealing.crypto (direction_of c.self.inside.key c.self.inside.number c.self.inside.count c.self.inside.epoch) c.self.inside.reader c.self.inside.ended c.args.self.now =
    record { same = c.self.view_is; kept = c.self.invariant; live = live } in
    found_more l (omega (arith, c.self.invariant.count, count_is l)) _ _ c.are_bytes.ensures _ (rw (c.as_ref.ensures.value, c.in-More.is) at (c.take-used.ensures.found (unrefused l)))

pub returns-in-Refused-clause-received : goal.returns-in-Refused-clause-received
returns-in-Refused-clause-received g c = λ live.
    let l : Live g.S.Sealing.crypto (direction_of c.self.inside.key c.self.inside.number c.self.inside.count c.self.inside.epoch) c.self.inside.reader c.self.inside.ended c.args.self.now =
    record { same = c.self.view_is; kept = c.self.invariant; live = live } in
    found_refused l (omega (arith, c.self.invariant.count, count_is l)) _ _ c.are_bytes.ensures _ _ _ c.from-refusal.ensures (rw (c.as_ref.ensures.value, c.in-Refused.is) at (c.take-used.ensures.found (unrefused l)))
