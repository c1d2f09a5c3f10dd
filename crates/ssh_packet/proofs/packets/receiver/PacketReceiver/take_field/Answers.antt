use Rattle.std.proofs.Common.{arith, ◌-◌, ◌∙◌, ℕ, ap, take}
use Rattle.ssh_model.specs.declared.refusal.Refusal.TheVariants.{NumberSpent}
use Rattle.ssh_packet.specs.Directions.{direction_of}
use Rattle.ssh_packet.proofs.DirectionUnits.{Field, Live, field_refused, field_spent, kept_spent, unrefused}
use Rattle.ssh_packet.proofs.packets.receiver.PacketReceiver.take_field.Goals as goal

pub invariant_of-self-in-More : goal.invariant_of-self-in-More
invariant_of-self-in-More g c =
    let l : Live g.S.Sealing.crypto (direction_of c.self.inside.key c.self.inside.number c.self.inside.count c.self.inside.epoch) c.self.inside.reader c.self.inside.ended c.args.self.now =
    record { same = c.self.view_is; kept = c.self.invariant; live = c.requires.live } in
    let f : Field g.S.Sealing.crypto (direction_of c.self.inside.key c.self.inside.number c.self.inside.count c.self.inside.epoch) c.self.inside.reader c.self.inside.ended c.args.self.now c.take-used.result.0 c.args.bytes.now c.length_field-field.result.now =
    record {
      live = l;
      spent = c.requires.spent;
      are_bytes = c.are_bytes.ensures;
      field_is = c.length_field-field.ensures ∙ ap (λ (n : ℕ). take (4 - n) c.args.bytes.now) c.held.ensures;
      used_to = c.take-used.ensures.used;
    } in
    kept_spent f _ NumberSpent (rw (c.as_ref.ensures.value, c.in-More.is) at (c.take-used.ensures.found (unrefused l)))

pub returns-else-held-lt-LENGTH_FIELD-clause-received : goal.returns-else-held-lt-LENGTH_FIELD-clause-received
returns-else-held-lt-LENGTH_FIELD-clause-received g c =
    let l : Live g.S.Sealing.crypto (direction_of c.self.inside.key c.self.inside.number c.self.inside.count c.self.inside.epoch) c.self.inside.reader c.self.inside.ended c.args.self.now =
    record { same = c.self.view_is; kept = c.self.invariant; live = c.requires.live } in
    let f : Field g.S.Sealing.crypto (direction_of c.self.inside.key c.self.inside.number c.self.inside.count c.self.inside.epoch) c.self.inside.reader c.self.inside.ended c.args.self.now c.take-used.result.0 c.args.bytes.now c.length_field-field.result.now =
    record {
      live = l;
      spent = c.requires.spent;
      are_bytes = c.are_bytes.ensures;
      field_is = c.length_field-field.ensures ∙ ap (λ (n : ℕ). take (4 - n) c.args.bytes.now) c.held.ensures;
      used_to = c.take-used.ensures.used;
    } in
    field_spent f _ (rw (c.as_ref.ensures.value, c.in-More.is) at (c.take-used.ensures.found (unrefused l))) (omega (arith, c.if-held-lt-LENGTH_FIELD.false, c.held-in-More.ensures))

pub returns-in-Refused-clause-received : goal.returns-in-Refused-clause-received
returns-in-Refused-clause-received g c =
    let l : Live g.S.Sealing.crypto (direction_of c.self.inside.key c.self.inside.number c.self.inside.count c.self.inside.epoch) c.self.inside.reader c.self.inside.ended c.args.self.now =
    record { same = c.self.view_is; kept = c.self.invariant; live = c.requires.live } in
    let f : Field g.S.Sealing.crypto (direction_of c.self.inside.key c.self.inside.number c.self.inside.count c.self.inside.epoch) c.self.inside.reader c.self.inside.ended c.args.self.now c.take-used.result.0 c.args.bytes.now c.length_field-field.result.now =
    record {
      live = l;
      spent = c.requires.spent;
      are_bytes = c.are_bytes.ensures;
      field_is = c.length_field-field.ensures ∙ ap (λ (n : ℕ). take (4 - n) c.args.bytes.now) c.held.ensures;
      used_to = c.take-used.ensures.used;
    } in
    field_refused f _ _ _ c.from-refusal.ensures (rw (c.as_ref.ensures.value, c.in-Refused.is) at (c.take-used.ensures.found (unrefused l)))
