use Rattle.std.proofs.Common.{◌-◌, ◌<◌, List, ℕ, Option, arith, ap, length, take, drop, subst, sym, refl, ◌∙◌}
use Rattle.std.proofs.lemmas.List.{get_or_read_under, length-take-le}
use Rattle.std.specs.Option.{option_copied}
use Rattle.std.specs.Vec.{with_items}
use Rattle.ssh_model.specs.Protocol.Wire.DataTypes.{AreBytes}
use Rattle.ssh_model.specs.Protocol.Wire.Sealing.{tag_under}
use Rattle.ssh_packet.specs.Reading.{Reading, empty}
use Rattle.ssh_packet.specs.declared.refusal.PacketRefusal.{PacketRefusal}
use Rattle.ssh_packet.proofs.Buffers.{all_again}
use Rattle.ssh_packet.proofs.Opening.{IsJudged, judged_packet, judged_padding}
use Rattle.ssh_packet.proofs.reader.PacketReader.judge.Goals.{then-padding-lt4-via-then-padding-lt4, then-padding-lt4-via-else-padding-lt4+then-padding-size}
use Rattle.ssh_packet.proofs.reader.PacketReader.judge.Goals as goal

pub returns-then-padding-lt4-clause-found : goal.returns-then-padding-lt4-clause-found
returns-then-padding-lt4-clause-found g c =
    let rest = ap (λ (r : Reading). r.rest) c.self.view_is in
    let before = ap (take c.self.inside.filled) c.deref_mut.ensures.value ∙ rest in
    let after = all_again c.self.inside.buffer.len c.open.new.buffer c.self.inside.buffer.items (c.open.auto.buffer ∙ c.deref_mut.ensures.len) in
    let size = ap length after ∙ c.open.auto.buffer ∙ c.deref_mut.ensures.len in
    let judged : IsJudged g.S.Sealing.crypto (option_copied c.args.key) c.args.number c.args.tag c.self.inside.filled c.args.self.now.rest (with_items c.self.inside.buffer c.open.new.buffer).items = record {
      laws = g.met.S.Sealing.laws;
      number_fits = omega (arith, c.ranges.number.fits);
      are_bytes = subst AreBytes (ap (take c.self.inside.filled) c.deref.ensures.value ∙ rest) c.are_bytes.ensures;
      tag_is = c.requires.tag;
      whole = c.requires.whole;
      good = sym (rw before at c.open.ensures.good) ∙ c.if-not-open.false;
      packet = ap (λ (x : List ℕ). take (c.self.inside.filled - tag_under g.S.Sealing.crypto (option_copied c.args.key)) (take c.self.inside.filled x)) after ∙ (rw before at c.open.ensures.bytes);
      size_is = ap length (sym rest) ∙ length-take-le c.self.inside.filled c.self.inside.buffer.items (omega (arith, c.self.invariant.0, c.self.invariant.2));
      within = omega (arith, size, c.self.invariant.0, c.self.invariant.2);
    } in
    let told = c.from-padding.ensures ∙ get_or_read_under (with_items c.self.inside.buffer c.open.new.buffer).items 4 _ _ 0 c.index.ensures (omega (arith, size, c.self.invariant.0)) refl in
    rw c.refuse-then-padding-lt4.ensures.step (
      judged_padding judged c.from-padding.result told (λ from to. elim c.then-padding-lt4.branch [
        | then-padding-lt4-via-then-padding-lt4 w ↦ omega (arith, w.if-padding-lt4.true, from)
        | then-padding-lt4-via-else-padding-lt4+then-padding-size w ↦ omega (arith, w.if-padding-size.true, to)
      ]),
      c.refuse-then-padding-lt4.ensures.after,
    )

pub returns-clause-found : goal.returns-clause-found
returns-clause-found g c =
    let rest = ap (λ (r : Reading). r.rest) c.self.view_is in
    let before = ap (take c.self.inside.filled) c.deref_mut.ensures.value ∙ rest in
    let after = all_again c.self.inside.buffer.len c.open.new.buffer c.self.inside.buffer.items (c.open.auto.buffer ∙ c.deref_mut.ensures.len) in
    let size = ap length after ∙ c.open.auto.buffer ∙ c.deref_mut.ensures.len in
    let judged : IsJudged g.S.Sealing.crypto (option_copied c.args.key) c.args.number c.args.tag c.self.inside.filled c.args.self.now.rest (with_items c.self.inside.buffer c.open.new.buffer).items = record {
      laws = g.met.S.Sealing.laws;
      number_fits = omega (arith, c.ranges.number.fits);
      are_bytes = subst AreBytes (ap (take c.self.inside.filled) c.deref.ensures.value ∙ rest) c.are_bytes.ensures;
      tag_is = c.requires.tag;
      whole = c.requires.whole;
      good = sym (rw before at c.open.ensures.good) ∙ c.if-not-open.false;
      packet = ap (λ (x : List ℕ). take (c.self.inside.filled - tag_under g.S.Sealing.crypto (option_copied c.args.key)) (take c.self.inside.filled x)) after ∙ (rw before at c.open.ensures.bytes);
      size_is = ap length (sym rest) ∙ length-take-le c.self.inside.filled c.self.inside.buffer.items (omega (arith, c.self.invariant.0, c.self.invariant.2));
      within = omega (arith, size, c.self.invariant.0, c.self.invariant.2);
    } in
    let told = c.from-padding.ensures ∙ get_or_read_under (with_items c.self.inside.buffer c.open.new.buffer).items 4 _ _ 0 c.index.ensures (omega (arith, size, c.self.invariant.0)) refl in
    let byte : c.index.result.now < 256 = omega arith in
    let payload = take (c.self.inside.filled - c.args.tag - 5 - c.from-padding.result) (drop 5 (with_items c.self.inside.buffer c.open.new.buffer).items) in (
      judged_packet judged c.from-padding.result told (omega (arith, c.from-padding.ensures, byte)) c.if-padding-lt4.false c.if-padding-size.false,
      ap (λ (x : Option PacketRefusal). record empty { payload = payload; refused = x }) (ap (λ (r : Reading). r.refused) (c.self.view_is ∙ c.requires.clear)),
    )
