use Rattle.std.proofs.Common.{◌+◌, ◌≤◌, ◌∙◌, List, ℕ, length, drop, ap, sym, subst}
use Rattle.std.specs.Option.{option_copied}
use Rattle.ssh_model.specs.Protocol.Bounds.{largest_packet}
use Rattle.ssh_model.specs.Protocol.Wire.DataTypes.{AreBytes}
use Rattle.ssh_model.specs.Laws.Reading.{Writes}
use Rattle.ssh_model.specs.Protocol.Wire.Packet.{Blocks}
use Rattle.ssh_model.specs.Protocol.Wire.Sealing.{blocks_under}
use Rattle.ssh_packet.specs.Writing.{HasParts, padding_for}
use Rattle.ssh_packet.proofs.Writing.{Written, padded_written, sealed_written}
use Rattle.ssh_packet.proofs.writer.write_packet.Goals as goal

pub returns : goal.returns
returns g c =
    let IsGiven : List ℕ → Type 0 = λ padding. g.F.Filler.gives c.args.filler.now padding c.put_parts.new.filler in
    let key = option_copied c.args.key in
    let start = length c.as_slice-start.result.now in
    let old = c.args.out.now.items in
    let put = c.put_parts.new.out.items in
    let written : Written g.S.Sealing.crypto key IsGiven c.blocks_of.result c.tag_of-tag.result start c.args.payload.now old put = record {
      blocks_are = c.blocks_of.ensures.value;
      are_blocks = c.blocks_of.ensures.size;
      tag_is = c.tag_of-tag.ensures.value;
      start_is = ap length c.as_slice-start.ensures.value;
      some = c.requires.some;
      fits =
          subst (λ (b : Blocks). 5 + length c.args.payload.now + padding_for b (length c.args.payload.now) + c.tag_of-tag.result ≤ largest_packet) (sym c.blocks_of.ensures.value)
          (subst (λ (t : ℕ). 5 + length c.args.payload.now + padding_for (blocks_under g.S.Sealing.crypto key) (length c.args.payload.now) + t ≤ largest_packet) (sym c.tag_of-tag.ensures.value) c.requires.fits);
      parts = subst (λ (n : ℕ). Writes (HasParts n c.tag_of-tag.result IsGiven c.args.payload.now) old put) c.least_padding-padding.ensures c.in_default.ensures.written;
      are_bytes = subst AreBytes (c.split_at.ensures.back ∙ ap (drop start) c.deref.ensures.value) c.are_bytes.ensures;
    } in
    record {
      written = sealed_written g.S.Sealing.crypto key IsGiven c.args.number c.blocks_of.result c.tag_of-tag.result start c.args.payload.now old put written c.seal_from.new.bytes.items c.seal_from.ensures;
      padded = padded_written g.S.Sealing.crypto key IsGiven c.args.number c.blocks_of.result c.tag_of-tag.result start c.args.payload.now old put written c.seal_from.new.bytes.items c.seal_from.ensures;
      kept = tt;
      full = tt;
    }
