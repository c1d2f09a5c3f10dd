use Rattle.std.proofs.Common.{List, ℕ}
use Rattle.ssh_packet.proofs.Writing.{parts_put}
use Rattle.ssh_packet.proofs.writer.put_parts.Goals as goal

pub returns-clause-written : goal.returns-clause-written
returns-clause-written g c =
    parts_put c.args.padding c.args.tag (λ (padding : List ℕ). g.F.Filler.gives c.args.filler.now padding c.put_padding.new.filler) c.args.payload.now c.args.out.now.items c.put_u32.new.self.items c.put_u8.new.self.items c.extend_from_slice.new.self.items c.put_padding.new.out.items c.in_ok-put_padding.ensures.written.bytes
    c.in_ok-put_u32.ensures.written c.in_ok-put_u8.ensures.written c.in_ok-extend_from_slice.ensures.items c.in_ok-put_padding.ensures.written.parts c.in_ok-put_padding.ensures.written.meets
