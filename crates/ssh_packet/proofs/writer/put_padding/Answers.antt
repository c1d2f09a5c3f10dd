use Rattle.std.proofs.Common.{List, ℕ, arith}
use Rattle.std.proofs.lemmas.List.{take-replicate}
use Rattle.ssh_packet.proofs.Writing.{tail_put}
use Rattle.ssh_packet.proofs.writer.put_padding.Goals as goal

pub fill_front-requires-clause-zeros : goal.fill_front-requires-clause-zeros
fill_front-requires-clause-zeros g c = take-replicate c.args.padding 319 0 (omega (arith, c.requires.padding))

pub returns-clause-written : goal.returns-clause-written
returns-clause-written g c =
    tail_put c.args.padding c.args.tag (λ (padding : List ℕ). g.F.Filler.gives c.args.filler.now padding c.fill_front.new.filler) c.fill_front.new.room c.args.out.now.items c.extend_from_slice.new.self.items
    c.fill_front.ensures.given (omega (arith, c.requires.padding, c.requires.tag, c.fill_front.ensures.size)) c.in_ok-extend_from_slice.ensures.items
