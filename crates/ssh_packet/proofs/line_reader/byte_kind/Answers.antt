use Rattle.ssh_packet.proofs.LineUnits.{bad_byte}
use Rattle.ssh_packet.proofs.line_reader.byte_kind.Goals as goal

pub returns-then-is_bad : goal.returns-then-is_bad
returns-then-is_bad c =
    bad_byte c.args.from_server c.args.others c.args.text.now c.args.after_cr c.args.byte c.if-after_cr.false c.requires.is_text c.requires.room (c.is_bad.ensures.bad c.if-is_bad.true)
