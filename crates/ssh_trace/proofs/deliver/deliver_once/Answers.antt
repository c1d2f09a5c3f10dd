use Rattle.std.proofs.Common.{take}
use Rattle.ssh_trace.proofs.Turning.{turn_more, turn_taken, turn_refused}
use Rattle.ssh_trace.proofs.deliver.deliver_once.Goals as goal

pub returns-in-More-clause-turn : goal.returns-in-More-clause-turn
returns-in-More-clause-turn c = λ h s.
    turn_more (take c.take-used.result.0 c.args.bytes.now) c.args.side h c.args.end.now c.take-used.new.self c.args.log.now.items s c.requires.alive (rw c.in-More.is at c.take-used.ensures.found)

pub returns-in_ok-note_took-in-Payload-clause-turn : goal.returns-in_ok-note_took-in-Payload-clause-turn
returns-in_ok-note_took-in-Payload-clause-turn c = λ h s.
    turn_taken (take c.take-used.result.0 c.args.bytes.now) c.args.side h c.args.end.now c.take-used.new.self c.args.log.now.items c.note_took.new.log.items s c.requires.alive
    (rw c.in-Payload.is at c.take-used.ensures.found) (rw c.payload.ensures at c.in_ok-note_took-in-Payload.ensures)

pub returns-in_ok-note-in-Refused-2-clause-turn : goal.returns-in_ok-note-in-Refused-2-clause-turn
returns-in_ok-note-in-Refused-2-clause-turn c = λ h s.
    turn_refused (take c.take-used.result.0 c.args.bytes.now) c.args.side h c.args.end.now c.take-used.new.self c.in-Refused.refusal c.args.log.now.items c.note.new.log.items c.note-in-Refused.new.log.items s
    c.requires.alive (rw c.in-Refused.is at c.take-used.ensures.found) c.in_ok-note-in-Refused.ensures c.in_ok-note-in-Refused-2.ensures
