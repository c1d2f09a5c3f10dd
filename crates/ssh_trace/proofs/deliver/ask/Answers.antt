use Rattle.std.proofs.Common.{◌∙◌, sym}
use Rattle.ssh_trace.proofs.Turning.{asked_dead, asked_sent, asked_too_long, asked_spent}
use Rattle.ssh_trace.proofs.deliver.ask.Goals as goal

pub returns-then-is_dead-clause-asked : goal.returns-then-is_dead-clause-asked
returns-then-is_dead-clause-asked c = λ h s. asked_dead _ c.args.payload.now c.args.out.now.items c.args.side h c.args.end.now c.args.log.now.items s (sym c.is_dead.ensures ∙ c.if-is_dead.true)

pub returns-in_ok-note_sent-in-Sent-clause-asked : goal.returns-in_ok-note_sent-in-Sent-clause-asked
returns-in_ok-note_sent-in-Sent-clause-asked c = λ h s.
    asked_sent c.args.payload.now c.args.out.now.items c.ask.new.out.items c.args.side h c.args.end.now c.ask.new.self c.args.log.now.items c.note.new.log.items c.note_sent.new.log.items s
    (sym c.is_dead.ensures ∙ c.if-is_dead.false) (rw c.in-Sent.is at c.in_ok-ask.ensures.asked) c.in_ok-note-in-Sent.ensures c.in_ok-note_sent-in-Sent.ensures

pub returns-in_ok-note-in-TooLong-2-clause-asked : goal.returns-in_ok-note-in-TooLong-2-clause-asked
returns-in_ok-note-in-TooLong-2-clause-asked c = λ h s.
    asked_too_long _ c.args.payload.now c.args.out.now.items c.ask.new.out.items c.args.side h c.args.end.now c.ask.new.self c.args.log.now.items c.note-in-TooLong.new.log.items c.note-in-TooLong-2.new.log.items s
    (sym c.is_dead.ensures ∙ c.if-is_dead.false) (rw c.in-TooLong.is at c.in_ok-ask.ensures.asked) c.in_ok-note-in-TooLong.ensures c.in_ok-note-in-TooLong-2.ensures

pub returns-in_ok-note-in-Spent-3-clause-asked : goal.returns-in_ok-note-in-Spent-3-clause-asked
returns-in_ok-note-in-Spent-3-clause-asked c = λ h s.
    asked_spent _ c.args.payload.now c.args.out.now.items c.ask.new.out.items c.args.side h c.args.end.now c.ask.new.self c.args.log.now.items c.note-in-Spent.new.log.items c.note-in-Spent-2.new.log.items c.note-in-Spent-3.new.log.items s
    (sym c.is_dead.ensures ∙ c.if-is_dead.false) (rw c.in-Spent.is at c.in_ok-ask.ensures.asked) c.in_ok-note-in-Spent.ensures c.in_ok-note-in-Spent-2.ensures c.in_ok-note-in-Spent-3.ensures
