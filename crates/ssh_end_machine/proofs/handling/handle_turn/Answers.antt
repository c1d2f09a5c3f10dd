use Rattle.std.proofs.Common.{[], append-nil, sym, ◌∙◌}
use Rattle.std.specs.Prelude.{Err, Ok}
use Rattle.ssh_end_machine.specs.Judging.{JudgeNeedsMemory, JudgesPayload}
use Rattle.ssh_end_machine.specs.Units.{UpNeedsMemory}
use Rattle.ssh_end_machine.proofs.Judging.{if_ok, memory_in, on_err, refused_in}
use Rattle.ssh_end_machine.proofs.Following.{finish_follows}
use Rattle.ssh_end_machine.proofs.handling.handle_turn.Goals as goal

pub returns-in-Ok-clause-goes : goal.returns-in-Ok-clause-goes
returns-in-Ok-clause-goes g c =
    rw (c.in-Up.is) (if_ok c.send_reply.result (λ step x. record { given = Ok c.in-Ok.above; judged = c.in-Ok.ensures.judged; finished = x }) c.send_reply.ensures.finished)

pub returns-in-Ok-clause-needs_memory : goal.returns-in-Ok-clause-needs_memory
returns-in-Ok-clause-needs_memory g c =
    rw (c.in-Up.is) (on_err c.send_reply.result (λ x. UpNeedsMemory.sending (Ok c.in-Ok.above) c.judge.new.layers c.in-Ok.ensures.judged x) c.send_reply.ensures.needs_memory)

pub returns-in-Ok-clause-out : goal.returns-in-Ok-clause-out
returns-in-Ok-clause-out g c = on_err c.send_reply.result (λ e. record { more = []; parts = e ∙ sym (append-nil _) }) c.send_reply.ensures.out

pub returns-in-Ok-clause-follows : goal.returns-in-Ok-clause-follows
returns-in-Ok-clause-follows g c = finish_follows _ c.args.transport.now.machine c.send_reply.new.transport.machine c.judge.new.layers.authentication _ c.in-Ok.above c.send_reply.result c.send_reply.ensures.finished c.send_reply.ensures.dead c.in-Ok.ensures.follows

pub returns-in-Err-Refused-clause-goes : goal.returns-in-Err-Refused-clause-goes
returns-in-Err-Refused-clause-goes g c =
    let judged = refused_in (λ given. JudgesPayload (g.R.EndRole.judging c.args.role.now) c.args.transport.now.machine c.args.layers.now given c.judge.new.layers) c.in-Err-Refused.field-0 c.in-Err-Refused.why c.in-Err-Refused.field-0-is c.in-Err-Refused.ensures.judged in
    rw (c.in-Up.is) (if_ok c.refuse.result (λ step x. record { given = Err c.in-Err-Refused.why; judged = judged; finished = x }) c.refuse.ensures.finished)

pub returns-in-Err-Refused-clause-needs_memory : goal.returns-in-Err-Refused-clause-needs_memory
returns-in-Err-Refused-clause-needs_memory g c =
    let judged = refused_in (λ given. JudgesPayload (g.R.EndRole.judging c.args.role.now) c.args.transport.now.machine c.args.layers.now given c.judge.new.layers) c.in-Err-Refused.field-0 c.in-Err-Refused.why c.in-Err-Refused.field-0-is c.in-Err-Refused.ensures.judged in
    rw (c.in-Up.is) (on_err c.refuse.result (λ x. UpNeedsMemory.sending (Err c.in-Err-Refused.why) c.judge.new.layers judged x) c.refuse.ensures.needs_memory)

pub returns-in-Err-Memory-clause-needs_memory : goal.returns-in-Err-Memory-clause-needs_memory
returns-in-Err-Memory-clause-needs_memory g c =
    rw (c.in-Up.is) (UpNeedsMemory.judging (memory_in (JudgeNeedsMemory (g.R.EndRole.judging c.args.role.now) c.args.transport.now.machine c.args.layers.now) c.in-Err-Memory.field-0 c.in-Err-Memory.field-0-is c.in-Err-Memory.ensures.needs_memory))
