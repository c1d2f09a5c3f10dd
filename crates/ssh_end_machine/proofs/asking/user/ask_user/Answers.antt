use Rattle.std.proofs.Common.{ap, refl, subst, sym, ◌∙◌}
use Rattle.ssh_auth.specs.Asking.{ClientRefuses, ask_of}
use Rattle.ssh_model.specs.declared.ask_refusal.AskRefusal.{AskRefusal}
use Rattle.ssh_types.specs.declared.call_error.CallError.{CallError}
use Rattle.ssh_transport_machine.specs.State.{State}
use Rattle.ssh_end_machine.proofs.AsksUser.{memory_row, sent_row}
use Rattle.ssh_end_machine.proofs.Following.{request_goes}
use Rattle.ssh_end_machine.proofs.asking.user.ask_user.Goals as goal

pub returns-in-Ok-clause-row : goal.returns-in-Ok-clause-row
returns-in-Ok-clause-row g c =
    sent_row _ _ c.args.transport.now.machine c.args.client.now c.args.ask.now (sym c.is_dead.ensures ∙ c.if-is_dead.false) _ c.session_of-session.ensures.id _ c.ask.new.self c.in-Ok.ensures.sent
    c.send_request.result c.send_request.new.transport.machine _ c.send_request.ensures.sent c.send_request.ensures.failed

pub returns-in-Err-Memory-clause-row : goal.returns-in-Err-Memory-clause-row
returns-in-Err-Memory-clause-row g c =
    let needs_memory = subst (λ (e : CallError AskRefusal). ClientRefuses c.args.client.now (ask_of c.args.ask.now) e) c.in-Err-Memory.field-0-is c.in-Err-Memory.ensures.refused in
    memory_row _ _ c.args.transport.now.machine c.args.client.now c.args.ask.now (sym c.is_dead.ensures ∙ c.if-is_dead.false) needs_memory.0 needs_memory.1
    c.lack_memory.result c.ask.new.self c.lack_memory.new.transport.machine _ c.lack_memory.ensures.spent c.lack_memory.ensures.none_left c.lack_memory.ensures.memory c.lack_memory.ensures.room (ap (λ (s : State _). s.kept.dead) c.lack_memory.ensures.over) (record { out = refl; sent = refl })

pub send_request-requires-clause-goes : goal.send_request-requires-clause-goes
send_request-requires-clause-goes g c =
    let alive = sym c.is_dead.ensures ∙ c.if-is_dead.false in
    request_goes c.args.transport.now.machine.kept (c.transport_stands.ensures alive).live.kept _ _ c.args.client.now c.ask.new.self (ask_of c.args.ask.now) _ c.in-Ok.ensures.sent.row c.in-Ok.ensures.sent.unrefused (c.requires.follows alive)
