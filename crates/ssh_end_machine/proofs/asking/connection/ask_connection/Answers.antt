use Rattle.std.proofs.Common.{refl, sym, ◌∙◌, ap, subst}
use Rattle.ssh_channels.specs.Values.{ask_of, sent_of}
use Rattle.ssh_model.specs.declared.ask_refusal.AskRefusal.{AskRefusal}
use Rattle.ssh_types.specs.declared.call_error.CallError.{CallError}
use Rattle.ssh_transport_machine.specs.State.{State}
use Rattle.ssh_model.specs.State.Channels.Kept.{Channels}
use Rattle.ssh_end_machine.specs.Asking.{ConnectionAsked}
use Rattle.ssh_end_machine.specs.Connection.{AskFails}
use Rattle.ssh_end_machine.proofs.AsksConnection.{memory_row, sent_row}
use Rattle.ssh_end_machine.proofs.AsksEncoding.{fits_context}
use Rattle.ssh_end_machine.proofs.Following.{given_goes}
use Rattle.ssh_end_machine.proofs.asking.connection.ask_connection.Goals as goal

pub send_given-requires-clause-context : goal.send_given-requires-clause-context
send_given-requires-clause-context g c = fits_context c.args.channels.now c.ask_channels.new.channels (ask_of c.args.ask.now) (sent_of (ask_of c.args.ask.now) c.in-Ok.given) c.in-Ok.ensures.sent

pub returns-in-Ok-clause-row : goal.returns-in-Ok-clause-row
returns-in-Ok-clause-row g c =
    sent_row _ c.args.transport.now.machine c.args.channels.now c.args.ask.now (sym c.is_dead.ensures ∙ c.if-is_dead.false) _ _ _ c.is_authenticated.ensures c.blocked.ensures c.rekey_due.ensures (sent_of (ask_of c.args.ask.now) c.in-Ok.given) c.ask_channels.new.channels c.in-Ok.ensures.passed c.in-Ok.ensures.sent c.message_numbers.ensures c.recipient_number.ensures c.in-Ok.ensures.short
    c.send_given.result c.send_given.new.transport.machine _ c.send_given.ensures.sent c.send_given.ensures.failed

pub returns-in-Err-Memory-clause-row : goal.returns-in-Err-Memory-clause-row
returns-in-Err-Memory-clause-row g c =
    memory_row _ c.args.transport.now.machine c.args.channels.now c.args.ask.now (sym c.is_dead.ensures ∙ c.if-is_dead.false) _ _ _ c.is_authenticated.ensures c.blocked.ensures c.rekey_due.ensures (subst (λ (e : CallError AskRefusal). AskFails c.is_authenticated.result c.blocked.result c.rekey_due.result c.args.channels.now (ask_of c.args.ask.now) e) c.in-Err-Memory.field-0-is c.in-Err-Memory.ensures.refused) c.ask_numbers.ensures
    c.lack_memory.result c.ask_channels.new.channels c.lack_memory.new.transport.machine _ c.lack_memory.ensures.spent c.lack_memory.ensures.none_left c.lack_memory.ensures.memory c.lack_memory.ensures.room (ap (λ (s : State _). s.kept.dead) c.lack_memory.ensures.over) (record { out = refl; sent = refl })

pub send_given-requires-clause-goes : goal.send_given-requires-clause-goes
send_given-requires-clause-goes g c =
    given_goes c.args.transport.now.machine.kept c.is_authenticated.result c.rekey_due.result c.args.channels.now c.ask_channels.new.channels (ask_of c.args.ask.now) (sent_of (ask_of c.args.ask.now) c.in-Ok.given) c.in-Ok.ensures.sent
    (rw c.blocked.ensures at c.in-Ok.ensures.passed)

pub returns-then-is_dead-clause-asked_channels : goal.returns-then-is_dead-clause-asked_channels
returns-then-is_dead-clause-asked_channels g c = ConnectionAsked.same

pub returns-in-Ok-clause-asked_channels : goal.returns-in-Ok-clause-asked_channels
returns-in-Ok-clause-asked_channels g c = ConnectionAsked.done (sent_of (ask_of c.args.ask.now) c.in-Ok.given) c.ask_channels.new.channels c.in-Ok.ensures.sent

pub returns-in-Err-Refused-clause-asked_channels : goal.returns-in-Err-Refused-clause-asked_channels
returns-in-Err-Refused-clause-asked_channels g c = subst (λ (l : Channels). ConnectionAsked c.args.channels.now (ask_of c.args.ask.now) l) (sym c.in-Err-Refused.ensures.kept) ConnectionAsked.same

pub returns-in-Err-Memory-clause-asked_channels : goal.returns-in-Err-Memory-clause-asked_channels
returns-in-Err-Memory-clause-asked_channels g c = subst (λ (l : Channels). ConnectionAsked c.args.channels.now (ask_of c.args.ask.now) l) (sym c.in-Err-Memory.ensures.kept) ConnectionAsked.same
