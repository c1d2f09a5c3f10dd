use Rattle.std.proofs.Common.{sym, subst}
use Rattle.ssh_model.specs.Protocol.Sessions.Items as session
use Rattle.ssh_end_machine.specs.Asking.{ask_of}
use Rattle.ssh_end_machine.specs.Turn.{channels_in, payloads_in}
use Rattle.ssh_end.specs.TwoEnds.Recording.{AddsAsk}
use Rattle.ssh_end.specs.TwoEnds.Recorded.{RecordsAsked}
use Rattle.ssh_end.proofs.TwoEnds.Recorded.{records_after, records_before}
use Rattle.ssh_end.proofs.TwoEnds.Recording.{ask_recorded, on_ok}
use Rattle.ssh_end.proofs.recording.record_ask.Goals as goal

pub returns-in_ok-record_step-in-Ok-clause-records : goal.returns-in_ok-record_step-in-Ok-clause-records
returns-in_ok-record_step-in-Ok-clause-records c = on_ok c.record_death.result
    (λ dies. subst (λ r. AddsAsk c.args.side (ask_of c.args.given.ask.now) r (payloads_in c.args.sent.now) (channels_in c.args.sent.now) c.args.given.is_over c.args.log.now.items c.record_death.new.log.items) (sym c.in-Ok.is)
    (ask_recorded c.args.side (ask_of c.args.given.ask.now) (payloads_in c.args.sent.now) (channels_in c.args.sent.now) c.args.given.is_over c.args.log.now.items c.record_item.new.log.items c.record_step.new.log.items c.record_death.new.log.items
    (λ run recorded. c.in_ok-record_item-in-Ok.ensures.records run (session.Item.Asked (ask_of c.args.given.ask.now)) c.of.ensures recorded) dies c.in-Ok.step c.in_ok-record_step-in-Ok.ensures.records)) c.record_death.ensures.records

pub returns-in_ok-record_step-in-Ok-clause-sent : goal.returns-in_ok-record_step-in-Ok-clause-sent
returns-in_ok-record_step-in-Ok-clause-sent c =
    let side = c.args.side in
    let payloads = payloads_in c.args.sent.now in
    on_ok c.record_death.result (λ last. subst (λ r. RecordsAsked side r payloads c.args.log.now.items c.record_death.new.log.items) (sym c.in-Ok.is)
    (records_after side payloads c.args.log.now.items c.record_item.new.log.items c.record_death.new.log.items c.in_ok-record_item-in-Ok.ensures.sent
    (records_before side payloads c.record_item.new.log.items c.record_step.new.log.items c.record_death.new.log.items c.in_ok-record_step-in-Ok.ensures.sent last))) c.record_death.ensures.sent
