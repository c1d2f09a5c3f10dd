use Rattle.std.proofs.Common.{[]}
use Rattle.ssh_end_machine.specs.Turn.{payloads_in}
use Rattle.ssh_end.proofs.TwoEnds.Recorded.{records_after, records_before, records_then}
use Rattle.ssh_end.proofs.TwoEnds.Recording.{on_ok, turn_recorded}
use Rattle.ssh_end.proofs.recording.record_turn.Goals as goal

pub returns-clause-records : goal.returns-clause-records
returns-clause-records c = on_ok c.record_death.result
    (turn_recorded c.args.side c.args.turn.now c.args.is_over c.args.log.now.items c.record_took.new.log.items c.record_refused.new.log.items c.record_sent.new.log.items c.record_told.new.log.items c.record_death.new.log.items
    c.in_ok-record_took.ensures.records c.in_ok-record_refused.ensures.records c.in_ok-record_sent.ensures.records c.in_ok-record_told.ensures.records) c.record_death.ensures.records

pub returns-clause-sent : goal.returns-clause-sent
returns-clause-sent c =
    let side = c.args.side in
    let payloads = payloads_in c.args.turn.now.sent in
    let end = c.record_death.new.log.items in
    on_ok c.record_death.result (λ last.
    records_after side payloads c.args.log.now.items c.record_took.new.log.items end c.in_ok-record_took.ensures.sent
    (records_after side payloads c.record_took.new.log.items c.record_refused.new.log.items end c.in_ok-record_refused.ensures.sent
    (records_before side payloads c.record_refused.new.log.items c.record_sent.new.log.items end c.in_ok-record_sent.ensures.sent
    (records_then side [] [] c.record_sent.new.log.items c.record_told.new.log.items end c.in_ok-record_told.ensures.sent last)))) c.record_death.ensures.sent
