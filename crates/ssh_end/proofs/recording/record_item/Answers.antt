use Rattle.ssh_end.proofs.TwoEnds.Recorded.{records_one}
use Rattle.ssh_end.proofs.TwoEnds.Recording.{recorded_one}
use Rattle.ssh_end.proofs.recording.record_item.Goals as goal

pub returns-clause-records : goal.returns-clause-records
returns-clause-records c = recorded_one c.args.log.now.items c.push.new.self.items (record { side = c.args.side; item = c.args.item }) c.in_ok-push.ensures.items

pub returns-clause-sent : goal.returns-clause-sent
returns-clause-sent c = records_one c.args.log.now.items c.push.new.self.items (record { side = c.args.side; item = c.args.item }) c.in_ok-push.ensures.items
