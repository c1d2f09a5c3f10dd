use Rattle.std.proofs.Common.{map, take}
use Rattle.ssh_end_machine.specs.Turn.{channels_in}
use Rattle.ssh_end.specs.TwoEnds.Recorded.{RecordsSent}
use Rattle.ssh_end.proofs.TwoEnds.Recording.{AddsFirst}
use Rattle.ssh_end.proofs.recording.record_sent.Given as goal

abbrev pub invariant-loop-index : goal.invariant-loop-index
invariant-loop-index l = record {
  adds : AddsFirst l.side (λ v. v.items) l.payload-items (channels_in l.sent) l.index l.fn.log.items l.log.items;
  sent : RecordsSent l.side (map (λ v. v.items) (take l.index l.payload-items)) l.fn.log.items l.log.items;
}
