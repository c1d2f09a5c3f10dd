use Rattle.std.proofs.Common.{◌≡◌, ◌++◌, take}
use Rattle.ssh_model.specs.Laws.Units.{IsPartialLine}
use Rattle.ssh_packet.proofs.LineUnits.{added}
use Rattle.ssh_packet.proofs.line_reader.LineReader.advance.Given as goal

abbrev pub invariant-loop-i : goal.invariant-loop-i
invariant-loop-i l = record { so_far : l.self ≡ added l.fn.self (take l.i l.bytes); buffered : IsPartialLine (l.fn.self.buffered ++ take l.i l.bytes) }
