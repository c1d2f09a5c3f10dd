use Rattle.std.proofs.Common.{◌≡◌, length}
use Rattle.divrelca.specs.Skipped.{faults_left}
use Rattle.divrelca.specs.Texts.{parts_in}
use Rattle.divrelca.proofs.key_files.skipped.SkippedLinesIterator.next.Given as goal

-- what is left tells the faults that were still to come
abbrev pub invariant-loop-number : goal.invariant-loop-number
invariant-loop-number l = faults_left l.self ≡ faults_left l.fn.self

abbrev pub decreases-loop-number : goal.decreases-loop-number
decreases-loop-number l = length (parts_in 10 l.self.lines.rest)
