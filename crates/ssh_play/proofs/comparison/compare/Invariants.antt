use Rattle.std.proofs.Common.{◌≡◌, ◌++◌, take}
use Rattle.ssh_play.specs.Comparing.{text_of}
use Rattle.ssh_play.proofs.comparison.compare.Given as goal

-- the lines before are those of the text
abbrev pub invariant-loop-index : goal.invariant-loop-index
invariant-loop-index l = l.lines ≡ text_of (take l.index l.expected) ++ l.rest
