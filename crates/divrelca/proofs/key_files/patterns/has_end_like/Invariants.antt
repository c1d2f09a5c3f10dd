use Rattle.std.proofs.Common.{◌≡◌, ◌+◌, ◌∷◌, length}
use Rattle.divrelca.specs.HostNames.{is_like}
use Rattle.divrelca.proofs.key_files.patterns.has_end_like.Given as goal

-- what is left after a star says what both say whole after a star
abbrev pub invariant-loop-pattern : goal.invariant-loop-pattern
invariant-loop-pattern l = is_like (42 ∷ l.wanted) l.left ≡ is_like (42 ∷ l.fn.pattern) l.fn.name

abbrev pub decreases-loop-pattern : goal.decreases-loop-pattern
decreases-loop-pattern l = length l.wanted + length l.left
