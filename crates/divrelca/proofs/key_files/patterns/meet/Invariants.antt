use Rattle.std.proofs.Common.{◌≡◌, ◌≤◌, ◌∷◌, true, length}
use Rattle.divrelca.specs.HostNames.{is_like}
use Rattle.divrelca.proofs.key_files.patterns.meet.Given as goal

-- what is left says of both what they say whole, and after a star at least what they say
abbrev pub invariant-loop-byte : goal.invariant-loop-byte
invariant-loop-byte l = record {
  same : is_like l.wanted l.left ≡ is_like l.fn.pattern l.fn.name;
  later : is_like (42 ∷ l.fn.pattern) l.fn.name ≡ true → is_like (42 ∷ l.wanted) l.left ≡ true;
  shorter : length l.wanted ≤ length l.fn.pattern;
  left_of : length l.left ≤ length l.fn.name;
}

abbrev pub decreases-loop-byte : goal.decreases-loop-byte
decreases-loop-byte l = length l.wanted
