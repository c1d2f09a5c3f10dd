use Rattle.std.proofs.Common.{◌≡◌}
use Rattle.ciphers.specs.Ed25519.Comb.{base_multiple}
use Rattle.ciphers.specs.Ed25519.Point.{IsPoint, numbers}
use Rattle.ciphers.proofs.ed25519.comb.base_multiple.Given as goal

abbrev pub invariant-loop-i : goal.invariant-loop-i
invariant-loop-i l = (numbers l.q ≡ base_multiple l.s l.i) × IsPoint l.q
