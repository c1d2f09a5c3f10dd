use Rattle.std.proofs.Common.{◌≡◌}
use Rattle.ciphers.specs.X25519.Curve.{IsRung, numbers, rungs}
use Rattle.ciphers.specs.X25519.Field.{residue}
use Rattle.ciphers.proofs.x25519.curve.rungs.Given as goal

abbrev pub invariant-loop-i : goal.invariant-loop-i
invariant-loop-i l = (numbers l.l ≡ rungs l.k (residue l.x1) l.i) × IsRung l.l
