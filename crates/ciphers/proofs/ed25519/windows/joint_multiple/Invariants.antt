use Rattle.std.proofs.Common.{◌≡◌}
use Rattle.ciphers.specs.Ed25519.Point.{IsPoint, numbers}
use Rattle.ciphers.specs.Ed25519.Windows.{joint_multiple, windowed}
use Rattle.ciphers.proofs.ed25519.windows.joint_multiple.Given as goal

abbrev pub invariant-high : goal.invariant-high
invariant-high l = record {
  value : numbers l.q ≡ windowed (numbers l.fn.p) l.bytes l.i;
  point : IsPoint l.q;
}

abbrev pub invariant-low : goal.invariant-low
invariant-low l = record {
  value : numbers l.q ≡ joint_multiple l.s (numbers l.fn.p) l.bytes l.i;
  point : IsPoint l.q;
}
