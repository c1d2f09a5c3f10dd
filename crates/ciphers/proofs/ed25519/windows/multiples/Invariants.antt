use Rattle.std.proofs.Common.{◌≡◌, ℕ, ◌<◌, length}
use Rattle.ciphers.specs.Ed25519.Point.{IsPoint, numbers}
use Rattle.ciphers.specs.Ed25519.Windows.{multiple, point_at}
use Rattle.ciphers.proofs.ed25519.windows.multiples.Given as goal

abbrev pub invariant-loop-i : goal.invariant-loop-i
invariant-loop-i l = record {
  size : length l.table ≡ 16;
  value : (k : ℕ) → k < l.i → numbers (point_at l.table k) ≡ multiple (numbers l.fn.p) k;
  point : (k : ℕ) → k < l.i → IsPoint (point_at l.table k);
}
