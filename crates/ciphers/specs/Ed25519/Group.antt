-- Points of the curve by coordinates of which z need not be 1 (RFC 8032 section 5.1.4), and when two of them are one point.
use Rattle.std.specs.Prelude.{◌≡◌, ◌≢◌, ◌<◌}
use Rattle.ciphers.specs.X25519.Field.{prime}
use Rattle.ciphers.specs.X25519.Residues.{minus, plus, times}
use Rattle.ciphers.specs.Ed25519.Point.{Extended, d}

-- The coordinates are those of a point of the curve: x y is z t, and y^2 - x^2 is z^2 + d t^2.
pub record IsCurve (p : Extended) : Type 0 where
  pub x : p.x < prime
  pub y : p.y < prime
  pub z : p.z < prime
  pub t : p.t < prime
  pub some : p.z ≢ 0
  pub product : times p.x p.y ≡ times p.z p.t
  pub curve : minus (times p.y p.y) (times p.x p.x) ≡ plus (times p.z p.z) (times d (times p.t p.t))

-- two sets of coordinates of one point
pub record AreSame (p q : Extended) : Type 0 where
  pub x : times p.x q.z ≡ times q.x p.z
  pub y : times p.y q.z ≡ times q.y p.z
