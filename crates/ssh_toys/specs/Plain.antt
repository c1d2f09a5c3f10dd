-- What keeps the programs from wrapping.
use Rattle.std.specs.Prelude.{◌<◌, ◌≤◌, ◌^◌}
use Rattle.ciphers.specs.X25519.Field.{IsTight}
use Rattle.ssh_toys.specs.declared.plain.field.Wide.{Wide}
use Rattle.ssh_toys.specs.declared.plain.ladder.Ladder.{Ladder}
use Rattle.ssh_toys.specs.declared.plain.point.Point.{Point}

-- two points of the ladder in tight elements
pub record IsRung (l : Ladder) : Type 0 where
  pub x2 : IsTight l.x2
  pub z2 : IsTight l.z2
  pub x3 : IsTight l.x3
  pub z3 : IsTight l.z3
  pub swap : l.swap ≤ 1

-- a point in tight elements
pub record IsPoint (p : Point) : Type 0 where
  pub x : IsTight p.x
  pub y : IsTight p.y
  pub z : IsTight p.z
  pub t : IsTight p.t

-- what is carried
pub record IsWide (w : Wide) : Type 0 where
  pub a : w.a < 2 ^ 116
  pub b : w.b < 2 ^ 116
  pub c : w.c < 2 ^ 116
  pub d : w.d < 2 ^ 116
  pub e : w.e < 2 ^ 116
