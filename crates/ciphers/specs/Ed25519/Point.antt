-- The curve -x^2 + y^2 = 1 + d x^2 y^2 over the numbers below the prime, in extended coordinates (RFC 8032 sections 5.1 and 5.1.4).
use Rattle.std.specs.Prelude.{ℕ, zero, suc, ◌-◌, List}
use Rattle.ciphers.specs.X25519.Bytes.{bit_of}
use Rattle.ciphers.specs.X25519.Field.{IsLoose, IsTight, residue}
use Rattle.ciphers.specs.X25519.Residues.{minus, plus, times}
use Rattle.ciphers.specs.declared.ed25519.point.Point.{Point}
use Rattle.ciphers.specs.declared.ed25519.point.ReadyPoint.{ReadyPoint}

-- the limbs that a sum takes and gives
pub record IsPoint (p : Point) : Type 0 where
  pub x : IsTight p.x
  pub y : IsTight p.y
  pub z : IsTight p.z
  pub t : IsTight p.t

-- A point by four numbers: its coordinates are x / z and y / z, and t is x y / z.
pub record Extended : Type 0 where
  pub x : ℕ
  pub y : ℕ
  pub z : ℕ
  pub t : ℕ

-- the numbers that the elements of a point stand for
abbrev pub numbers : Point → Extended
numbers p = record { x = residue p.x; y = residue p.y; z = residue p.z; t = residue p.t }

-- the constant d of the curve, which is -121665/121666
abbrev pub d : ℕ
d = 37095705934669439343138083508754565189542113879843219016388785533085940283555

abbrev pub identity : Extended
identity = record { x = 0; y = 1; z = 1; t = 0 }

-- the coordinates of B
abbrev pub base_x : ℕ
base_x = 15112221349535400772501151409588531511454012693041857206046113283949847762202

abbrev pub base_y : ℕ
base_y = 46316835694926478169428394003475163141307993866256225615783033603165251855960

abbrev pub base : Extended
base = record { x = base_x; y = base_y; z = 1; t = times base_x base_y }

-- the sum of two points (section 5.1.4)
unfoldable pub added : Extended → Extended → Extended
added p q =
    let a : ℕ = times (minus p.y p.x) (minus q.y q.x) in
    let b : ℕ = times (plus p.y p.x) (plus q.y q.x) in
    let c : ℕ = times (times p.t (plus d d)) q.t in
    let d : ℕ = times p.z (plus q.z q.z) in
    let e : ℕ = minus b a in
    let f : ℕ = minus d c in
    let g : ℕ = plus d c in
    let h : ℕ = plus b a in
    record { x = times e f; y = times g h; z = times f g; t = times e h }

unfoldable pub negated : Extended → Extended
negated p = record { x = minus 0 p.x; y = p.y; z = p.z; t = minus 0 p.t }

-- the first if the choice is zero, and otherwise the second
abbrev pub chosen : {X : Type 0} → ℕ → X → X → X
chosen zero p q = p
chosen (suc n) p q = q

-- twice the point, plus the other one if the bit is one
abbrev pub step : Extended → Extended → ℕ → Extended
step q p bit = chosen bit (added q q) (added (added q q) p)

-- the point as many times as the first bits of a number of 256 bits say, from the highest one down
unfoldable pub multiplied : List ℕ → Extended → ℕ → Extended
multiplied bytes p zero = identity
multiplied bytes p (suc n) = step (multiplied bytes p n) p (bit_of bytes (255 - n))

-- ---- a point that is added often

-- A point whose z is 1, made ready to be added: y - x, y + x and 2 d t.
pub record Ready : Type 0 where
  pub less : ℕ
  pub more : ℕ
  pub t : ℕ

-- the limbs that the sum of a point and a prepared one takes
pub record IsPrepared (q : ReadyPoint) : Type 0 where
  pub less : IsLoose q.less
  pub more : IsLoose q.more
  pub t : IsTight q.t

-- the numbers that the elements of a prepared point stand for
abbrev pub ready : ReadyPoint → Ready
ready q = record { less = residue q.less; more = residue q.more; t = residue q.t }

abbrev pub prepared : Extended → Ready
prepared q = record { less = minus q.y q.x; more = plus q.y q.x; t = times q.t (plus d d) }

-- the sum of a point and a prepared one
unfoldable pub added_ready : Extended → Ready → Extended
added_ready p q =
    let a : ℕ = times (minus p.y p.x) q.less in
    let b : ℕ = times (plus p.y p.x) q.more in
    let c : ℕ = times p.t q.t in
    let d : ℕ = plus p.z p.z in
    let e : ℕ = minus b a in
    let f : ℕ = minus d c in
    let g : ℕ = plus d c in
    let h : ℕ = plus b a in
    record { x = times e f; y = times g h; z = times f g; t = times e h }
