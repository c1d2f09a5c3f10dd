-- Points as 32 bytes (RFC 8032 sections 5.1.2 and 5.1.3).
use Rattle.std.specs.Prelude.{◌≡◌, ℕ, ◌-◌, ◌*◌, ◌/◌, ◌%◌, ◌^◌, List, Bool, Option, Some, None, bit_or, if◌then◌else◌, nat_eq, nat_lt, slice_index, slice_set}
use Rattle.ciphers.specs.X25519.Bytes.{le_bytes, value}
use Rattle.ciphers.specs.X25519.Field.{prime}
use Rattle.ciphers.specs.X25519.Residues.{minus, plus, power, times}
use Rattle.ciphers.specs.Ed25519.Point.{Extended, d}

-- a square root of -1, which is 2^((p - 1) / 4)
abbrev pub root_of_minus_one : ℕ
root_of_minus_one = 19681161376707505956807079304988542015446066515923890162744021073123829784752

-- a number divided by another one
abbrev pub quotient : ℕ → ℕ → ℕ
quotient x z = times x (power z (prime - 2))

-- the bytes of y, and in the highest bit the lowest one of x (section 5.1.2)
abbrev pub with_sign : ℕ → ℕ → List ℕ
with_sign x y = slice_set (le_bytes y) 31 (bit_or (slice_index (le_bytes y) 31) (x % 2 * 128))

unfoldable pub encoded : Extended → List ℕ
encoded p = with_sign (quotient p.x p.z) (quotient p.y p.z)

-- whether v x^2 is u
abbrev pub is_root : ℕ → ℕ → ℕ → Bool
is_root x u v = nat_eq (times v (times x x)) u

-- u v^3 (u v^7)^((p - 5) / 8)
unfoldable pub candidate : ℕ → ℕ → ℕ
candidate u v =
    let v3 : ℕ = times (times v v) v in
    let v7 : ℕ = times (times v3 v3) v in
    times (times u v3) (power (times u v7) (2 ^ 252 - 3))

-- x, or the product of x and the root of -1, if one of these is a root
abbrev pub root_of : ℕ → ℕ → ℕ → Option ℕ
root_of x u v =
    if is_root x u v then Some x
    else if is_root (times x root_of_minus_one) u v then Some (times x root_of_minus_one)
    else None

-- an x of this y
unfoldable pub root : ℕ → Option ℕ
root y =
    let u : ℕ = minus (times y y) 1 in
    let v : ℕ = plus (times (times y y) d) 1 in
    root_of (candidate u v) u v

-- the x of this sign; none if it is 0 and the sign is set
abbrev pub signed : Option ℕ → ℕ → Option ℕ
signed None sign = None
signed (Some x) sign =
    if nat_eq (x % 2) sign then Some x
    else if nat_eq x 0 then None
    else Some (minus 0 x)

abbrev pub point_of : Option ℕ → ℕ → Option Extended
point_of None y = None
point_of (Some x) y = Some (record { x = x; y = y; z = 1; t = times x y })

-- the number of the 255 low bits, if it is below the prime
abbrev pub y_in : List ℕ → Option ℕ
y_in bytes = if nat_lt (value bytes % 2 ^ 255) prime then Some (value bytes % 2 ^ 255) else None

abbrev pub with_x : Option ℕ → ℕ → Option Extended
with_x None sign = None
with_x (Some y) sign = point_of (signed (root y) sign) y

-- the point of these bytes, if they are the encoding of one (section 5.1.3)
unfoldable pub decoded : List ℕ → Option Extended
decoded bytes = with_x (y_in bytes) (slice_index bytes 31 / 128)

-- The point is one of the curve: y^2 - x^2 is 1 + d x^2 y^2, for z is 1.
pub record IsOnCurve (p : Extended) : Type 0 where
  pub curve : minus (times p.y p.y) (times p.x p.x) ≡ plus 1 (times d (times (times p.x p.x) (times p.y p.y)))
  pub z : p.z ≡ 1
  pub t : p.t ≡ times p.x p.y
