-- The field of 2^255 - 19 elements, in five limbs of 51 bits and some more.
use Rattle.std.specs.Prelude.{ℕ, zero, suc, ◌+◌, ◌-◌, ◌*◌, ◌/◌, ◌%◌, ◌^◌, ◌<◌}
use Rattle.ciphers.specs.declared.x25519.field.Element.{Element}
use Rattle.ciphers.specs.declared.x25519.field.Wide.{Wide}

-- each limb is below this
pub record AreBelow (most : ℕ) (x : Element) : Type 0 where
  pub a : x.a < most
  pub b : x.b < most
  pub c : x.c < most
  pub d : x.d < most
  pub e : x.e < most

-- the prime
abbrev pub prime : ℕ
prime = 2 ^ 255 - 19

-- the number that limbs are
abbrev pub number : Element → ℕ
number x = x.a + x.b * 2 ^ 51 + x.c * 2 ^ 102 + x.d * 2 ^ 153 + x.e * 2 ^ 204

-- the number below the prime that it stands for
unfoldable pub residue : Element → ℕ
residue x = number x % prime

-- the limbs that a product gives
abbrev pub IsTight : Element → Type 0
IsTight x = AreBelow (2 ^ 52) x

-- the limbs that a product takes
abbrev pub IsLoose : Element → Type 0
IsLoose x = AreBelow (2 ^ 54) x

-- What is carried: no carry is more than a word, and nineteen times the last one is not either.
pub record IsWide (w : Wide) : Type 0 where
  pub a : w.a < 120 * 2 ^ 108
  pub b : w.b < 120 * 2 ^ 108
  pub c : w.c < 120 * 2 ^ 108
  pub d : w.d < 120 * 2 ^ 108
  pub e : w.e < 5 * 2 ^ 108

unfoldable pub sum : Element → Element → Element
sum x y = record { a = x.a + y.a; b = x.b + y.b; c = x.c + y.c; d = x.d + y.d; e = x.e + y.e }

-- four times the prime is added first
unfoldable pub difference : Element → Element → Element
difference x y = record {
  a = x.a + 9007199254740916 - y.a;
  b = x.b + 9007199254740988 - y.b;
  c = x.c + 9007199254740988 - y.c;
  d = x.d + 9007199254740988 - y.d;
  e = x.e + 9007199254740988 - y.e;
}

unfoldable pub carried : Wide → Element
carried w =
    let b : ℕ = w.b + w.a / 2 ^ 51 in
    let c : ℕ = w.c + b / 2 ^ 51 in
    let d : ℕ = w.d + c / 2 ^ 51 in
    let e : ℕ = w.e + d / 2 ^ 51 in
    let first : ℕ = w.a % 2 ^ 51 + e / 2 ^ 51 * 19 in
    record {
      a = first % 2 ^ 51;
      b = b % 2 ^ 51 + first / 2 ^ 51;
      c = c % 2 ^ 51;
      d = d % 2 ^ 51;
      e = e % 2 ^ 51;
    }

-- the limbs of a product before its carries
abbrev pub row_a : Element → Element → ℕ
row_a x y = x.a * y.a + x.b * (y.e * 19) + x.c * (y.d * 19) + x.d * (y.c * 19) + x.e * (y.b * 19)

abbrev pub row_b : Element → Element → ℕ
row_b x y = x.a * y.b + x.b * y.a + x.c * (y.e * 19) + x.d * (y.d * 19) + x.e * (y.c * 19)

abbrev pub row_c : Element → Element → ℕ
row_c x y = x.a * y.c + x.b * y.b + x.c * y.a + x.d * (y.e * 19) + x.e * (y.d * 19)

abbrev pub row_d : Element → Element → ℕ
row_d x y = x.a * y.d + x.b * y.c + x.c * y.b + x.d * y.a + x.e * (y.e * 19)

abbrev pub row_e : Element → Element → ℕ
row_e x y = x.a * y.e + x.b * y.d + x.c * y.c + x.d * y.b + x.e * y.a

unfoldable pub product : Element → Element → Element
product x y = carried (record { a = row_a x y; b = row_b x y; c = row_c x y; d = row_d x y; e = row_e x y })

unfoldable pub times_small : Element → ℕ → Element
times_small x n = carried (record { a = x.a * n; b = x.b * n; c = x.c * n; d = x.d * n; e = x.e * n })

-- the first if the choice is zero, and otherwise the second
abbrev pub picked : ℕ → ℕ → ℕ → ℕ
picked zero x y = x
picked (suc n) x y = y

unfoldable pub chosen : ℕ → Element → Element → Element
chosen choice x y = record {
  a = picked choice x.a y.a;
  b = picked choice x.b y.b;
  c = picked choice x.c y.c;
  d = picked choice x.d y.d;
  e = picked choice x.e y.e;
}
