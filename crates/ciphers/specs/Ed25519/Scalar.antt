-- Numbers below the order of the base point (RFC 8032 section 5.1).
use Rattle.std.specs.Prelude.{ℕ, ◌+◌, ◌*◌, ◌^◌, Bool, nat_lt}
use Rattle.ciphers.specs.X25519.Field.{picked}
use Rattle.ciphers.specs.declared.ed25519.scalar.Scalar.{Scalar}

-- L
abbrev pub order : ℕ
order = 2 ^ 252 + 27742317777372353535851937790883648493

-- the number that four words are
abbrev pub number : Scalar → ℕ
number s = s.a + s.b * 2 ^ 64 + s.c * 2 ^ 128 + s.d * 2 ^ 192

abbrev pub is_below_order : ℕ → Bool
is_below_order n = nat_lt n order

-- the first if the choice is zero, and otherwise the second
unfoldable pub chosen : ℕ → Scalar → Scalar → Scalar
chosen choice x y = record { a = picked choice x.a y.a; b = picked choice x.b y.b; c = picked choice x.c y.c; d = picked choice x.d y.d }
