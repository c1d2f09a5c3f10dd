-- Sums of a multiple of the base point and of one of another point, by one ladder over digits of four bits.
use Rattle.std.specs.Prelude.{ℕ, zero, suc, ◌+◌, ◌-◌, ◌*◌, ◌/◌, ◌%◌, ◌^◌, List, slice_index, slice_index_or}
use Rattle.ciphers.specs.X25519.Curve.{zero_element}
use Rattle.ciphers.specs.declared.ed25519.point.Point.{Point}
use Rattle.ciphers.specs.declared.ed25519.scalar.Scalar.{Scalar}
use Rattle.ciphers.specs.Ed25519.Comb.{combed}
use Rattle.ciphers.specs.Ed25519.Point.{Extended, added, added_ready, chosen, identity, prepared}

-- the digit of four bits at a place, the lowest one first
abbrev pub digit_at : List ℕ → ℕ → ℕ
digit_at bytes place = slice_index bytes (place / 2) / 2 ^ (4 * (place % 2)) % 16

-- this multiple of a point, by repeated addition
unfoldable pub multiple : Extended → ℕ → Extended
multiple p zero = identity
multiple p (suc n) = added_ready (multiple p n) (prepared p)

-- the value read past the end of a table, where nothing reads
abbrev pub no_point : Point
no_point = record { x = zero_element; y = zero_element; z = zero_element; t = zero_element }

-- the point at a place of a table
abbrev pub point_at : List Point → ℕ → Point
point_at table place = slice_index_or table place no_point

-- twice a point
unfoldable pub twice : Extended → Extended
twice q = added q q

abbrev pub sixteen_times : Extended → Extended
sixteen_times q = twice (twice (twice (twice q)))

-- sixteen times a point, and the constants of the bits at four places
abbrev pub sixteen_combed : Extended → Scalar → ℕ → Extended
sixteen_combed q s place = combed (combed (combed (combed q s (4 * place + 3)) s (4 * place + 2)) s (4 * place + 1)) s (4 * place)

-- a point, plus the other one if the digit is not 0
abbrev pub with_digit : (q other : Extended) → ℕ → Extended
with_digit q other digit = chosen digit q (added q other)

-- a point as many times as the first digits of a number of 64 digits say, from the highest one down
unfoldable pub windowed : Extended → List ℕ → ℕ → Extended
windowed p bytes zero = identity
windowed p bytes (suc n) = with_digit (sixteen_times (windowed p bytes n)) (multiple p (digit_at bytes (63 - n))) (digit_at bytes (63 - n))

-- the same for all but the last 16 digits, and with so many of these the base point as often as the four words say
unfoldable pub joint_multiple : Scalar → Extended → List ℕ → ℕ → Extended
joint_multiple s p bytes zero = windowed p bytes 48
joint_multiple s p bytes (suc n) =
    with_digit (sixteen_combed (joint_multiple s p bytes n) s (15 - n)) (multiple p (digit_at bytes (15 - n))) (digit_at bytes (15 - n))
