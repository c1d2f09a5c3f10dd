-- The field of 2^255 - 19 elements, as numbers below the prime.
use Rattle.std.specs.Prelude.{ℕ, ◌+◌, ◌-◌, ◌*◌, ◌%◌, ◌^◌}
use Rattle.ciphers.specs.X25519.Field.{prime}

unfoldable pub plus : ℕ → ℕ → ℕ
plus x y = (x + y) % prime

unfoldable pub minus : ℕ → ℕ → ℕ
minus x y = (x + (prime - y)) % prime

unfoldable pub times : ℕ → ℕ → ℕ
times x y = x * y % prime

unfoldable pub power : ℕ → ℕ → ℕ
power x n = x ^ n % prime
