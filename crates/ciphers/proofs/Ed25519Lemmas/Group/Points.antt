-- What the group law rests on.
use Rattle.std.proofs.Common.{◌≡◌, ℕ, ◌-◌, ◌%◌, ◌≢◌, ◌⊎◌}
use Rattle.ciphers.specs.X25519.Field.{prime}
use Rattle.ciphers.specs.X25519.Residues.{power, times}
use Rattle.ciphers.specs.Ed25519.Point.{d}
pub use Rattle.ciphers.specs.Ed25519.Group.{AreSame, IsCurve}

-- the numbers below the prime are a field, and d has no square root
pub record IsField : Type 0 where
  pub no_divisors : (x y : ℕ) → times x y ≡ 0 → (x % prime ≡ 0) ⊎ (y % prime ≡ 0)
  pub inverse_is : (x : ℕ) → x % prime ≢ 0 → times x (power x (prime - 2)) ≡ 1
  pub d_is_no_square : (u v : ℕ) → times u u ≡ times d (times v v) → v % prime ≡ 0
