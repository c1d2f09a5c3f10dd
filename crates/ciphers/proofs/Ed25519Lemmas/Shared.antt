-- Factors that a sum of two points shares: of a point and itself, and of a point and a prepared one.
use Rattle.std.proofs.Common.{◌≡◌, ℕ, ◌+◌, ◌*◌, ◌%◌, refl, ap, sym, ◌∙◌, arith}
use Rattle.std.proofs.lemmas.Nat.{mul-mod_first, mul-mod_second}
use Rattle.ciphers.specs.X25519.Field.{prime}
use Rattle.ciphers.specs.X25519.Residues.{plus, times}
use Rattle.ciphers.specs.Ed25519.Point.{Extended, added, added_ready, d, prepared}

pub square_first : (t k : ℕ) → times (times t t) k ≡ times (times t k) t
unfolding times
square_first t k = mul-mod_first (t * t) k prime ∙ ap (λ (n : ℕ). n % prime) (ring t k) ∙ sym (mul-mod_first (t * k) t prime)
  where
    ring : (t k : ℕ) → t * t * k ≡ t * k * t
    ring t k = omega arith

pub square_twice : (z : ℕ) → plus (times z z) (times z z) ≡ times z (plus z z)
unfolding times plus
square_twice z = sym (mul-mod_second z (z + z) prime ∙ ap (λ (n : ℕ). n % prime) (ring z) ∙ both (z * z))
  where
    ring : (z : ℕ) → z * (z + z) ≡ z * z + z * z
    ring z = omega arith

    both : (n : ℕ) → (n + n) % prime ≡ (n % prime + n % prime) % prime
    both n = omega arith

constant_first : (s t k : ℕ) → times s (times t k) ≡ times (times s k) t
unfolding times
constant_first s t k = mul-mod_second s (t * k) prime ∙ ap (λ (n : ℕ). n % prime) (ring s t k) ∙ sym (mul-mod_first (s * k) t prime)
  where
    ring : (s t k : ℕ) → s * (t * k) ≡ s * k * t
    ring s t k = omega arith

twice_one : (z : ℕ) → plus z z ≡ times z (plus 1 1)
unfolding times plus
twice_one z = omega arith

-- the sum is the same as with the point itself
pub ready_sum : (p q : Extended) → q.z ≡ 1 → added_ready p (prepared q) ≡ added p q
unfolding added added_ready
ready_sum p q e = rw (e, constant_first p.t q.t (plus d d), twice_one p.z) refl
