-- The binomial theorem, for a power of 1 + x.
use Rattle.std.proofs.Common.{◌≡◌, ℕ, zero, suc, ◌+◌, ◌*◌, ◌^◌, ◌<◌, refl, sym, ◌∙◌, arith}
use Rattle.std.proofs.Math.Nat.{pow-suc, pow-zero}

-- the binomial coefficient
unfoldable pub choose : ℕ → ℕ → ℕ
choose n zero = 1
choose zero (suc k) = 0
choose (suc n) (suc k) = choose n k + choose n (suc k)

-- the first m terms of the power n of 1 + x
unfoldable pub terms : (n x m : ℕ) → ℕ
terms n x zero = 0
terms n x (suc m) = terms n x m + choose n m * x ^ m

terms_next : (n x m : ℕ) → terms (suc n) x (suc m) ≡ terms n x (suc m) + x * terms n x m
unfolding terms choose
terms_next n x zero = omega arith
terms_next n x (suc m) =
    rw (terms_next n x m, pow-suc x m) (one_more (terms n x m) (choose n m) (choose n (suc m)) x (x ^ m))
  where
    one_more : (t c d x y : ℕ) → t + c * y + x * t + (c + d) * (y * x) ≡ t + c * y + d * (y * x) + x * (t + c * y)
    one_more t c d x y = omega arith

zeroth : (x m : ℕ) → terms 0 x (suc m) ≡ 1
unfolding terms choose
zeroth x zero = omega (arith, pow-zero x)
zeroth x (suc m) = omega (arith, zeroth x m)

pub binomial : (n x m : ℕ) → n < m → terms n x m ≡ (1 + x) ^ n
binomial zero x zero h = absurd (omega arith)
binomial zero x (suc m) h = zeroth x m ∙ sym (pow-zero (1 + x))
binomial (suc n) x zero h = absurd (omega arith)
binomial (suc n) x (suc m) h =
    rw (terms_next n x m, binomial n x (suc m) (omega arith), binomial n x m (omega arith), pow-suc (1 + x) n) (distributed ((1 + x) ^ n) x)
  where
    distributed : (y x : ℕ) → y + x * y ≡ y * (1 + x)
    distributed y x = omega arith

beyond : (n k : ℕ) → n < k → choose n k ≡ 0
unfolding choose
beyond n zero h = absurd (omega arith)
beyond zero (suc k) h = refl
beyond (suc n) (suc k) h = omega (arith, beyond n k (omega arith), beyond n (suc k) (omega arith))

pub choose_all : (n : ℕ) → choose n n ≡ 1
unfolding choose
choose_all zero = refl
choose_all (suc n) = omega (arith, choose_all n, beyond n (suc n) (omega arith))

pub absorbed : (n k : ℕ) → suc k * choose (suc n) (suc k) ≡ suc n * choose n k
unfolding choose
absorbed zero zero = refl
absorbed zero (suc k) = omega arith
absorbed (suc n) zero = omega (arith, absorbed n zero)
absorbed (suc n) (suc k) = joined n k (choose n k) (choose n (suc k)) (choose (suc n) (suc (suc k))) (absorbed n k) (absorbed n (suc k))
  where
    joined : (n k a b c : ℕ) → suc k * (a + b) ≡ suc n * a → suc (suc k) * c ≡ suc n * b → suc (suc k) * (a + b + c) ≡ suc (suc n) * (a + b)
    joined n k a b c p q = omega arith
