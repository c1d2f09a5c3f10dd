-- Polynomials whose coefficients are numbers, as sums of powers of the first variable.
use Rattle.std.proofs.Common.{◌≡◌, ℕ, zero, suc, ◌+◌, ◌*◌, ◌%◌, Bool, true, false, ◌&&◌, nat_eq, List, [], ◌∷◌, drop, slice_index, refl, ap, sym, ◌∙◌, arith}
use Rattle.std.proofs.lemmas.Bool.{eqb-true}
use Rattle.std.proofs.lemmas.Nat.{mul-mod_second}
use Rattle.ciphers.specs.X25519.Field.{prime}

-- A number; or the part without the first variable, and the part that is multiplied by it.
pub data Polynomial : Type 0 where
  constant : ℕ → Polynomial
  powers : Polynomial → Polynomial → Polynomial

-- the value, where the variables have these values
abbrev pub value : List ℕ → Polynomial → ℕ
value xs (constant n) = n
value xs (powers p q) = value (drop 1 xs) p + slice_index xs 0 * value xs q

-- the variable of this place
abbrev pub single : ℕ → Polynomial
single zero = powers (constant 0) (constant 1)
single (suc i) = powers (single i) (constant 0)

-- a polynomial of these two parts, which is a number where only a number is left
abbrev pub joined : Polynomial → Polynomial → Polynomial
joined (constant n) (constant zero) = constant n
joined (constant n) (constant (suc m)) = powers (constant n) (constant (suc m))
joined (constant n) (powers r s) = powers (constant n) (powers r s)
joined (powers p q) r = powers (powers p q) r

abbrev pub more : ℕ → Polynomial → Polynomial
more n (constant m) = constant (n + m)
more n (powers p q) = powers (more n p) q

abbrev pub sum : Polynomial → Polynomial → Polynomial
sum (constant n) q = more n q
sum (powers p q) (constant m) = powers (more m p) q
sum (powers p q) (powers r s) = joined (sum p r) (sum q s)

abbrev pub scaled : ℕ → Polynomial → Polynomial
scaled k (constant n) = constant (k * n)
scaled k (powers p q) = powers (scaled k p) (scaled k q)

-- each coefficient, which the first variable is not in, is changed
abbrev pub each : (Polynomial → Polynomial) → Polynomial → Polynomial
each f (constant n) = joined (f (constant n)) (constant 0)
each f (powers p q) = joined (f p) (each f q)

abbrev pub product : Polynomial → Polynomial → Polynomial
product (constant zero) r = constant 0
product (constant (suc n)) r = scaled (suc n) r
product (powers p q) r = sum (each (product p) r) (joined (constant 0) (product q r))

abbrev pub reduced : Polynomial → Polynomial
reduced (constant n) = constant (n % prime)
reduced (powers p q) = joined (reduced p) (reduced q)

-- whether each coefficient is zero modulo the prime
abbrev pub vanishes : Polynomial → Bool
vanishes (constant n) = nat_eq (n % prime) 0
vanishes (powers p q) = vanishes p && vanishes q

-- ---- their values

pub single_value : (xs : List ℕ) (i : ℕ) → value xs (single i) ≡ slice_index xs i
single_value [] zero = refl
single_value (x ∷ xs) zero = omega arith
single_value [] (suc i) = rw (single_value [] i) refl
single_value (x ∷ xs) (suc i) = rw (single_value xs i) (omega arith)

joined_value : (xs : List ℕ) (p q : Polynomial) → value xs (joined p q) ≡ value (drop 1 xs) p + slice_index xs 0 * value xs q
joined_value xs (constant n) (constant zero) = omega arith
joined_value xs (constant n) (constant (suc m)) = refl
joined_value xs (constant n) (powers r s) = refl
joined_value xs (powers p q) r = refl

more_value : (xs : List ℕ) (n : ℕ) (p : Polynomial) → value xs (more n p) ≡ n + value xs p
more_value xs n (constant m) = refl
more_value xs n (powers p q) = rw (more_value (drop 1 xs) n p) (omega arith)

pub sum_value : (xs : List ℕ) (p q : Polynomial) → value xs (sum p q) ≡ value xs p + value xs q
sum_value xs (constant n) q = more_value xs n q
sum_value xs (powers p q) (constant m) = rw (more_value (drop 1 xs) m p) (omega arith)
sum_value xs (powers p q) (powers r s) =
    rw (joined_value xs (sum p r) (sum q s), sum_value (drop 1 xs) p r, sum_value xs q s) (ring _ _ _ _ _)
  where
    ring : (a b x c d : ℕ) → a + b + x * (c + d) ≡ a + x * c + (b + x * d)
    ring a b x c d = omega arith

pub scaled_value : (xs : List ℕ) (k : ℕ) (p : Polynomial) → value xs (scaled k p) ≡ k * value xs p
scaled_value xs k (constant n) = refl
scaled_value xs k (powers p q) = rw (scaled_value (drop 1 xs) k p, scaled_value xs k q) (ring _ _ _ _)
  where
    ring : (k a x b : ℕ) → k * a + x * (k * b) ≡ k * (a + x * b)
    ring k a x b = omega arith

each_value : (xs : List ℕ) (a : ℕ) (f : Polynomial → Polynomial) (r : Polynomial)
    → ((p : Polynomial) → value (drop 1 xs) (f p) ≡ a * value (drop 1 xs) p) → value xs (each f r) ≡ a * value xs r
each_value xs a f (constant n) h = rw (joined_value xs (f (constant n)) (constant 0), h (constant n)) (omega arith)
each_value xs a f (powers p q) h = rw (joined_value xs (f p) (each f q), h p, each_value xs a f q h) (ring _ _ _ _)
  where
    ring : (k a x b : ℕ) → k * a + x * (k * b) ≡ k * (a + x * b)
    ring k a x b = omega arith

pub product_value : (xs : List ℕ) (p q : Polynomial) → value xs (product p q) ≡ value xs p * value xs q
product_value xs (constant zero) r = omega arith
product_value xs (constant (suc n)) r = scaled_value xs (suc n) r
product_value xs (powers p q) r =
    let rest = each_value xs (value (drop 1 xs) p) (product p) r (product_value (drop 1 xs) p) in
    sum_value xs (each (product p) r) (joined (constant 0) (product q r))
    ∙ rw (joined_value xs (constant 0) (product q r), rest, product_value xs q r) (ring _ _ _ _)
  where
    ring : (a x b c : ℕ) → a * c + (0 + x * (b * c)) ≡ (a + x * b) * c
    ring a x b c = omega arith

-- ---- modulo the prime

same_step : (a b x c d : ℕ) → a % prime ≡ b % prime → c % prime ≡ d % prime → (a + x * c) % prime ≡ (b + x * d) % prime
same_step a b x c d e h =
    let k : x * c % prime ≡ x * d % prime = sym (mul-mod_second x c prime) ∙ ap (λ n. x * n % prime) h ∙ mul-mod_second x d prime in
    omega arith

pub reduced_value : (xs : List ℕ) (p : Polynomial) → value xs (reduced p) % prime ≡ value xs p % prime
reduced_value xs (constant n) = omega arith
reduced_value xs (powers p q) =
    ap (λ n. n % prime) (joined_value xs (reduced p) (reduced q))
    ∙ same_step _ _ _ _ _ (reduced_value (drop 1 xs) p) (reduced_value xs q)

pub vanishing_value : (xs : List ℕ) (p : Polynomial) → vanishes p ≡ true → value xs p % prime ≡ 0
vanishing_value xs (constant n) h = eqb-true _ _ h
vanishing_value xs (powers p q) h =
    let e = both (vanishes p) (vanishes q) h in
    same_step _ 0 (slice_index xs 0) _ 0 (vanishing_value (drop 1 xs) p e.0) (vanishing_value xs q e.1) ∙ omega arith
  where
    both : (a b : Bool) → (a && b) ≡ true → (a ≡ true) × (b ≡ true)
    both true b h = (refl, h)
    both false b h = grind arith
