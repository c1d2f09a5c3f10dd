-- Primes, and the products that they divide.
use Prim.Native.Nat.{◌∣◌}
use Rattle.std.proofs.Common.{◌≡◌, ◌≢◌, ◌⊎◌, ℕ, zero, suc, ◌+◌, ◌*◌, ◌/◌, ◌%◌, ◌<◌, ◌≤◌, inl, inr, ap, sym, subst, ◌∙◌, arith}
use Rattle.std.proofs.Common.{Bool, true, not, ◌&&◌, eqb}
use Rattle.std.proofs.Common.{div-add-mod', eq-or-lt_of_le, eq-zero-or-pos, le_of_suc-le-suc, le_refl, lt-suc_self}
use Rattle.std.proofs.Common.{mod-lt, one-mul, pos_of_ne-zero}
use Rattle.std.proofs.lemmas.Bool.{and_parts, cases_lt, eqb-false, not-true}
use Rattle.std.proofs.Math.Nat.{dvd-add_iff_right, dvd-mul_left, dvd-mul_right, dvd_of_mod-eq-zero, dvd_trans, mod-eq-zero_of_dvd}

-- no number between 1 and it divides it
pub record IsPrime (l : ℕ) : Type 0 where
  pub some : 1 < l
  pub none : (a : ℕ) → 1 < a → a < l → l % a ≢ 0

-- what passes from each number to the remainder of the prime by it reaches 1
pub descent : (l : ℕ) → IsPrime l → (P : ℕ → Type 0) → ((a : ℕ) → P a → P (l % a))
    → (n a : ℕ) → a ≤ n → 0 < a → a < l → P a → P 1
descent l h P step zero a le pos lt p = absurd (omega arith)
descent l h P step (suc n) a le pos lt p =
    elim (eq-or-lt_of_le pos) [
      | inl e ↦ subst P (sym e) p
      | inr more ↦
          let left : 0 < l % a = pos_of_ne-zero (h.none a more lt) in
          let less : l % a < a = mod-lt l pos in
          descent l h P step n (l % a) (omega arith) left (omega arith) (step a p)
    ]

-- the factor may be replaced by the remainder of l by it
rest_divides : (l a b : ℕ) → l ∣ a * b → l ∣ l % a * b
rest_divides l a b h =
    let whole : l / a * (a * b) + l % a * b ≡ l * b = ring l a b in
    (dvd-add_iff_right l (dvd_trans l h (dvd-mul_left (a * b) (l / a)))).1 (subst (λ (n : ℕ). l ∣ n) (sym whole) (dvd-mul_right l b))
  where
    product : (q a r b : ℕ) → q * (a * b) + r * b ≡ (q * a + r) * b
    product q a r b = omega arith

    ring : (l a b : ℕ) → l / a * (a * b) + l % a * b ≡ l * b
    ring l a b = product (l / a) a (l % a) b ∙ ap (λ (n : ℕ). n * b) (div-add-mod' l a)

small_factor : (l : ℕ) → IsPrime l → (a b : ℕ) → 0 < a → a < l → l ∣ a * b → l ∣ b
small_factor l h a b pos lt p =
    subst (λ (n : ℕ). l ∣ n) (one-mul b) (descent l h (λ (n : ℕ). l ∣ n * b) (λ n d. rest_step n d) a a (le_refl a) pos lt p)
  where
    rest_step : (n : ℕ) → l ∣ n * b → l ∣ l % n * b
    rest_step n d = rest_divides l n b d

-- Euclid's lemma
pub one_factor : (l : ℕ) → IsPrime l → (a b : ℕ) → l ∣ a * b → (l ∣ a) ⊎ (l ∣ b)
one_factor l h a b p =
    elim (eq-zero-or-pos (a % l)) [
      | inl e ↦ inl (dvd_of_mod-eq-zero l e)
      | inr pos ↦ inr (small_factor l h (a % l) b pos (mod-lt a some) left)
    ]
  where
    some : 0 < l
    some = omega (arith, h.some)

    product : (q r : ℕ) → l * (q * b) + r * b ≡ (q * l + r) * b
    product q r = omega arith

    whole : l * (a / l * b) + a % l * b ≡ a * b
    whole = product (a / l) (a % l) ∙ ap (λ (n : ℕ). n * b) (div-add-mod' a l)

    left : l ∣ a % l * b
    left = (dvd-add_iff_right l (dvd-mul_right l (a / l * b))).1 (subst (λ (n : ℕ). l ∣ n) (sym whole) p)

pub other_factor : (l : ℕ) → IsPrime l → (a b : ℕ) → a % l ≢ 0 → l ∣ a * b → l ∣ b
other_factor l h a b some p =
    elim (one_factor l h a b p) [
      | inl d ↦ absurd (some (mod-eq-zero_of_dvd l d))
      | inr d ↦ d
    ]

-- ---- the least divisor

abbrev NoneBelow : (m n : ℕ) → Type 0
NoneBelow m n = (a : ℕ) → 1 < a → a < n → m % a ≢ 0

abbrev PrimeBelow : (m n : ℕ) → Type 0
PrimeBelow m n = (l : ℕ) × IsPrime l × (l < n) × (l ∣ m)

none_more : (m n : ℕ) → NoneBelow m n → m % n ≢ 0 → NoneBelow m (suc n)
none_more m n none here a some below e =
    elim (eq-or-lt_of_le (le_of_suc-le-suc below)) [
      | inl same ↦ here (subst (λ (k : ℕ). m % k ≡ 0) same e)
      | inr less ↦ none a some less e
    ]

least_is_prime : (m n : ℕ) → NoneBelow m n → 1 < n → n ∣ m → IsPrime n
least_is_prime m n none some d = record {
  some = some;
  none = λ a more less e. none a more less (mod-eq-zero_of_dvd a (dvd_trans a (dvd_of_mod-eq-zero a e) d));
}

least : (m n : ℕ) → NoneBelow m n ⊎ PrimeBelow m n
least m zero = inl (λ a some below e. absurd (omega arith))
least m (suc n) =
    elim (least m n) [
      | inr (l, p, less, d) ↦ inr (l, p, omega arith, d)
      | inl none ↦
          elim (eq-zero-or-pos (m % n)) [
            | inr pos ↦ inl (none_more m n none (λ e. absurd (omega arith)))
            | inl e ↦
                elim (cases_lt 1 n) [
                  | inl some ↦ inr (n, least_is_prime m n none some (dvd_of_mod-eq-zero n e), lt-suc_self n, dvd_of_mod-eq-zero n e)
                  | inr small ↦ inl (λ a some below f. absurd (omega arith))
                ]
          ]
    ]

-- a number is prime that no smaller prime divides
pub prime_if : (m : ℕ) → 1 < m → ((l : ℕ) → IsPrime l → l < m → l ∣ m → ⊥) → IsPrime m
prime_if m some refuted =
    elim (least m m) [
      | inl none ↦ record { some = some; none = none }
      | inr (l, p, less, d) ↦ absurd (refuted l p less d)
    ]

-- ---- by trial

-- whether none of the numbers from 2 to n + 1 divides m
abbrev trials : (m n : ℕ) → Bool
trials m zero = true
trials m (suc n) = not (eqb (m % (n + 2)) 0) && trials m n

none_below : (m n : ℕ) → trials m n ≡ true → NoneBelow m (n + 2)
none_below m zero t a some below = absurd (omega arith)
none_below m (suc n) t a some below =
    let both = and_parts _ _ t in
    let here : m % (n + 2) ≢ 0 = eqb-false _ _ (not-true _ both.0) in
    none_more m (n + 2) (none_below m n both.1) here a some (omega arith)

pub prime_by_trial : (m : ℕ) → trials (m + 2) m ≡ true → IsPrime (m + 2)
prime_by_trial m t = record { some = omega arith; none = none_below (m + 2) m t }
