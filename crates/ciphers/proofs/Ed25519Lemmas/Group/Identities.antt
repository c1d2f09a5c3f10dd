-- Identities of numbers modulo the prime, proved by multiplying out.
use Rattle.std.proofs.Common.{◌≡◌, ℕ, zero, suc, ◌+◌, ◌-◌, ◌*◌, ◌%◌, ◌<◌, true, List, [], ◌∷◌, slice_index, refl, ap, sym, ◌∙◌, arith}
use Rattle.std.proofs.Math.Nat.{mod-mod}
use Rattle.std.proofs.lemmas.Nat.{mul-mod}
use Rattle.ciphers.specs.X25519.Field.{prime}
use Rattle.ciphers.specs.X25519.Residues.{minus, plus, times}
use Rattle.ciphers.proofs.Ed25519Lemmas.Group.Polynomials.{Polynomial, constant, product, product_value, reduced, reduced_value, scaled, scaled_value, single, single_value, sum, sum_value, value, vanishes, vanishing_value}

infixl 65 ◌⊕◌
infixl 65 ◌⊖◌
infixl 70 ◌⊗◌
-- What is made of numbers and variables by the operations of the field.
pub data Term : Type 0 where
  variable : ℕ → Term
  number : ℕ → Term
  ◌⊕◌ : Term → Term → Term
  ◌⊖◌ : Term → Term → Term
  ◌⊗◌ : Term → Term → Term

abbrev pub meaning : List ℕ → Term → ℕ
meaning xs (variable i) = slice_index xs i
meaning xs (number n) = n % prime
meaning xs (a ⊕ b) = plus (meaning xs a) (meaning xs b)
meaning xs (a ⊖ b) = minus (meaning xs a) (meaning xs b)
meaning xs (a ⊗ b) = times (meaning xs a) (meaning xs b)

abbrev pub expanded : Term → Polynomial
expanded (variable i) = single i
expanded (number n) = constant n
expanded (a ⊕ b) = sum (expanded a) (expanded b)
expanded (a ⊖ b) = sum (expanded a) (scaled (prime - 1) (expanded b))
expanded (a ⊗ b) = reduced (product (expanded a) (expanded b))

-- the values of the variables are below the prime
abbrev pub AreBelow : List ℕ → Type 0
AreBelow [] = Unit
AreBelow (x ∷ xs) = (x < prime) × AreBelow xs

below_at : (xs : List ℕ) (i : ℕ) → AreBelow xs → slice_index xs i < prime
below_at [] i b = omega arith
below_at (x ∷ xs) zero b = b.0
below_at (x ∷ xs) (suc i) b = below_at xs i b.1

pub plus_below : (x y : ℕ) → plus x y < prime
unfolding plus
plus_below x y = omega arith

pub minus_below : (x y : ℕ) → minus x y < prime
unfolding minus
minus_below x y = omega arith

pub times_below : (x y : ℕ) → times x y < prime
unfolding times
times_below x y = omega arith

pub meaning_below : (xs : List ℕ) (a : Term) → AreBelow xs → meaning xs a < prime
meaning_below xs (variable i) b = below_at xs i b
meaning_below xs (number n) b = omega arith
meaning_below xs (a ⊕ c) b = plus_below _ _
meaning_below xs (a ⊖ c) b = minus_below _ _
meaning_below xs (a ⊗ c) b = times_below _ _

plus_same : (x y u v : ℕ) → x % prime ≡ u % prime → y % prime ≡ v % prime → plus x y % prime ≡ (u + v) % prime
unfolding plus
plus_same x y u v e h = omega arith

minus_same : (x y u v : ℕ) → y < prime → x % prime ≡ u % prime → y % prime ≡ v % prime
    → minus x y % prime ≡ (u + (prime - 1) * v) % prime
unfolding minus
minus_same x y u v b e h = omega arith

times_same : (x y u v : ℕ) → x % prime ≡ u % prime → y % prime ≡ v % prime → times x y % prime ≡ u * v % prime
unfolding times
times_same x y u v e h =
    mod-mod (x * y) prime
    ∙ mul-mod x y prime
    ∙ ap (λ n. n * (y % prime) % prime) e
    ∙ ap (λ n. u % prime * n % prime) h
    ∙ sym (mul-mod u v prime)

-- a term means what its polynomial does
pub expanded_value : (xs : List ℕ) (a : Term) → AreBelow xs → meaning xs a % prime ≡ value xs (expanded a) % prime
expanded_value xs (variable i) b = ap (λ n. n % prime) (sym (single_value xs i))
expanded_value xs (number n) b = omega arith
expanded_value xs (a ⊕ c) b =
    plus_same _ _ _ _ (expanded_value xs a b) (expanded_value xs c b)
    ∙ ap (λ n. n % prime) (sym (sum_value xs (expanded a) (expanded c)))
expanded_value xs (a ⊖ c) b =
    let p : Polynomial = expanded a in
    let q : Polynomial = expanded c in
    minus_same _ _ _ _ (meaning_below xs c b) (expanded_value xs a b) (expanded_value xs c b)
    ∙ ap (λ n. (value xs p + n) % prime) (sym (scaled_value xs (prime - 1) q))
    ∙ ap (λ n. n % prime) (sym (sum_value xs p (scaled (prime - 1) q)))
expanded_value xs (a ⊗ c) b =
    times_same _ _ _ _ (expanded_value xs a b) (expanded_value xs c b)
    ∙ ap (λ n. n % prime) (sym (product_value xs (expanded a) (expanded c)))
    ∙ sym (reduced_value xs (product (expanded a) (expanded c)))

-- ---- identities that follow from others

-- An equation, and what it is multiplied by.
pub record Fact : Type 0 where
  pub factor : Term
  pub left : Term
  pub right : Term

abbrev pub Hold : List ℕ → List Fact → Type 0
Hold xs [] = Unit
Hold xs (f ∷ fs) = (meaning xs f.left ≡ meaning xs f.right) × Hold xs fs

abbrev pub combined : List Fact → Term
combined [] = number 0
combined (f ∷ fs) = f.factor ⊗ (f.left ⊖ f.right) ⊕ combined fs

no_difference : (x y : ℕ) → x ≡ y → x < prime → minus x y ≡ 0
unfolding minus
no_difference x y e b = omega arith

zero_product : (x : ℕ) → plus (times x 0) 0 ≡ 0
unfolding plus times
zero_product x = omega arith

combined_zero : (xs : List ℕ) (fs : List Fact) → AreBelow xs → Hold xs fs → meaning xs (combined fs) ≡ 0
combined_zero xs [] b h = refl
combined_zero xs (f ∷ fs) b h =
    let e = no_difference (meaning xs f.left) (meaning xs f.right) h.0 (meaning_below xs f.left b) in
    rw (e, combined_zero xs fs b h.1) (zero_product (meaning xs f.factor))

apart : (x y : ℕ) → x < prime → y < prime → minus (minus x y) 0 % prime ≡ 0 → x ≡ y
unfolding minus
apart x y b c e = omega arith

-- What the variables stand for.
pub record Values : Type 0 where
  pub list : List ℕ
  pub below : AreBelow list

abbrev pub none : Values
none = record { list = []; below = tt }

abbrev pub and : (x : ℕ) → x < prime → Values → Values
and x b v = record { list = x ∷ v.list; below = (b, v.below) }

-- Two terms are equal, where their difference is a sum of those of the facts, each so many times.
pub identity : (v : Values) (a c : Term) (fs : List Fact) → Hold v.list fs → vanishes (expanded (a ⊖ c ⊖ combined fs)) ≡ true
    → meaning v.list a ≡ meaning v.list c
identity v a c fs h e =
    let difference : Term = a ⊖ c ⊖ combined fs in
    let zero : meaning v.list difference % prime ≡ 0 =
    expanded_value v.list difference v.below ∙ vanishing_value v.list (expanded difference) e in
    apart _ _ (meaning_below v.list a v.below) (meaning_below v.list c v.below) (rw (combined_zero v.list fs v.below h) at zero)

-- two terms that are equal by the laws of a ring alone
pub ring : (v : Values) (a c : Term) → vanishes (expanded (a ⊖ c ⊖ number 0)) ≡ true → meaning v.list a ≡ meaning v.list c
ring v a c e = identity v a c [] tt e
