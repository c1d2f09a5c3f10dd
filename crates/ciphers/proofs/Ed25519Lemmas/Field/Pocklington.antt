-- Pocklington's criterion: q r + 1 is prime if q is, and a number has the order q modulo each of its divisors.
use Prim.Native.Nat.{◌∣◌}
use Rattle.std.proofs.Common.{◌≡◌, ◌≢◌, ℕ, zero, suc, ◌+◌, ◌-◌, ◌*◌, ◌/◌, ◌%◌, ◌^◌, ◌<◌, ◌≤◌, inl, inr, refl, ap, sym, ◌∙◌, arith}
use Rattle.std.proofs.Common.{div-add-mod', eq-zero-or-pos, le_refl, mod-eq_of_lt, mod-lt, mul-le-mul_left, mul-pos, mul-suc, one-mul}
use Rattle.std.proofs.lemmas.Bool.{cases_lt}
use Rattle.std.proofs.Math.Nat.{div-add-mod, dvd_of_mod-eq-zero, le_of_mul-le-mul_left, mod-eq-zero_of_dvd, mod-mod_of_dvd}
use Rattle.std.proofs.Math.Nat.{mul-div_cancel', pow-suc, pow-succ', pow-zero, zero-mod, zero-mul}
use Rattle.std.proofs.lemmas.Nat.{mul-mod_first, pow-add, pow-mod}
use Rattle.ciphers.proofs.Ed25519Lemmas.Field.Divisors.{IsPrime, descent, prime_if}
use Rattle.ciphers.proofs.Ed25519Lemmas.Field.Fermat.{divides_same, fermat}
use Rattle.ciphers.proofs.Ed25519Lemmas.Field.Power.{quick, quick_is}

one_power : (n : ℕ) → 1 ^ n ≡ 1
one_power zero = pow-zero 1
one_power (suc n) = pow-suc 1 n ∙ omega (arith, one_power n)

first_power : (x : ℕ) → x ^ 1 ≡ x
first_power x = pow-suc x 0 ∙ ap (λ (k : ℕ). k * x) (pow-zero x) ∙ one-mul x

power_times : (x a q : ℕ) → x ^ (q * a) ≡ (x ^ a) ^ q
power_times x a zero = ap (λ (k : ℕ). x ^ k) (omega arith) ∙ pow-zero x ∙ sym (pow-zero (x ^ a))
power_times x a (suc q) =
    ap (λ (k : ℕ). x ^ k) (more q a) ∙ pow-add x (q * a) a ∙ ap (λ (k : ℕ). k * x ^ a) (power_times x a q) ∙ sym (pow-suc (x ^ a) q)
  where
    more : (q a : ℕ) → suc q * a ≡ q * a + a
    more q a = omega arith

-- the exponents of x that give 1
abbrev IsOne : (l x a : ℕ) → Type 0
IsOne l x a = x ^ a % l ≡ 1

many : (l x a q : ℕ) → 1 < l → IsOne l x a → IsOne l x (q * a)
many l x a q some e =
    ap (λ (k : ℕ). k % l) (power_times x a q)
    ∙ sym (pow-mod (x ^ a) q l)
    ∙ ap (λ (k : ℕ). k ^ q % l) e
    ∙ ap (λ (k : ℕ). k % l) (one_power q)
    ∙ mod-eq_of_lt some

remainder : (l x a b : ℕ) → 1 < l → IsOne l x a → IsOne l x b → IsOne l x (b % a)
remainder l x a b some e f =
    sym (
    sym f
    ∙ ap (λ (k : ℕ). x ^ k % l) (sym (div-add-mod' b a))
    ∙ ap (λ (k : ℕ). k % l) (pow-add x (b / a * a) (b % a))
    ∙ sym (mul-mod_first (x ^ (b / a * a)) (x ^ (b % a)) l)
    ∙ ap (λ (k : ℕ). k * x ^ (b % a) % l) (many l x a (b / a) some e)
    ∙ ap (λ (k : ℕ). k % l) (one-mul (x ^ (b % a)))
    )

-- where the order of x is a prime q, each exponent of the power 1 is a multiple of q
order_divides : (l x q b : ℕ) → 1 < l → IsPrime q → IsOne l x q → IsOne l x b → x % l ≢ 1 → q ∣ b
order_divides l x q b some h e f apart =
    elim (eq-zero-or-pos (b % q)) [
      | inl none ↦ dvd_of_mod-eq-zero q none
      | inr pos ↦
          absurd (apart (
          ap (λ (k : ℕ). k % l) (sym (first_power x))
          ∙ descent q h (IsOne l x) (λ a g. remainder l x a q some g e)
          (b % q) (b % q) (le_refl _) pos (mod-lt b greater) (remainder l x q b some e f)
          ))
    ]
  where
    greater : 0 < q
    greater = omega (arith, h.some)

sum_below_product : (k j : ℕ) → 0 < k → 0 < j → k + j ≤ k * j + 1
sum_below_product zero j p h = absurd (omega arith)
sum_below_product (suc k) zero p h = absurd (omega arith)
sum_below_product (suc k) (suc j) p h = omega arith

no_quotient : (q s t k j : ℕ) → q * s + t ≡ q * (k * j) + (k + j) → t < q → s + 1 < t → 0 < k → 0 < j → ⊥
no_quotient q s t k j e below apart p h =
    elim (cases_lt s (k * j)) [
      | inl less ↦ omega (arith, mul-le-mul_left q less, mul-suc q s)
      | inr more ↦ omega (arith, mul-le-mul_left q more, sum_below_product k j p h)
    ]

with_rest : (q r k c j : ℕ) → 0 < k → 1 < c → r ≡ k * c + j → c ≡ q * j + 1 → r / q + 1 < r % q → r % q < q → ⊥
with_rest q r k c j pos more e f apart below =
    elim (eq-zero-or-pos j) [
      | inl none ↦ omega (arith, more, f, ap (λ (n : ℕ). q * n) none)
      | inr some ↦ no_quotient q (r / q) (r % q) k j whole below apart pos some
    ]
  where
    whole : q * (r / q) + r % q ≡ q * (k * j) + (k + j)
    whole = omega (arith, div-add-mod r q, e, ap (λ (n : ℕ). k * n) f)

-- no product of two numbers that are 1 modulo q, and greater, is q r + 1
no_product : (q r k c : ℕ) → 0 < q → 0 < k → 1 < c → (q * k + 1) * c ≡ q * r + 1 → r / q + 1 < r % q → ⊥
no_product q r k c some pos more e apart =
    let fits : k * c ≤ r = le_of_mul-le-mul_left {k = q} (omega arith) some in
    let parts : r ≡ k * c + (r - k * c) = omega arith in
    with_rest q r k c (r - k * c) pos more parts (cofactor (r - k * c) parts) apart (mod-lt r some)
  where
    cofactor : (j : ℕ) → r ≡ k * c + j → c ≡ q * j + 1
    cofactor j f = omega (arith, e, ap (λ (n : ℕ). q * n) f)

-- what holds modulo a divisor of m
at_divisor : (m l a : ℕ) → 1 < l → l ∣ m → a % m ≡ 1 → a % l ≡ 1
at_divisor m l a some d e = sym (mod-mod_of_dvd l a d) ∙ ap (λ (k : ℕ). k % l) e ∙ mod-eq_of_lt some

-- a factor of what is 1 is not zero
factor_some : (l y w : ℕ) → y * w % l ≡ 1 → y % l ≢ 0
factor_some l y w e none =
    absurd (omega (arith, sym e ∙ sym (mul-mod_first y w l) ∙ ap (λ (k : ℕ). k * w % l) none ∙ zero))
  where
    zero : 0 * w % l ≡ 0
    zero = ap (λ (k : ℕ). k % l) (zero-mul w) ∙ zero-mod l

root_some : (l x q : ℕ) → 0 < q → IsOne l x q → x % l ≢ 0
root_some l x zero pos e = absurd (omega arith)
root_some l x (suc q) pos e = factor_some l x (x ^ q) (ap (λ (k : ℕ). k % l) (sym (pow-succ' x q)) ∙ e)

-- a prime divisor is 1 modulo q
divisor_is : (l q y w : ℕ) → IsPrime l → IsPrime q → IsOne l (1 + y) q → y * w % l ≡ 1 → q ∣ l - 1
divisor_is l q y w p h e f =
    order_divides l (1 + y) q (l - 1) p.some h e (fermat l p (1 + y) (root_some l (1 + y) q (omega (arith, h.some)) e)) apart
  where
    apart : (1 + y) % l ≢ 1
    apart g =
        let same : (y + 1) % l ≡ 1 % l = ap (λ (k : ℕ). k % l) (omega arith) ∙ g ∙ sym (mod-eq_of_lt p.some) in
        factor_some l y w f (mod-eq-zero_of_dvd l (divides_same l y 1 same))

-- a divisor that is 1 modulo q, and not the whole
with_parts : (m q r l k c : ℕ) → 0 < q → m ≡ q * r + 1 → 1 < l → l < m → q * k ≡ l - 1 → l * c ≡ m → r / q + 1 < r % q → ⊥
with_parts m q r l k c pos whole some less e f apart =
    elim (eq-zero-or-pos k) [
      | inl none ↦ omega (arith, e, ap (λ (n : ℕ). q * n) none)
      | inr more ↦
          elim (cases_lt 1 c) [
            | inl two ↦ no_product q r k c pos more two (ap (λ (n : ℕ). n * c) above ∙ f ∙ whole) apart
            | inr small ↦ omega (arith, f, mul-le-mul_left l small)
          ]
    ]
  where
    above : q * k + 1 ≡ l
    above = omega arith

-- ---- the criterion

-- q has at most n binary digits; the power q of 1 + y is 1, and y has the inverse w
pub pocklington : (q r y w n : ℕ) → IsPrime q → 0 < r → q < 2 ^ n → quick (q * r + 1) (1 + y) q n ≡ 1 → y * w % (q * r + 1) ≡ 1
    → r / q + 1 < r % q → IsPrime (q * r + 1)
pocklington q r y w n h some fits e f apart = prime_if (q * r + 1) greater refuted
  where
    pos : 0 < q
    pos = omega (arith, h.some)

    greater : 1 < q * r + 1
    greater = omega (arith, mul-pos {m = q} {n = r} pos some)

    root : IsOne (q * r + 1) (1 + y) q
    root = sym (quick_is (q * r + 1) (1 + y) q n fits) ∙ e

    refuted : (l : ℕ) → IsPrime l → l < q * r + 1 → l ∣ q * r + 1 → ⊥
    refuted l p less d =
        let divided : q ∣ l - 1 =
        divisor_is l q y w p h (at_divisor (q * r + 1) l ((1 + y) ^ q) p.some d root) (at_divisor (q * r + 1) l (y * w) p.some d f) in
        with_parts (q * r + 1) q r l ((l - 1) / q) ((q * r + 1) / l) pos refl p.some less
        (mul-div_cancel' q divided) (mul-div_cancel' l d) apart
