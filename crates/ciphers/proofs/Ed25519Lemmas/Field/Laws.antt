-- The numbers below the prime are a field, in which d is no square.
use Rattle.std.proofs.Common.{◌≡◌, ◌≢◌, ◌⊎◌, ℕ, suc, ◌+◌, ◌-◌, ◌*◌, ◌%◌, ◌^◌, ◌<◌, inl, inr, refl, ap, sym, ◌∙◌, arith}
use Rattle.std.proofs.Common.{eq-zero-or-pos}
use Rattle.std.proofs.Math.Nat.{dvd_of_mod-eq-zero, mod-eq-zero_of_dvd, pow-succ'}
use Rattle.std.proofs.lemmas.Nat.{mul-mod_first, mul-mod_second, mul-pow, pow-add, pow-mod}
use Rattle.ciphers.specs.X25519.Field.{prime}
use Rattle.ciphers.specs.X25519.Residues.{power, times}
use Rattle.ciphers.specs.Ed25519.Point.{d}
use Rattle.ciphers.proofs.Ed25519Lemmas.Field.Divisors.{IsPrime, one_factor}
use Rattle.ciphers.proofs.Ed25519Lemmas.Field.Fermat.{fermat}
use Rattle.ciphers.proofs.Ed25519Lemmas.Field.Power.{quick, quick_is}
use Rattle.ciphers.proofs.Ed25519Lemmas.Field.Prime.{prime_is}

zero_factor : (l : ℕ) → IsPrime l → (x y : ℕ) → x * y % l ≡ 0 → (x % l ≡ 0) ⊎ (y % l ≡ 0)
zero_factor l p x y e =
    elim (one_factor l p x y (dvd_of_mod-eq-zero l e)) [
      | inl h ↦ inl (mod-eq-zero_of_dvd l h)
      | inr h ↦ inr (mod-eq-zero_of_dvd l h)
    ]

-- the prime is one: no product is zero without a factor that is
pub no_divisors : (x y : ℕ) → times x y ≡ 0 → (x % prime ≡ 0) ⊎ (y % prime ≡ 0)
unfolding times
no_divisors x y e = zero_factor prime prime_is x y e

inverse_at : (l : ℕ) → IsPrime l → (x : ℕ) → x % l ≢ 0 → x * (x ^ (l - 2) % l) % l ≡ 1
inverse_at l p x some =
    let one_more : suc (l - 2) ≡ l - 1 = omega (arith, p.some) in
    mul-mod_second x (x ^ (l - 2)) l
    ∙ ap (λ (k : ℕ). k % l) (sym (pow-succ' x (l - 2)))
    ∙ ap (λ (k : ℕ). x ^ k % l) one_more
    ∙ fermat l p x some

-- what a quotient is multiplied by is the inverse
pub inverse_is : (x : ℕ) → x % prime ≢ 0 → times x (power x (prime - 2)) ≡ 1
unfolding times power
inverse_is x some = inverse_at prime prime_is x some

-- ---- squares

square_power : (x h k : ℕ) → h + h ≡ k → (x * x) ^ h ≡ x ^ k
square_power x h k e = mul-pow x x h ∙ sym (pow-add x h h) ∙ ap (λ (n : ℕ). x ^ n) e

-- where e v^2 is u^2, the power (l - 1) / 2 of e is the power l - 1 of u
half_power : (l e h u v : ℕ) → IsPrime l → h + h ≡ l - 1 → v % l ≢ 0 → u * u % l ≡ e * (v * v) % l → u ^ (l - 1) % l ≡ e ^ h % l
half_power l e h u v p all some same =
    ap (λ (k : ℕ). k % l) (sym (square_power u h (l - 1) all))
    ∙ sym (pow-mod (u * u) h l)
    ∙ ap (λ (k : ℕ). k ^ h % l) same
    ∙ pow-mod (e * (v * v)) h l
    ∙ ap (λ (k : ℕ). k % l) (mul-pow e (v * v) h)
    ∙ ap (λ (k : ℕ). e ^ h * k % l) (square_power v h (l - 1) all)
    ∙ sym (mul-mod_second (e ^ h) (v ^ (l - 1)) l)
    ∙ ap (λ (k : ℕ). e ^ h * k % l) (fermat l p v some)
    ∙ ap (λ (k : ℕ). k % l) (omega arith)

some_square : (l e u v : ℕ) → IsPrime l → e % l ≢ 0 → v % l ≢ 0 → u * u % l ≡ e * (v * v) % l → u % l ≢ 0
some_square l e u v p number some same none =
    elim (zero_factor l p e (v * v) (sym same ∙ sym (mul-mod_first u u l) ∙ ap (λ (k : ℕ). k * u % l) none ∙ omega arith)) [
      | inl h ↦ number h
      | inr h ↦
          elim (zero_factor l p v v h) [
            | inl g ↦ some g
            | inr g ↦ some g
          ]
    ]

-- Euler's criterion: e is no square where its power (l - 1) / 2 is not 1
no_square : (l e h n u v : ℕ) → IsPrime l → h + h ≡ l - 1 → h < 2 ^ n → e % l ≢ 0 → quick l e h n ≢ 1
    → u * u % l ≡ e * (v * v % l) % l → v % l ≡ 0
no_square l e h n u v p all fits number apart same =
    elim (eq-zero-or-pos (v % l)) [
      | inl none ↦ none
      | inr pos ↦ absurd (refuted (λ none. absurd (omega arith)))
    ]
  where
    equal : u * u % l ≡ e * (v * v) % l
    equal = same ∙ mul-mod_second e (v * v) l

    refuted : v % l ≢ 0 → ⊥
    refuted some =
        apart (
        quick_is l e h n fits
        ∙ sym (half_power l e h u v p all some equal)
        ∙ fermat l p u (some_square l e u v p number some equal)
        )

-- the power (p - 1) / 2 of d is -1
d_power : quick prime d (2 ^ 254 - 10) 254 ≡ prime - 1
unfolding quick
d_power = refl

-- d is no square
pub d_is_no_square : (u v : ℕ) → times u u ≡ times d (times v v) → v % prime ≡ 0
unfolding times
d_is_no_square u v e =
    no_square prime d (2 ^ 254 - 10) 254 u v prime_is refl (omega arith)
    (λ g. absurd (omega arith))
    (λ g. absurd (omega (arith, sym d_power ∙ g)))
    e
