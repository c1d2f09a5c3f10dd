-- Fermat's little theorem.
use Prim.Native.Nat.{◌∣◌}
use Rattle.std.proofs.Common.{◌≡◌, ◌≢◌, ℕ, zero, suc, ◌+◌, ◌-◌, ◌*◌, ◌/◌, ◌%◌, ◌^◌, ◌<◌, ◌≤◌, ap, sym, subst, ◌∙◌, arith}
use Rattle.std.proofs.Common.{le_refl, lt-suc_self, mod-eq_of_lt, mul_comm}
use Rattle.std.proofs.Math.Nat.{add-mod, add-mod-mod, div-add-mod, dvd-mul_right, dvd-mul_right_of_dvd, mod-add-mod}
use Rattle.std.proofs.Math.Nat.{mod-eq-zero_of_dvd, mul-sub, pow-suc, pow-zero, zero-mod}
use Rattle.ciphers.proofs.Ed25519Lemmas.Field.Binomial.{absorbed, binomial, choose, choose_all, terms}
use Rattle.ciphers.proofs.Ed25519Lemmas.Field.Divisors.{IsPrime, other_factor}

-- what l divides adds nothing
pub nothing_more : (l a b : ℕ) → l ∣ b → (a + b) % l ≡ a % l
nothing_more l a b d =
    add-mod a b l
    ∙ ap (λ (n : ℕ). (a % l + n) % l) (mod-eq-zero_of_dvd l d)
    ∙ mod-add-mod a l 0
    ∙ ap (λ (n : ℕ). n % l) (omega arith)

-- a prime divides its binomial coefficients between the first and the last
inner : (n : ℕ) → IsPrime (suc n) → (k : ℕ) → k < n → suc n ∣ choose (suc n) (suc k)
inner n h k less =
    other_factor (suc n) h (suc k) (choose (suc n) (suc k)) some
    (subst (λ (m : ℕ). suc n ∣ m) (sym (absorbed n k)) (dvd-mul_right (suc n) (choose n k)))
  where
    some : suc k % suc n ≢ 0
    some e = absurd (omega (arith, sym (mod-eq_of_lt {n = suc k} {m = suc n} (omega arith)) ∙ e))

one_left : (l : ℕ) → IsPrime l → 1 % l ≡ 1
one_left l h = mod-eq_of_lt h.some

-- the terms before the last one are 1 modulo the prime
front : (n : ℕ) → IsPrime (suc n) → (x m : ℕ) → m ≤ n → terms (suc n) x (suc m) % suc n ≡ 1
unfolding terms choose
front n h x zero le = ap (λ (k : ℕ). k % suc n) (omega (arith, pow-zero x)) ∙ one_left (suc n) h
front n h x (suc m) le =
    nothing_more (suc n) (terms (suc n) x (suc m)) (choose (suc n) (suc m) * x ^ suc m)
    (dvd-mul_right_of_dvd (suc n) (inner n h m le) (x ^ suc m))
    ∙ front n h x m (omega arith)

last_term : (n x : ℕ) → (1 + x) ^ suc n ≡ terms (suc n) x (suc n) + x ^ suc n
unfolding terms
last_term n x =
    sym (binomial (suc n) x (suc (suc n)) (lt-suc_self (suc n)))
    ∙ ap (λ (c : ℕ). terms (suc n) x (suc n) + c * x ^ suc n) (choose_all (suc n))
    ∙ omega arith

next_power : (n : ℕ) → IsPrime (suc n) → (x : ℕ) → (1 + x) ^ suc n % suc n ≡ (1 + x ^ suc n) % suc n
next_power n h x =
    ap (λ (k : ℕ). k % suc n) (last_term n x)
    ∙ sym (mod-add-mod (terms (suc n) x (suc n)) (suc n) (x ^ suc n))
    ∙ ap (λ (k : ℕ). (k + x ^ suc n) % suc n) (front n h x n (le_refl n))

same_power : (n : ℕ) → IsPrime (suc n) → (x : ℕ) → x ^ suc n % suc n ≡ x % suc n
same_power n h zero = ap (λ (k : ℕ). k % suc n) (pow-suc 0 n ∙ omega arith)
same_power n h (suc x) =
    let next : suc x ≡ 1 + x = omega arith in
    ap (λ (k : ℕ). k ^ suc n % suc n) next
    ∙ next_power n h x
    ∙ sym (add-mod-mod 1 (x ^ suc n) (suc n))
    ∙ ap (λ (k : ℕ). (1 + k) % suc n) (same_power n h x)
    ∙ add-mod-mod 1 x (suc n)
    ∙ ap (λ (k : ℕ). k % suc n) (sym next)

-- l divides what may be added with no change
pub divides_same : (l a x : ℕ) → (a + x) % l ≡ x % l → l ∣ a
divides_same l a x e =
    let parts : l * ((a + x) / l) - l * (x / l) ≡ a = omega (arith, div-add-mod (a + x) l, div-add-mod x l) in
    subst (λ (n : ℕ). l ∣ n) (mul-sub l ((a + x) / l) (x / l) ∙ parts) (dvd-mul_right l ((a + x) / l - x / l))

-- a factor x of both sides cancels, where l does not divide it
one_of : (l : ℕ) → IsPrime l → (y x : ℕ) → x % l ≢ 0 → y * x % l ≡ x % l → y % l ≡ 1
one_of l h zero x some e = absurd (some (sym e ∙ ap (λ (k : ℕ). k % l) (omega arith) ∙ zero-mod l))
one_of l h (suc y) x some e =
    let split : suc y * x ≡ y * x + x = omega arith in
    let d : l ∣ y * x = divides_same l (y * x) x (ap (λ (k : ℕ). k % l) (sym split) ∙ e) in
    let more : suc y ≡ 1 + y = omega arith in
    ap (λ (k : ℕ). k % l) more
    ∙ nothing_more l 1 y (other_factor l h x y some (subst (λ (k : ℕ). l ∣ k) (mul_comm y x) d))
    ∙ one_left l h

pub fermat : (l : ℕ) → IsPrime l → (x : ℕ) → x % l ≢ 0 → x ^ (l - 1) % l ≡ 1
fermat zero h x some = absurd (omega (arith, h.some))
fermat (suc n) h x some =
    let less : suc n - 1 ≡ n = omega arith in
    ap (λ (k : ℕ). x ^ k % suc n) less
    ∙ one_of (suc n) h (x ^ n) x some (ap (λ (k : ℕ). k % suc n) (sym (pow-suc x n)) ∙ same_power n h x)
