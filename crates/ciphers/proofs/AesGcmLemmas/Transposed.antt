-- The bits of eight words turned, and of eight numbers: bit i of (byte m of) word k comes to bit k of (byte m of) word i, in three steps.
use Rattle.std.proofs.Common.{◌≡◌, ℕ, zero, suc, ◌+◌, ◌-◌, ◌*◌, ◌/◌, ◌%◌, ◌^◌, ◌<◌, ◌≤◌, Bool, true, ◌&&◌, eqb, max, inl, inr, ◌⊎◌, bit_and, bit_or, refl, sym, ap, ap₂, ◌∙◌, arith}
use Rattle.std.specs.Int.{bit_at}
use Rattle.std.proofs.lemmas.Bool.{cases_lt}
use Rattle.std.proofs.lemmas.Bool.Decides.{Decides-below_and, Decides-eqb}
use Rattle.std.proofs.lemmas.Nat.{shr-shr, div-add-mod', pow_pos}
use Rattle.std.proofs.lemmas.Nat.Bits.{bit_at_above, bit_at_and, bit_at_or, bit_at-lt, bit_at_cat_low, bit_at_cat_high}
use Rattle.ciphers.specs.declared.aes_gcm.planes.Planes.{Planes}
use Rattle.ciphers.specs.AesGcm.Rows.{Eight}
use Rattle.ciphers.specs.AesGcm.Packing.{high_four, high_one, high_two, low_four, low_one, low_two, transposed}
use Rattle.ciphers.specs.AesGcm.VectorPacking.{high, low, transposed_lane}
use Rattle.ciphers.specs.AesGcm.SameBytes.{number_of, word_of}

pub below_8 : (P : ℕ → Type 0) → P 0 → P 1 → P 2 → P 3 → P 4 → P 5 → P 6 → P 7 → (l : ℕ) → l < 8 → P l
below_8 P p0 p1 p2 p3 p4 p5 p6 p7 zero h = p0
below_8 P p0 p1 p2 p3 p4 p5 p6 p7 (suc zero) h = p1
below_8 P p0 p1 p2 p3 p4 p5 p6 p7 (suc (suc zero)) h = p2
below_8 P p0 p1 p2 p3 p4 p5 p6 p7 (suc (suc (suc zero))) h = p3
below_8 P p0 p1 p2 p3 p4 p5 p6 p7 (suc (suc (suc (suc zero)))) h = p4
below_8 P p0 p1 p2 p3 p4 p5 p6 p7 (suc (suc (suc (suc (suc zero))))) h = p5
below_8 P p0 p1 p2 p3 p4 p5 p6 p7 (suc (suc (suc (suc (suc (suc zero)))))) h = p6
below_8 P p0 p1 p2 p3 p4 p5 p6 p7 (suc (suc (suc (suc (suc (suc (suc zero))))))) h = p7
below_8 P p0 p1 p2 p3 p4 p5 p6 p7 (suc (suc (suc (suc (suc (suc (suc (suc l)))))))) h = absurd (omega arith)

-- two functions that are equal at each n below k, by counting
unfoldable pub every : (ℕ → ℕ) → (ℕ → ℕ) → ℕ → Bool
every f g zero = true
every f g (suc k) = eqb (f k) (g k) && every f g k

pub every_is : (f g : ℕ → ℕ) (k : ℕ) → every f g k ≡ true → (n : ℕ) → n < k → f n ≡ g n
unfolding every
every_is f g k e = (Decides-below_and (λ (n : ℕ). eqb (f n) (g n)) (λ (n : ℕ). f n ≡ g n) (every f g) (λ (n : ℕ). Decides-eqb (f n) (g n)) refl (λ n. refl) k).0 e

-- one bit of a shifted word
pub bit_down : (x s n : ℕ) → bit_at (x / 2 ^ s) n ≡ bit_at x (s + n)
bit_down x s n = ap (λ (k : ℕ). k % 2) (shr-shr x s n)

pub bit_below : (x w n : ℕ) → n < w → bit_at (x % 2 ^ w) n ≡ bit_at x n
bit_below x w n h = sym (bit_at_cat_low (x / 2 ^ w) w (x % 2 ^ w) n h) ∙ ap (λ (k : ℕ). bit_at k n) (div-add-mod' x (2 ^ w))

with_zero : (x s : ℕ) → x * 2 ^ s ≡ x * 2 ^ s + 0
with_zero x s = omega arith

pub bit_up : (x s w n : ℕ) → n < w → s ≤ n → bit_at (x * 2 ^ s % 2 ^ w) n ≡ bit_at x (n - s)
bit_up x s w n h from = bit_below (x * 2 ^ s) w n h ∙ ap (λ (k : ℕ). bit_at k n) (with_zero x s) ∙ bit_at_cat_high x s 0 n (pow_pos s) from

bit_up_low : (x s w n : ℕ) → n < w → n < s → bit_at (x * 2 ^ s % 2 ^ w) n ≡ 0
bit_up_low x s w n h under = bit_below (x * 2 ^ s) w n h ∙ ap (λ (k : ℕ). bit_at k n) (with_zero x s) ∙ bit_at_cat_low x s 0 n under
    ∙ omega arith

-- two words of w bits masked and joined, the second shifted up: where the mask has bit n, the bit is of the first, and else of the second
low_first : (m s w x y n : ℕ) → n < w → bit_at m n ≡ 1 → (s ≤ n → bit_at m (n - s) ≡ 0)
    → bit_at (bit_or (bit_and x m) (bit_and y m * 2 ^ s % 2 ^ w)) n ≡ bit_at x n
low_first m s w x y n h here there = bit_at_or (bit_and x m) (bit_and y m * 2 ^ s % 2 ^ w) n
    ∙ ap₂ max (bit_at_and x m n) (rest (cases_lt n s)) ∙ omega (arith, here, bit_at-lt x n)
  where
    rest : (n < s) ⊎ (s ≤ n) → bit_at (bit_and y m * 2 ^ s % 2 ^ w) n ≡ 0
    rest (inl under) = bit_up_low (bit_and y m) s w n h under
    rest (inr from) = bit_up (bit_and y m) s w n h from ∙ bit_at_and y m (n - s) ∙ omega (arith, there from)

low_second : (m s w x y n : ℕ) → n < w → s ≤ n → bit_at m n ≡ 0 → bit_at m (n - s) ≡ 1
    → bit_at (bit_or (bit_and x m) (bit_and y m * 2 ^ s % 2 ^ w)) n ≡ bit_at y (n - s)
low_second m s w x y n h from here there = bit_at_or (bit_and x m) (bit_and y m * 2 ^ s % 2 ^ w) n
    ∙ ap₂ max (bit_at_and x m n) (bit_up (bit_and y m) s w n h from ∙ bit_at_and y m (n - s))
    ∙ omega (arith, here, there, bit_at-lt y (n - s))

-- the same, the first shifted down
high_first : (m s x y n : ℕ) → bit_at m (s + n) ≡ 1 → bit_at m n ≡ 0
    → bit_at (bit_or (bit_and x m / 2 ^ s) (bit_and y m)) n ≡ bit_at x (s + n)
high_first m s x y n here there = bit_at_or (bit_and x m / 2 ^ s) (bit_and y m) n
    ∙ ap₂ max (bit_down (bit_and x m) s n ∙ bit_at_and x m (s + n)) (bit_at_and y m n) ∙ omega (arith, here, there, bit_at-lt x (s + n))

high_second : (m s x y n : ℕ) → bit_at m (s + n) ≡ 0 → bit_at m n ≡ 1 → bit_at (bit_or (bit_and x m / 2 ^ s) (bit_and y m)) n ≡ bit_at y n
high_second m s x y n here there = bit_at_or (bit_and x m / 2 ^ s) (bit_and y m) n
    ∙ ap₂ max (bit_down (bit_and x m) s n ∙ bit_at_and x m (s + n)) (bit_at_and y m n) ∙ omega (arith, here, there, bit_at-lt y n)

by_bit : (b : ℕ) → b < 2 → (P : ℕ → Type 0) → (b ≡ 0 → P 0) → (b ≡ 1 → P 1) → P b
by_bit zero h P p q = p refl
by_bit (suc zero) h P p q = q refl
by_bit (suc (suc b)) h P p q = absurd (omega arith)

low_one_is : (m w : ℕ) → ((n : ℕ) → n < w → bit_at m n ≡ 1 - n / 1 % 2) → (f : ℕ → ℕ) (n : ℕ) → n < w
    → bit_at (bit_or (bit_and (f 0) m) (bit_and (f 1) m * 2 ^ 1 % 2 ^ w)) n ≡ bit_at (f (n / 1 % 2)) (n - 1 * (n / 1 % 2))
low_one_is m w has f n h = by_bit (n / 1 % 2) (omega arith) (λ (b : ℕ). bit_at (bit_or (bit_and (f 0) m) (bit_and (f 1) m * 2 ^ 1 % 2 ^ w)) n ≡ bit_at (f b) (n - 1 * b))
    (λ e. low_first m 1 w (f 0) (f 1) n h (has n h ∙ omega (arith, e)) (λ (from : 1 ≤ n). has (n - 1) (omega (arith, h)) ∙ omega (arith, e, from)) ∙ ap (bit_at (f 0)) (let z : n ≡ n - 1 * 0 = omega arith in z))
    (λ e. low_second m 1 w (f 0) (f 1) n h (omega (arith, e)) (has n h ∙ omega (arith, e)) (has (n - 1) (omega (arith, h)) ∙ omega (arith, e)) ∙ ap (bit_at (f 1)) (let z : n - 1 ≡ n - 1 * 1 = omega arith in z))

high_one_is : (m w : ℕ) → m < 2 ^ w → ((n : ℕ) → n < w → bit_at m n ≡ n / 1 % 2) → (f : ℕ → ℕ) (n : ℕ) → n < w → (n / 1 % 2 ≡ 0 → 1 + n < w)
    → bit_at (bit_or (bit_and (f 0) m / 2 ^ 1) (bit_and (f 1) m)) n ≡ bit_at (f (n / 1 % 2)) (1 + n - 1 * (n / 1 % 2))
high_one_is m w fits has f n h room = by_bit (n / 1 % 2) (omega arith) (λ (b : ℕ). n / 1 % 2 ≡ b → bit_at (bit_or (bit_and (f 0) m / 2 ^ 1) (bit_and (f 1) m)) n ≡ bit_at (f b) (1 + n - 1 * b))
    (λ _ e. high_first m 1 (f 0) (f 1) n (has (1 + n) (room e) ∙ omega (arith, e)) (has n h ∙ e) ∙ ap (bit_at (f 0)) (let z : 1 + n ≡ 1 + n - 1 * 0 = omega arith in z))
    (λ _ e. high_second m 1 (f 0) (f 1) n (over (cases_lt (1 + n) w) e) (has n h ∙ e) ∙ ap (bit_at (f 1)) (let z : n ≡ 1 + n - 1 * 1 = omega arith in z)) refl
  where
    over : (1 + n < w) ⊎ (w ≤ 1 + n) → n / 1 % 2 ≡ 1 → bit_at m (1 + n) ≡ 0
    over (inl lt) e = has (1 + n) lt ∙ omega (arith, e)
    over (inr from) e = bit_at_above m w (1 + n) fits from

low_two_is : (m w : ℕ) → ((n : ℕ) → n < w → bit_at m n ≡ 1 - n / 2 % 2) → (f : ℕ → ℕ) (n : ℕ) → n < w
    → bit_at (bit_or (bit_and (f 0) m) (bit_and (f 1) m * 2 ^ 2 % 2 ^ w)) n ≡ bit_at (f (n / 2 % 2)) (n - 2 * (n / 2 % 2))
low_two_is m w has f n h = by_bit (n / 2 % 2) (omega arith) (λ (b : ℕ). bit_at (bit_or (bit_and (f 0) m) (bit_and (f 1) m * 2 ^ 2 % 2 ^ w)) n ≡ bit_at (f b) (n - 2 * b))
    (λ e. low_first m 2 w (f 0) (f 1) n h (has n h ∙ omega (arith, e)) (λ (from : 2 ≤ n). has (n - 2) (omega (arith, h)) ∙ omega (arith, e, from)) ∙ ap (bit_at (f 0)) (let z : n ≡ n - 2 * 0 = omega arith in z))
    (λ e. low_second m 2 w (f 0) (f 1) n h (omega (arith, e)) (has n h ∙ omega (arith, e)) (has (n - 2) (omega (arith, h)) ∙ omega (arith, e)) ∙ ap (bit_at (f 1)) (let z : n - 2 ≡ n - 2 * 1 = omega arith in z))

high_two_is : (m w : ℕ) → m < 2 ^ w → ((n : ℕ) → n < w → bit_at m n ≡ n / 2 % 2) → (f : ℕ → ℕ) (n : ℕ) → n < w → (n / 2 % 2 ≡ 0 → 2 + n < w)
    → bit_at (bit_or (bit_and (f 0) m / 2 ^ 2) (bit_and (f 1) m)) n ≡ bit_at (f (n / 2 % 2)) (2 + n - 2 * (n / 2 % 2))
high_two_is m w fits has f n h room = by_bit (n / 2 % 2) (omega arith) (λ (b : ℕ). n / 2 % 2 ≡ b → bit_at (bit_or (bit_and (f 0) m / 2 ^ 2) (bit_and (f 1) m)) n ≡ bit_at (f b) (2 + n - 2 * b))
    (λ _ e. high_first m 2 (f 0) (f 1) n (has (2 + n) (room e) ∙ omega (arith, e)) (has n h ∙ e) ∙ ap (bit_at (f 0)) (let z : 2 + n ≡ 2 + n - 2 * 0 = omega arith in z))
    (λ _ e. high_second m 2 (f 0) (f 1) n (over (cases_lt (2 + n) w) e) (has n h ∙ e) ∙ ap (bit_at (f 1)) (let z : n ≡ 2 + n - 2 * 1 = omega arith in z)) refl
  where
    over : (2 + n < w) ⊎ (w ≤ 2 + n) → n / 2 % 2 ≡ 1 → bit_at m (2 + n) ≡ 0
    over (inl lt) e = has (2 + n) lt ∙ omega (arith, e)
    over (inr from) e = bit_at_above m w (2 + n) fits from

low_four_is : (m w : ℕ) → ((n : ℕ) → n < w → bit_at m n ≡ 1 - n / 4 % 2) → (f : ℕ → ℕ) (n : ℕ) → n < w
    → bit_at (bit_or (bit_and (f 0) m) (bit_and (f 1) m * 2 ^ 4 % 2 ^ w)) n ≡ bit_at (f (n / 4 % 2)) (n - 4 * (n / 4 % 2))
low_four_is m w has f n h = by_bit (n / 4 % 2) (omega arith) (λ (b : ℕ). bit_at (bit_or (bit_and (f 0) m) (bit_and (f 1) m * 2 ^ 4 % 2 ^ w)) n ≡ bit_at (f b) (n - 4 * b))
    (λ e. low_first m 4 w (f 0) (f 1) n h (has n h ∙ omega (arith, e)) (λ (from : 4 ≤ n). has (n - 4) (omega (arith, h)) ∙ omega (arith, e, from)) ∙ ap (bit_at (f 0)) (let z : n ≡ n - 4 * 0 = omega arith in z))
    (λ e. low_second m 4 w (f 0) (f 1) n h (omega (arith, e)) (has n h ∙ omega (arith, e)) (has (n - 4) (omega (arith, h)) ∙ omega (arith, e)) ∙ ap (bit_at (f 1)) (let z : n - 4 ≡ n - 4 * 1 = omega arith in z))

high_four_is : (m w : ℕ) → m < 2 ^ w → ((n : ℕ) → n < w → bit_at m n ≡ n / 4 % 2) → (f : ℕ → ℕ) (n : ℕ) → n < w
    → (n / 4 % 2 ≡ 0 → 4 + n < w)
    → bit_at (bit_or (bit_and (f 0) m / 2 ^ 4) (bit_and (f 1) m)) n ≡ bit_at (f (n / 4 % 2)) (4 + n - 4 * (n / 4 % 2))
high_four_is m w fits has f n h room = by_bit (n / 4 % 2) (omega arith) (λ (b : ℕ). n / 4 % 2 ≡ b → bit_at (bit_or (bit_and (f 0) m / 2 ^ 4) (bit_and (f 1) m)) n ≡ bit_at (f b) (4 + n - 4 * b))
    (λ _ e. high_first m 4 (f 0) (f 1) n (has (4 + n) (room e) ∙ omega (arith, e)) (has n h ∙ e) ∙ ap (bit_at (f 0)) (let z : 4 + n ≡ 4 + n - 4 * 0 = omega arith in z))
    (λ _ e. high_second m 4 (f 0) (f 1) n (over (cases_lt (4 + n) w) e) (has n h ∙ e) ∙ ap (bit_at (f 1)) (let z : n ≡ 4 + n - 4 * 1 = omega arith in z)) refl
  where
    over : (4 + n < w) ⊎ (w ≤ 4 + n) → n / 4 % 2 ≡ 1 → bit_at m (4 + n) ≡ 0
    over (inl lt) e = has (4 + n) lt ∙ omega (arith, e)
    over (inr from) e = bit_at_above m w (4 + n) fits from

fours : Planes → Planes
fours c = record { p0 = low_four c.p0 c.p4; p1 = low_four c.p1 c.p5; p2 = low_four c.p2 c.p6; p3 = low_four c.p3 c.p7; p4 = high_four c.p0 c.p4; p5 = high_four c.p1 c.p5; p6 = high_four c.p2 c.p6; p7 = high_four c.p3 c.p7 }

fours_bit : (c : Planes) (n : ℕ) → n < 64
    → ((i : ℕ) → i < 8 → bit_at (word_of (fours c) i) n ≡ bit_at (word_of c (i % 4 + 4 * (n / 4 % 2))) (n + 4 * (i / 4) - 4 * (n / 4 % 2)))
unfolding fours low_four high_four every
fours_bit c n h = below_8 (λ (i : ℕ). bit_at (word_of (fours c) i) n ≡ bit_at (word_of c (i % 4 + 4 * (n / 4 % 2))) (n + 4 * (i / 4) - 4 * (n / 4 % 2)))
    (low_four_is 0x0f0f_0f0f_0f0f_0f0f 64 lows (λ (b : ℕ). word_of c (0 + 4 * b)) n h ∙ low_same (word_of c (0 + 4 * (n / 4 % 2))))
    (low_four_is 0x0f0f_0f0f_0f0f_0f0f 64 lows (λ (b : ℕ). word_of c (1 + 4 * b)) n h ∙ low_same (word_of c (1 + 4 * (n / 4 % 2))))
    (low_four_is 0x0f0f_0f0f_0f0f_0f0f 64 lows (λ (b : ℕ). word_of c (2 + 4 * b)) n h ∙ low_same (word_of c (2 + 4 * (n / 4 % 2))))
    (low_four_is 0x0f0f_0f0f_0f0f_0f0f 64 lows (λ (b : ℕ). word_of c (3 + 4 * b)) n h ∙ low_same (word_of c (3 + 4 * (n / 4 % 2))))
    (high_four_is 0xf0f0_f0f0_f0f0_f0f0 64 (omega arith) highs (λ (b : ℕ). word_of c (0 + 4 * b)) n h room ∙ same (word_of c (0 + 4 * (n / 4 % 2))) 4)
    (high_four_is 0xf0f0_f0f0_f0f0_f0f0 64 (omega arith) highs (λ (b : ℕ). word_of c (1 + 4 * b)) n h room ∙ same (word_of c (1 + 4 * (n / 4 % 2))) 4)
    (high_four_is 0xf0f0_f0f0_f0f0_f0f0 64 (omega arith) highs (λ (b : ℕ). word_of c (2 + 4 * b)) n h room ∙ same (word_of c (2 + 4 * (n / 4 % 2))) 4)
    (high_four_is 0xf0f0_f0f0_f0f0_f0f0 64 (omega arith) highs (λ (b : ℕ). word_of c (3 + 4 * b)) n h room ∙ same (word_of c (3 + 4 * (n / 4 % 2))) 4)
  where
    lows : (n : ℕ) → n < 64 → bit_at 0x0f0f_0f0f_0f0f_0f0f n ≡ 1 - n / 4 % 2
    lows = every_is (bit_at 0x0f0f_0f0f_0f0f_0f0f) (λ (n : ℕ). 1 - n / 4 % 2) 64 refl

    highs : (n : ℕ) → n < 64 → bit_at 0xf0f0_f0f0_f0f0_f0f0 n ≡ n / 4 % 2
    highs = every_is (bit_at 0xf0f0_f0f0_f0f0_f0f0) (λ (n : ℕ). n / 4 % 2) 64 refl

    room : n / 4 % 2 ≡ 0 → 4 + n < 64
    room e = omega (arith, h, e)

    same : (x s : ℕ) → bit_at x (s + n - 4 * (n / 4 % 2)) ≡ bit_at x (n + s - 4 * (n / 4 % 2))
    same x s = ap (bit_at x) (omega arith)

    low_same : (x : ℕ) → bit_at x (n - 4 * (n / 4 % 2)) ≡ bit_at x (n + 0 - 4 * (n / 4 % 2))
    low_same x = ap (bit_at x) (omega arith)

twos : Planes → Planes
twos c = record { p0 = low_two c.p0 c.p2; p1 = low_two c.p1 c.p3; p2 = high_two c.p0 c.p2; p3 = high_two c.p1 c.p3; p4 = low_two c.p4 c.p6; p5 = low_two c.p5 c.p7; p6 = high_two c.p4 c.p6; p7 = high_two c.p5 c.p7 }

twos_bit : (c : Planes) (n : ℕ) → n < 64
    → ((i : ℕ) → i < 8 → bit_at (word_of (twos c) i) n ≡ bit_at (word_of c (i % 2 + 4 * (i / 4) + 2 * (n / 2 % 2))) (n + 2 * (i / 2 % 2) - 2 * (n / 2 % 2)))
unfolding twos low_two high_two every
twos_bit c n h = below_8 (λ (i : ℕ). bit_at (word_of (twos c) i) n ≡ bit_at (word_of c (i % 2 + 4 * (i / 4) + 2 * (n / 2 % 2))) (n + 2 * (i / 2 % 2) - 2 * (n / 2 % 2)))
    (low_two_is 0x3333_3333_3333_3333 64 lows (λ (b : ℕ). word_of c (0 + 2 * b)) n h ∙ low_same (word_of c (0 + 2 * (n / 2 % 2))))
    (low_two_is 0x3333_3333_3333_3333 64 lows (λ (b : ℕ). word_of c (1 + 2 * b)) n h ∙ low_same (word_of c (1 + 2 * (n / 2 % 2))))
    (high_two_is 0xcccc_cccc_cccc_cccc 64 (omega arith) highs (λ (b : ℕ). word_of c (0 + 2 * b)) n h room ∙ same (word_of c (0 + 2 * (n / 2 % 2))) 2)
    (high_two_is 0xcccc_cccc_cccc_cccc 64 (omega arith) highs (λ (b : ℕ). word_of c (1 + 2 * b)) n h room ∙ same (word_of c (1 + 2 * (n / 2 % 2))) 2)
    (low_two_is 0x3333_3333_3333_3333 64 lows (λ (b : ℕ). word_of c (4 + 2 * b)) n h ∙ low_same (word_of c (4 + 2 * (n / 2 % 2))))
    (low_two_is 0x3333_3333_3333_3333 64 lows (λ (b : ℕ). word_of c (5 + 2 * b)) n h ∙ low_same (word_of c (5 + 2 * (n / 2 % 2))))
    (high_two_is 0xcccc_cccc_cccc_cccc 64 (omega arith) highs (λ (b : ℕ). word_of c (4 + 2 * b)) n h room ∙ same (word_of c (4 + 2 * (n / 2 % 2))) 2)
    (high_two_is 0xcccc_cccc_cccc_cccc 64 (omega arith) highs (λ (b : ℕ). word_of c (5 + 2 * b)) n h room ∙ same (word_of c (5 + 2 * (n / 2 % 2))) 2)
  where
    lows : (n : ℕ) → n < 64 → bit_at 0x3333_3333_3333_3333 n ≡ 1 - n / 2 % 2
    lows = every_is (bit_at 0x3333_3333_3333_3333) (λ (n : ℕ). 1 - n / 2 % 2) 64 refl

    highs : (n : ℕ) → n < 64 → bit_at 0xcccc_cccc_cccc_cccc n ≡ n / 2 % 2
    highs = every_is (bit_at 0xcccc_cccc_cccc_cccc) (λ (n : ℕ). n / 2 % 2) 64 refl

    room : n / 2 % 2 ≡ 0 → 2 + n < 64
    room e = omega (arith, h, e)

    same : (x s : ℕ) → bit_at x (s + n - 2 * (n / 2 % 2)) ≡ bit_at x (n + s - 2 * (n / 2 % 2))
    same x s = ap (bit_at x) (omega arith)

    low_same : (x : ℕ) → bit_at x (n - 2 * (n / 2 % 2)) ≡ bit_at x (n + 0 - 2 * (n / 2 % 2))
    low_same x = ap (bit_at x) (omega arith)

ones : Planes → Planes
ones c = record { p0 = low_one c.p0 c.p1; p1 = high_one c.p0 c.p1; p2 = low_one c.p2 c.p3; p3 = high_one c.p2 c.p3; p4 = low_one c.p4 c.p5; p5 = high_one c.p4 c.p5; p6 = low_one c.p6 c.p7; p7 = high_one c.p6 c.p7 }

ones_bit : (c : Planes) (n : ℕ) → n < 64
    → ((i : ℕ) → i < 8 → bit_at (word_of (ones c) i) n ≡ bit_at (word_of c (2 * (i / 2) + n / 1 % 2)) (n + 1 * (i % 2) - 1 * (n / 1 % 2)))
unfolding ones low_one high_one every
ones_bit c n h = below_8 (λ (i : ℕ). bit_at (word_of (ones c) i) n ≡ bit_at (word_of c (2 * (i / 2) + n / 1 % 2)) (n + 1 * (i % 2) - 1 * (n / 1 % 2)))
    (low_one_is 0x5555_5555_5555_5555 64 lows (λ (b : ℕ). word_of c (0 + b)) n h ∙ low_same (word_of c (0 + (n / 1 % 2))))
    (high_one_is 0xaaaa_aaaa_aaaa_aaaa 64 (omega arith) highs (λ (b : ℕ). word_of c (0 + b)) n h room ∙ same (word_of c (0 + (n / 1 % 2))) 1)
    (low_one_is 0x5555_5555_5555_5555 64 lows (λ (b : ℕ). word_of c (2 + b)) n h ∙ low_same (word_of c (2 + (n / 1 % 2))))
    (high_one_is 0xaaaa_aaaa_aaaa_aaaa 64 (omega arith) highs (λ (b : ℕ). word_of c (2 + b)) n h room ∙ same (word_of c (2 + (n / 1 % 2))) 1)
    (low_one_is 0x5555_5555_5555_5555 64 lows (λ (b : ℕ). word_of c (4 + b)) n h ∙ low_same (word_of c (4 + (n / 1 % 2))))
    (high_one_is 0xaaaa_aaaa_aaaa_aaaa 64 (omega arith) highs (λ (b : ℕ). word_of c (4 + b)) n h room ∙ same (word_of c (4 + (n / 1 % 2))) 1)
    (low_one_is 0x5555_5555_5555_5555 64 lows (λ (b : ℕ). word_of c (6 + b)) n h ∙ low_same (word_of c (6 + (n / 1 % 2))))
    (high_one_is 0xaaaa_aaaa_aaaa_aaaa 64 (omega arith) highs (λ (b : ℕ). word_of c (6 + b)) n h room ∙ same (word_of c (6 + (n / 1 % 2))) 1)
  where
    lows : (n : ℕ) → n < 64 → bit_at 0x5555_5555_5555_5555 n ≡ 1 - n / 1 % 2
    lows = every_is (bit_at 0x5555_5555_5555_5555) (λ (n : ℕ). 1 - n / 1 % 2) 64 refl

    highs : (n : ℕ) → n < 64 → bit_at 0xaaaa_aaaa_aaaa_aaaa n ≡ n / 1 % 2
    highs = every_is (bit_at 0xaaaa_aaaa_aaaa_aaaa) (λ (n : ℕ). n / 1 % 2) 64 refl

    room : n / 1 % 2 ≡ 0 → 1 + n < 64
    room e = omega (arith, h, e)

    same : (x s : ℕ) → bit_at x (s + n - 1 * (n / 1 % 2)) ≡ bit_at x (n + s - 1 * (n / 1 % 2))
    same x s = ap (bit_at x) (omega arith)

    low_same : (x : ℕ) → bit_at x (n - 1 * (n / 1 % 2)) ≡ bit_at x (n + 0 - 1 * (n / 1 % 2))
    low_same x = ap (bit_at x) (omega arith)

pub word_bit : (a : Planes) (m i k : ℕ) → m < 8 → i < 8 → k < 8
    → bit_at (word_of (transposed a) i) (8 * m + k) ≡ bit_at (word_of a k) (8 * m + i)
unfolding transposed fours twos ones
word_bit a m i k mh ih kh =
    let n : ℕ = 8 * m + k in
    let h : n < 64 = omega (arith, mh, ih, kh) in
    let i1 : ℕ = i % 4 + 4 * (n / 4 % 2) in
    let n1 : ℕ = n + 4 * (i / 4) - 4 * (n / 4 % 2) in
    let i2 : ℕ = i1 % 2 + 4 * (i1 / 4) + 2 * (n1 / 2 % 2) in
    let n2 : ℕ = n1 + 2 * (i1 / 2 % 2) - 2 * (n1 / 2 % 2) in
    let i3 : ℕ = 2 * (i2 / 2) + n2 / 1 % 2 in
    let n3 : ℕ = n2 + 1 * (i2 % 2) - 1 * (n2 / 1 % 2) in
    let h1 : n1 < 64 = omega (arith, mh, ih, kh) in
    let h2 : n2 < 64 = omega (arith, mh, ih, kh) in
    let e : i3 ≡ k = omega (arith, mh, ih, kh) in
    let f : n3 ≡ 8 * m + i = omega (arith, mh, ih, kh) in
    fours_bit (twos (ones a)) n h i ih ∙ twos_bit (ones a) n1 h1 i1 (omega (arith, mh, ih, kh))
    ∙ ones_bit a n2 h2 i2 (omega (arith, mh, ih, kh)) ∙ ap₂ (λ (j l : ℕ). bit_at (word_of a j) l) e f

lane_fours : Eight → Eight
lane_fours c = record { p0 = low 0x0f 4 c.p0 c.p4; p1 = low 0x0f 4 c.p1 c.p5; p2 = low 0x0f 4 c.p2 c.p6; p3 = low 0x0f 4 c.p3 c.p7; p4 = high 0xf0 4 c.p0 c.p4; p5 = high 0xf0 4 c.p1 c.p5; p6 = high 0xf0 4 c.p2 c.p6; p7 = high 0xf0 4 c.p3 c.p7 }

lane_fours_bit : (c : Eight) (n : ℕ) → n < 8
    → ((i : ℕ) → i < 8 → bit_at (number_of (lane_fours c) i) n ≡ bit_at (number_of c (i % 4 + 4 * (n / 4 % 2))) (n + 4 * (i / 4) - 4 * (n / 4 % 2)))
unfolding lane_fours every
lane_fours_bit c n h = below_8 (λ (i : ℕ). bit_at (number_of (lane_fours c) i) n ≡ bit_at (number_of c (i % 4 + 4 * (n / 4 % 2))) (n + 4 * (i / 4) - 4 * (n / 4 % 2)))
    (low_four_is 0x0f 8 lows (λ (b : ℕ). number_of c (0 + 4 * b)) n h ∙ low_same (number_of c (0 + 4 * (n / 4 % 2))))
    (low_four_is 0x0f 8 lows (λ (b : ℕ). number_of c (1 + 4 * b)) n h ∙ low_same (number_of c (1 + 4 * (n / 4 % 2))))
    (low_four_is 0x0f 8 lows (λ (b : ℕ). number_of c (2 + 4 * b)) n h ∙ low_same (number_of c (2 + 4 * (n / 4 % 2))))
    (low_four_is 0x0f 8 lows (λ (b : ℕ). number_of c (3 + 4 * b)) n h ∙ low_same (number_of c (3 + 4 * (n / 4 % 2))))
    (high_four_is 0xf0 8 (omega arith) highs (λ (b : ℕ). number_of c (0 + 4 * b)) n h room ∙ same (number_of c (0 + 4 * (n / 4 % 2))) 4)
    (high_four_is 0xf0 8 (omega arith) highs (λ (b : ℕ). number_of c (1 + 4 * b)) n h room ∙ same (number_of c (1 + 4 * (n / 4 % 2))) 4)
    (high_four_is 0xf0 8 (omega arith) highs (λ (b : ℕ). number_of c (2 + 4 * b)) n h room ∙ same (number_of c (2 + 4 * (n / 4 % 2))) 4)
    (high_four_is 0xf0 8 (omega arith) highs (λ (b : ℕ). number_of c (3 + 4 * b)) n h room ∙ same (number_of c (3 + 4 * (n / 4 % 2))) 4)
  where
    lows : (n : ℕ) → n < 8 → bit_at 0x0f n ≡ 1 - n / 4 % 2
    lows = every_is (bit_at 0x0f) (λ (n : ℕ). 1 - n / 4 % 2) 8 refl

    highs : (n : ℕ) → n < 8 → bit_at 0xf0 n ≡ n / 4 % 2
    highs = every_is (bit_at 0xf0) (λ (n : ℕ). n / 4 % 2) 8 refl

    room : n / 4 % 2 ≡ 0 → 4 + n < 8
    room e = omega (arith, h, e)

    same : (x s : ℕ) → bit_at x (s + n - 4 * (n / 4 % 2)) ≡ bit_at x (n + s - 4 * (n / 4 % 2))
    same x s = ap (bit_at x) (omega arith)

    low_same : (x : ℕ) → bit_at x (n - 4 * (n / 4 % 2)) ≡ bit_at x (n + 0 - 4 * (n / 4 % 2))
    low_same x = ap (bit_at x) (omega arith)

lane_twos : Eight → Eight
lane_twos c = record { p0 = low 0x33 2 c.p0 c.p2; p1 = low 0x33 2 c.p1 c.p3; p2 = high 0xcc 2 c.p0 c.p2; p3 = high 0xcc 2 c.p1 c.p3; p4 = low 0x33 2 c.p4 c.p6; p5 = low 0x33 2 c.p5 c.p7; p6 = high 0xcc 2 c.p4 c.p6; p7 = high 0xcc 2 c.p5 c.p7 }

lane_twos_bit : (c : Eight) (n : ℕ) → n < 8
    → ((i : ℕ) → i < 8 → bit_at (number_of (lane_twos c) i) n ≡ bit_at (number_of c (i % 2 + 4 * (i / 4) + 2 * (n / 2 % 2))) (n + 2 * (i / 2 % 2) - 2 * (n / 2 % 2)))
unfolding lane_twos every
lane_twos_bit c n h = below_8 (λ (i : ℕ). bit_at (number_of (lane_twos c) i) n ≡ bit_at (number_of c (i % 2 + 4 * (i / 4) + 2 * (n / 2 % 2))) (n + 2 * (i / 2 % 2) - 2 * (n / 2 % 2)))
    (low_two_is 0x33 8 lows (λ (b : ℕ). number_of c (0 + 2 * b)) n h ∙ low_same (number_of c (0 + 2 * (n / 2 % 2))))
    (low_two_is 0x33 8 lows (λ (b : ℕ). number_of c (1 + 2 * b)) n h ∙ low_same (number_of c (1 + 2 * (n / 2 % 2))))
    (high_two_is 0xcc 8 (omega arith) highs (λ (b : ℕ). number_of c (0 + 2 * b)) n h room ∙ same (number_of c (0 + 2 * (n / 2 % 2))) 2)
    (high_two_is 0xcc 8 (omega arith) highs (λ (b : ℕ). number_of c (1 + 2 * b)) n h room ∙ same (number_of c (1 + 2 * (n / 2 % 2))) 2)
    (low_two_is 0x33 8 lows (λ (b : ℕ). number_of c (4 + 2 * b)) n h ∙ low_same (number_of c (4 + 2 * (n / 2 % 2))))
    (low_two_is 0x33 8 lows (λ (b : ℕ). number_of c (5 + 2 * b)) n h ∙ low_same (number_of c (5 + 2 * (n / 2 % 2))))
    (high_two_is 0xcc 8 (omega arith) highs (λ (b : ℕ). number_of c (4 + 2 * b)) n h room ∙ same (number_of c (4 + 2 * (n / 2 % 2))) 2)
    (high_two_is 0xcc 8 (omega arith) highs (λ (b : ℕ). number_of c (5 + 2 * b)) n h room ∙ same (number_of c (5 + 2 * (n / 2 % 2))) 2)
  where
    lows : (n : ℕ) → n < 8 → bit_at 0x33 n ≡ 1 - n / 2 % 2
    lows = every_is (bit_at 0x33) (λ (n : ℕ). 1 - n / 2 % 2) 8 refl

    highs : (n : ℕ) → n < 8 → bit_at 0xcc n ≡ n / 2 % 2
    highs = every_is (bit_at 0xcc) (λ (n : ℕ). n / 2 % 2) 8 refl

    room : n / 2 % 2 ≡ 0 → 2 + n < 8
    room e = omega (arith, h, e)

    same : (x s : ℕ) → bit_at x (s + n - 2 * (n / 2 % 2)) ≡ bit_at x (n + s - 2 * (n / 2 % 2))
    same x s = ap (bit_at x) (omega arith)

    low_same : (x : ℕ) → bit_at x (n - 2 * (n / 2 % 2)) ≡ bit_at x (n + 0 - 2 * (n / 2 % 2))
    low_same x = ap (bit_at x) (omega arith)

lane_ones : Eight → Eight
lane_ones c = record { p0 = low 0x55 1 c.p0 c.p1; p1 = high 0xaa 1 c.p0 c.p1; p2 = low 0x55 1 c.p2 c.p3; p3 = high 0xaa 1 c.p2 c.p3; p4 = low 0x55 1 c.p4 c.p5; p5 = high 0xaa 1 c.p4 c.p5; p6 = low 0x55 1 c.p6 c.p7; p7 = high 0xaa 1 c.p6 c.p7 }

lane_ones_bit : (c : Eight) (n : ℕ) → n < 8
    → ((i : ℕ) → i < 8 → bit_at (number_of (lane_ones c) i) n ≡ bit_at (number_of c (2 * (i / 2) + n / 1 % 2)) (n + 1 * (i % 2) - 1 * (n / 1 % 2)))
unfolding lane_ones every
lane_ones_bit c n h = below_8 (λ (i : ℕ). bit_at (number_of (lane_ones c) i) n ≡ bit_at (number_of c (2 * (i / 2) + n / 1 % 2)) (n + 1 * (i % 2) - 1 * (n / 1 % 2)))
    (low_one_is 0x55 8 lows (λ (b : ℕ). number_of c (0 + b)) n h ∙ low_same (number_of c (0 + (n / 1 % 2))))
    (high_one_is 0xaa 8 (omega arith) highs (λ (b : ℕ). number_of c (0 + b)) n h room ∙ same (number_of c (0 + (n / 1 % 2))) 1)
    (low_one_is 0x55 8 lows (λ (b : ℕ). number_of c (2 + b)) n h ∙ low_same (number_of c (2 + (n / 1 % 2))))
    (high_one_is 0xaa 8 (omega arith) highs (λ (b : ℕ). number_of c (2 + b)) n h room ∙ same (number_of c (2 + (n / 1 % 2))) 1)
    (low_one_is 0x55 8 lows (λ (b : ℕ). number_of c (4 + b)) n h ∙ low_same (number_of c (4 + (n / 1 % 2))))
    (high_one_is 0xaa 8 (omega arith) highs (λ (b : ℕ). number_of c (4 + b)) n h room ∙ same (number_of c (4 + (n / 1 % 2))) 1)
    (low_one_is 0x55 8 lows (λ (b : ℕ). number_of c (6 + b)) n h ∙ low_same (number_of c (6 + (n / 1 % 2))))
    (high_one_is 0xaa 8 (omega arith) highs (λ (b : ℕ). number_of c (6 + b)) n h room ∙ same (number_of c (6 + (n / 1 % 2))) 1)
  where
    lows : (n : ℕ) → n < 8 → bit_at 0x55 n ≡ 1 - n / 1 % 2
    lows = every_is (bit_at 0x55) (λ (n : ℕ). 1 - n / 1 % 2) 8 refl

    highs : (n : ℕ) → n < 8 → bit_at 0xaa n ≡ n / 1 % 2
    highs = every_is (bit_at 0xaa) (λ (n : ℕ). n / 1 % 2) 8 refl

    room : n / 1 % 2 ≡ 0 → 1 + n < 8
    room e = omega (arith, h, e)

    same : (x s : ℕ) → bit_at x (s + n - 1 * (n / 1 % 2)) ≡ bit_at x (n + s - 1 * (n / 1 % 2))
    same x s = ap (bit_at x) (omega arith)

    low_same : (x : ℕ) → bit_at x (n - 1 * (n / 1 % 2)) ≡ bit_at x (n + 0 - 1 * (n / 1 % 2))
    low_same x = ap (bit_at x) (omega arith)

pub turned : (a : Eight) (i k : ℕ) → i < 8 → k < 8 → bit_at (number_of (transposed_lane a) i) (k) ≡ bit_at (number_of a k) (i)
unfolding transposed_lane lane_fours lane_twos lane_ones
turned a i k ih kh =
    let n : ℕ = k in
    let h : n < 8 = omega (arith, ih, kh) in
    let i1 : ℕ = i % 4 + 4 * (n / 4 % 2) in
    let n1 : ℕ = n + 4 * (i / 4) - 4 * (n / 4 % 2) in
    let i2 : ℕ = i1 % 2 + 4 * (i1 / 4) + 2 * (n1 / 2 % 2) in
    let n2 : ℕ = n1 + 2 * (i1 / 2 % 2) - 2 * (n1 / 2 % 2) in
    let i3 : ℕ = 2 * (i2 / 2) + n2 / 1 % 2 in
    let n3 : ℕ = n2 + 1 * (i2 % 2) - 1 * (n2 / 1 % 2) in
    let h1 : n1 < 8 = omega (arith, ih, kh) in
    let h2 : n2 < 8 = omega (arith, ih, kh) in
    let e : i3 ≡ k = omega (arith, ih, kh) in
    let f : n3 ≡ i = omega (arith, ih, kh) in
    lane_fours_bit (lane_twos (lane_ones a)) n h i ih ∙ lane_twos_bit (lane_ones a) n1 h1 i1 (omega (arith, ih, kh))
    ∙ lane_ones_bit a n2 h2 i2 (omega (arith, ih, kh)) ∙ ap₂ (λ (j l : ℕ). bit_at (number_of a j) l) e f
