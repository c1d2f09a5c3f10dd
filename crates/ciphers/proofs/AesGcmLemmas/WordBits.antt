-- Rotations of words and ShiftRows, bit by bit, at each of 64 places.
use Rattle.std.proofs.Common.{◌≡◌, ℕ, zero, suc, ◌+◌, ◌*◌, ◌/◌, ◌%◌, ◌<◌, min, max, ◌-◌, subst, inl, inr, bit_and, bit_or, refl, ap, ap₂, ◌∙◌, arith}
use Rattle.std.specs.Int.{bit_at}
use Rattle.std.proofs.lemmas.Bool.{cases_lt}
use Rattle.std.proofs.lemmas.Nat.Bits.{bit_at_and, bit_at_or, bit_at-lt}
use Rattle.ciphers.proofs.AesGcmLemmas.Transposed.{bit_down, bit_up, every, every_is}
use Rattle.ciphers.specs.AesGcm.Planes.{rotated_one, rotated_two, shifted_plane, up, down}

-- a fact of each of sixteen numbers
pub below_16 : (P : ℕ → Type 0) → P 0 → P 1 → P 2 → P 3 → P 4 → P 5 → P 6 → P 7 → P 8 → P 9 → P 10 → P 11 → P 12 → P 13 → P 14 → P 15
    → (l : ℕ) → l < 16 → P l
below_16 P p0 p1 p2 p3 p4 p5 p6 p7 p8 p9 p10 p11 p12 p13 p14 p15 zero h = p0
below_16 P p0 p1 p2 p3 p4 p5 p6 p7 p8 p9 p10 p11 p12 p13 p14 p15 (suc zero) h = p1
below_16 P p0 p1 p2 p3 p4 p5 p6 p7 p8 p9 p10 p11 p12 p13 p14 p15 (suc (suc zero)) h = p2
below_16 P p0 p1 p2 p3 p4 p5 p6 p7 p8 p9 p10 p11 p12 p13 p14 p15 (suc (suc (suc zero))) h = p3
below_16 P p0 p1 p2 p3 p4 p5 p6 p7 p8 p9 p10 p11 p12 p13 p14 p15 (suc (suc (suc (suc zero)))) h = p4
below_16 P p0 p1 p2 p3 p4 p5 p6 p7 p8 p9 p10 p11 p12 p13 p14 p15 (suc (suc (suc (suc (suc zero))))) h = p5
below_16 P p0 p1 p2 p3 p4 p5 p6 p7 p8 p9 p10 p11 p12 p13 p14 p15 (suc (suc (suc (suc (suc (suc zero)))))) h = p6
below_16 P p0 p1 p2 p3 p4 p5 p6 p7 p8 p9 p10 p11 p12 p13 p14 p15 (suc (suc (suc (suc (suc (suc (suc zero))))))) h = p7
below_16 P p0 p1 p2 p3 p4 p5 p6 p7 p8 p9 p10 p11 p12 p13 p14 p15 (suc (suc (suc (suc (suc (suc (suc (suc zero)))))))) h = p8
below_16 P p0 p1 p2 p3 p4 p5 p6 p7 p8 p9 p10 p11 p12 p13 p14 p15 (suc (suc (suc (suc (suc (suc (suc (suc (suc zero))))))))) h = p9
below_16 P p0 p1 p2 p3 p4 p5 p6 p7 p8 p9 p10 p11 p12 p13 p14 p15 (suc (suc (suc (suc (suc (suc (suc (suc (suc (suc zero)))))))))) h = p10
below_16 P p0 p1 p2 p3 p4 p5 p6 p7 p8 p9 p10 p11 p12 p13 p14 p15 (suc (suc (suc (suc (suc (suc (suc (suc (suc (suc (suc zero))))))))))) h = p11
below_16 P p0 p1 p2 p3 p4 p5 p6 p7 p8 p9 p10 p11 p12 p13 p14 p15 (suc (suc (suc (suc (suc (suc (suc (suc (suc (suc (suc (suc zero)))))))))))) h = p12
below_16 P p0 p1 p2 p3 p4 p5 p6 p7 p8 p9 p10 p11 p12 p13 p14 p15 (suc (suc (suc (suc (suc (suc (suc (suc (suc (suc (suc (suc (suc zero))))))))))))) h = p13
below_16 P p0 p1 p2 p3 p4 p5 p6 p7 p8 p9 p10 p11 p12 p13 p14 p15 (suc (suc (suc (suc (suc (suc (suc (suc (suc (suc (suc (suc (suc (suc zero)))))))))))))) h = p14
below_16 P p0 p1 p2 p3 p4 p5 p6 p7 p8 p9 p10 p11 p12 p13 p14 p15 (suc (suc (suc (suc (suc (suc (suc (suc (suc (suc (suc (suc (suc (suc (suc zero))))))))))))))) h = p15
below_16 P p0 p1 p2 p3 p4 p5 p6 p7 p8 p9 p10 p11 p12 p13 p14 p15 (suc (suc (suc (suc (suc (suc (suc (suc (suc (suc (suc (suc (suc (suc (suc (suc l)))))))))))))))) h = absurd (omega arith)

pub either_left : (a b n : ℕ) → bit_at b n ≡ 0 → bit_at (bit_or a b) n ≡ bit_at a n
either_left a b n e = bit_at_or a b n ∙ ap (max (bit_at a n)) e ∙ omega arith

abbrev pub shifted : ℕ → ℕ
shifted n = 16 * (n / 16) + 4 * ((n / 4 % 4 + n % 4) % 4) + n % 4

abbrev pub following : ℕ → ℕ → ℕ
following k n = 4 * (n / 4) + (n + k) % 4

pub below_64 : (P : ℕ → Type 0) → ((l : ℕ) → l < 16 → P l) → ((l : ℕ) → l < 16 → P (16 + l)) → ((l : ℕ) → l < 16 → P (32 + l))
    → ((l : ℕ) → l < 16 → P (48 + l)) → (n : ℕ) → n < 64 → P n
below_64 P a b c d n h = elim (cases_lt n 16) [
  | inl lt ↦ a n lt
  | inr ge ↦ elim (cases_lt n 32) [
    | inl lt ↦ let e : 16 + (n - 16) ≡ n = omega (arith, ge) in subst P e (b (n - 16) (omega (arith, ge, lt)))
    | inr ge2 ↦ elim (cases_lt n 48) [
      | inl lt ↦ let e : 32 + (n - 32) ≡ n = omega (arith, ge2) in subst P e (c (n - 32) (omega (arith, ge2, lt)))
      | inr ge3 ↦ let e : 48 + (n - 48) ≡ n = omega (arith, ge3) in subst P e (d (n - 48) (omega (arith, ge3, h)))
    ]
  ]
]

-- a bit of a shifted and masked word
down_part : (m s x n : ℕ) → bit_at (bit_and (down x s) m) n ≡ min (bit_at x (s + n)) (bit_at m n)
down_part m s x n = bit_at_and (down x s) m n ∙ ap (λ (k : ℕ). min k (bit_at m n)) (bit_down x s n)

up_part : (m s x n : ℕ) → n < 64 → (n < s → bit_at m n ≡ 0) → bit_at (bit_and (up x s) m) n ≡ min (bit_at x (n - s)) (bit_at m n)
up_part m s x n h low = elim (cases_lt n s) [
  | inl lt ↦ bit_at_and (up x s) m n ∙ omega (arith, low lt)
  | inr from ↦ bit_at_and (up x s) m n ∙ ap (λ (k : ℕ). min k (bit_at m n)) (bit_up x s 64 n h from)
]

pub rotated_one_bit : (x n : ℕ) → n < 64 → bit_at (rotated_one x) n ≡ bit_at x (following 1 n)
unfolding rotated_one every
rotated_one_bit x n h = bit_at_or (bit_and (down x 1) 0x7777_7777_7777_7777) (bit_and (up x 3) 0x8888_8888_8888_8888) n
    ∙ ap₂ max (down_part 0x7777_7777_7777_7777 1 x n) (up_part 0x8888_8888_8888_8888 3 x n h (λ (lt : n < 3). eights n h ∙ omega (arith, lt)))
    ∙ elim (cases_lt (n % 4) 3) [
      | inl lt ↦ (omega (arith, sevens n h, eights n h, lt, bit_at-lt x (1 + n)) ∙ ap (bit_at x) (let e : 1 + n ≡ following 1 n = omega (arith, lt) in e))
      | inr from ↦ (omega (arith, sevens n h, eights n h, from, bit_at-lt x (n - 3)) ∙ ap (bit_at x) (let e : n - 3 ≡ following 1 n = omega (arith, from) in e))
    ]
  where
    sevens : (n : ℕ) → n < 64 → bit_at 0x7777_7777_7777_7777 n ≡ 1 - n % 4 / 3
    sevens = every_is (bit_at 0x7777_7777_7777_7777) (λ (n : ℕ). 1 - n % 4 / 3) 64 refl

    eights : (n : ℕ) → n < 64 → bit_at 0x8888_8888_8888_8888 n ≡ n % 4 / 3
    eights = every_is (bit_at 0x8888_8888_8888_8888) (λ (n : ℕ). n % 4 / 3) 64 refl

pub rotated_two_bit : (x n : ℕ) → n < 64 → bit_at (rotated_two x) n ≡ bit_at x (following 2 n)
unfolding rotated_two every
rotated_two_bit x n h = bit_at_or (bit_and (down x 2) 0x3333_3333_3333_3333) (bit_and (up x 2) 0xcccc_cccc_cccc_cccc) n
    ∙ ap₂ max (down_part 0x3333_3333_3333_3333 2 x n) (up_part 0xcccc_cccc_cccc_cccc 2 x n h (λ (lt : n < 2). twelves n h ∙ omega (arith, lt)))
    ∙ elim (cases_lt (n % 4) 2) [
      | inl lt ↦ (omega (arith, threes n h, twelves n h, lt, bit_at-lt x (2 + n)) ∙ ap (bit_at x) (let e : 2 + n ≡ following 2 n = omega (arith, lt) in e))
      | inr from ↦ (omega (arith, threes n h, twelves n h, from, bit_at-lt x (n - 2)) ∙ ap (bit_at x) (let e : n - 2 ≡ following 2 n = omega (arith, from) in e))
    ]
  where
    threes : (n : ℕ) → n < 64 → bit_at 0x3333_3333_3333_3333 n ≡ 1 - n / 2 % 2
    threes = every_is (bit_at 0x3333_3333_3333_3333) (λ (n : ℕ). 1 - n / 2 % 2) 64 refl

    twelves : (n : ℕ) → n < 64 → bit_at 0xcccc_cccc_cccc_cccc n ≡ n / 2 % 2
    twelves = every_is (bit_at 0xcccc_cccc_cccc_cccc) (λ (n : ℕ). n / 2 % 2) 64 refl

-- the bit of one of seven parts, the one whose mask has it
abbrev mix : (a b c d e f g p q r s t u v : ℕ) → ℕ
mix a b c d e f g p q r s t u v = max (max (max (max (max (max (min a p) (min b q)) (min c r)) (min d s)) (min e t)) (min f u)) (min g v)

mix_0 : (a b c d e f g : ℕ) → a < 2 → mix a b c d e f g 1 0 0 0 0 0 0 ≡ a
mix_0 a b c d e f g h = omega (arith, h)

mix_1 : (a b c d e f g : ℕ) → b < 2 → mix a b c d e f g 0 1 0 0 0 0 0 ≡ b
mix_1 a b c d e f g h = omega (arith, h)

mix_2 : (a b c d e f g : ℕ) → c < 2 → mix a b c d e f g 0 0 1 0 0 0 0 ≡ c
mix_2 a b c d e f g h = omega (arith, h)

mix_3 : (a b c d e f g : ℕ) → d < 2 → mix a b c d e f g 0 0 0 1 0 0 0 ≡ d
mix_3 a b c d e f g h = omega (arith, h)

mix_4 : (a b c d e f g : ℕ) → e < 2 → mix a b c d e f g 0 0 0 0 1 0 0 ≡ e
mix_4 a b c d e f g h = omega (arith, h)

mix_5 : (a b c d e f g : ℕ) → f < 2 → mix a b c d e f g 0 0 0 0 0 1 0 ≡ f
mix_5 a b c d e f g h = omega (arith, h)

mix_6 : (a b c d e f g : ℕ) → g < 2 → mix a b c d e f g 0 0 0 0 0 0 1 ≡ g
mix_6 a b c d e f g h = omega (arith, h)

or_is : (a b n p q : ℕ) → bit_at a n ≡ p → bit_at b n ≡ q → bit_at (bit_or a b) n ≡ max p q
or_is a b n p q e f = bit_at_or a b n ∙ ap₂ max e f

seven_is : (x n : ℕ) → n < 64 → (l : ℕ) → n % 16 ≡ l
    → bit_at (shifted_plane x) n ≡ mix (bit_at x n) (bit_at x (4 + n)) (bit_at x (n - 12)) (bit_at x (8 + n)) (bit_at x (n - 8)) (bit_at x (12 + n)) (bit_at x (n - 4)) (bit_at 0x1111 l) (bit_at 0x0222 l) (bit_at 0x2000 l) (bit_at 0x0044 l) (bit_at 0x4400 l) (bit_at 0x0008 l) (bit_at 0x8880 l)
unfolding shifted_plane every
seven_is x n h l e =
    or_is _ _ n _ _ (or_is _ _ n _ _ (or_is _ _ n _ _ (or_is _ _ n _ _ (or_is _ _ n _ _ (or_is _ _ n _ _ (((bit_at_and x 0x1111_1111_1111_1111 n) ∙ ap (min (bit_at x n)) (table_0 ∙ ap (bit_at 0x1111) e)))
    ((down_part 0x0222_0222_0222_0222 4 x n) ∙ ap (min (bit_at x (4 + n))) (table_1 ∙ ap (bit_at 0x0222) e)))
    ((up_part 0x2000_2000_2000_2000 12 x n h (λ (lt : n < 12). table_2 ∙ low_2 lt)) ∙ ap (min (bit_at x (n - 12))) (table_2 ∙ ap (bit_at 0x2000) e)))
    ((down_part 0x0044_0044_0044_0044 8 x n) ∙ ap (min (bit_at x (8 + n))) (table_3 ∙ ap (bit_at 0x0044) e)))
    ((up_part 0x4400_4400_4400_4400 8 x n h (λ (lt : n < 8). table_4 ∙ low_4 lt)) ∙ ap (min (bit_at x (n - 8))) (table_4 ∙ ap (bit_at 0x4400) e)))
    ((down_part 0x0008_0008_0008_0008 12 x n) ∙ ap (min (bit_at x (12 + n))) (table_5 ∙ ap (bit_at 0x0008) e)))
    ((up_part 0x8880_8880_8880_8880 4 x n h (λ (lt : n < 4). table_6 ∙ low_6 lt)) ∙ ap (min (bit_at x (n - 4))) (table_6 ∙ ap (bit_at 0x8880) e))
  where
    table_0 : bit_at 0x1111_1111_1111_1111 n ≡ bit_at 0x1111 (n % 16)
    table_0 = every_is (bit_at 0x1111_1111_1111_1111) (λ (n : ℕ). bit_at 0x1111 (n % 16)) 64 refl n h

    table_1 : bit_at 0x0222_0222_0222_0222 n ≡ bit_at 0x0222 (n % 16)
    table_1 = every_is (bit_at 0x0222_0222_0222_0222) (λ (n : ℕ). bit_at 0x0222 (n % 16)) 64 refl n h

    table_2 : bit_at 0x2000_2000_2000_2000 n ≡ bit_at 0x2000 (n % 16)
    table_2 = every_is (bit_at 0x2000_2000_2000_2000) (λ (n : ℕ). bit_at 0x2000 (n % 16)) 64 refl n h

    low_2 : n < 12 → bit_at 0x2000 (n % 16) ≡ 0
    low_2 lt = ap (bit_at 0x2000) (let z : n % 16 ≡ n = omega (arith, lt) in z) ∙ every_is (bit_at 0x2000) (λ (n : ℕ). 0) 12 refl n lt

    table_3 : bit_at 0x0044_0044_0044_0044 n ≡ bit_at 0x0044 (n % 16)
    table_3 = every_is (bit_at 0x0044_0044_0044_0044) (λ (n : ℕ). bit_at 0x0044 (n % 16)) 64 refl n h

    table_4 : bit_at 0x4400_4400_4400_4400 n ≡ bit_at 0x4400 (n % 16)
    table_4 = every_is (bit_at 0x4400_4400_4400_4400) (λ (n : ℕ). bit_at 0x4400 (n % 16)) 64 refl n h

    low_4 : n < 8 → bit_at 0x4400 (n % 16) ≡ 0
    low_4 lt = ap (bit_at 0x4400) (let z : n % 16 ≡ n = omega (arith, lt) in z) ∙ every_is (bit_at 0x4400) (λ (n : ℕ). 0) 8 refl n lt

    table_5 : bit_at 0x0008_0008_0008_0008 n ≡ bit_at 0x0008 (n % 16)
    table_5 = every_is (bit_at 0x0008_0008_0008_0008) (λ (n : ℕ). bit_at 0x0008 (n % 16)) 64 refl n h

    table_6 : bit_at 0x8880_8880_8880_8880 n ≡ bit_at 0x8880 (n % 16)
    table_6 = every_is (bit_at 0x8880_8880_8880_8880) (λ (n : ℕ). bit_at 0x8880 (n % 16)) 64 refl n h

    low_6 : n < 4 → bit_at 0x8880 (n % 16) ≡ 0
    low_6 lt = ap (bit_at 0x8880) (let z : n % 16 ≡ n = omega (arith, lt) in z) ∙ every_is (bit_at 0x8880) (λ (n : ℕ). 0) 4 refl n lt

pub shifted_plane_bit : (x n : ℕ) → n < 64 → bit_at (shifted_plane x) n ≡ bit_at x (shifted n)
shifted_plane_bit x n h = below_16 (λ (l : ℕ). n % 16 ≡ l → bit_at (shifted_plane x) n ≡ bit_at x (shifted n))
    (λ e. seven_is x n h 0 e ∙ mix_0 _ _ _ _ _ _ _ (bit_at-lt x n) ∙ ap (bit_at x) (let z : n ≡ shifted n = omega (arith, e) in z))
    (λ e. seven_is x n h 1 e ∙ mix_1 _ _ _ _ _ _ _ (bit_at-lt x (4 + n)) ∙ ap (bit_at x) (let z : (4 + n) ≡ shifted n = omega (arith, e) in z))
    (λ e. seven_is x n h 2 e ∙ mix_3 _ _ _ _ _ _ _ (bit_at-lt x (8 + n)) ∙ ap (bit_at x) (let z : (8 + n) ≡ shifted n = omega (arith, e) in z))
    (λ e. seven_is x n h 3 e ∙ mix_5 _ _ _ _ _ _ _ (bit_at-lt x (12 + n)) ∙ ap (bit_at x) (let z : (12 + n) ≡ shifted n = omega (arith, e) in z))
    (λ e. seven_is x n h 4 e ∙ mix_0 _ _ _ _ _ _ _ (bit_at-lt x n) ∙ ap (bit_at x) (let z : n ≡ shifted n = omega (arith, e) in z))
    (λ e. seven_is x n h 5 e ∙ mix_1 _ _ _ _ _ _ _ (bit_at-lt x (4 + n)) ∙ ap (bit_at x) (let z : (4 + n) ≡ shifted n = omega (arith, e) in z))
    (λ e. seven_is x n h 6 e ∙ mix_3 _ _ _ _ _ _ _ (bit_at-lt x (8 + n)) ∙ ap (bit_at x) (let z : (8 + n) ≡ shifted n = omega (arith, e) in z))
    (λ e. seven_is x n h 7 e ∙ mix_6 _ _ _ _ _ _ _ (bit_at-lt x (n - 4)) ∙ ap (bit_at x) (let z : (n - 4) ≡ shifted n = omega (arith, e) in z))
    (λ e. seven_is x n h 8 e ∙ mix_0 _ _ _ _ _ _ _ (bit_at-lt x n) ∙ ap (bit_at x) (let z : n ≡ shifted n = omega (arith, e) in z))
    (λ e. seven_is x n h 9 e ∙ mix_1 _ _ _ _ _ _ _ (bit_at-lt x (4 + n)) ∙ ap (bit_at x) (let z : (4 + n) ≡ shifted n = omega (arith, e) in z))
    (λ e. seven_is x n h 10 e ∙ mix_4 _ _ _ _ _ _ _ (bit_at-lt x (n - 8)) ∙ ap (bit_at x) (let z : (n - 8) ≡ shifted n = omega (arith, e) in z))
    (λ e. seven_is x n h 11 e ∙ mix_6 _ _ _ _ _ _ _ (bit_at-lt x (n - 4)) ∙ ap (bit_at x) (let z : (n - 4) ≡ shifted n = omega (arith, e) in z))
    (λ e. seven_is x n h 12 e ∙ mix_0 _ _ _ _ _ _ _ (bit_at-lt x n) ∙ ap (bit_at x) (let z : n ≡ shifted n = omega (arith, e) in z))
    (λ e. seven_is x n h 13 e ∙ mix_2 _ _ _ _ _ _ _ (bit_at-lt x (n - 12)) ∙ ap (bit_at x) (let z : (n - 12) ≡ shifted n = omega (arith, e) in z))
    (λ e. seven_is x n h 14 e ∙ mix_4 _ _ _ _ _ _ _ (bit_at-lt x (n - 8)) ∙ ap (bit_at x) (let z : (n - 8) ≡ shifted n = omega (arith, e) in z))
    (λ e. seven_is x n h 15 e ∙ mix_6 _ _ _ _ _ _ _ (bit_at-lt x (n - 4)) ∙ ap (bit_at x) (let z : (n - 4) ≡ shifted n = omega (arith, e) in z))
    (n % 16) (omega arith) refl
