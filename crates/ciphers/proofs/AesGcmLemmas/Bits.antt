-- Bits of words and of lanes.
use Rattle.std.proofs.Common.{◌≡◌, ℕ, zero, suc, ◌/◌, ◌%◌, ◌^◌, ◌<◌, min, bit_and, bit_xor, refl, ap, ap₂, ◌∙◌, arith}
use Rattle.std.specs.Int.{bit_at}
use Rattle.std.proofs.lemmas.Nat.{xor_mod, xor_shr}
use Rattle.std.proofs.lemmas.Nat.Bits.{bit_at-lt, bit_at_and}
use Rattle.ciphers.specs.declared.aes_gcm.planes.Planes.{Planes as Words}
use Rattle.ciphers.specs.AesGcm.Planes as words
use Rattle.ciphers.specs.AesGcm.Rows.{Eight, mixed_lane, mixed_number, sum_of_lanes}
use Rattle.ciphers.specs.AesGcm.Same.{bits, eight_by}
use Rattle.ciphers.proofs.AesGcmLemmas.Circuit.{Keeps}
use Rattle.ciphers.proofs.AesGcmLemmas.WordBits.{following, rotated_one_bit, rotated_two_bit, shifted, shifted_plane_bit}

pub mixed_same : {a b c d e f : ℕ} → a ≡ d → b ≡ e → c ≡ f → mixed_number a b c ≡ mixed_number d e f
mixed_same p q r = ap₂ bit_xor (ap₂ bit_xor p q) r

eight_of : (a0 a1 a2 a3 a4 a5 a6 a7 : ℕ) → Eight
eight_of a0 a1 a2 a3 a4 a5 a6 a7 = record { p0 = a0; p1 = a1; p2 = a2; p3 = a3; p4 = a4; p5 = a5; p6 = a6; p7 = a7 }

pub eight_same : {a0 a1 a2 a3 a4 a5 a6 a7 b0 b1 b2 b3 b4 b5 b6 b7 : ℕ} → a0 ≡ b0 → a1 ≡ b1 → a2 ≡ b2 → a3 ≡ b3 → a4 ≡ b4 → a5 ≡ b5 → a6 ≡ b6 → a7 ≡ b7 → ◌≡◌ {A = Eight} (record { p0 = a0; p1 = a1; p2 = a2; p3 = a3; p4 = a4; p5 = a5; p6 = a6; p7 = a7 }) (record { p0 = b0; p1 = b1; p2 = b2; p3 = b3; p4 = b4; p5 = b5; p6 = b6; p7 = b7 })
unfolding eight_of
eight_same {a0} {a1} {a2} {a3} {a4} {a5} {a6} {a7} {b0} {b1} {b2} {b3} {b4} {b5} {b6} {b7} e0 e1 e2 e3 e4 e5 e6 e7 =
    ap (λ (n : ℕ). eight_of n a1 a2 a3 a4 a5 a6 a7) e0
    ∙ ap (λ (n : ℕ). eight_of b0 n a2 a3 a4 a5 a6 a7) e1
    ∙ ap (λ (n : ℕ). eight_of b0 b1 n a3 a4 a5 a6 a7) e2
    ∙ ap (λ (n : ℕ). eight_of b0 b1 b2 n a4 a5 a6 a7) e3
    ∙ ap (λ (n : ℕ). eight_of b0 b1 b2 b3 n a5 a6 a7) e4
    ∙ ap (λ (n : ℕ). eight_of b0 b1 b2 b3 b4 n a6 a7) e5
    ∙ ap (λ (n : ℕ). eight_of b0 b1 b2 b3 b4 b5 n a7) e6
    ∙ ap (λ (n : ℕ). eight_of b0 b1 b2 b3 b4 b5 b6 n) e7

-- one bit keeps sums and products
and_bits : (x y : ℕ) → x < 2 → y < 2 → min x y ≡ bit_and x y
and_bits zero zero p q = refl
and_bits zero (suc zero) p q = refl
and_bits (suc zero) zero p q = refl
and_bits (suc zero) (suc zero) p q = refl
and_bits (suc (suc x)) y p q = omega arith
and_bits x (suc (suc y)) p q = omega arith

pub xor_bit : (n x y : ℕ) → bit_at (bit_xor x y) n ≡ bit_xor (bit_at x n) (bit_at y n)
xor_bit n x y = ap (λ (k : ℕ). k % 2) (xor_shr x y n) ∙ xor_mod (x / 2 ^ n) (y / 2 ^ n) 1

pub bit_keeps : (n : ℕ) → Keeps (λ (x : ℕ). bit_at x n)
bit_keeps n = record {
  sums = λ x y. xor_bit n x y;
  products = λ x y. bit_at_and x y n ∙ and_bits (bit_at x n) (bit_at y n) (bit_at-lt x n) (bit_at-lt y n);
}

pub added_bits : (n : ℕ) (a b : Words) → bits n (words.added a b) ≡ sum_of_lanes (bits n a) (bits n b)
unfolding words.added
added_bits n a b = eight_same (xor_bit n a.p0 b.p0) (xor_bit n a.p1 b.p1) (xor_bit n a.p2 b.p2) (xor_bit n a.p3 b.p3) (xor_bit n a.p4 b.p4) (xor_bit n a.p5 b.p5) (xor_bit n a.p6 b.p6) (xor_bit n a.p7 b.p7)

pub shifted_bits : (n : ℕ) (a : Words) → n < 64 → bits n (words.shifted_rows a) ≡ bits (shifted n) a
unfolding words.shifted_rows
shifted_bits n a h = eight_same (shifted_plane_bit a.p0 n h) (shifted_plane_bit a.p1 n h) (shifted_plane_bit a.p2 n h) (shifted_plane_bit a.p3 n h) (shifted_plane_bit a.p4 n h) (shifted_plane_bit a.p5 n h) (shifted_plane_bit a.p6 n h) (shifted_plane_bit a.p7 n h)

-- a plane with the row below it, and the same two rows on
pair_bit : (x n : ℕ) → n < 64 → bit_at (bit_xor x (words.rotated_one x)) n ≡ bit_xor (bit_at x n) (bit_at x (following 1 n))
pair_bit x n h = xor_bit n x (words.rotated_one x) ∙ ap (bit_xor (bit_at x n)) (rotated_one_bit x n h)

following_bit : (x n : ℕ) → n < 64 → bit_at (words.rotated_two (bit_xor x (words.rotated_one x))) n ≡ bit_xor (bit_at x (following 2 n)) (bit_at x (following 3 n))
following_bit x n h =
    let on : following 1 (following 2 n) ≡ following 3 n = omega arith in
    rotated_two_bit (bit_xor x (words.rotated_one x)) n h
    ∙ pair_bit x (following 2 n) (omega (arith, h))
    ∙ ap (λ (k : ℕ). bit_xor (bit_at x (following 2 n)) (bit_at x k)) on

mixed_bit : (x y z n : ℕ) → bit_at (bit_xor (bit_xor x y) z) n ≡ mixed_number (bit_at x n) (bit_at y n) (bit_at z n)
mixed_bit x y z n = xor_bit n (bit_xor x y) z ∙ ap (λ (k : ℕ). bit_xor k (bit_at z n)) (xor_bit n x y)

pub mixed_bits : (n : ℕ) (a : Words) → n < 64 → bits n (words.mixed_columns a) ≡ mixed_lane (bits n a) (bits (following 1 n) a) (bits (following 2 n) a) (bits (following 3 n) a)
unfolding words.mixed_columns words.mixed
mixed_bits n a h =
    let r0 : ℕ = words.rotated_one a.p0 in
    let s0 : ℕ = bit_xor a.p0 r0 in
    let z0 : ℕ = words.rotated_two s0 in
    let r1 : ℕ = words.rotated_one a.p1 in
    let s1 : ℕ = bit_xor a.p1 r1 in
    let z1 : ℕ = words.rotated_two s1 in
    let r2 : ℕ = words.rotated_one a.p2 in
    let s2 : ℕ = bit_xor a.p2 r2 in
    let z2 : ℕ = words.rotated_two s2 in
    let r3 : ℕ = words.rotated_one a.p3 in
    let s3 : ℕ = bit_xor a.p3 r3 in
    let z3 : ℕ = words.rotated_two s3 in
    let r4 : ℕ = words.rotated_one a.p4 in
    let s4 : ℕ = bit_xor a.p4 r4 in
    let z4 : ℕ = words.rotated_two s4 in
    let r5 : ℕ = words.rotated_one a.p5 in
    let s5 : ℕ = bit_xor a.p5 r5 in
    let z5 : ℕ = words.rotated_two s5 in
    let r6 : ℕ = words.rotated_one a.p6 in
    let s6 : ℕ = bit_xor a.p6 r6 in
    let z6 : ℕ = words.rotated_two s6 in
    let r7 : ℕ = words.rotated_one a.p7 in
    let s7 : ℕ = bit_xor a.p7 r7 in
    let z7 : ℕ = words.rotated_two s7 in
    eight_same
    (mixed_bit s7 r0 z0 n ∙ mixed_same (pair_bit a.p7 n h) (rotated_one_bit a.p0 n h) (following_bit a.p0 n h))
    (mixed_bit (bit_xor s0 s7) r1 z1 n ∙ mixed_same (xor_bit n s0 s7 ∙ ap₂ bit_xor (pair_bit a.p0 n h) (pair_bit a.p7 n h)) (rotated_one_bit a.p1 n h) (following_bit a.p1 n h))
    (mixed_bit s1 r2 z2 n ∙ mixed_same (pair_bit a.p1 n h) (rotated_one_bit a.p2 n h) (following_bit a.p2 n h))
    (mixed_bit (bit_xor s2 s7) r3 z3 n ∙ mixed_same (xor_bit n s2 s7 ∙ ap₂ bit_xor (pair_bit a.p2 n h) (pair_bit a.p7 n h)) (rotated_one_bit a.p3 n h) (following_bit a.p3 n h))
    (mixed_bit (bit_xor s3 s7) r4 z4 n ∙ mixed_same (xor_bit n s3 s7 ∙ ap₂ bit_xor (pair_bit a.p3 n h) (pair_bit a.p7 n h)) (rotated_one_bit a.p4 n h) (following_bit a.p4 n h))
    (mixed_bit s4 r5 z5 n ∙ mixed_same (pair_bit a.p4 n h) (rotated_one_bit a.p5 n h) (following_bit a.p5 n h))
    (mixed_bit s5 r6 z6 n ∙ mixed_same (pair_bit a.p5 n h) (rotated_one_bit a.p6 n h) (following_bit a.p6 n h))
    (mixed_bit s6 r7 z7 n ∙ mixed_same (pair_bit a.p6 n h) (rotated_one_bit a.p7 n h) (following_bit a.p7 n h))

-- ---- what keeps sums goes through the steps

pub mixed_through : (h : ℕ → ℕ) → Keeps h → (a b c d : Eight) → eight_by h (mixed_lane a b c d) ≡ mixed_lane (eight_by h a) (eight_by h b) (eight_by h c) (eight_by h d)
mixed_through h k a b c d = simp k.sums refl

pub sum_through : (h : ℕ → ℕ) → Keeps h → (a b : Eight) → eight_by h (sum_of_lanes a b) ≡ sum_of_lanes (eight_by h a) (eight_by h b)
sum_through h k a b = simp k.sums refl
