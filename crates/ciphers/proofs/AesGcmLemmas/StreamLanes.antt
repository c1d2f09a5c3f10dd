-- Look-ups by nibbles in vectors of 16 bytes, lane by lane.
use Rattle.std.proofs.Common.{◌≡◌, ℕ, zero, suc, ◌+◌, ◌*◌, ◌/◌, ◌%◌, ◌^◌, ◌<◌, List, length, get_or, replicate, bit_and, bit_xor, refl, sym, ap, ap₂, ◌∙◌, arith, add-one, w8, Fits}
use Rattle.std.proofs.lemmas.Nat.{and_le_r, and_mask}
use Rattle.std.proofs.lemmas.Simd.{Each1-all, Each1-weaker, Each1-zip2, Each2-splat, below_from_Fits, length-zip2, SwzOk, SwzOk-from_below, swz_l, length-swz_l, get_or-swz_l_below, get_or-zip2, get_or-replicate, get_or-chunk, Each1-get_or}
use lib.Lanes.{zip2, Each1, chunk}
use Rattle.ciphers.specs.AesGcm.Streams.{entry_of, next_of, stream, sum_of}

abbrev pub down : ℕ → ℕ → ℕ
down a b = a / 2 ^ b

abbrev pub IsBlock : List ℕ → Type 0
IsBlock v = (length v ≡ 16) × Each1 (Fits w8) v

pub high_ok : (v : List ℕ) → IsBlock v → SwzOk w8 16 16 0 (zip2 down v (replicate 16 4))
high_ok v fits =
    let small = Each1-weaker (λ a. a < 256) (λ a. a / 16 < 16) (λ a h. omega arith) v (below_from_Fits w8 v fits.1) in
    SwzOk-from_below w8 16 1 16 0 (zip2 down v (replicate 16 4)) refl (omega (arith, length-zip2 down v (replicate 16 4) fits.0))
    (Each1-zip2 down (λ j. j < 16) v (replicate 16 4) (Each2-splat (λ a b. down a b < 16) v 16 4 small))

pub low_ok : (v : List ℕ) → IsBlock v → SwzOk w8 16 16 0 (zip2 bit_and v (replicate 16 15))
low_ok v fits =
    let small = Each1-all (λ a. bit_and a 15 < 16) (λ a. omega (arith, and_le_r a 15)) v in
    SwzOk-from_below w8 16 1 16 0 (zip2 bit_and v (replicate 16 15)) refl (omega (arith, length-zip2 bit_and v (replicate 16 15) fits.0))
    (Each1-zip2 bit_and (λ j. j < 16) v (replicate 16 15) (Each2-splat (λ a b. bit_and a b < 16) v 16 15 small))

-- a lane of what the low nibbles and of what the high nibbles are looked up as
low_lane : (t v : List ℕ) (at l : ℕ) → IsBlock v → l < 16 → get_or (swz_l w8 16 (chunk at 16 t) 0 (zip2 bit_and v (replicate 16 15))) l 0 ≡ get_or t (at + get_or v l 0 % 16) 0
low_lane t v at l fits h =
    let js : List ℕ = zip2 bit_and v (replicate 16 15) in
    let long : length js ≡ 16 = length-zip2 bit_and v (replicate 16 15) fits.0 ∙ fits.0 in
    let is : get_or js l 0 ≡ get_or v l 0 % 16 =
    get_or-zip2 bit_and v (replicate 16 15) l 0 0 0 (omega (arith, fits.0)) h ∙ ap (bit_and (get_or v l 0)) (get_or-replicate 16 l 15 0 h) ∙ and_mask (get_or v l 0) 4 in
    let place : 16 * ((0 + l) / 16) + get_or js l 0 ≡ get_or v l 0 % 16 = omega (arith, is) in
    get_or-swz_l_below w8 16 (chunk at 16 t) 0 js l (omega (arith, long)) (omega (arith, is))
    ∙ ap (λ (k : ℕ). get_or (chunk at 16 t) k 0) place
    ∙ get_or-chunk at 16 t (get_or v l 0 % 16) 0 (omega arith)

high_lane : (t v : List ℕ) (at l : ℕ) → IsBlock v → l < 16 → get_or (swz_l w8 16 (chunk at 16 t) 0 (zip2 down v (replicate 16 4))) l 0 ≡ get_or t (at + get_or v l 0 / 16) 0
high_lane t v at l fits h =
    let js : List ℕ = zip2 down v (replicate 16 4) in
    let long : length js ≡ 16 = length-zip2 down v (replicate 16 4) fits.0 ∙ fits.0 in
    let within : l < length v = omega (arith, fits.0) in
    let byte : get_or v l 0 < 2 ^ 8 = (Each1-get_or (Fits w8) v l 0 within fits.1).fits in
    let is : get_or js l 0 ≡ get_or v l 0 / 16 =
    get_or-zip2 down v (replicate 16 4) l 0 0 0 within h ∙ ap (down (get_or v l 0)) (get_or-replicate 16 l 4 0 h) in
    let place : 16 * ((0 + l) / 16) + get_or js l 0 ≡ get_or v l 0 / 16 = omega (arith, is) in
    get_or-swz_l_below w8 16 (chunk at 16 t) 0 js l (omega (arith, long)) (omega (arith, is, byte))
    ∙ ap (λ (k : ℕ). get_or (chunk at 16 t) k 0) place
    ∙ get_or-chunk at 16 t (get_or v l 0 / 16) 0 (omega (arith, byte))

pub entry_lane : (t v : List ℕ) (at l : ℕ) → IsBlock v → l < 16
    → get_or (zip2 bit_xor (swz_l w8 16 (chunk at 16 t) 0 (zip2 bit_and v (replicate 16 15))) (swz_l w8 16 (chunk (at + 256) 16 t) 0 (zip2 down v (replicate 16 4)))) l 0
    ≡ entry_of t at (get_or v l 0)
entry_lane t v at l fits h =
    let a : List ℕ = zip2 bit_and v (replicate 16 15) in
    let b : List ℕ = zip2 down v (replicate 16 4) in
    let long_a : length (swz_l w8 16 (chunk at 16 t) 0 a) ≡ 16 = length-swz_l w8 16 (chunk at 16 t) 0 a ∙ length-zip2 bit_and v (replicate 16 15) fits.0 ∙ fits.0 in
    let long_b : length (swz_l w8 16 (chunk (at + 256) 16 t) 0 b) ≡ 16 = length-swz_l w8 16 (chunk (at + 256) 16 t) 0 b ∙ length-zip2 down v (replicate 16 4) fits.0 ∙ fits.0 in
    get_or-zip2 bit_xor (swz_l w8 16 (chunk at 16 t) 0 a) (swz_l w8 16 (chunk (at + 256) 16 t) 0 b) l 0 0 0 (omega (arith, long_a)) (omega (arith, long_b))
    ∙ ap₂ bit_xor (low_lane t v at l fits h) (high_lane t v (at + 256) l fits h)

-- a lane of a vector with an entry added to it
pub with_entry_lane : (t v s : List ℕ) (at l : ℕ) → IsBlock v → length s ≡ 16 → l < 16
    → get_or (zip2 bit_xor s (zip2 bit_xor (swz_l w8 16 (chunk at 16 t) 0 (zip2 bit_and v (replicate 16 15))) (swz_l w8 16 (chunk (at + 256) 16 t) 0 (zip2 down v (replicate 16 4))))) l 0
    ≡ bit_xor (get_or s l 0) (entry_of t at (get_or v l 0))
with_entry_lane t v s at l fits long h =
    let a : List ℕ = swz_l w8 16 (chunk at 16 t) 0 (zip2 bit_and v (replicate 16 15)) in
    let b : List ℕ = swz_l w8 16 (chunk (at + 256) 16 t) 0 (zip2 down v (replicate 16 4)) in
    let long_a : length a ≡ 16 = length-swz_l w8 16 (chunk at 16 t) 0 (zip2 bit_and v (replicate 16 15)) ∙ length-zip2 bit_and v (replicate 16 15) fits.0 ∙ fits.0 in
    let long_b : length b ≡ 16 = length-swz_l w8 16 (chunk (at + 256) 16 t) 0 (zip2 down v (replicate 16 4)) ∙ length-zip2 down v (replicate 16 4) fits.0 ∙ fits.0 in
    let both : length (zip2 bit_xor a b) ≡ 16 = length-zip2 bit_xor a b (long_a ∙ sym long_b) ∙ long_a in
    get_or-zip2 bit_xor s (zip2 bit_xor a b) l 0 0 0 (omega (arith, long)) (omega (arith, both)) ∙ ap (bit_xor (get_or s l 0)) (entry_lane t v at l fits h)

pub with_entry_long : (t v s : List ℕ) (at : ℕ) → IsBlock v → length s ≡ 16
    → length (zip2 bit_xor s (zip2 bit_xor (swz_l w8 16 (chunk at 16 t) 0 (zip2 bit_and v (replicate 16 15))) (swz_l w8 16 (chunk (at + 256) 16 t) 0 (zip2 down v (replicate 16 4))))) ≡ 16
with_entry_long t v s at fits long =
    let a : List ℕ = swz_l w8 16 (chunk at 16 t) 0 (zip2 bit_and v (replicate 16 15)) in
    let b : List ℕ = swz_l w8 16 (chunk (at + 256) 16 t) 0 (zip2 down v (replicate 16 4)) in
    let long_a : length a ≡ 16 = length-swz_l w8 16 (chunk at 16 t) 0 (zip2 bit_and v (replicate 16 15)) ∙ length-zip2 bit_and v (replicate 16 15) fits.0 ∙ fits.0 in
    let long_b : length b ≡ 16 = length-swz_l w8 16 (chunk (at + 256) 16 t) 0 (zip2 down v (replicate 16 4)) ∙ length-zip2 down v (replicate 16 4) fits.0 ∙ fits.0 in
    let both : length (zip2 bit_xor a b) ≡ 16 = length-zip2 bit_xor a b (long_a ∙ sym long_b) ∙ long_a in
    length-zip2 bit_xor s (zip2 bit_xor a b) (long ∙ sym both) ∙ long

-- one byte more of a block
pub one_byte : (t : List ℕ) (f : ℕ → ℕ) (at base n : ℕ) → sum_of t f at base (n + 1) ≡ bit_xor (sum_of t f at base n) (entry_of t (512 * n + at) (f n))
unfolding sum_of
one_byte t f at base n = rw add-one refl

-- blocks of the same bytes have one sum
pub same_sum : (t : List ℕ) (f g : ℕ → ℕ) (at base n : ℕ) → ((i : ℕ) → i < n → f i ≡ g i) → sum_of t f at base n ≡ sum_of t g at base n
unfolding sum_of
same_sum t f g at base zero e = refl
same_sum t f g at base (suc n) e = ap₂ bit_xor (same_sum t f g at base n (λ i h. e i (omega arith))) (ap (entry_of t (512 * n + at)) (e n (omega arith)))

-- one step more of the streams
pub one_step : (t : List ℕ) (first : ℕ → ℕ → ℕ) (b : List ℕ) (n l j : ℕ) → stream t first b (n + 1) l j ≡ next_of t (stream t first b n l) b (256 * n) l j
unfolding stream
one_step t first b n l j = rw add-one refl

-- a fact of each of sixteen lanes
pub below_16 : (P : ℕ → Type 0) → P 0 → P 1 → P 2 → P 3 → P 4 → P 5 → P 6 → P 7 → P 8 → P 9 → P 10 → P 11 → P 12 → P 13 → P 14 → P 15 → (l : ℕ) → l < 16 → P l
below_16 P p0 p1 p2 p3 p4 p5 p6 p7 p8 p9 p10 p11 p12 p13 p14 p15 zero h = p0
below_16 P p0 p1 p2 p3 p4 p5 p6 p7 p8 p9 p10 p11 p12 p13 p14 p15 (suc zero) h = p1
below_16 P p0 p1 p2 p3 p4 p5 p6 p7 p8 p9 p10 p11 p12 p13 p14 p15 (suc (suc zero)) h = p2
below_16 P p0 p1 p2 p3 p4 p5 p6 p7 p8 p9 p10 p11 p12 p13 p14 p15 (suc (suc (suc zero))) h = p3
below_16 P p0 p1 p2 p3 p4 p5 p6 p7 p8 p9 p10 p11 p12 p13 p14 p15 (suc (suc (suc (suc zero)))) h = p4
below_16 P p0 p1 p2 p3 p4 p5 p6 p7 p8 p9 p10 p11 p12 p13 p14 p15 (suc (suc (suc (suc (suc zero))))) h = p5
below_16 P p0 p1 p2 p3 p4 p5 p6 p7 p8 p9 p10 p11 p12 p13 p14 p15 (suc (suc (suc (suc (suc (suc zero)))))) h = p6
below_16 P p0 p1 p2 p3 p4 p5 p6 p7 p8 p9 p10 p11 p12 p13 p14 p15 (suc (suc (suc (suc (suc (suc (suc zero))))))) h = p7
below_16 P p0 p1 p2 p3 p4 p5 p6 p7 p8 p9 p10 p11 p12 p13 p14 p15 (suc (suc (suc (suc (suc (suc (suc (suc zero)))))))) h = p8
below_16 P p0 p1 p2 p3 p4 p5 p6 p7 p8 p9 p10 p11 p12 p13 p14 p15 (suc (suc (suc (suc (suc (suc (suc (suc (suc zero))))))))) h = p9
below_16 P p0 p1 p2 p3 p4 p5 p6 p7 p8 p9 p10 p11 p12 p13 p14 p15 (suc (suc (suc (suc (suc (suc (suc (suc (suc (suc zero)))))))))) h = p10
below_16 P p0 p1 p2 p3 p4 p5 p6 p7 p8 p9 p10 p11 p12 p13 p14 p15 (suc (suc (suc (suc (suc (suc (suc (suc (suc (suc (suc zero))))))))))) h = p11
below_16 P p0 p1 p2 p3 p4 p5 p6 p7 p8 p9 p10 p11 p12 p13 p14 p15 (suc (suc (suc (suc (suc (suc (suc (suc (suc (suc (suc (suc zero)))))))))))) h = p12
below_16 P p0 p1 p2 p3 p4 p5 p6 p7 p8 p9 p10 p11 p12 p13 p14 p15 (suc (suc (suc (suc (suc (suc (suc (suc (suc (suc (suc (suc (suc zero))))))))))))) h = p13
below_16 P p0 p1 p2 p3 p4 p5 p6 p7 p8 p9 p10 p11 p12 p13 p14 p15 (suc (suc (suc (suc (suc (suc (suc (suc (suc (suc (suc (suc (suc (suc zero)))))))))))))) h = p14
below_16 P p0 p1 p2 p3 p4 p5 p6 p7 p8 p9 p10 p11 p12 p13 p14 p15 (suc (suc (suc (suc (suc (suc (suc (suc (suc (suc (suc (suc (suc (suc (suc zero))))))))))))))) h = p15
below_16 P p0 p1 p2 p3 p4 p5 p6 p7 p8 p9 p10 p11 p12 p13 p14 p15 (suc (suc (suc (suc (suc (suc (suc (suc (suc (suc (suc (suc (suc (suc (suc (suc l)))))))))))))))) h = absurd (omega arith)
