-- SubBytes of words and of vectors, bit by bit.
use Rattle.std.proofs.Common.{◌≡◌, ℕ, ◌<◌, List, [], ◌∷◌, map, length, slice_index, refl, sym, subst, ap, ◌∙◌, arith}
use Rattle.std.specs.Int.{bit_at}
use Rattle.std.proofs.lemmas.Nat.Bits.{bit_at_ones}
use Rattle.ciphers.specs.declared.aes_gcm.planes.Planes.{Planes as Words}
use Rattle.ciphers.specs.declared.aes_gcm.sub_bytes.Sums.{Sums as WordSums}
use Rattle.ciphers.specs.declared.aes_gcm.sub_bytes.Nibbles.{Nibbles as WordNibbles}
use Rattle.ciphers.specs.declared.aes_gcm.sub_bytes.Products.{Products as WordProducts}
use Rattle.ciphers.specs.AesGcm.SubBytes as words
use Rattle.ciphers.specs.declared.aes_gcm.lanes.Vectors.{Vectors}
use Rattle.ciphers.specs.AesGcm.Rows.{Eight, AreVectors, lane}
use Rattle.ciphers.specs.AesGcm.VectorBytes.{sub_bytes}
use Rattle.ciphers.specs.AesGcm.Same.{bits, eight_by}
use Rattle.ciphers.proofs.AesGcmLemmas.Bits.{bit_keeps}
use Rattle.ciphers.proofs.AesGcmLemmas.Circuit.{Four, Lane, Product, bottom_with, down_of, eights_of, inverse_of, sub_byte_of, sub_byte_through, sub_byte_with, sub_bytes_lanes, top_of, up_of}
use Rattle.ciphers.proofs.AesGcmLemmas.WordBits.{below_16}

-- ---- words

abbrev whole : Words → Eight
whole p = record { p0 = p.p0; p1 = p.p1; p2 = p.p2; p3 = p.p3; p4 = p.p4; p5 = p.p5; p6 = p.p6; p7 = p.p7 }

abbrev sums : WordSums → Lane
sums y = record { y1 = y.y1; y2 = y.y2; y3 = y.y3; y4 = y.y4; y5 = y.y5; y6 = y.y6; y7 = y.y7; y8 = y.y8; y9 = y.y9; y10 = y.y10; y11 = y.y11; y12 = y.y12; y13 = y.y13; y14 = y.y14; y15 = y.y15; y16 = y.y16; y17 = y.y17; y18 = y.y18; y19 = y.y19; y20 = y.y20; y21 = y.y21 }

abbrev nibbles : WordNibbles → Four
nibbles n = record { a = n.a; b = n.b; c = n.c; d = n.d }

abbrev products : WordProducts → Product
products z = record { z0 = z.z0; z1 = z.z1; z2 = z.z2; z3 = z.z3; z4 = z.z4; z5 = z.z5; z6 = z.z6; z7 = z.z7; z8 = z.z8; z9 = z.z9; z10 = z.z10; z11 = z.z11; z12 = z.z12; z13 = z.z13; z14 = z.z14; z15 = z.z15; z16 = z.z16; z17 = z.z17 }

top_words : (p : Words) → sums (words.top p) ≡ top_of (whole p)
unfolding words.top top_of
top_words p = refl

down_words : (x : ℕ) (y : WordSums) → nibbles (words.down_to_16 x y) ≡ down_of x (sums y)
unfolding words.down_to_16 down_of
down_words x y = refl

inverse_words : (n : WordNibbles) → nibbles (words.inverse n) ≡ inverse_of (nibbles n)
unfolding words.inverse inverse_of
inverse_words n = refl

up_words : (x : ℕ) (y : WordSums) (n : WordNibbles) → products (words.up_to_256 x y n) ≡ up_of x (sums y) (nibbles n)
unfolding words.up_to_256 up_of
up_words x y n = refl

bottom_words : (z : WordProducts) → whole (words.bottom z) ≡ bottom_with words.ones (products z)
unfolding words.bottom bottom_with
bottom_words z = refl

sub_words : (p : Words) → whole (words.sub_bytes p) ≡ sub_byte_with words.ones (whole p)
unfolding words.sub_bytes sub_byte_with
sub_words p =
    let x : ℕ = p.p0 in
    let y : WordSums = words.top p in
    let d : WordNibbles = words.down_to_16 x y in
    let n : WordNibbles = words.inverse d in
    let o : ℕ = words.ones in
    bottom_words (words.up_to_256 x y n)
    ∙ ap (bottom_with o) (up_words x y n)
    ∙ ap (λ (m : Four). bottom_with o (up_of x (sums y) m)) (inverse_words d ∙ ap inverse_of (down_words x y))
    ∙ ap (λ (l : Lane). bottom_with o (up_of x l (inverse_of (down_of x l)))) (top_words p)

pub sub_bits : (n : ℕ) (a : Words) → n < 64 → bits n (words.sub_bytes a) ≡ sub_byte_with 1 (bits n a)
sub_bits n a h =
    let f : ℕ → ℕ = λ (x : ℕ). bit_at x n in
    ap (eight_by f) (sub_words a)
    ∙ sym (sub_byte_through f (bit_keeps n) words.ones (whole a))
    ∙ ap (λ (o : ℕ). sub_byte_with o (bits n a)) (bit_at_ones 64 n h)

-- ---- vectors

sixteen : (x : List ℕ) → length x ≡ 16 → slice_index x 0 ∷ slice_index x 1 ∷ slice_index x 2 ∷ slice_index x 3 ∷ slice_index x 4 ∷ slice_index x 5 ∷ slice_index x 6 ∷ slice_index x 7 ∷ slice_index x 8 ∷ slice_index x 9 ∷ slice_index x 10 ∷ slice_index x 11 ∷ slice_index x 12 ∷ slice_index x 13 ∷ slice_index x 14 ∷ slice_index x 15 ∷ [] ≡ x
sixteen (a0 ∷ a1 ∷ a2 ∷ a3 ∷ a4 ∷ a5 ∷ a6 ∷ a7 ∷ a8 ∷ a9 ∷ a10 ∷ a11 ∷ a12 ∷ a13 ∷ a14 ∷ a15 ∷ []) e = refl
sixteen [] e = absurd (omega (arith, e))
sixteen (a0 ∷ []) e = absurd (omega (arith, e))
sixteen (a0 ∷ a1 ∷ []) e = absurd (omega (arith, e))
sixteen (a0 ∷ a1 ∷ a2 ∷ []) e = absurd (omega (arith, e))
sixteen (a0 ∷ a1 ∷ a2 ∷ a3 ∷ []) e = absurd (omega (arith, e))
sixteen (a0 ∷ a1 ∷ a2 ∷ a3 ∷ a4 ∷ []) e = absurd (omega (arith, e))
sixteen (a0 ∷ a1 ∷ a2 ∷ a3 ∷ a4 ∷ a5 ∷ []) e = absurd (omega (arith, e))
sixteen (a0 ∷ a1 ∷ a2 ∷ a3 ∷ a4 ∷ a5 ∷ a6 ∷ []) e = absurd (omega (arith, e))
sixteen (a0 ∷ a1 ∷ a2 ∷ a3 ∷ a4 ∷ a5 ∷ a6 ∷ a7 ∷ []) e = absurd (omega (arith, e))
sixteen (a0 ∷ a1 ∷ a2 ∷ a3 ∷ a4 ∷ a5 ∷ a6 ∷ a7 ∷ a8 ∷ []) e = absurd (omega (arith, e))
sixteen (a0 ∷ a1 ∷ a2 ∷ a3 ∷ a4 ∷ a5 ∷ a6 ∷ a7 ∷ a8 ∷ a9 ∷ []) e = absurd (omega (arith, e))
sixteen (a0 ∷ a1 ∷ a2 ∷ a3 ∷ a4 ∷ a5 ∷ a6 ∷ a7 ∷ a8 ∷ a9 ∷ a10 ∷ []) e = absurd (omega (arith, e))
sixteen (a0 ∷ a1 ∷ a2 ∷ a3 ∷ a4 ∷ a5 ∷ a6 ∷ a7 ∷ a8 ∷ a9 ∷ a10 ∷ a11 ∷ []) e = absurd (omega (arith, e))
sixteen (a0 ∷ a1 ∷ a2 ∷ a3 ∷ a4 ∷ a5 ∷ a6 ∷ a7 ∷ a8 ∷ a9 ∷ a10 ∷ a11 ∷ a12 ∷ []) e = absurd (omega (arith, e))
sixteen (a0 ∷ a1 ∷ a2 ∷ a3 ∷ a4 ∷ a5 ∷ a6 ∷ a7 ∷ a8 ∷ a9 ∷ a10 ∷ a11 ∷ a12 ∷ a13 ∷ []) e = absurd (omega (arith, e))
sixteen (a0 ∷ a1 ∷ a2 ∷ a3 ∷ a4 ∷ a5 ∷ a6 ∷ a7 ∷ a8 ∷ a9 ∷ a10 ∷ a11 ∷ a12 ∷ a13 ∷ a14 ∷ []) e = absurd (omega (arith, e))
sixteen (a0 ∷ a1 ∷ a2 ∷ a3 ∷ a4 ∷ a5 ∷ a6 ∷ a7 ∷ a8 ∷ a9 ∷ a10 ∷ a11 ∷ a12 ∷ a13 ∷ a14 ∷ a15 ∷ b ∷ x) e = absurd (omega (arith, e))

planes_of_lists : (a0 a1 a2 a3 a4 a5 a6 a7 : List ℕ) → Vectors
planes_of_lists a0 a1 a2 a3 a4 a5 a6 a7 = record { p0 = a0; p1 = a1; p2 = a2; p3 = a3; p4 = a4; p5 = a5; p6 = a6; p7 = a7 }

lanes : Vectors → List Eight
lanes p = lane p 0 ∷ lane p 1 ∷ lane p 2 ∷ lane p 3 ∷ lane p 4 ∷ lane p 5 ∷ lane p 6 ∷ lane p 7 ∷ lane p 8 ∷ lane p 9 ∷ lane p 10 ∷ lane p 11 ∷ lane p 12 ∷ lane p 13 ∷ lane p 14 ∷ lane p 15 ∷ []

lanes_are : (p : Vectors) → AreVectors p → eights_of (λ (v : Eight). v) (lanes p) ≡ p
unfolding lanes planes_of_lists
lanes_are p is =
    ap (λ (x : List ℕ). planes_of_lists x (map (λ (v : Eight). v.p1) (lanes p)) (map (λ (v : Eight). v.p2) (lanes p)) (map (λ (v : Eight). v.p3) (lanes p)) (map (λ (v : Eight). v.p4) (lanes p)) (map (λ (v : Eight). v.p5) (lanes p)) (map (λ (v : Eight). v.p6) (lanes p)) (map (λ (v : Eight). v.p7) (lanes p))) (sixteen p.p0 is.p0)
    ∙ ap (λ (x : List ℕ). planes_of_lists p.p0 x (map (λ (v : Eight). v.p2) (lanes p)) (map (λ (v : Eight). v.p3) (lanes p)) (map (λ (v : Eight). v.p4) (lanes p)) (map (λ (v : Eight). v.p5) (lanes p)) (map (λ (v : Eight). v.p6) (lanes p)) (map (λ (v : Eight). v.p7) (lanes p))) (sixteen p.p1 is.p1)
    ∙ ap (λ (x : List ℕ). planes_of_lists p.p0 p.p1 x (map (λ (v : Eight). v.p3) (lanes p)) (map (λ (v : Eight). v.p4) (lanes p)) (map (λ (v : Eight). v.p5) (lanes p)) (map (λ (v : Eight). v.p6) (lanes p)) (map (λ (v : Eight). v.p7) (lanes p))) (sixteen p.p2 is.p2)
    ∙ ap (λ (x : List ℕ). planes_of_lists p.p0 p.p1 p.p2 x (map (λ (v : Eight). v.p4) (lanes p)) (map (λ (v : Eight). v.p5) (lanes p)) (map (λ (v : Eight). v.p6) (lanes p)) (map (λ (v : Eight). v.p7) (lanes p))) (sixteen p.p3 is.p3)
    ∙ ap (λ (x : List ℕ). planes_of_lists p.p0 p.p1 p.p2 p.p3 x (map (λ (v : Eight). v.p5) (lanes p)) (map (λ (v : Eight). v.p6) (lanes p)) (map (λ (v : Eight). v.p7) (lanes p))) (sixteen p.p4 is.p4)
    ∙ ap (λ (x : List ℕ). planes_of_lists p.p0 p.p1 p.p2 p.p3 p.p4 x (map (λ (v : Eight). v.p6) (lanes p)) (map (λ (v : Eight). v.p7) (lanes p))) (sixteen p.p5 is.p5)
    ∙ ap (λ (x : List ℕ). planes_of_lists p.p0 p.p1 p.p2 p.p3 p.p4 p.p5 x (map (λ (v : Eight). v.p7) (lanes p))) (sixteen p.p6 is.p6)
    ∙ ap (λ (x : List ℕ). planes_of_lists p.p0 p.p1 p.p2 p.p3 p.p4 p.p5 p.p6 x) (sixteen p.p7 is.p7)

lanes_long : (p : Vectors) → length (lanes p) ≡ 16
unfolding lanes
lanes_long p = refl

each_lane : (p : Vectors) (l : ℕ) → l < 16 → lane (eights_of sub_byte_of (lanes p)) l ≡ sub_byte_with 255 (lane p l)
unfolding lanes sub_byte_of sub_byte_with
each_lane p = below_16 (λ (l : ℕ). lane (eights_of sub_byte_of (lanes p)) l ≡ sub_byte_with 255 (lane p l)) refl refl refl refl refl refl refl refl refl refl refl refl refl refl refl refl

pub sub_lane : (p : Vectors) (l : ℕ) → AreVectors p → l < 16 → lane (sub_bytes p) l ≡ sub_byte_with 255 (lane p l)
sub_lane p l is h =
    ap (λ (q : Vectors). lane (sub_bytes q) l) (sym (lanes_are p is)) ∙ ap (λ (q : Vectors). lane q l) (sub_bytes_lanes (lanes p) (lanes_long p)) ∙ each_lane p l h

pub sub_lane_bits : (k l : ℕ) (p : Vectors) → k < 8 → AreVectors p → l < 16 → eight_by (λ (x : ℕ). bit_at x k) (lane (sub_bytes p) l) ≡ sub_byte_with 1 (eight_by (λ (x : ℕ). bit_at x k) (lane p l))
sub_lane_bits k l p lt is h =
    let f : ℕ → ℕ = λ (x : ℕ). bit_at x k in
    ap (eight_by f) (sub_lane p l is h)
    ∙ sym (sub_byte_through f (bit_keeps k) 255 (lane p l))
    ∙ ap (λ (o : ℕ). sub_byte_with o (eight_by f (lane p l))) (bit_at_ones 8 k lt)

eights_are : (f : Eight → Eight) (p : Vectors) → AreVectors (eights_of f (lanes p))
unfolding lanes
eights_are f p = record { p0 = refl; p1 = refl; p2 = refl; p3 = refl; p4 = refl; p5 = refl; p6 = refl; p7 = refl }

pub sub_are : (p : Vectors) → AreVectors p → AreVectors (sub_bytes p)
sub_are p is =
    let e = sub_bytes_lanes (lanes p) (lanes_long p) in
    subst (λ (q : Vectors). AreVectors (sub_bytes q)) (lanes_are p is) (subst (λ (q : Vectors). AreVectors q) (sym e) (eights_are sub_byte_of p))
