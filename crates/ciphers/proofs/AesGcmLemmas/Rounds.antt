-- One round of words is one of vectors, bit by bit.
use Rattle.std.proofs.Common.{◌≡◌, ℕ, ◌+◌, ◌*◌, ◌/◌, ◌<◌, sym, ap, ap₂, ◌∙◌, arith}
use Rattle.std.specs.Int.{bit_at}
use Rattle.ciphers.specs.declared.aes_gcm.planes.Planes.{Planes as Words}
use Rattle.ciphers.specs.AesGcm.Planes as words
use Rattle.ciphers.specs.AesGcm.SubBytes as plane_bytes
use Rattle.ciphers.specs.declared.aes_gcm.lanes.Vectors.{Vectors}
use Rattle.ciphers.specs.AesGcm.Rows.{Eight, AreVectors, lane, mixed_lane, moved, sum_of_lanes, turned}
use Rattle.ciphers.specs.AesGcm.VectorBytes.{sub_bytes}
use Rattle.ciphers.proofs.AesGcmLemmas.Bits.{added_bits, bit_keeps, mixed_bits, mixed_through, shifted_bits, sum_through}
use Rattle.ciphers.specs.AesGcm.Same.{Same, bits, eight_by, lane_bits, lane_of}
use Rattle.ciphers.proofs.AesGcmLemmas.Circuit.{sub_byte_with}
use Rattle.ciphers.proofs.AesGcmLemmas.SubBits.{sub_bits, sub_lane_bits}
use Rattle.ciphers.proofs.AesGcmLemmas.WordBits.{following, shifted}

pub sub_same : (b : ℕ) (a : Words) (p : Vectors) → b < 5 → AreVectors p → Same b a p → Same b (plane_bytes.sub_bytes a) (sub_bytes p)
sub_same b a p lt is s = record { same = λ n h. sub_bits n a h ∙ ap (sub_byte_with 1) (s.same n h) ∙ sym (sub_lane_bits (b + n / 16) (lane_of n) p (omega (arith, h, lt)) is (omega arith)) }

pub shifted_same : (b : ℕ) (a : Words) (p q : Vectors) → ((l : ℕ) → l < 16 → lane q l ≡ lane p (turned l)) → Same b a p → Same b (words.shifted_rows a) q
shifted_same b a p q e s = record {
  same = λ n h.
      let block : shifted n / 16 ≡ n / 16 = omega (arith, h) in
      let place : lane_of (shifted n) ≡ turned (lane_of n) = omega arith in
      shifted_bits n a h ∙ s.same (shifted n) (omega (arith, h))
      ∙ ap₂ (λ (m l : ℕ). lane_bits (b + m) l p) block place
      ∙ sym (ap (eight_by (λ (x : ℕ). bit_at x (b + n / 16))) (e (lane_of n) (omega arith)));
}

following_same : (b : ℕ) (a : Words) (p : Vectors) (n : ℕ) → n < 64 → Same b a p → (i : ℕ) → i < 4 → bits (following i n) a ≡ lane_bits (b + n / 16) (moved (4 * i) (lane_of n)) p
following_same b a p n h s i lt =
    let block : following i n / 16 ≡ n / 16 = omega (arith, h, lt) in
    let place : lane_of (following i n) ≡ moved (4 * i) (lane_of n) = omega (arith, lt) in
    s.same (following i n) (omega (arith, h)) ∙ ap₂ (λ (m l : ℕ). lane_bits (b + m) l p) block place

pub mixed_same_bits : (b : ℕ) (a : Words) (p q : Vectors) → ((l : ℕ) → l < 16 → lane q l ≡ mixed_lane (lane p l) (lane p (moved 4 l)) (lane p (moved 8 l)) (lane p (moved 12 l))) → Same b a p → Same b (words.mixed_columns a) q
mixed_same_bits b a p q e s = record {
  same = λ n h.
      let k : ℕ = b + n / 16 in
      let l : ℕ = lane_of n in
      let f : ℕ → ℕ = λ (x : ℕ). bit_at x k in
      mixed_bits n a h
      ∙ ap₂ (λ (x y : Eight). mixed_lane x y (bits (following 2 n) a) (bits (following 3 n) a)) (s.same n h) (following_same b a p n h s 1 (omega arith))
      ∙ ap₂ (λ (x y : Eight). mixed_lane (lane_bits k l p) (lane_bits k (moved 4 l) p) x y) (following_same b a p n h s 2 (omega arith)) (following_same b a p n h s 3 (omega arith))
      ∙ sym (mixed_through f (bit_keeps k) (lane p l) (lane p (moved 4 l)) (lane p (moved 8 l)) (lane p (moved 12 l)))
      ∙ sym (ap (eight_by f) (e l (omega arith)));
}

pub added_same : (b : ℕ) (a c : Words) (p r q : Vectors) → ((l : ℕ) → l < 16 → lane q l ≡ sum_of_lanes (lane p l) (lane r l)) → Same b a p → Same b c r → Same b (words.added a c) q
added_same b a c p r q e s t = record {
  same = λ n h.
      let k : ℕ = b + n / 16 in
      let l : ℕ = lane_of n in
      let f : ℕ → ℕ = λ (x : ℕ). bit_at x k in
      added_bits n a c
      ∙ ap₂ sum_of_lanes (s.same n h) (t.same n h)
      ∙ sym (sum_through f (bit_keeps k) (lane p l) (lane r l))
      ∙ sym (ap (eight_by f) (e l (omega arith)));
}
