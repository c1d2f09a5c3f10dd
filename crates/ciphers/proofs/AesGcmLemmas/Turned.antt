-- Words and vectors that are turned have the same bits, where they had the same bytes.
use Rattle.std.proofs.Common.{◌≡◌, ℕ, ◌+◌, ◌*◌, ◌/◌, ◌%◌, ◌<◌, sym, ap, ◌∙◌, arith}
use Rattle.std.specs.Int.{bit_at}
use Rattle.ciphers.specs.declared.aes_gcm.lanes.Vectors.{Vectors}
use Rattle.ciphers.specs.declared.aes_gcm.planes.Planes.{Planes}
use Rattle.ciphers.specs.AesGcm.Packing.{transposed}
use Rattle.ciphers.specs.AesGcm.Rows.{Eight, lane}
use Rattle.ciphers.specs.AesGcm.Same.{Same, eight_by, lane_of}
use Rattle.ciphers.specs.AesGcm.VectorPacking.{transposed_lane}
use Rattle.ciphers.specs.AesGcm.SameBytes.{number_of, word_of}
use Rattle.ciphers.proofs.AesGcmLemmas.Bits.{eight_same}
use Rattle.ciphers.proofs.AesGcmLemmas.Transposed.{below_8, turned, word_bit}

-- byte n of 64, as every eighth byte stands in a word, is that of lane and block of the vectors
pub turned_same : (b : ℕ) (w : Planes) (v t : Vectors) → b < 5 → ((l : ℕ) → l < 16 → lane t l ≡ transposed_lane (lane v l))
    → ((n i : ℕ) → n < 64 → i < 8 → bit_at (word_of w (n % 8)) (8 * (n / 8) + i) ≡ bit_at (number_of (lane v (lane_of n)) (b + n / 16)) i)
    → Same b (transposed w) t
turned_same b w v t lt e same = record {
  same = λ n h.
      let l : ℕ = lane_of n in
      let k : ℕ = b + n / 16 in
      let kh : k < 8 = omega (arith, h, lt) in
      let mh : n / 8 < 8 = omega (arith, h) in
      let rh : n % 8 < 8 = omega arith in
      let n_is : n ≡ 8 * (n / 8) + n % 8 = omega arith in
      eight_same
      (ap (bit_at (transposed w).p0) n_is ∙ word_bit w (n / 8) 0 (n % 8) mh (omega arith) rh ∙ same n 0 h (omega arith) ∙ sym (turned (lane v l) 0 k (omega arith) kh))
      (ap (bit_at (transposed w).p1) n_is ∙ word_bit w (n / 8) 1 (n % 8) mh (omega arith) rh ∙ same n 1 h (omega arith) ∙ sym (turned (lane v l) 1 k (omega arith) kh))
      (ap (bit_at (transposed w).p2) n_is ∙ word_bit w (n / 8) 2 (n % 8) mh (omega arith) rh ∙ same n 2 h (omega arith) ∙ sym (turned (lane v l) 2 k (omega arith) kh))
      (ap (bit_at (transposed w).p3) n_is ∙ word_bit w (n / 8) 3 (n % 8) mh (omega arith) rh ∙ same n 3 h (omega arith) ∙ sym (turned (lane v l) 3 k (omega arith) kh))
      (ap (bit_at (transposed w).p4) n_is ∙ word_bit w (n / 8) 4 (n % 8) mh (omega arith) rh ∙ same n 4 h (omega arith) ∙ sym (turned (lane v l) 4 k (omega arith) kh))
      (ap (bit_at (transposed w).p5) n_is ∙ word_bit w (n / 8) 5 (n % 8) mh (omega arith) rh ∙ same n 5 h (omega arith) ∙ sym (turned (lane v l) 5 k (omega arith) kh))
      (ap (bit_at (transposed w).p6) n_is ∙ word_bit w (n / 8) 6 (n % 8) mh (omega arith) rh ∙ same n 6 h (omega arith) ∙ sym (turned (lane v l) 6 k (omega arith) kh))
      (ap (bit_at (transposed w).p7) n_is ∙ word_bit w (n / 8) 7 (n % 8) mh (omega arith) rh ∙ same n 7 h (omega arith) ∙ sym (turned (lane v l) 7 k (omega arith) kh))
      ∙ sym (ap (eight_by (λ (x : ℕ). bit_at x k)) (e l (omega arith)));
}

pub back_word : (a : Planes) (m : ℕ) → m < 8 → (k : ℕ) → k < 8 → (i : ℕ) → i < 8
    → bit_at (word_of (transposed a) k) (8 * m + i) ≡ bit_at (word_of a i) (8 * m + k)
back_word a m h k kh i ih = word_bit a m k i h kh ih

-- ---- and back: the words of turned planes have the bytes of the turned vectors
pub bytes_same : (b : ℕ) (a : Planes) (s t : Vectors) → b < 5 → ((l : ℕ) → l < 16 → lane t l ≡ transposed_lane (lane s l)) → Same b a s
    → (n i : ℕ) → n < 64 → i < 8
    → bit_at (word_of (transposed a) (n % 8)) (8 * (n / 8) + i) ≡ bit_at (number_of (lane t (lane_of n)) (b + n / 16)) i
bytes_same b a s t lt e is n i h ih =
    let l : ℕ = lane_of n in
    let k : ℕ = b + n / 16 in
    let kh : k < 8 = omega (arith, h, lt) in
    let mh : n / 8 < 8 = omega (arith, h) in
    let rh : n % 8 < 8 = omega arith in
    let n_is : 8 * (n / 8) + n % 8 ≡ n = omega arith in
    back_word a (n / 8) mh (n % 8) rh i ih
    ∙ ap (bit_at (word_of a i)) n_is
    ∙ plane a s n k l (is.same n h) i ih
    ∙ sym (back_lane (lane s l) k kh i ih)
    ∙ sym (ap (λ (x : Eight). bit_at (number_of x k) i) (e l (omega arith)))
  where
    back_lane : (a : Eight) (k : ℕ) → k < 8 → (i : ℕ) → i < 8 → bit_at (number_of (transposed_lane a) k) i ≡ bit_at (number_of a i) k
    back_lane a k kh i ih = turned a k i kh ih

    plane : (a : Planes) (s : Vectors) (n k l : ℕ)
        → ◌≡◌ {A = Eight} (record { p0 = bit_at a.p0 n; p1 = bit_at a.p1 n; p2 = bit_at a.p2 n; p3 = bit_at a.p3 n; p4 = bit_at a.p4 n; p5 = bit_at a.p5 n; p6 = bit_at a.p6 n; p7 = bit_at a.p7 n }) (eight_by (λ (x : ℕ). bit_at x k) (lane s l)) → (i : ℕ) → i < 8 → bit_at (word_of a i) n ≡ bit_at (number_of (lane s l) i) k
    plane a s n k l e = below_8 (λ (i : ℕ). bit_at (word_of a i) n ≡ bit_at (number_of (lane s l) i) k) (ap (λ (x : Eight). x.p0) e) (ap (λ (x : Eight). x.p1) e) (ap (λ (x : Eight). x.p2) e) (ap (λ (x : Eight). x.p3) e) (ap (λ (x : Eight). x.p4) e) (ap (λ (x : Eight). x.p5) e) (ap (λ (x : Eight). x.p6) e) (ap (λ (x : Eight). x.p7) e)
