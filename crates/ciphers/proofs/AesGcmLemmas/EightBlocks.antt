-- The bytes of blocks that vectors encrypted are those that words encrypt.
use Rattle.std.proofs.Common.{◌≡◌, ℕ, ◌+◌, ◌/◌, ◌<◌, ◌*◌, ◌%◌, List, slice_index, refl, sym, ap, ◌∙◌, arith}
use Rattle.std.specs.Int.{bit_at}
use Rattle.ciphers.specs.declared.aes_gcm.aes.Schedule.{Schedule}
use Rattle.ciphers.specs.declared.aes_gcm.lanes.Vectors.{Vectors}
use Rattle.ciphers.specs.declared.aes_gcm.planes.Planes.{Planes}
use Rattle.ciphers.specs.AesGcm.Aes.{encrypted}
use Rattle.ciphers.specs.AesGcm.Packing.{packed, transposed, unpacked}
use Rattle.ciphers.specs.AesGcm.Rows.{lane}
use Rattle.ciphers.specs.AesGcm.Same.{Same, eight_by, lane_of}
use Rattle.ciphers.specs.AesGcm.SameBytes.{SameBytes, number_of, rounds_of, word_of}
use Rattle.ciphers.specs.AesGcm.VectorPacking.{transposed_lane}
use Rattle.ciphers.proofs.AesGcmLemmas.Bits.{eight_same}
use Rattle.ciphers.proofs.AesGcmLemmas.Transposed.{turned}
use Rattle.ciphers.proofs.AesGcmLemmas.Turned.{back_word}
use Rattle.ciphers.proofs.AesGcmLemmas.WordBytes.{same_byte, unpacked_bit, words_of}

pub encrypted_is : (k : Schedule) (bytes : List ℕ) → encrypted k bytes ≡ unpacked (rounds_of k (transposed (words_of bytes)))
unfolding encrypted rounds_of packed
encrypted_is k bytes = refl

pub encrypted_byte : (b : ℕ) (k : Schedule) (bytes : List ℕ) (t : Vectors) (n : ℕ) → n < 64
    → SameBytes b (transposed (rounds_of k (transposed (words_of bytes)))) t
    → slice_index (encrypted k bytes) n < 256 → number_of (lane t (lane_of n)) (b + n / 16) < 256
    → slice_index (encrypted k bytes) n ≡ number_of (lane t (lane_of n)) (b + n / 16)
encrypted_byte b k bytes t n h same p q =
    let a : Planes = rounds_of k (transposed (words_of bytes)) in
    same_byte (slice_index (encrypted k bytes) n) (number_of (lane t (lane_of n)) (b + n / 16)) p q
    (λ i ih. ap (λ (l : List ℕ). bit_at (slice_index l n) i) (encrypted_is k bytes) ∙ unpacked_bit a n i h ih ∙ same.same n i h ih)

-- Vectors of what the planes of a key unpack to are those of the key.
pub key_same : (b : ℕ) (k : Planes) (v t : Vectors) → b < 5 → ((l : ℕ) → l < 16 → lane t l ≡ transposed_lane (lane v l))
    → ((n : ℕ) → n < 64 → number_of (lane v (lane_of n)) (b + n / 16) ≡ slice_index (unpacked k) n) → Same b k t
key_same b k v t lt e same = record {
  same = λ n h.
      let l : ℕ = lane_of n in
      let j : ℕ = b + n / 16 in
      let jh : j < 8 = omega (arith, h, lt) in
      let mh : n / 8 < 8 = omega (arith, h) in
      let rh : n % 8 < 8 = omega arith in
      let n_is : 8 * (n / 8) + n % 8 ≡ n = omega arith in
      let one : (i : ℕ) → i < 8 → bit_at (word_of k i) n ≡ bit_at (number_of (lane v l) j) i =
      λ i ih. sym (ap (λ (x : ℕ). bit_at x i) (same n h) ∙ unpacked_bit k n i h ih ∙ back_word k (n / 8) mh (n % 8) rh i ih ∙ ap (bit_at (word_of k i)) n_is) in
      eight_same (one 0 (omega arith) ∙ sym (turned (lane v l) 0 j (omega arith) jh)) (one 1 (omega arith) ∙ sym (turned (lane v l) 1 j (omega arith) jh)) (one 2 (omega arith) ∙ sym (turned (lane v l) 2 j (omega arith) jh)) (one 3 (omega arith) ∙ sym (turned (lane v l) 3 j (omega arith) jh)) (one 4 (omega arith) ∙ sym (turned (lane v l) 4 j (omega arith) jh)) (one 5 (omega arith) ∙ sym (turned (lane v l) 5 j (omega arith) jh)) (one 6 (omega arith) ∙ sym (turned (lane v l) 6 j (omega arith) jh)) (one 7 (omega arith) ∙ sym (turned (lane v l) 7 j (omega arith) jh))
      ∙ sym (ap (eight_by (λ (x : ℕ). bit_at x j)) (e l (omega arith)));
}
