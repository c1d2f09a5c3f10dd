-- Blocks of the key stream, as vectors encrypt them and as words do.
use Rattle.std.proofs.Common.{◌≡◌, ℕ, suc, ◌+◌, ◌*◌, ◌/◌, ◌%◌, ◌<◌, List, [], ◌∷◌, length, slice_index, bit_xor, refl, sym, subst, ap, ap₂, ◌∙◌, inl, inr, arith}
use Rattle.std.proofs.lemmas.Bool.{cases_lt}
use Rattle.std.proofs.Math.ListN.{get_or-eq_default}
use Rattle.std.specs.Int.{bit_at}
use Rattle.ciphers.specs.declared.aes_gcm.gcm.KeyParts.{KeyParts}
use Rattle.ciphers.specs.declared.aes_gcm.lanes.Vectors.{Vectors}
use Rattle.ciphers.specs.declared.aes_gcm.planes.Planes.{Planes}
use Rattle.ciphers.specs.AesGcm.Aes.{encrypted}
use Rattle.ciphers.specs.AesGcm.Gcm.{batch, counter_block, counter_blocks, masked, stream}
use Rattle.ciphers.specs.AesGcm.Masks.{encrypted_fits}
use Rattle.ciphers.specs.AesGcm.Packing.{transposed}
use Rattle.ciphers.specs.AesGcm.Rows.{lane}
use Rattle.ciphers.specs.AesGcm.Same.{lane_of}
use Rattle.ciphers.specs.AesGcm.SameBytes.{SameBytes, number_of, rounds_of}
use Rattle.ciphers.proofs.AesGcmLemmas.EightBlocks.{encrypted_byte}
use Rattle.ciphers.proofs.AesGcmLemmas.WordBits.{below_16, below_64}
use Rattle.ciphers.proofs.AesGcmLemmas.WordBytes.{packed_bit, words_of}

-- byte n of four counter blocks
counter_byte : (nonce : List ℕ) (first n : ℕ) → n < 64 → slice_index (counter_blocks nonce first) n ≡ slice_index (counter_block nonce (first + n / 16)) (n % 16)
counter_byte nonce first =
    let same : first ≡ first + 0 = omega arith in
    let head : (n : ℕ) → slice_index (counter_block nonce first) n ≡ slice_index (counter_block nonce (first + 0)) n = λ n. ap (λ (c : ℕ). slice_index (counter_block nonce c) n) same in
    below_64 (λ (n : ℕ). slice_index (counter_blocks nonce first) n ≡ slice_index (counter_block nonce (first + n / 16)) (n % 16))
    (below_16 (λ (l : ℕ). slice_index (counter_blocks nonce first) l ≡ slice_index (counter_block nonce (first + l / 16)) (l % 16)) (head 0) (head 1) (head 2) (head 3) (head 4) (head 5) (head 6) (head 7) (head 8) (head 9) (head 10) (head 11) (head 12) (head 13) (head 14) (head 15))
    (below_16 (λ (l : ℕ). slice_index (counter_blocks nonce first) (16 + l) ≡ slice_index (counter_block nonce (first + (16 + l) / 16)) ((16 + l) % 16)) refl refl refl refl refl refl refl refl refl refl refl refl refl refl refl refl)
    (below_16 (λ (l : ℕ). slice_index (counter_blocks nonce first) (32 + l) ≡ slice_index (counter_block nonce (first + (32 + l) / 16)) ((32 + l) % 16)) refl refl refl refl refl refl refl refl refl refl refl refl refl refl refl refl)
    (below_16 (λ (l : ℕ). slice_index (counter_blocks nonce first) (48 + l) ≡ slice_index (counter_block nonce (first + (48 + l) / 16)) ((48 + l) % 16)) refl refl refl refl refl refl refl refl refl refl refl refl refl refl refl refl)

counter_is_byte : (nonce : List ℕ) (c i : ℕ) → ((j : ℕ) → slice_index nonce j < 256) → i < 16 → slice_index (counter_block nonce c) i < 256
counter_is_byte nonce c i p =
    below_16 (λ (i : ℕ). slice_index (counter_block nonce c) i < 256) (p 0) (p 1) (p 2) (p 3) (p 4) (p 5) (p 6) (p 7) (p 8) (p 9) (p 10) (p 11) (omega arith) (omega arith) (omega arith) (omega arith) i

-- Vectors that have the bytes of four blocks are packed as words are.
packed_same : (b : ℕ) (bytes : List ℕ) (v : Vectors) → ((j : ℕ) → slice_index bytes j < 256)
    → ((n : ℕ) → n < 64 → number_of (lane v (lane_of n)) (b + n / 16) ≡ slice_index bytes n) → SameBytes b (words_of bytes) v
packed_same b bytes v p e = record { same = λ n i h ih. packed_bit bytes p n i h ih ∙ sym (ap (λ (x : ℕ). bit_at x i) (e n h)) }

below_length : (l : List ℕ) (n : ℕ) → ((j : ℕ) → j < n → slice_index l j < 256) → length l ≡ n → (j : ℕ) → slice_index l j < 256
below_length l n p long j = elim (cases_lt j n) [
  | inl below ↦ p j below
  | inr above ↦ let e : slice_index l j ≡ 0 = get_or-eq_default l 0 (omega (arith, long, above)) in omega (arith, e)
]

counters_are_bytes : (nonce : List ℕ) (first : ℕ) → ((j : ℕ) → slice_index nonce j < 256) → (j : ℕ) → slice_index (counter_blocks nonce first) j < 256
counters_are_bytes nonce first p = below_length (counter_blocks nonce first) 64
    (λ n h. subst (λ (x : ℕ). x < 256) (sym (counter_byte nonce first n h)) (counter_is_byte nonce (first + n / 16) (n % 16) p (omega arith))) refl

-- Vectors of eight counters have the blocks of two batches.
counters_same : (b first : ℕ) (nonce : List ℕ) (v : Vectors) → b < 5 → ((j : ℕ) → slice_index nonce j < 256)
    → ((k l : ℕ) → k < 8 → l < 16 → number_of (lane v l) k ≡ slice_index (counter_block nonce (first + k)) (lane_of l)) → SameBytes b (words_of (counter_blocks nonce (first + b))) v
counters_same b first nonce v lt p e = packed_same b (counter_blocks nonce (first + b)) v (counters_are_bytes nonce (first + b) p)
    (λ n h.
    let back : lane_of (lane_of n) ≡ n % 16 = omega arith in
    let on : first + (b + n / 16) ≡ first + b + n / 16 = omega arith in
    e (b + n / 16) (lane_of n) (omega (arith, h, lt)) (omega arith)
    ∙ ap₂ (λ (c l : ℕ). slice_index (counter_block nonce c) l) on back ∙ sym (counter_byte nonce (first + b) n h))

-- byte 64 m + n of a stream
batch_byte : (k : KeyParts) (nonce : List ℕ) (m n at : ℕ) → n < 64 → at ≡ 64 * m + n → stream k nonce at ≡ slice_index (batch k nonce m) n
unfolding stream
batch_byte k nonce m n at h e =
    let q : at / 64 ≡ m = omega (arith, h, e) in
    let r : at % 64 ≡ n = omega (arith, h, e) in
    ap₂ (λ (i j : ℕ). slice_index (batch k nonce i) j) q r

-- Half of the bytes that vectors of eight counters are encrypted to: those of one batch.
pub half : (b m first : ℕ) (k : KeyParts) (nonce : List ℕ) (v t : Vectors) → b < 5 → first + b ≡ 4 * m + 1 → ((j : ℕ) → slice_index nonce j < 256)
    → ((j l : ℕ) → j < 8 → l < 16 → number_of (lane v l) j ≡ slice_index (counter_block nonce (first + j)) (lane_of l))
    → ((w : Planes) → SameBytes b w v → SameBytes b (transposed (rounds_of k.schedule (transposed w))) t)
    → (n at : ℕ) → n < 64 → number_of (lane t (lane_of n)) (b + n / 16) < 256 → at ≡ 64 * m + n → number_of (lane t (lane_of n)) (b + n / 16) ≡ stream k nonce at
half b m first k nonce v t lt e p counters done n at h q is =
    let bytes : List ℕ = counter_blocks nonce (first + b) in
    let byte : slice_index (encrypted k.schedule bytes) n < 256 = encrypted_fits k.schedule bytes n in
    sym (encrypted_byte b k.schedule bytes t n h (done (words_of bytes) (counters_same b first nonce v lt p counters)) byte q)
    ∙ ap (λ (c : ℕ). slice_index (encrypted k.schedule (counter_blocks nonce c)) n) e ∙ sym (batch_byte k nonce m n at h is)

-- A text whose bytes are each added to the stream's is the masked one.
pub masked_from_bytes : (f : ℕ → ℕ) (at : ℕ) (old text : List ℕ) → length text ≡ length old
    → ((k : ℕ) → k < length old → slice_index text k ≡ bit_xor (slice_index old k) (f (at + k))) → text ≡ masked f at old
masked_from_bytes f at [] [] long e = refl
masked_from_bytes f at [] (t ∷ text) long e = absurd (omega (arith, long))
masked_from_bytes f at (b ∷ old) [] long e = absurd (omega (arith, long))
masked_from_bytes f at (b ∷ old) (t ∷ text) long e =
    let zero : at + 0 ≡ at = omega arith in
    let first : t ≡ bit_xor b (f at) = e 0 (omega arith) ∙ ap (λ (n : ℕ). bit_xor b (f n)) zero in
    let on : (k : ℕ) → at + suc k ≡ at + 1 + k = λ k. omega arith in
    ap₂ (λ (x : ℕ) (l : List ℕ). x ∷ l) first
    (masked_from_bytes f (at + 1) old text (omega (arith, long)) (λ k h. e (suc k) (omega (arith, h)) ∙ ap (λ (n : ℕ). bit_xor (slice_index old k) (f n)) (on k)))
