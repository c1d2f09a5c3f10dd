-- Bytes of words, bit by bit.
use Rattle.std.proofs.Common.{◌≡◌, ℕ, ◌+◌, ◌*◌, ◌/◌, ◌%◌, ◌^◌, ◌<◌, List, slice_index, refl, sym, ap, ◌∙◌, arith}
use Rattle.std.specs.Int.{bit_at, to_le_bytes, w64}
use Rattle.ciphers.specs.declared.aes_gcm.planes.Planes.{Planes}
use Rattle.ciphers.specs.AesGcm.Packing.{gathered, transposed, unpacked}
use Rattle.ciphers.specs.AesGcm.SameBytes.{word_of}
use Rattle.ciphers.proofs.AesGcmLemmas.Transposed.{below_8, bit_below, bit_down}
use Rattle.ciphers.proofs.AesGcmLemmas.WordBits.{below_16, below_64}

-- bit i of a byte of a word
byte_bit : (v s i : ℕ) → i < 8 → bit_at (v / 2 ^ s % 2 ^ 8) i ≡ bit_at v (s + i)
byte_bit v s i h = bit_below (v / 2 ^ s) 8 i h ∙ bit_down v s i

-- the words of 64 bytes
abbrev pub words_of : List ℕ → Planes
words_of b = record { p0 = gathered b 0; p1 = gathered b 1; p2 = gathered b 2; p3 = gathered b 3; p4 = gathered b 4; p5 = gathered b 5; p6 = gathered b 6; p7 = gathered b 7 }

gathered_bit : (b : List ℕ) (k : ℕ) → ((j : ℕ) → slice_index b j < 256) → (i : ℕ) → i < 8 → (m : ℕ) → m < 8
    → bit_at (gathered b k) (8 * m + i) ≡ bit_at (slice_index b (k + 8 * m)) i
gathered_bit b k p i h = below_8 (λ (m : ℕ). bit_at (gathered b k) (8 * m + i) ≡ bit_at (slice_index b (k + 8 * m)) i)
    (at 0 (slice_index b k) (omega (arith, p k, p (k + 8), p (k + 16), p (k + 24), p (k + 32), p (k + 40), p (k + 48), p (k + 56))) ∙ ap (λ (j : ℕ). bit_at (slice_index b j) i) (let e : k ≡ k + 8 * 0 = omega arith in e))
    (at 8 (slice_index b (k + 8)) (omega (arith, p k, p (k + 8), p (k + 16), p (k + 24), p (k + 32), p (k + 40), p (k + 48), p (k + 56))))
    (at 16 (slice_index b (k + 16)) (omega (arith, p k, p (k + 8), p (k + 16), p (k + 24), p (k + 32), p (k + 40), p (k + 48), p (k + 56))))
    (at 24 (slice_index b (k + 24)) (omega (arith, p k, p (k + 8), p (k + 16), p (k + 24), p (k + 32), p (k + 40), p (k + 48), p (k + 56))))
    (at 32 (slice_index b (k + 32)) (omega (arith, p k, p (k + 8), p (k + 16), p (k + 24), p (k + 32), p (k + 40), p (k + 48), p (k + 56))))
    (at 40 (slice_index b (k + 40)) (omega (arith, p k, p (k + 8), p (k + 16), p (k + 24), p (k + 32), p (k + 40), p (k + 48), p (k + 56))))
    (at 48 (slice_index b (k + 48)) (omega (arith, p k, p (k + 8), p (k + 16), p (k + 24), p (k + 32), p (k + 40), p (k + 48), p (k + 56))))
    (at 56 (slice_index b (k + 56)) (omega (arith, p k, p (k + 8), p (k + 16), p (k + 24), p (k + 32), p (k + 40), p (k + 48), p (k + 56))))
  where
    at : (s byte : ℕ) → gathered b k / 2 ^ s % 2 ^ 8 ≡ byte → bit_at (gathered b k) (s + i) ≡ bit_at byte i
    at s byte e = sym (byte_bit (gathered b k) s i h) ∙ ap (λ (x : ℕ). bit_at x i) e

row_bit : (v i : ℕ) → i < 8 → (m : ℕ) → m < 8 → bit_at (slice_index (to_le_bytes w64 v) m) i ≡ bit_at v (8 * m + i)
row_bit v i h = below_8 (λ (m : ℕ). bit_at (slice_index (to_le_bytes w64 v) m) i ≡ bit_at v (8 * m + i))
    (at 0 (slice_index (to_le_bytes w64 v) 0) (omega arith)) (at 8 (slice_index (to_le_bytes w64 v) 1) (omega arith)) (at 16 (slice_index (to_le_bytes w64 v) 2) (omega arith)) (at 24 (slice_index (to_le_bytes w64 v) 3) (omega arith)) (at 32 (slice_index (to_le_bytes w64 v) 4) (omega arith)) (at 40 (slice_index (to_le_bytes w64 v) 5) (omega arith)) (at 48 (slice_index (to_le_bytes w64 v) 6) (omega arith)) (at 56 (slice_index (to_le_bytes w64 v) 7) (omega arith))
  where
    at : (s byte : ℕ) → byte ≡ v / 2 ^ s % 2 ^ 8 → bit_at byte i ≡ bit_at v (s + i)
    at s byte e = ap (λ (x : ℕ). bit_at x i) e ∙ byte_bit v s i h

word_is : (b : List ℕ) (k : ℕ) → k < 8 → word_of (words_of b) k ≡ gathered b k
word_is b = below_8 (λ (k : ℕ). word_of (words_of b) k ≡ gathered b k) refl refl refl refl refl refl refl refl

-- bit i of byte n of 64, in the words
pub packed_bit : (b : List ℕ) → ((j : ℕ) → slice_index b j < 256) → (n i : ℕ) → n < 64 → i < 8
    → bit_at (word_of (words_of b) (n % 8)) (8 * (n / 8) + i) ≡ bit_at (slice_index b n) i
packed_bit b p n i h ih =
    let k : ℕ = n % 8 in
    let m : ℕ = n / 8 in
    let mh : m < 8 = omega (arith, h) in
    let kh : k < 8 = omega arith in
    let e : k + 8 * m ≡ n = omega arith in
    ap (λ (w : ℕ). bit_at w (8 * m + i)) (word_is b k kh)
    ∙ gathered_bit b k p i ih m mh
    ∙ ap (λ (j : ℕ). bit_at (slice_index b j) i) e

abbrev row_byte : Planes → ℕ → ℕ
row_byte a n = slice_index (to_le_bytes w64 (word_of (transposed a) (n % 8))) (n / 8)

unpacked_byte : (a : Planes) (n : ℕ) → n < 64 → slice_index (unpacked a) n ≡ row_byte a n
unfolding unpacked
unpacked_byte a = below_64 (λ (n : ℕ). slice_index (unpacked a) n ≡ row_byte a n)
    (below_16 (λ (l : ℕ). slice_index (unpacked a) l ≡ row_byte a l) refl refl refl refl refl refl refl refl refl refl refl refl refl refl refl refl)
    (below_16 (λ (l : ℕ). slice_index (unpacked a) (16 + l) ≡ row_byte a (16 + l)) refl refl refl refl refl refl refl refl refl refl refl refl refl refl refl refl)
    (below_16 (λ (l : ℕ). slice_index (unpacked a) (32 + l) ≡ row_byte a (32 + l)) refl refl refl refl refl refl refl refl refl refl refl refl refl refl refl refl)
    (below_16 (λ (l : ℕ). slice_index (unpacked a) (48 + l) ≡ row_byte a (48 + l)) refl refl refl refl refl refl refl refl refl refl refl refl refl refl refl refl)

-- bit i of byte n of what is unpacked
pub unpacked_bit : (a : Planes) (n i : ℕ) → n < 64 → i < 8
    → bit_at (slice_index (unpacked a) n) i ≡ bit_at (word_of (transposed a) (n % 8)) (8 * (n / 8) + i)
unpacked_bit a n i h ih =
    let v : ℕ = word_of (transposed a) (n % 8) in
    let m : ℕ = n / 8 in
    let mh : m < 8 = omega (arith, h) in
    ap (λ (x : ℕ). bit_at x i) (unpacked_byte a n h)
    ∙ row_bit v i ih m mh

-- bytes with the same bits are the same
halves : (x y : ℕ) → x % 2 ≡ y % 2 → x / 2 ≡ y / 2 → x ≡ y
halves x y e f = omega (arith, e, f)

pub same_byte : (x y : ℕ) → x < 256 → y < 256 → ((i : ℕ) → i < 8 → bit_at x i ≡ bit_at y i) → x ≡ y
same_byte x y p q e =
    let e0 : x / 1 % 2 ≡ y / 1 % 2 = omega (arith, e 0 (omega arith)) in
    let e1 : x / 2 % 2 ≡ y / 2 % 2 = omega (arith, e 1 (omega arith)) in
    let e2 : x / 4 % 2 ≡ y / 4 % 2 = omega (arith, e 2 (omega arith)) in
    let e3 : x / 8 % 2 ≡ y / 8 % 2 = omega (arith, e 3 (omega arith)) in
    let e4 : x / 16 % 2 ≡ y / 16 % 2 = omega (arith, e 4 (omega arith)) in
    let e5 : x / 32 % 2 ≡ y / 32 % 2 = omega (arith, e 5 (omega arith)) in
    let e6 : x / 64 % 2 ≡ y / 64 % 2 = omega (arith, e 6 (omega arith)) in
    let e7 : x / 128 % 2 ≡ y / 128 % 2 = omega (arith, e 7 (omega arith)) in
    let f8 : x / 256 ≡ y / 256 = omega (arith, p, q) in
    let f7 : x / 128 ≡ y / 128 = omega (arith, e7, f8) in
    let f6 : x / 64 ≡ y / 64 = omega (arith, e6, f7) in
    let f5 : x / 32 ≡ y / 32 = omega (arith, e5, f6) in
    let f4 : x / 16 ≡ y / 16 = omega (arith, e4, f5) in
    let f3 : x / 8 ≡ y / 8 = omega (arith, e3, f4) in
    let f2 : x / 4 ≡ y / 4 = omega (arith, e2, f3) in
    let f1 : x / 2 ≡ y / 2 = omega (arith, e1, f2) in
    let f0 : x / 1 ≡ y / 1 = omega (arith, e0, f1) in
    omega (arith, f0)
