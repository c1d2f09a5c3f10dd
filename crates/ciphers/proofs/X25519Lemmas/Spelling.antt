-- An element and its bytes.
use Rattle.std.proofs.Common.{◌≡◌, ℕ, ◌+◌, ◌*◌, ◌/◌, ◌%◌, ◌<◌, ◌^◌, ◌++◌, List, length, bit_or, refl, ap, sym, ◌∙◌, arith}
use Rattle.std.proofs.lemmas.Nat.{and_comm, or_disjoint}
use Rattle.std.specs.Int.{w64, to_le_bytes}
use Rattle.std.specs.Int.Bits.{and_shifted}
use Rattle.ciphers.specs.declared.x25519.field.Element.{Element}
use Rattle.ciphers.specs.X25519.Field.{AreBelow, number, residue}
use Rattle.ciphers.specs.X25519.Bytes.{bytes_of, element_of, frozen, le_bytes, up, value, word_of}
use Rattle.ciphers.specs.X25519.Values.{four_words}

-- a word of some low bits, and bits shifted after them
with_low : (low high k : ℕ) → low < 2 ^ k → bit_or low (high * 2 ^ k) ≡ low + high * 2 ^ k
with_low low high k h = or_disjoint low (high * 2 ^ k) (and_comm low (high * 2 ^ k) ∙ and_shifted high k low h)

word_a : (a b c d e : ℕ) → a < 2 ^ 51 → (a + b * 2 ^ 51 + c * 2 ^ 102 + d * 2 ^ 153 + e * 2 ^ 204) % 2 ^ 64 ≡ bit_or a (up b 51)
word_a a b c d e h =
    let cut : up b 51 ≡ b % 2 ^ 13 * 2 ^ 51 = omega arith in
    sym (ap (bit_or a) cut ∙ with_low a (b % 2 ^ 13) 51 h ∙ omega arith)

word_b : (a b c d e : ℕ) → a < 2 ^ 51 → b < 2 ^ 51 → (a + b * 2 ^ 51 + c * 2 ^ 102 + d * 2 ^ 153 + e * 2 ^ 204) / 2 ^ 64 % 2 ^ 64 ≡ bit_or (b / 2 ^ 13) (up c 38)
word_b a b c d e h i =
    let cut : up c 38 ≡ c % 2 ^ 26 * 2 ^ 38 = omega arith in
    sym (ap (bit_or (b / 2 ^ 13)) cut ∙ with_low (b / 2 ^ 13) (c % 2 ^ 26) 38 (omega arith) ∙ omega arith)

word_c : (a b c d e : ℕ) → a < 2 ^ 51 → b < 2 ^ 51 → c < 2 ^ 51 → (a + b * 2 ^ 51 + c * 2 ^ 102 + d * 2 ^ 153 + e * 2 ^ 204) / 2 ^ 128 % 2 ^ 64 ≡ bit_or (c / 2 ^ 26) (up d 25)
word_c a b c d e h i j =
    let cut : up d 25 ≡ d % 2 ^ 39 * 2 ^ 25 = omega arith in
    sym (ap (bit_or (c / 2 ^ 26)) cut ∙ with_low (c / 2 ^ 26) (d % 2 ^ 39) 25 (omega arith) ∙ omega arith)

word_d : (a b c d e : ℕ) → a < 2 ^ 51 → b < 2 ^ 51 → c < 2 ^ 51 → d < 2 ^ 51 → e < 2 ^ 51 → (a + b * 2 ^ 51 + c * 2 ^ 102 + d * 2 ^ 153 + e * 2 ^ 204) / 2 ^ 192 % 2 ^ 64 ≡ bit_or (d / 2 ^ 39) (up e 12)
word_d a b c d e h i j k l =
    let cut : up e 12 ≡ e * 2 ^ 12 = omega arith in
    sym (ap (bit_or (d / 2 ^ 39)) cut ∙ with_low (d / 2 ^ 39) e 12 (omega arith) ∙ omega arith)

spelled : (t : Element) → AreBelow (2 ^ 51) t → le_bytes (number t) ≡ to_le_bytes w64 (bit_or t.a (up t.b 51)) ++ (to_le_bytes w64 (bit_or (t.b / 2 ^ 13) (up t.c 38)) ++ (to_le_bytes w64 (bit_or (t.c / 2 ^ 26) (up t.d 25)) ++ to_le_bytes w64 (bit_or (t.d / 2 ^ 39) (up t.e 12))))
unfolding le_bytes
spelled t h =
    rw (word_a t.a t.b t.c t.d t.e h.a, word_b t.a t.b t.c t.d t.e h.a h.b, word_c t.a t.b t.c t.d t.e h.a h.b h.c, word_d t.a t.b t.c t.d t.e h.a h.b h.c h.d h.e) refl

pub bytes_of_residue : (x : Element) → number (frozen x) ≡ residue x → AreBelow (2 ^ 51) (frozen x) → bytes_of x ≡ le_bytes (residue x)
unfolding bytes_of
bytes_of_residue x e h = sym (ap le_bytes (sym e) ∙ spelled (frozen x) h)

-- the 255 low bits of four words
limbs_of : (v w x y : ℕ) → v < 2 ^ 64 → w < 2 ^ 64 → x < 2 ^ 64 → y < 2 ^ 64
    → v % 2 ^ 51 + bit_or (v / 2 ^ 51) (up w 13) % 2 ^ 51 * 2 ^ 51 + bit_or (w / 2 ^ 38) (up x 26) % 2 ^ 51 * 2 ^ 102 + bit_or (x / 2 ^ 25) (up y 39) % 2 ^ 51 * 2 ^ 153 + y / 2 ^ 12 % 2 ^ 51 * 2 ^ 204
    ≡ (v + w * 2 ^ 64 + x * 2 ^ 128 + y * 2 ^ 192) % 2 ^ 255
limbs_of v w x y a b c d =
    let p : up w 13 ≡ w % 2 ^ 51 * 2 ^ 13 = omega arith in
    let q : up x 26 ≡ x % 2 ^ 38 * 2 ^ 26 = omega arith in
    let r : up y 39 ≡ y % 2 ^ 25 * 2 ^ 39 = omega arith in
    let i = with_low (v / 2 ^ 51) (w % 2 ^ 51) 13 (omega arith) in
    let j = with_low (w / 2 ^ 38) (x % 2 ^ 38) 26 (omega arith) in
    let k = with_low (x / 2 ^ 25) (y % 2 ^ 25) 39 (omega arith) in
    rw (p, q, r, i, j, k) (omega arith)

pub element_number : (bytes : List ℕ) → length bytes ≡ 32 → word_of bytes 0 < 2 ^ 64 → word_of bytes 8 < 2 ^ 64 → word_of bytes 16 < 2 ^ 64 → word_of bytes 24 < 2 ^ 64
    → number (element_of bytes) ≡ value bytes % 2 ^ 255
unfolding element_of
element_number bytes e a b c d =
    limbs_of (word_of bytes 0) (word_of bytes 8) (word_of bytes 16) (word_of bytes 24) a b c d ∙ ap (λ (n : ℕ). n % 2 ^ 255) (four_words bytes e)
