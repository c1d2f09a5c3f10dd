-- The number that bytes spell, by its bits and by its words.
use Rattle.std.proofs.Common.{◌≡◌, ℕ, zero, suc, ◌+◌, ◌-◌, ◌*◌, ◌/◌, ◌%◌, ◌≤◌, ◌<◌, ◌^◌, List, [], ◌∷◌, length, drop, slice_index, refl, ap, sym, ◌∙◌, arith}
use Rattle.std.proofs.Math.Nat.{div-div-eq-div-mul, pow-suc, zero-div}
use Rattle.std.proofs.Math.ListN.{drop_of_length-le}
use Rattle.std.proofs.lemmas.Nat.{pow-add}
use Rattle.ciphers.specs.X25519.Bytes.{bit_of, value, word_of}

-- ---- bits

low_place : (byte : ℕ) (rest : List ℕ) (t : ℕ) → t < 8 → bit_of (byte ∷ rest) t ≡ byte / 2 ^ t % 2
low_place byte rest t h =
    let q : t / 8 ≡ 0 = omega arith in
    let r : t % 8 ≡ t = omega arith in
    rw (q, r) refl

high_place : (byte : ℕ) (rest : List ℕ) (t : ℕ) → bit_of (byte ∷ rest) (8 + t) ≡ bit_of rest t
high_place byte rest t =
    let q : (8 + t) / 8 ≡ suc (t / 8) = omega arith in
    let r : (8 + t) % 8 ≡ t % 8 = omega arith in
    rw (q, r) refl

low_bit : (byte n t : ℕ) → t < 8 → byte / 2 ^ t % 2 ≡ (byte + 256 * n) / 2 ^ t % 2
low_bit byte n zero h = omega arith
low_bit byte n (suc zero) h = omega arith
low_bit byte n (suc (suc zero)) h = omega arith
low_bit byte n (suc (suc (suc zero))) h = omega arith
low_bit byte n (suc (suc (suc (suc zero)))) h = omega arith
low_bit byte n (suc (suc (suc (suc (suc zero))))) h = omega arith
low_bit byte n (suc (suc (suc (suc (suc (suc zero)))))) h = omega arith
low_bit byte n (suc (suc (suc (suc (suc (suc (suc zero))))))) h = omega arith
low_bit byte n (suc (suc (suc (suc (suc (suc (suc (suc t)))))))) h = absurd (omega arith)

high_part : (byte n t : ℕ) → byte < 256 → (byte + 256 * n) / 2 ^ (8 + t) ≡ n / 2 ^ t
high_part byte n t b =
    ap (λ (k : ℕ). (byte + 256 * n) / k) (pow-add 2 8 t)
    ∙ sym (div-div-eq-div-mul (byte + 256 * n) 256 (2 ^ t))
    ∙ ap (λ (k : ℕ). k / 2 ^ t) (omega arith)

bit_following : (byte : ℕ) (rest : List ℕ) (t : ℕ) → byte < 256 → ((k : ℕ) → bit_of rest k ≡ value rest / 2 ^ k % 2) → (q : ℕ) → t / 8 ≡ q
    → bit_of (byte ∷ rest) t ≡ (byte + 256 * value rest) / 2 ^ t % 2
bit_following byte rest t b f zero q = low_place byte rest t (omega arith) ∙ low_bit byte (value rest) t (omega arith)
bit_following byte rest t b f (suc n) q =
    let e : t ≡ 8 + (t - 8) = omega arith in
    ap (bit_of (byte ∷ rest)) e
    ∙ high_place byte rest (t - 8)
    ∙ f (t - 8)
    ∙ ap (λ (k : ℕ). k % 2) (sym (high_part byte (value rest) (t - 8) b))
    ∙ ap (λ (k : ℕ). (byte + 256 * value rest) / 2 ^ k % 2) (sym e)

pub bit_of_value : (bytes : List ℕ) (t : ℕ) → ((i : ℕ) → slice_index bytes i < 256) → bit_of bytes t ≡ value bytes / 2 ^ t % 2
unfolding value
bit_of_value [] t f = rw (zero-div, zero-div) refl
bit_of_value (byte ∷ rest) t f = bit_following byte rest t (f 0) (λ k. bit_of_value rest k (λ i. f (suc i))) (t / 8) refl

pub value_below : (bytes : List ℕ) → ((i : ℕ) → slice_index bytes i < 256) → value bytes < 2 ^ (8 * length bytes)
unfolding value
value_below [] f = omega arith
value_below (byte ∷ rest) f =
    let e : 2 ^ (8 * suc (length rest)) ≡ 256 * 2 ^ (8 * length rest) = ap (λ (k : ℕ). 2 ^ k) (omega arith) ∙ pow-add 2 8 (8 * length rest) in
    rw e (omega (arith, value_below rest (λ i. f (suc i)), f 0))

-- the bits from a place on are those above it and one more
pub one_bit_more : (bytes : List ℕ) (t : ℕ) → ((i : ℕ) → slice_index bytes i < 256) → value bytes / 2 ^ t ≡ 2 * (value bytes / 2 ^ suc t) + bit_of bytes t
one_bit_more bytes t f =
    let half : value bytes / 2 ^ suc t ≡ value bytes / 2 ^ t / 2 = ap (λ (k : ℕ). value bytes / k) (pow-suc 2 t) ∙ sym (div-div-eq-div-mul (value bytes) (2 ^ t) 2) in
    omega (arith, bit_of_value bytes t f, half)

-- the bytes from a place on are those above it and one more
pub one_byte_more : (bytes : List ℕ) (k : ℕ) → ((i : ℕ) → slice_index bytes i < 256) → value bytes / 2 ^ (8 * k) ≡ 256 * (value bytes / 2 ^ (8 * suc k)) + slice_index bytes k
unfolding value
one_byte_more [] k f = rw (zero-div, zero-div) refl
one_byte_more (byte ∷ rest) zero f = let fits = f 0 in omega arith
one_byte_more (byte ∷ rest) (suc k) f =
    let n : ℕ = value rest in
    let here : 8 * suc k ≡ 8 + 8 * k = omega arith in
    let next : 8 * suc (suc k) ≡ 8 + 8 * suc k = omega arith in
    ap (λ (t : ℕ). (byte + 256 * n) / 2 ^ t) here
    ∙ high_part byte n (8 * k) (f 0)
    ∙ one_byte_more rest k (λ i. f (suc i))
    ∙ ap (λ (x : ℕ). 256 * x + slice_index rest k) (sym (ap (λ (t : ℕ). (byte + 256 * n) / 2 ^ t) next ∙ high_part byte n (8 * suc k) (f 0)))

-- ---- words

-- the number that the bytes from a place on spell
drop_value : (bytes : List ℕ) (i : ℕ) → value (drop i bytes) ≡ slice_index bytes i + 256 * value (drop (suc i) bytes)
unfolding value
drop_value [] zero = refl
drop_value [] (suc i) = refl
drop_value (byte ∷ rest) zero = refl
drop_value (byte ∷ rest) (suc i) = drop_value rest i

no_more : (bytes : List ℕ) → length bytes ≡ 32 → value (drop 32 bytes) ≡ 0
unfolding value
no_more bytes e = let past : length bytes ≤ 32 = omega arith in rw (drop_of_length-le bytes past) refl

pub four_words : (bytes : List ℕ) → length bytes ≡ 32
    → word_of bytes 0 + word_of bytes 8 * 2 ^ 64 + word_of bytes 16 * 2 ^ 128 + word_of bytes 24 * 2 ^ 192 ≡ value bytes
four_words bytes e =
    let v = drop_value bytes in
    let a : value bytes ≡ word_of bytes 0 + 2 ^ 64 * value (drop 8 bytes) = omega (arith, v 0, v 1, v 2, v 3, v 4, v 5, v 6, v 7) in
    let b : value (drop 8 bytes) ≡ word_of bytes 8 + 2 ^ 64 * value (drop 16 bytes) = omega (arith, v 8, v 9, v 10, v 11, v 12, v 13, v 14, v 15) in
    let c : value (drop 16 bytes) ≡ word_of bytes 16 + 2 ^ 64 * value (drop 24 bytes) = omega (arith, v 16, v 17, v 18, v 19, v 20, v 21, v 22, v 23) in
    let d : value (drop 24 bytes) ≡ word_of bytes 24 + 2 ^ 64 * value (drop 32 bytes) = omega (arith, v 24, v 25, v 26, v 27, v 28, v 29, v 30, v 31) in
    omega (arith, a, b, c, d, no_more bytes e)
