-- Numbers by the bits of their words and by digits of four bits, from the highest place down.
use Rattle.std.proofs.Common.{◌≡◌, ℕ, zero, suc, ◌+◌, ◌*◌, ◌/◌, ◌%◌, ◌^◌, ◌<◌, List, length, slice_index, ap, subst, sym, ◌∙◌, arith}
use Rattle.std.proofs.Math.Nat.{div-div-eq-div-mul, div-eq_of_lt, pow-suc}
use Rattle.std.proofs.lemmas.Nat.{pow-add}
use Rattle.ciphers.specs.X25519.Bytes.{value}
use Rattle.ciphers.specs.X25519.Values.{one_byte_more, value_below}
use Rattle.ciphers.specs.declared.ed25519.scalar.Scalar.{Scalar}
use Rattle.ciphers.specs.Ed25519.Comb.{bit_at}
use Rattle.ciphers.specs.Ed25519.Scalar.{number}
use Rattle.ciphers.specs.Ed25519.Windows.{digit_at}

-- what four bits of the words add up to
abbrev pub weight : (a b c d : ℕ) → ℕ
weight a b c d = a + b * 2 ^ 64 + c * 2 ^ 128 + d * 2 ^ 192

-- the bits of the words from a place on
abbrev pub from_place : Scalar → ℕ → ℕ
from_place s place = weight (s.a / 2 ^ place) (s.b / 2 ^ place) (s.c / 2 ^ place) (s.d / 2 ^ place)

pub record AreWords (s : Scalar) : Type 0 where
  pub a : s.a < 2 ^ 64
  pub b : s.b < 2 ^ 64
  pub c : s.c < 2 ^ 64
  pub d : s.d < 2 ^ 64

one_bit : (w place : ℕ) → w / 2 ^ place ≡ 2 * (w / 2 ^ suc place) + bit_at w place
one_bit w place =
    let half : w / 2 ^ suc place ≡ w / 2 ^ place / 2 = ap (λ (k : ℕ). w / k) (pow-suc 2 place) ∙ sym (div-div-eq-div-mul w (2 ^ place) 2) in
    omega (arith, half)

pub one_place : (s : Scalar) (place : ℕ)
    → from_place s place
    ≡ from_place s (suc place) + from_place s (suc place)
    + weight (bit_at s.a place) (bit_at s.b place) (bit_at s.c place) (bit_at s.d place)
one_place s place = omega (arith, one_bit s.a place, one_bit s.b place, one_bit s.c place, one_bit s.d place)

pub no_place : (s : Scalar) → AreWords s → from_place s 64 ≡ 0
no_place s w = omega (arith, w.a, w.b, w.c, w.d)

pub all_places : (s : Scalar) → from_place s 0 ≡ number s
all_places s = omega arith

-- the digits of four bits from a place on
abbrev pub from_digit : List ℕ → ℕ → ℕ
from_digit bytes place = value bytes / 2 ^ (4 * place)

low_digit : (x y byte : ℕ) → x ≡ 256 * y + byte → x ≡ 16 * (x / 16) + byte % 16
low_digit x y byte e = omega arith

high_digit : (x y byte : ℕ) → x ≡ 256 * y + byte → byte < 256 → x / 16 ≡ 16 * y + byte / 16 % 16
high_digit x y byte e h = omega arith

half_byte : (n k : ℕ) → n / 2 ^ (8 * k + 4) ≡ n / 2 ^ (8 * k) / 16
half_byte n k = ap (λ (i : ℕ). n / i) (pow-add 2 (8 * k) 4) ∙ sym (div-div-eq-div-mul n (2 ^ (8 * k)) 16)

digit_of_byte : (bytes : List ℕ) (k half : ℕ) → half < 2 → ((i : ℕ) → slice_index bytes i < 256)
    → from_digit bytes (2 * k + half) ≡ 16 * from_digit bytes (suc (2 * k + half)) + slice_index bytes k / 2 ^ (4 * half) % 16
digit_of_byte bytes k zero h f =
    let here : 4 * (2 * k + 0) ≡ 8 * k = omega arith in
    let next : 4 * suc (2 * k + 0) ≡ 8 * k + 4 = omega arith in
    rw (here, next, half_byte (value bytes) k)
    (low_digit (value bytes / 2 ^ (8 * k)) (value bytes / 2 ^ (8 * suc k)) (slice_index bytes k) (one_byte_more bytes k f) ∙ omega arith)
digit_of_byte bytes k (suc zero) h f =
    let here : 4 * (2 * k + 1) ≡ 8 * k + 4 = omega arith in
    let next : 4 * suc (2 * k + 1) ≡ 8 * suc k = omega arith in
    rw (here, next, half_byte (value bytes) k)
    (high_digit (value bytes / 2 ^ (8 * k)) (value bytes / 2 ^ (8 * suc k)) (slice_index bytes k) (one_byte_more bytes k f) (f k))
digit_of_byte bytes k (suc (suc n)) h f = absurd (omega arith)

pub one_digit : (bytes : List ℕ) (place : ℕ) → ((i : ℕ) → slice_index bytes i < 256)
    → from_digit bytes place ≡ 16 * from_digit bytes (suc place) + digit_at bytes place
one_digit bytes place f =
    let parts : 2 * (place / 2) + place % 2 ≡ place = omega arith in
    subst (λ (k : ℕ). from_digit bytes k ≡ 16 * from_digit bytes (suc k) + digit_at bytes place) parts
    (digit_of_byte bytes (place / 2) (place % 2) (omega arith) f)

pub no_digit : (bytes : List ℕ) → length bytes ≡ 32 → ((i : ℕ) → slice_index bytes i < 256) → from_digit bytes 64 ≡ 0
no_digit bytes e f =
    let below : value bytes < 2 ^ (8 * length bytes) = value_below bytes f in
    div-eq_of_lt (rw e at below)

pub all_digits : (bytes : List ℕ) → from_digit bytes 0 ≡ value bytes
all_digits bytes = omega arith
