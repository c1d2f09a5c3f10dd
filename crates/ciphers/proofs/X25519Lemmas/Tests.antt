-- What tests of the bytes of elements tell of the numbers.
use Rattle.std.proofs.Common.{◌≡◌, ◌≢◌, ℕ, ◌+◌, ◌*◌, ◌/◌, ◌%◌, ◌<◌, ◌^◌, ◌⊎◌, inl, inr, Bool, true, false, nat_eq, List, ◌++◌, refl, ap, sym, ◌∙◌, arith, slice_index}
use Rattle.std.proofs.lemmas.Bool.Decides.{eqb_tells}
use Rattle.std.proofs.lemmas.Cmp.{nat_list_eq_equiv}
use Rattle.std.specs.Cmp.Lexicographic.{pointwise, same_text}
use Rattle.std.specs.Int.{w64, to_le_bytes}
use Rattle.ciphers.specs.declared.x25519.field.Element.{Element}
use Rattle.ciphers.specs.X25519.Field.{prime, residue}
use Rattle.ciphers.specs.X25519.Bytes.{le_bytes, value}

word_in_front : (w : ℕ) (rest : List ℕ) → w < 2 ^ 64 → value (to_le_bytes w64 w ++ rest) ≡ w + 2 ^ 64 * value rest
unfolding value
word_in_front w rest h = omega arith

last_word : (w : ℕ) → w < 2 ^ 64 → value (to_le_bytes w64 w) ≡ w
unfolding value
last_word w h = omega arith

pub value_of_bytes : (n : ℕ) → n < 2 ^ 256 → value (le_bytes n) ≡ n
unfolding le_bytes
value_of_bytes n h =
    let a : ℕ = n % 2 ^ 64 in
    let b : ℕ = n / 2 ^ 64 % 2 ^ 64 in
    let c : ℕ = n / 2 ^ 128 % 2 ^ 64 in
    let d : ℕ = n / 2 ^ 192 % 2 ^ 64 in
    let x : List ℕ = to_le_bytes w64 d in
    let y : List ℕ = to_le_bytes w64 c ++ x in
    let z : List ℕ = to_le_bytes w64 b ++ y in
    omega (arith, word_in_front a z (omega arith), word_in_front b y (omega arith), word_in_front c x (omega arith), last_word d (omega arith))

other_bytes : (m n : ℕ) → m < 2 ^ 256 → n < 2 ^ 256 → (b : Bool) → b ≡ pointwise nat_eq (le_bytes m) (le_bytes n) → m ≢ n → b ≡ false
other_bytes m n h i false e differ = refl
other_bytes m n h i true e differ = absurd (differ (sym (value_of_bytes m h) ∙ ap value (same_text (le_bytes m) (le_bytes n) e) ∙ value_of_bytes n i))

pub same_bytes : (m n : ℕ) → m < 2 ^ 256 → n < 2 ^ 256 → pointwise nat_eq (le_bytes m) (le_bytes n) ≡ nat_eq m n
same_bytes m n h i = by_numbers (eqb_tells m n)
  where
    by_numbers : ((nat_eq m n ≡ true) × (m ≡ n)) ⊎ ((nat_eq m n ≡ false) × (m ≢ n)) → pointwise nat_eq (le_bytes m) (le_bytes n) ≡ nat_eq m n
    by_numbers (inl t) = ap (λ (k : ℕ). pointwise nat_eq (le_bytes m) (le_bytes k)) (sym t.1) ∙ nat_list_eq_equiv.refl (le_bytes m) ∙ sym t.0
    by_numbers (inr t) = other_bytes m n h i (pointwise nat_eq (le_bytes m) (le_bytes n)) refl t.1 ∙ sym t.0

pub residue_below : (x : Element) → residue x < prime
unfolding residue
residue_below x = omega arith

pub same_elements : (x y : Element) (a b : List ℕ) → a ≡ le_bytes (residue x) → b ≡ le_bytes (residue y) → pointwise nat_eq a b ≡ nat_eq (residue x) (residue y)
same_elements x y a b p q =
    ap (λ (l : List ℕ). pointwise nat_eq l b) p ∙ ap (λ (l : List ℕ). pointwise nat_eq (le_bytes (residue x)) l) q
    ∙ same_bytes (residue x) (residue y) (omega (arith, residue_below x)) (omega (arith, residue_below y))

pub low_bit : (n : ℕ) (a : List ℕ) → a ≡ le_bytes n → slice_index a 0 % 2 ≡ n % 2
unfolding le_bytes
low_bit n a p = rw p (omega arith)
