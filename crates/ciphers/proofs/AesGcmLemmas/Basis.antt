-- A table from the columns of single bits: the others are sums of these.
use Rattle.std.proofs.Common.{◌≡◌, ℕ, zero, suc, ◌+◌, ◌*◌, ◌/◌, ◌%◌, ◌-◌, ◌^◌, ◌<◌, ◌≤◌, Bool, true, false, cond, eqb, List, length, slice_index, bit_xor, refl, sym, ap, ap₂, ◌∙◌, inl, inr, arith}
use Rattle.std.proofs.lemmas.Bool.{cases_lt}
use Rattle.std.proofs.lemmas.Nat.{xor_lt}
use Rattle.std.proofs.Math.ListN.{get_or-eq_default}
use Rattle.ciphers.specs.declared.aes_gcm.ghash.Element.{Element}
use Rattle.ciphers.specs.AesGcm.Ghash.{product}
use Rattle.ciphers.specs.AesGcm.Streams.{sum_of}
use Rattle.ciphers.specs.AesGcm.Tables.{IsNibbles, IsWord, at, bit_column, bytes_of, element_of, many, nibble, part, place, plus, sum_at}
use Rattle.ciphers.proofs.AesGcmLemmas.Blocks.{element_word, element_xor}
use Rattle.ciphers.proofs.AesGcmLemmas.Chain.{many_adds, many_none, plus_word, product_word}
use Rattle.ciphers.proofs.AesGcmLemmas.StreamLanes.{below_16}
use Rattle.ciphers.proofs.AesGcmLemmas.Tables.{element_below_16, element_of_bytes, high_nibble, low_nibble, many_more, sum_lt, table_from_nibbles}

-- the first number of a sum in another form
pub sum_at_same : (f : ℕ → ℕ) (n x : ℕ) → x ≡ f 0 → bit_xor (bit_xor (part n 0 x) (part n 1 (f 1))) (bit_xor (part n 2 (f 2)) (part n 3 (f 3))) ≡ sum_at f n
sum_at_same f n x e = ap (λ (y : ℕ). bit_xor (bit_xor (part n 0 y) (part n 1 (f 1))) (bit_xor (part n 2 (f 2)) (part n 3 (f 3)))) e

sums_same : (f g : ℕ → ℕ) (n : ℕ) → ((b : ℕ) → b < 4 → f b ≡ g b) → sum_at f n ≡ sum_at g n
sums_same f g n e = ap₂ bit_xor (ap₂ bit_xor (ap (part n 0) (e 0 (omega arith))) (ap (part n 1) (e 1 (omega arith)))) (ap₂ bit_xor (ap (part n 2) (e 2 (omega arith))) (ap (part n 3) (e 3 (omega arith))))

-- the column of bit b at the same place
abbrev pub base : ℕ → ℕ → ℕ
base m b = 16 * (m / 16) + 2 ^ b

-- The first n columns are sums of the bytes that f has of the columns of bits.
abbrev pub Spread : (ℕ → ℕ → ℕ) → List ℕ → ℕ → Type 0
Spread f t n = (m j : ℕ) → m < n → j < 16 → slice_index t (place m j) ≡ sum_at (λ (b : ℕ). f (base m b) j) (m % 16)

-- four places more
pub spread_more : (f : ℕ → ℕ → ℕ) (t u bits : List ℕ) (g : ℕ) → Spread f t (64 * g)
    → ((l j : ℕ) → l < 16 → j < 16 → slice_index bits (16 * j + l) ≡ f (bit_column g l) j)
    → ((s l : ℕ) → s < 64 → l < 16 → slice_index u (1024 * g + 16 * s + l) ≡ sum_at (λ (b : ℕ). slice_index bits (16 * (s % 16) + 4 * (s / 16) + b)) l)
    → ((i : ℕ) → i < 1024 * g → slice_index u i ≡ slice_index t i)
    → Spread f u (64 * (g + 1))
spread_more f t u bits g done made here before m j h lt = elim (cases_lt m (64 * g)) [
  | inl below ↦ before (place m j) (omega (arith, below, lt)) ∙ done m j below lt
  | inr above ↦
      let q : ℕ = m / 16 - 4 * g in
      let s : ℕ = 16 * q + j in
      let l : ℕ = m % 16 in
      let at_place : place m j ≡ 1024 * g + 16 * s + l = omega (arith, above) in
      ap (slice_index u) at_place ∙ here s l (omega (arith, h, lt, above)) (omega arith)
      ∙ sums_same (λ (b : ℕ). slice_index bits (16 * (s % 16) + 4 * (s / 16) + b)) (λ (b : ℕ). f (base m b) j) l
      (λ b bh.
      let there : 16 * (s % 16) + 4 * (s / 16) + b ≡ 16 * j + (4 * q + b) = omega (arith, lt) in
      let quarter : (4 * q + b) / 4 ≡ q = omega (arith, bh) in
      let rest : (4 * q + b) % 4 ≡ b = omega (arith, bh) in
      let group : 64 * g + 16 * q ≡ 16 * (m / 16) = omega (arith, above) in
      let column : bit_column g (4 * q + b) ≡ base m b = ap₂ (λ (x y : ℕ). 64 * g + 16 * x + 2 ^ y) quarter rest ∙ ap (λ (x : ℕ). x + 2 ^ b) group in
      ap (slice_index bits) there ∙ made (4 * q + b) j (omega (arith, h, bh, above)) lt ∙ ap (λ (c : ℕ). f c j) column)
]

-- ---- sums of columns

part_lt : (n b x : ℕ) → x < 2 ^ 8 → part n b x < 2 ^ 8
part_lt n b x h = go (eqb (n / 2 ^ b % 2) 1)
  where
    go : (t : Bool) → cond t x 0 < 2 ^ 8
    go true = h
    go false = omega arith

nibble_lt : (n m : ℕ) → nibble n m < 2 ^ 8
nibble_lt n m = go (eqb m (n / 32)) (eqb (n / 16 % 2) 0)
  where
    go : (t u : Bool) → cond t (cond u (n % 16) (16 * (n % 16))) 0 < 2 ^ 8
    go true true = omega arith
    go true false = omega arith
    go false u = omega arith

pub power_lt : (b : ℕ) → b < 4 → 2 ^ b < 16
power_lt zero h = omega arith
power_lt (suc zero) h = omega arith
power_lt (suc (suc zero)) h = omega arith
power_lt (suc (suc (suc zero))) h = omega arith
power_lt (suc (suc (suc (suc b)))) h = absurd (omega (arith, h))

low_bits : (t : Bool) (v : ℕ) → v < 16 → sum_at (λ (b : ℕ). cond t (2 ^ b) 0) v ≡ cond t v 0
low_bits true = below_16 (λ (v : ℕ). sum_at (λ (b : ℕ). 2 ^ b) v ≡ v) refl refl refl refl refl refl refl refl refl refl refl refl refl refl refl refl
low_bits false = below_16 (λ (v : ℕ). sum_at (λ (b : ℕ). 0) v ≡ 0) refl refl refl refl refl refl refl refl refl refl refl refl refl refl refl refl

high_bits : (t : Bool) (v : ℕ) → v < 16 → sum_at (λ (b : ℕ). cond t (16 * 2 ^ b) 0) v ≡ cond t (16 * v) 0
high_bits true = below_16 (λ (v : ℕ). sum_at (λ (b : ℕ). 16 * 2 ^ b) v ≡ 16 * v) refl refl refl refl refl refl refl refl refl refl refl refl refl refl refl refl
high_bits false = below_16 (λ (v : ℕ). sum_at (λ (b : ℕ). 0) v ≡ 0) refl refl refl refl refl refl refl refl refl refl refl refl refl refl refl refl

low_at : (p w i : ℕ) → w < 16 → p % 2 < 1 → nibble (16 * p + w) i ≡ at (p / 2) w i
low_at p w i h even =
    let e : 16 * p + w ≡ 32 * (p / 2) + w = omega (arith, even) in
    ap (λ (n : ℕ). nibble n i) e ∙ ap (λ (f : ℕ → ℕ). f i) (low_nibble (p / 2) w h)

high_at : (p w i : ℕ) → w < 16 → 1 ≤ p % 2 → nibble (16 * p + w) i ≡ at (p / 2) (16 * w) i
high_at p w i h odd =
    let e : 16 * p + w ≡ 32 * (p / 2) + 16 + w = omega (arith, odd) in
    ap (λ (n : ℕ). nibble n i) e ∙ ap (λ (f : ℕ → ℕ). f i) (high_nibble (p / 2) w h)

-- A nibble's block is the sum of its bits' blocks.
bits_of_nibble : (p v i : ℕ) → v < 16 → sum_at (λ (b : ℕ). nibble (16 * p + 2 ^ b) i) v ≡ nibble (16 * p + v) i
bits_of_nibble p v i h = elim (cases_lt (p % 2) 1) [
  | inl even ↦
      sums_same (λ (b : ℕ). nibble (16 * p + 2 ^ b) i) (λ (b : ℕ). at (p / 2) (2 ^ b) i) v (λ b bh. low_at p (2 ^ b) i (power_lt b bh) even)
      ∙ low_bits (eqb i (p / 2)) v h ∙ sym (low_at p v i h even)
  | inr odd ↦
      sums_same (λ (b : ℕ). nibble (16 * p + 2 ^ b) i) (λ (b : ℕ). at (p / 2) (16 * 2 ^ b) i) v (λ b bh. high_at p (2 ^ b) i (power_lt b bh) odd)
      ∙ high_bits (eqb i (p / 2)) v h ∙ sym (high_at p v i h odd)
]

-- ---- elements

element_sum : (g : ℕ → ℕ → ℕ) (v : ℕ) → ((b j : ℕ) → g b j < 2 ^ 8) → element_of (λ (j : ℕ). sum_at (λ (b : ℕ). g b j) v)
    ≡ plus (plus (element_of (λ (j : ℕ). part v 0 (g 0 j))) (element_of (λ (j : ℕ). part v 1 (g 1 j)))) (plus (element_of (λ (j : ℕ). part v 2 (g 2 j))) (element_of (λ (j : ℕ). part v 3 (g 3 j))))
element_sum g v p =
    let f : ℕ → ℕ → ℕ = λ (b j : ℕ). part v b (g b j) in
    let lt : (b j : ℕ) → f b j < 2 ^ 8 = λ b j. part_lt v b (g b j) (p b j) in
    element_xor (λ (j : ℕ). bit_xor (f 0 j) (f 1 j)) (λ (j : ℕ). bit_xor (f 2 j) (f 3 j)) (λ j. xor_lt 8 (f 0 j) (f 1 j) (lt 0 j) (lt 1 j)) (λ j. xor_lt 8 (f 2 j) (f 3 j) (lt 2 j) (lt 3 j))
    ∙ ap₂ plus (element_xor (f 0) (f 1) (lt 0) (lt 1)) (element_xor (f 2) (f 3) (lt 2) (lt 3))

part_many : (t : Bool) (q : ℕ) (k : Element) (f h : ℕ → ℕ) → element_of f ≡ many q k (element_of h) → element_of (λ (j : ℕ). cond t (f j) 0) ≡ many q k (element_of (λ (j : ℕ). cond t (h j) 0))
part_many true q k f h e = e
part_many false q k f h e = sym (many_none q k)

four_many : (q : ℕ) (k a b c d : Element) → IsWord k → IsWord a → IsWord b → IsWord c → IsWord d
    → plus (plus (many q k a) (many q k b)) (plus (many q k c) (many q k d)) ≡ many q k (plus (plus a b) (plus c d))
four_many q k a b c d wk wa wb wc wd =
    ap₂ plus (sym (many_adds q k a b wk wa wb)) (sym (many_adds q k c d wk wc wd)) ∙ sym (many_adds q k (plus a b) (plus c d) wk (plus_word a b wa wb) (plus_word c d wc wd))

-- Columns that are sums of those of the bits are those of all nibbles.
spread_is : (q : ℕ) (t : List ℕ) (k : Element) (f : ℕ → ℕ → ℕ) → IsWord k → length t ≡ 8192 → ((c j : ℕ) → f c j < 2 ^ 8)
    → ((c : ℕ) → c < 512 → element_of (f c) ≡ many q k (element_of (nibble c))) → Spread f t 512 → IsNibbles q t k
spread_is q t k f wk long lt e spread = record {
  columns = λ n h.
      let v : ℕ = n % 16 in
      let c : ℕ → ℕ = base n in
      let bits : (b : ℕ) → ℕ → ℕ = λ (b j : ℕ). part v b (nibble (c b) j) in
      let whole : (b : ℕ) → IsWord (element_of (bits b)) = λ b. element_word (bits b) (λ j. part_lt v b (nibble (c b) j) (nibble_lt (c b) j)) in
      let one : (b : ℕ) → b < 4 → element_of (λ (j : ℕ). part v b (f (c b) j)) ≡ many q k (element_of (bits b)) =
      λ b bh. part_many (eqb (v / 2 ^ b % 2) 1) q k (f (c b)) (nibble (c b)) (e (c b) (omega (arith, h, power_lt b bh))) in
      let same : 16 * (n / 16) + v ≡ n = omega arith in
      element_below_16 (λ (j : ℕ). slice_index t (place n j)) (λ (j : ℕ). sum_at (λ (b : ℕ). f (c b) j) v) (λ j jh. spread n j h jh)
      ∙ element_sum (λ (b j : ℕ). f (c b) j) v (λ b j. lt (c b) j)
      ∙ ap₂ plus (ap₂ plus (one 0 (omega arith)) (one 1 (omega arith))) (ap₂ plus (one 2 (omega arith)) (one 3 (omega arith)))
      ∙ four_many q k (element_of (bits 0)) (element_of (bits 1)) (element_of (bits 2)) (element_of (bits 3)) wk (whole 0) (whole 1) (whole 2) (whole 3)
      ∙ ap (many q k)
      (sym (element_sum (λ (b j : ℕ). nibble (c b) j) v (λ b j. nibble_lt (c b) j))
      ∙ element_below_16 (λ (j : ℕ). sum_at (λ (b : ℕ). nibble (c b) j) v) (nibble n) (λ j jh. bits_of_nibble (n / 16) v j (omega arith) ∙ ap (λ (m : ℕ). nibble m j) same));
  long = long;
  key = wk;
}

-- ---- the tables

bytes_lt : (x : Element) (j : ℕ) → slice_index (bytes_of x) j < 2 ^ 8
bytes_lt x j = elim (cases_lt j 16) [
  | inl below ↦ below_16 (λ (j : ℕ). slice_index (bytes_of x) j < 2 ^ 8) (omega arith) (omega arith) (omega arith) (omega arith) (omega arith) (omega arith) (omega arith) (omega arith) (omega arith) (omega arith) (omega arith) (omega arith) (omega arith) (omega arith) (omega arith) (omega arith) j below
  | inr above ↦ let none : slice_index (bytes_of x) j ≡ 0 = get_or-eq_default (bytes_of x) 0 (omega (arith, above)) in omega (arith, none)
]

pub first_spread : (t : List ℕ) (k : Element) → IsWord k → length t ≡ 8192 → Spread (λ (c j : ℕ). slice_index (bytes_of (product (element_of (nibble c)) k)) j) t 512 → IsNibbles 1 t k
unfolding many
first_spread t k wk long spread =
    spread_is 1 t k (λ (c j : ℕ). slice_index (bytes_of (product (element_of (nibble c)) k)) j) wk long (λ c j. bytes_lt (product (element_of (nibble c)) k) j)
    (λ c h. element_of_bytes (product (element_of (nibble c)) k) (product_word (element_of (nibble c)) k wk)) spread

pub double_spread : (q : ℕ) (t u : List ℕ) (k : Element) → ((i : ℕ) → slice_index t i < 2 ^ 8) → IsNibbles q t k → length u ≡ 8192
    → Spread (λ (c j : ℕ). sum_of t (λ (i : ℕ). slice_index t (place c i)) (16 * j) 0 16) u 512 → IsNibbles (q + q) u k
double_spread q t u k p is long spread =
    spread_is (q + q) u k (λ (c j : ℕ). sum_of t (λ (i : ℕ). slice_index t (place c i)) (16 * j) 0 16) is.key long (λ c j. sum_lt t (λ (i : ℕ). slice_index t (place c i)) (16 * j) 16 p)
    (λ c h. (table_from_nibbles q t k p is).map (λ (i : ℕ). slice_index t (place c i)) (λ i. p (place c i)) ∙ ap (many q k) (is.columns c h) ∙ sym (many_more q q k (element_of (nibble c)))) spread
