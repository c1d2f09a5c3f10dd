-- A table of the nibbles' products is a table of all blocks' products.
use Rattle.std.proofs.Common.{◌≡◌, ℕ, zero, suc, ◌+◌, ◌*◌, ◌/◌, ◌%◌, ◌^◌, ◌<◌, ◌≢◌, Bool, true, false, cond, eqb, List, slice_index, bit_xor, refl, sym, ap, ap₂, ◌∙◌, arith}
use Rattle.std.proofs.lemmas.Nat.{xor_comm, xor_lt, from_be_bytes-to_be_bytes_8}
use Rattle.std.specs.Int.Bits.{xor_zero_r}
use lib.Bits.{xor_zero_l, xor_shifted}
use Rattle.ciphers.specs.declared.aes_gcm.ghash.Element.{Element}
use Rattle.ciphers.specs.AesGcm.Ghash.{product}
use Rattle.ciphers.specs.AesGcm.Streams.{sum_of}
use Rattle.ciphers.specs.AesGcm.Tables.{IsNibbles, IsWord, at, bytes_of, element_of, many, nibble, place, plus, word}
use Rattle.ciphers.proofs.AesGcmLemmas.Blocks.{IsTable, element_same, element_word, element_xor}
use Rattle.ciphers.proofs.AesGcmLemmas.Chain.{many_adds, many_none}
use Rattle.ciphers.proofs.AesGcmLemmas.StreamLanes.{below_16}

-- For each byte and each value of its low nibble and of its high one, the table has the bytes of m products, each sixteen places after the one before it.
record AreProducts (m : ℕ) (t : List ℕ) (k : Element) : Type 0 where
  pub low : (i v : ℕ) → i < 16 → v < 16 → element_of (λ (j : ℕ). slice_index t (512 * i + 16 * j + v)) ≡ many m k (element_of (at i v))
  pub high : (i v : ℕ) → i < 16 → v < 16 → element_of (λ (j : ℕ). slice_index t (512 * i + 16 * j + 256 + v)) ≡ many m k (element_of (at i (16 * v)))
  pub bytes : (i : ℕ) → slice_index t i < 2 ^ 8

-- the first n bytes of a block, as the sum of their nibbles
nibbles : (ℕ → ℕ) → ℕ → ℕ → ℕ
nibbles f zero m = 0
nibbles f (suc n) m = bit_xor (nibbles f n m) (bit_xor (at n (f n % 16) m) (at n (16 * (f n / 16)) m))

at_lt : (n v m : ℕ) → v < 2 ^ 8 → at n v m < 2 ^ 8
at_lt n v m h = go (eqb m n)
  where
    go : (t : Bool) → cond t v 0 < 2 ^ 8
    go true = h
    go false = omega arith

nibbles_lt : (f : ℕ → ℕ) (n m : ℕ) → ((i : ℕ) → f i < 2 ^ 8) → nibbles f n m < 2 ^ 8
unfolding nibbles
nibbles_lt f zero m p = omega arith
nibbles_lt f (suc n) m p =
    let l : f n % 16 < 2 ^ 8 = omega arith in
    let h : 16 * (f n / 16) < 2 ^ 8 = omega (arith, p n) in
    xor_lt 8 (nibbles f n m) (bit_xor (at n (f n % 16) m) (at n (16 * (f n / 16)) m)) (nibbles_lt f n m p)
    (xor_lt 8 (at n (f n % 16) m) (at n (16 * (f n / 16)) m) (at_lt n (f n % 16) m l) (at_lt n (16 * (f n / 16)) m h))

joined : (b : ℕ) → bit_xor (b % 16) (16 * (b / 16)) ≡ b
joined b =
    let e : 16 * (b / 16) ≡ b / 16 * 2 ^ 4 = omega arith in
    let small : b % 16 < 2 ^ 4 = omega arith in
    xor_comm (b % 16) (16 * (b / 16)) ∙ ap (λ (n : ℕ). bit_xor n (b % 16)) e ∙ xor_shifted (b / 16) 4 (b % 16) small ∙ omega arith

nibbles_are : (f : ℕ → ℕ) (m : ℕ) → m < 16 → nibbles f 16 m ≡ f m
unfolding nibbles
nibbles_are f = below_16 (λ (m : ℕ). nibbles f 16 m ≡ f m)
    (simp (xor_zero_l, xor_zero_r, joined (f 0)) refl)
    (simp (xor_zero_l, xor_zero_r, joined (f 1)) refl)
    (simp (xor_zero_l, xor_zero_r, joined (f 2)) refl)
    (simp (xor_zero_l, xor_zero_r, joined (f 3)) refl)
    (simp (xor_zero_l, xor_zero_r, joined (f 4)) refl)
    (simp (xor_zero_l, xor_zero_r, joined (f 5)) refl)
    (simp (xor_zero_l, xor_zero_r, joined (f 6)) refl)
    (simp (xor_zero_l, xor_zero_r, joined (f 7)) refl)
    (simp (xor_zero_l, xor_zero_r, joined (f 8)) refl)
    (simp (xor_zero_l, xor_zero_r, joined (f 9)) refl)
    (simp (xor_zero_l, xor_zero_r, joined (f 10)) refl)
    (simp (xor_zero_l, xor_zero_r, joined (f 11)) refl)
    (simp (xor_zero_l, xor_zero_r, joined (f 12)) refl)
    (simp (xor_zero_l, xor_zero_r, joined (f 13)) refl)
    (simp (xor_zero_l, xor_zero_r, joined (f 14)) refl)
    (simp (xor_zero_l, xor_zero_r, joined (f 15)) refl)

word_same : (f g : ℕ → ℕ) → ((i : ℕ) → i < 8 → f i ≡ g i) → word f ≡ word g
word_same f g e = rw (e 0 (omega arith), e 1 (omega arith), e 2 (omega arith), e 3 (omega arith), e 4 (omega arith), e 5 (omega arith), e 6 (omega arith), e 7 (omega arith)) refl

of : ℕ → ℕ → Element
of m n = record { hi = m; lo = n }

element_same_16 : (f g : ℕ → ℕ) → ((i : ℕ) → i < 16 → f i ≡ g i) → element_of f ≡ element_of g
unfolding of
element_same_16 f g e = ap₂ of (word_same f g (λ i h. e i (omega arith))) (word_same (λ (i : ℕ). f (8 + i)) (λ (i : ℕ). g (8 + i)) (λ i h. e (8 + i) (omega arith)))

pub sum_lt : (t : List ℕ) (f : ℕ → ℕ) (a n : ℕ) → ((i : ℕ) → slice_index t i < 2 ^ 8) → sum_of t f a 0 n < 2 ^ 8
unfolding sum_of
sum_lt t f a zero p = omega arith
sum_lt t f a (suc n) p =
    let x : ℕ = slice_index t (512 * n + a + f n % 16) in
    let y : ℕ = slice_index t (512 * n + a + 256 + f n / 16) in
    xor_lt 8 (sum_of t f a 0 n) (bit_xor x y) (sum_lt t f a n p) (xor_lt 8 x y (p (512 * n + a + f n % 16)) (p (512 * n + a + 256 + f n / 16)))

partly : (q : ℕ) (t : List ℕ) (k : Element) (f : ℕ → ℕ) (n : ℕ) → n < 17 → IsWord k → AreProducts q t k → ((i : ℕ) → f i < 2 ^ 8)
    → element_of (λ (j : ℕ). sum_of t f (16 * j) 0 n) ≡ many q k (element_of (nibbles f n))
unfolding sum_of nibbles
partly q t k f zero h wk is p = sym (many_none q k)
partly q t k f (suc n) h wk is p =
    let lo : ℕ → ℕ = at n (f n % 16) in
    let hi : ℕ → ℕ = at n (16 * (f n / 16)) in
    let lt : n < 16 = omega arith in
    let lo_byte : f n % 16 < 2 ^ 8 = omega arith in
    let hi_byte : 16 * (f n / 16) < 2 ^ 8 = omega (arith, p n) in
    let lo_lt : (m : ℕ) → lo m < 2 ^ 8 = λ m. at_lt n (f n % 16) m lo_byte in
    let hi_lt : (m : ℕ) → hi m < 2 ^ 8 = λ m. at_lt n (16 * (f n / 16)) m hi_byte in
    let s : ℕ → ℕ = λ (j : ℕ). sum_of t f (16 * j) 0 n in
    let x : ℕ → ℕ = λ (j : ℕ). slice_index t (512 * n + 16 * j + f n % 16) in
    let y : ℕ → ℕ = λ (j : ℕ). slice_index t (512 * n + 16 * j + 256 + f n / 16) in
    let xs : (j : ℕ) → x j < 2 ^ 8 = λ j. is.bytes (512 * n + 16 * j + f n % 16) in
    let ys : (j : ℕ) → y j < 2 ^ 8 = λ j. is.bytes (512 * n + 16 * j + 256 + f n / 16) in
    let m : Element → Element = many q k in
    let done : Element = element_of (nibbles f n) in
    let wd : IsWord done = element_word (nibbles f n) (λ i. nibbles_lt f n i p) in
    let wl : IsWord (element_of lo) = element_word lo lo_lt in
    let wh : IsWord (element_of hi) = element_word hi hi_lt in
    let both : ℕ → ℕ = λ (i : ℕ). bit_xor (lo i) (hi i) in
    let both_lt : (i : ℕ) → both i < 2 ^ 8 = λ i. xor_lt 8 (lo i) (hi i) (lo_lt i) (hi_lt i) in
    element_xor s (λ (j : ℕ). bit_xor (x j) (y j)) (λ j. sum_lt t f (16 * j) n is.bytes) (λ j. xor_lt 8 (x j) (y j) (xs j) (ys j))
    ∙ ap₂ plus (partly q t k f n (omega arith) wk is p) (element_xor x y xs ys ∙ ap₂ plus (is.low n (f n % 16) lt (omega arith)) (is.high n (f n / 16) lt (omega (arith, p n))))
    ∙ ap (plus (m done)) (sym (many_adds q k (element_of lo) (element_of hi) wk wl wh) ∙ ap m (sym (element_xor lo hi lo_lt hi_lt)))
    ∙ sym (many_adds q k done (element_of both) wk wd (element_word both both_lt))
    ∙ ap m (sym (element_xor (nibbles f n) both (λ i. nibbles_lt f n i p) both_lt))

table_from_products : (q : ℕ) (t : List ℕ) (k : Element) → IsWord k → AreProducts q t k → IsTable q t k
table_from_products q t k wk is = record {
  map = λ f p. partly q t k f 16 (omega arith) wk is p ∙ ap (many q k) (element_same_16 (nibbles f 16) f (nibbles_are f));
  bytes = λ f p j. sum_lt t f (16 * j) 16 is.bytes;
}

-- ---- a table in columns

pub element_below_16 : (f g : ℕ → ℕ) → ((i : ℕ) → i < 16 → f i ≡ g i) → element_of f ≡ element_of g
element_below_16 f g e = element_same_16 f g e

pub low_nibble : (i v : ℕ) → v < 16 → nibble (32 * i + v) ≡ at i v
low_nibble i v h =
    let a : (32 * i + v) / 32 ≡ i = omega arith in
    let b : (32 * i + v) / 16 % 2 ≡ 0 = omega arith in
    let c : (32 * i + v) % 16 ≡ v = omega arith in
    rw (b, c, a) refl

pub high_nibble : (i v : ℕ) → v < 16 → nibble (32 * i + 16 + v) ≡ at i (16 * v)
high_nibble i v h =
    let a : (32 * i + 16 + v) / 32 ≡ i = omega arith in
    let b : (32 * i + 16 + v) / 16 % 2 ≡ 1 = omega arith in
    let c : (32 * i + 16 + v) % 16 ≡ v = omega arith in
    rw (b, c, a) refl

products_of : (q : ℕ) (t : List ℕ) (k : Element) → ((i : ℕ) → slice_index t i < 2 ^ 8) → IsNibbles q t k → AreProducts q t k
products_of q t k p is = record {
  low = λ i v hi hv.
      let n : ℕ = 32 * i + v in
      element_same (λ (j : ℕ). slice_index t (512 * i + 16 * j + v)) (λ (j : ℕ). slice_index t (place n j)) (λ j. ap (slice_index t) (omega arith))
      ∙ is.columns n (omega arith) ∙ ap (λ (f : ℕ → ℕ). many q k (element_of f)) (low_nibble i v hv);
  high = λ i v hi hv.
      let n : ℕ = 32 * i + 16 + v in
      element_same (λ (j : ℕ). slice_index t (512 * i + 16 * j + 256 + v)) (λ (j : ℕ). slice_index t (place n j)) (λ j. ap (slice_index t) (omega arith))
      ∙ is.columns n (omega arith) ∙ ap (λ (f : ℕ → ℕ). many q k (element_of f)) (high_nibble i v hv);
  bytes = p;
}

-- A table of the nibbles' products is one of all blocks' products.
pub table_from_nibbles : (q : ℕ) (t : List ℕ) (k : Element) → ((i : ℕ) → slice_index t i < 2 ^ 8) → IsNibbles q t k → IsTable q t k
table_from_nibbles q t k p is = table_from_products q t k is.key (products_of q t k p is)

pub many_more : (a b : ℕ) (k x : Element) → many (a + b) k x ≡ many b k (many a k x)
unfolding many
many_more a zero k x = ap (λ (n : ℕ). many n k x) (omega arith)
many_more a (suc b) k x =
    let e : a + suc b ≡ suc (a + b) = omega arith in
    ap (λ (n : ℕ). many n k x) e ∙ ap (λ (y : Element). product y k) (many_more a b k x)

-- the bytes of an element make it again
pub element_of_bytes : (x : Element) → IsWord x → element_of (slice_index (bytes_of x)) ≡ x
unfolding of
element_of_bytes x w = ap₂ of (from_be_bytes-to_be_bytes_8 x.hi w.hi) (from_be_bytes-to_be_bytes_8 x.lo w.lo)

-- ---- places

pub other_row : (n i j : ℕ) → i < j → place n i ≢ place n j
other_row n i j h e = omega (arith, e)

pub other_column : (m n i j : ℕ) → m ≢ n → i < 16 → j < 16 → place m i ≢ place n j
other_column m n i j ne h k e =
    let low : m % 16 ≡ n % 16 = omega (arith, e) in
    let high : m / 16 ≡ n / 16 = omega (arith, e) in
    let same : m ≡ n = omega (arith, low, high) in
    ne same

pub place_below_16 : (l j : ℕ) → l < 16 → 16 * j + l ≡ place l j
place_below_16 l j h = omega arith
