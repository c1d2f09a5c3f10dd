-- From the bytes of streams to their elements.
use Rattle.std.proofs.Common.{◌≡◌, ℕ, zero, suc, ◌+◌, ◌*◌, ◌^◌, ◌<◌, List, slice_index, bit_xor, refl, sym, ap, ap₂, subst, ◌∙◌, add-one, arith}
use Rattle.std.proofs.lemmas.Nat.{xor_block, xor_comm, xor_lt}
use Rattle.std.specs.Int.Bits.{xor_assoc}
use lib.Bits.{xor_zero_l}
use Rattle.ciphers.specs.declared.aes_gcm.ghash.Element.{Element}
use Rattle.ciphers.specs.AesGcm.Ghash.{absorbed, absorbed_all, block_at, product}
use Rattle.ciphers.specs.AesGcm.Streams.{entry_of, stream, sum_of}
use Rattle.ciphers.specs.AesGcm.Tables.{IsWord, absorb, element_of, many, none, plus, word}
use Rattle.ciphers.proofs.AesGcmLemmas.Chain.{streams, streams_sum}

-- the sum of bytes is that of the elements
pub absorbed_is : (k s : Element) (b : List ℕ) (n : ℕ) → absorbed_all k s b n ≡ absorb k s (block_at b) n
unfolding absorbed_all absorbed absorb
absorbed_is k s b zero = refl
absorbed_is k s b (suc n) = ap (λ (e : Element). product (plus e (block_at b n)) k) (absorbed_is k s b n)

-- what a sum of entries begins with counts by itself
pub sum_base : (t : List ℕ) (f : ℕ → ℕ) (at base n : ℕ) → sum_of t f at base n ≡ bit_xor (sum_of t f at 0 n) base
unfolding sum_of
sum_base t f at base zero = sym (xor_zero_l base)
sum_base t f at base (suc n) =
    let e : ℕ = entry_of t (512 * n + at) (f n) in
    let s : ℕ = sum_of t f at 0 n in
    ap (λ (m : ℕ). bit_xor m e) (sum_base t f at base n)
    ∙ xor_assoc s base e ∙ ap (bit_xor s) (xor_comm base e) ∙ sym (xor_assoc s e base)

-- ---- words of eight bytes

pushed : (x y z r s : ℕ) → z ≡ bit_xor x y → r < 2 ^ 8 → s < 2 ^ 8 → z * 2 ^ 8 + bit_xor r s ≡ bit_xor (x * 2 ^ 8 + r) (y * 2 ^ 8 + s)
pushed x y z r s e p q = ap (λ (n : ℕ). n * 2 ^ 8 + bit_xor r s) e ∙ sym (xor_block 8 x y r s p q)

abbrev begun : ℕ → (ℕ → ℕ) → ℕ
begun zero f = f 0
begun (suc n) f = begun n f * 2 ^ 8 + f (suc n)

begun_xor : (n : ℕ) (f g : ℕ → ℕ) → ((i : ℕ) → f i < 2 ^ 8) → ((i : ℕ) → g i < 2 ^ 8) → begun n (λ (i : ℕ). bit_xor (f i) (g i)) ≡ bit_xor (begun n f) (begun n g)
begun_xor zero f g p q = refl
begun_xor (suc n) f g p q = pushed (begun n f) (begun n g) (begun n (λ (i : ℕ). bit_xor (f i) (g i))) (f (suc n)) (g (suc n)) (begun_xor n f g p q) (p (suc n)) (q (suc n))

word_is : (f : ℕ → ℕ) → word f ≡ begun 7 f
word_is f = omega arith

pub word_xor : (f g : ℕ → ℕ) → ((i : ℕ) → f i < 2 ^ 8) → ((i : ℕ) → g i < 2 ^ 8) → word (λ (i : ℕ). bit_xor (f i) (g i)) ≡ bit_xor (word f) (word g)
word_xor f g p q = word_is (λ (i : ℕ). bit_xor (f i) (g i)) ∙ begun_xor 7 f g p q ∙ sym (ap₂ bit_xor (word_is f) (word_is g))

of : ℕ → ℕ → Element
of m n = record { hi = m; lo = n }

pub element_xor : (f g : ℕ → ℕ) → ((i : ℕ) → f i < 2 ^ 8) → ((i : ℕ) → g i < 2 ^ 8) → element_of (λ (i : ℕ). bit_xor (f i) (g i)) ≡ plus (element_of f) (element_of g)
unfolding of
element_xor f g p q = ap₂ of (word_xor f g p q) (word_xor (λ (i : ℕ). f (8 + i)) (λ (i : ℕ). g (8 + i)) (λ i. p (8 + i)) (λ i. q (8 + i)))

-- ---- streams of bytes are streams of elements

pub word_lt : (f : ℕ → ℕ) → ((i : ℕ) → f i < 2 ^ 8) → word f < 2 ^ 64
word_lt f p = omega (arith, p 0, p 1, p 2, p 3, p 4, p 5, p 6, p 7)

pub element_word : (f : ℕ → ℕ) → ((i : ℕ) → f i < 2 ^ 8) → IsWord (element_of f)
element_word f p = record { hi = word_lt f p; lo = word_lt (λ (i : ℕ). f (8 + i)) (λ i. p (8 + i)) }

word_same : (f g : ℕ → ℕ) → ((i : ℕ) → f i ≡ g i) → word f ≡ word g
word_same f g e = rw (e 0, e 1, e 2, e 3, e 4, e 5, e 6, e 7) refl

pub element_same : (f g : ℕ → ℕ) → ((i : ℕ) → f i ≡ g i) → element_of f ≡ element_of g
unfolding of
element_same f g e = ap₂ of (word_same f g e) (word_same (λ (i : ℕ). f (8 + i)) (λ (i : ℕ). g (8 + i)) (λ i. e (8 + i)))

-- a block of a text
pub element_at : (b : List ℕ) (m : ℕ) → element_of (λ (j : ℕ). slice_index b (16 * m + j)) ≡ block_at b m
unfolding of
element_at b m =
    let start : 16 * m + 0 ≡ 16 * m = omega arith in
    let place : (j : ℕ) → 16 * m + (8 + j) ≡ 16 * m + 8 + j = λ j. omega arith in
    let zero_on : 16 * m + (8 + 0) ≡ 16 * m + 8 = omega arith in
    let at : (i j : ℕ) → i ≡ j → slice_index b i ≡ slice_index b j = λ i j e. ap (slice_index b) e in
    ap₂ of
    (rw (at (16 * m + 0) (16 * m) start) refl)
    (rw (at (16 * m + (8 + 0)) (16 * m + 8) zero_on, at (16 * m + (8 + 1)) (16 * m + 8 + 1) (place 1), at (16 * m + (8 + 2)) (16 * m + 8 + 2) (place 2), at (16 * m + (8 + 3)) (16 * m + 8 + 3) (place 3), at (16 * m + (8 + 4)) (16 * m + 8 + 4) (place 4), at (16 * m + (8 + 5)) (16 * m + 8 + 5) (place 5), at (16 * m + (8 + 6)) (16 * m + 8 + 6) (place 6), at (16 * m + (8 + 7)) (16 * m + 8 + 7) (place 7)) refl)

-- The table is that of m products by the key.
pub record IsTable (m : ℕ) (t : List ℕ) (k : Element) : Type 0 where
  pub map : (f : ℕ → ℕ) → ((i : ℕ) → f i < 2 ^ 8) → element_of (λ (j : ℕ). sum_of t f (16 * j) 0 16) ≡ many m k (element_of f)
  pub bytes : (f : ℕ → ℕ) → ((i : ℕ) → f i < 2 ^ 8) → (j : ℕ) → sum_of t f (16 * j) 0 16 < 2 ^ 8

pub stream_bytes : (t : List ℕ) (k : Element) (first : ℕ → ℕ → ℕ) (b : List ℕ) (n l : ℕ) → IsTable 16 t k → ((i j : ℕ) → first i j < 2 ^ 8) → ((i : ℕ) → slice_index b i < 2 ^ 8)
    → (j : ℕ) → stream t first b n l j < 2 ^ 8
unfolding stream
stream_bytes t k first b zero l is p q j = p l j
stream_bytes t k first b (suc n) l is p q j =
    let f : ℕ → ℕ = stream t first b n l in
    let base : ℕ = slice_index b (256 * n + j + 16 * l) in
    rw (sum_base t f (16 * j) base 16) (xor_lt 8 (sum_of t f (16 * j) 0 16) base (is.bytes f (stream_bytes t k first b n l is p q) j) (q (256 * n + j + 16 * l)))

pub stream_element : (t : List ℕ) (k : Element) (first : ℕ → ℕ → ℕ) (b : List ℕ) (n l : ℕ) → IsTable 16 t k → ((i j : ℕ) → first i j < 2 ^ 8) → ((i : ℕ) → slice_index b i < 2 ^ 8)
    → element_of (stream t first b n l) ≡ streams k (λ (i : ℕ). element_of (first i)) (block_at b) n l
unfolding stream streams
stream_element t k first b zero l is p q = refl
stream_element t k first b (suc n) l is p q =
    let f : ℕ → ℕ = stream t first b n l in
    let fits : (i : ℕ) → f i < 2 ^ 8 = stream_bytes t k first b n l is p q in
    let s : ℕ → ℕ = λ (j : ℕ). sum_of t f (16 * j) 0 16 in
    let base : ℕ → ℕ = λ (j : ℕ). slice_index b (256 * n + j + 16 * l) in
    let moved : element_of base ≡ block_at b (16 * n + l) =
    element_same base (λ (j : ℕ). slice_index b (16 * (16 * n + l) + j)) (λ j. ap (slice_index b) (omega arith)) ∙ element_at b (16 * n + l) in
    element_same (λ (j : ℕ). sum_of t f (16 * j) (base j) 16) (λ (j : ℕ). bit_xor (s j) (base j)) (λ j. sum_base t f (16 * j) (base j) 16)
    ∙ element_xor s base (is.bytes f fits) (λ j. q (256 * n + j + 16 * l))
    ∙ ap₂ plus (is.map f fits ∙ ap (many 16 k) (stream_element t k first b n l is p q)) moved

pub absorb_same : (k s : Element) (xs ys : ℕ → Element) (n : ℕ) → ((i : ℕ) → xs i ≡ ys i) → absorb k s xs n ≡ absorb k s ys n
unfolding absorb
absorb_same k s xs ys zero e = refl
absorb_same k s xs ys (suc n) e = ap₂ (λ (a x : Element). product (plus a x) k) (absorb_same k s xs ys n e) (e n)

-- The sixteen blocks that n steps leave have the sum of the first sixteen and all blocks after them.
pub streams_are_all : (t : List ℕ) (k : Element) (first : ℕ → ℕ → ℕ) (b : List ℕ) (n : ℕ) → IsWord k → IsTable 16 t k → ((i j : ℕ) → first i j < 2 ^ 8) → ((i : ℕ) → slice_index b i < 2 ^ 8)
    → absorb k none (λ (l : ℕ). element_of (stream t first b n l)) 16 ≡ absorbed_all k (absorb k none (λ (l : ℕ). element_of (first l)) 16) b (16 * n)
streams_are_all t k first b n wk is p q =
    let start : ℕ → Element = λ (l : ℕ). element_of (first l) in
    let words : (i : ℕ) → IsWord (block_at b i) = λ i. subst (λ (e : Element). IsWord e) (element_at b i) (element_word (λ (j : ℕ). slice_index b (16 * i + j)) (λ j. q (16 * i + j))) in
    absorb_same k none (λ (l : ℕ). element_of (stream t first b n l)) (streams k start (block_at b) n) 16 (λ l. stream_element t k first b n l is p q)
    ∙ streams_sum k start (block_at b) n wk (λ i. element_word (first i) (p i)) words
    ∙ sym (absorbed_is k (absorb k none start 16) b (16 * n))

pub absorb_next : (k s : Element) (xs : ℕ → Element) (n : ℕ) → absorbed k (absorb k s xs n) (xs n) ≡ absorb k s xs (n + 1)
unfolding absorbed absorb
absorb_next k s xs n = rw add-one refl
