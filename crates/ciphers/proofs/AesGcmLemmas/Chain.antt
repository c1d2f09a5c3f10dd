-- Sixteen streams of blocks have one sum with the blocks in their order. No law of the field is used but that a product is additive.
use Rattle.std.proofs.Common.{◌≡◌, ℕ, zero, suc, ◌+◌, ◌*◌, ◌%◌, ◌^◌, ◌<◌, bit_and, refl, sym, ap, ap₂, ◌∙◌, arith}
use Rattle.std.proofs.lemmas.Nat.{and_le_l, or_lt, xor_lt}
use Rattle.std.specs.Int.Bits.{xor_assoc, xor_self, xor_zero_r}
use Rattle.ciphers.specs.declared.aes_gcm.ghash.Begun.{Begun}
use Rattle.ciphers.specs.declared.aes_gcm.ghash.Element.{Element}
use Rattle.ciphers.specs.AesGcm.Ghash.{product, step, steps}
use Rattle.ciphers.specs.AesGcm.Planes.{down, up}
use Rattle.ciphers.specs.AesGcm.SubBytes.{ones}
use Rattle.ciphers.specs.AesGcm.Tables.{IsWord, absorb, many, none, plus}
use Rattle.ciphers.proofs.AesGcmLemmas.Linear.{product_adds, xor_swap}

-- ---- products are words

pub record AreWords (b : Begun) : Type 0 where
  sum_hi : b.sum_hi < 2 ^ 64
  sum_lo : b.sum_lo < 2 ^ 64
  hi : b.hi < 2 ^ 64
  lo : b.lo < 2 ^ 64

pub step_words : (b : Begun) → AreWords b → AreWords (step b)
unfolding step
step_words b w =
    let taken : ℕ = down b.bits 63 * ones in
    let h : bit_and b.hi taken < 2 ^ 64 = omega (arith, and_le_l b.hi taken, w.hi) in
    let l : bit_and b.lo taken < 2 ^ 64 = omega (arith, and_le_l b.lo taken, w.lo) in
    let half : down b.hi 1 < 2 ^ 64 = omega (arith, w.hi) in
    let carried : b.lo % 2 * 0xe100_0000_0000_0000 < 2 ^ 64 = omega arith in
    let low : down b.lo 1 < 2 ^ 64 = omega (arith, w.lo) in
    let high : up b.hi 63 < 2 ^ 64 = omega arith in
    record {
      sum_hi = xor_lt 64 b.sum_hi (bit_and b.hi taken) w.sum_hi h;
      sum_lo = xor_lt 64 b.sum_lo (bit_and b.lo taken) w.sum_lo l;
      hi = xor_lt 64 (down b.hi 1) (b.lo % 2 * 0xe100_0000_0000_0000) half carried;
      lo = or_lt 64 (down b.lo 1) (up b.hi 63) low high;
    }

pub steps_words : (n : ℕ) (b : Begun) → AreWords b → AreWords (steps n b)
unfolding steps
steps_words zero b w = w
steps_words (suc n) b w = step_words (steps n b) (steps_words n b w)

pub product_word : (x k : Element) → IsWord k → IsWord (product x k)
unfolding product
product_word x k w =
    let b : Begun = record { sum_hi = 0; sum_lo = 0; hi = k.hi; lo = k.lo; bits = x.hi } in
    let zeros : 0 < 2 ^ 64 = omega arith in
    let first : AreWords (steps 64 b) = steps_words 64 b (record { sum_hi = zeros; sum_lo = zeros; hi = w.hi; lo = w.lo }) in
    let f : Begun = steps 64 b in
    let c : Begun = record { sum_hi = f.sum_hi; sum_lo = f.sum_lo; hi = f.hi; lo = f.lo; bits = x.lo } in
    let second : AreWords (steps 64 c) = steps_words 64 c (record { sum_hi = first.sum_hi; sum_lo = first.sum_lo; hi = first.hi; lo = first.lo }) in
    record { hi = second.sum_hi; lo = second.sum_lo }

-- ---- sums of elements

none_word : IsWord none
none_word = record { hi = omega arith; lo = omega arith }

of : ℕ → ℕ → Element
of m n = record { hi = m; lo = n }

pub plus_word : (x y : Element) → IsWord x → IsWord y → IsWord (plus x y)
plus_word x y a b = record { hi = xor_lt 64 x.hi y.hi a.hi b.hi; lo = xor_lt 64 x.lo y.lo a.lo b.lo }

plus_none : (x : Element) → plus x none ≡ x
unfolding of
plus_none x = ap₂ of (xor_zero_r x.hi) (xor_zero_r x.lo)

plus_assoc : (x y z : Element) → plus (plus x y) z ≡ plus x (plus y z)
unfolding of
plus_assoc x y z = ap₂ of (xor_assoc x.hi y.hi z.hi) (xor_assoc x.lo y.lo z.lo)

plus_swap : (a b c d : Element) → plus (plus a b) (plus c d) ≡ plus (plus a c) (plus b d)
unfolding of
plus_swap a b c d = ap₂ of (xor_swap a.hi b.hi c.hi d.hi) (xor_swap a.lo b.lo c.lo d.lo)

plus_self : (x : Element) → plus x x ≡ none
unfolding of
plus_self x = ap₂ of (xor_self x.hi) (xor_self x.lo)

-- ---- a product taken so often

pub many_word : (n : ℕ) (k x : Element) → IsWord k → IsWord x → IsWord (many n k x)
unfolding many
many_word zero k x wk wx = wx
many_word (suc n) k x wk wx = product_word (many n k x) k wk

pub many_adds : (n : ℕ) (k x y : Element) → IsWord k → IsWord x → IsWord y → many n k (plus x y) ≡ plus (many n k x) (many n k y)
unfolding many
many_adds zero k x y wk wx wy = refl
many_adds (suc n) k x y wk wx wy =
    ap (λ (e : Element). product e k) (many_adds n k x y wk wx wy)
    ∙ product_adds (many n k x) (many n k y) k (many_word n k x wk wx) (many_word n k y wk wy)

many_product : (n : ℕ) (k x : Element) → many n k (product x k) ≡ product (many n k x) k
unfolding many
many_product zero k x = refl
many_product (suc n) k x = ap (λ (e : Element). product e k) (many_product n k x)

product_none : (k : Element) → product none k ≡ none
product_none k = product_adds none none k none_word none_word ∙ plus_self (product none k)

pub many_none : (n : ℕ) (k : Element) → many n k none ≡ none
unfolding many
many_none zero k = refl
many_none (suc n) k = ap (λ (e : Element). product e k) (many_none n k) ∙ product_none k

-- ---- blocks absorbed

abbrev pub AreElements : (ℕ → Element) → Type 0
AreElements xs = (i : ℕ) → IsWord (xs i)

absorb_word : (k s : Element) (xs : ℕ → Element) (n : ℕ) → IsWord k → IsWord s → IsWord (absorb k s xs n)
unfolding absorb
absorb_word k s xs zero wk ws = ws
absorb_word k s xs (suc n) wk ws = product_word (plus (absorb k s xs n) (xs n)) k wk

-- the sum that it begins with counts by itself
pub absorb_from : (k s : Element) (xs : ℕ → Element) (n : ℕ) → IsWord k → IsWord s → AreElements xs → absorb k s xs n ≡ plus (many n k s) (absorb k none xs n)
unfolding absorb many
absorb_from k s xs zero wk ws wx = sym (plus_none s)
absorb_from k s xs (suc n) wk ws wx =
    let a : Element = absorb k none xs n in
    let wa : IsWord a = absorb_word k none xs n wk none_word in
    ap (λ (e : Element). product (plus e (xs n)) k) (absorb_from k s xs n wk ws wx)
    ∙ ap (λ (e : Element). product e k) (plus_assoc (many n k s) a (xs n))
    ∙ product_adds (many n k s) (plus a (xs n)) k (many_word n k s wk ws) (plus_word a (xs n) wa (wx n))

pub absorb_adds : (k : Element) (xs ys : ℕ → Element) (n : ℕ) → IsWord k → AreElements xs → AreElements ys
    → absorb k none (λ (i : ℕ). plus (xs i) (ys i)) n ≡ plus (absorb k none xs n) (absorb k none ys n)
unfolding absorb
absorb_adds k xs ys zero wk wx wy = refl
absorb_adds k xs ys (suc n) wk wx wy =
    let a : Element = absorb k none xs n in
    let b : Element = absorb k none ys n in
    let wa : IsWord a = absorb_word k none xs n wk none_word in
    let wb : IsWord b = absorb_word k none ys n wk none_word in
    ap (λ (e : Element). product (plus e (plus (xs n) (ys n))) k) (absorb_adds k xs ys n wk wx wy)
    ∙ ap (λ (e : Element). product e k) (plus_swap a b (xs n) (ys n))
    ∙ product_adds (plus a (xs n)) (plus b (ys n)) k (plus_word a (xs n) wa (wx n)) (plus_word b (ys n) wb (wy n))

pub absorb_many : (m : ℕ) (k : Element) (xs : ℕ → Element) (n : ℕ) → IsWord k → AreElements xs → absorb k none (λ (i : ℕ). many m k (xs i)) n ≡ many m k (absorb k none xs n)
unfolding absorb
absorb_many m k xs zero wk wx = sym (many_none m k)
absorb_many m k xs (suc n) wk wx =
    let a : Element = absorb k none xs n in
    let wa : IsWord a = absorb_word k none xs n wk none_word in
    ap (λ (e : Element). product (plus e (many m k (xs n))) k) (absorb_many m k xs n wk wx)
    ∙ ap (λ (e : Element). product e k) (sym (many_adds m k a (xs n) wk wa (wx n)))
    ∙ sym (many_product m k (plus a (xs n)))

-- one chunk more: the blocks after the first ones
pub one_chunk : (m : ℕ) (k : Element) (xs ys : ℕ → Element) → IsWord k → AreElements xs → AreElements ys
    → absorb k none (λ (i : ℕ). plus (many m k (xs i)) (ys i)) m ≡ absorb k (absorb k none xs m) ys m
one_chunk m k xs ys wk wx wy =
    absorb_adds k (λ (i : ℕ). many m k (xs i)) ys m wk (λ i. many_word m k (xs i) wk (wx i)) wy
    ∙ ap (λ (e : Element). plus e (absorb k none ys m)) (absorb_many m k xs m wk wx)
    ∙ sym (absorb_from k (absorb k none xs m) ys m wk (absorb_word k none xs m wk none_word) wy)

pub absorb_split : (k s : Element) (xs : ℕ → Element) (a b : ℕ) → absorb k s xs (a + b) ≡ absorb k (absorb k s xs a) (λ (i : ℕ). xs (a + i)) b
unfolding absorb
absorb_split k s xs a zero = ap (absorb k s xs) (omega arith)
absorb_split k s xs a (suc b) =
    let e : a + suc b ≡ suc (a + b) = omega arith in
    ap (absorb k s xs) e ∙ ap (λ (e : Element). product (plus e (xs (a + b))) k) (absorb_split k s xs a b)

pub absorb_nothing : (k s : Element) (xs : ℕ → Element) → absorb k s xs 0 ≡ s
unfolding absorb
absorb_nothing k s xs = refl

-- sixteen streams after n steps
unfoldable pub streams : Element → (ℕ → Element) → (ℕ → Element) → ℕ → ℕ → Element
streams k first xs zero i = first i
streams k first xs (suc n) i = plus (many 16 k (streams k first xs n i)) (xs (16 * n + i))

streams_words : (k : Element) (first xs : ℕ → Element) (n : ℕ) → IsWord k → AreElements first → AreElements xs → AreElements (streams k first xs n)
unfolding streams
streams_words k first xs zero wk wf wx i = wf i
streams_words k first xs (suc n) wk wf wx i = plus_word (many 16 k (streams k first xs n i)) (xs (16 * n + i)) (many_word 16 k (streams k first xs n i) wk (streams_words k first xs n wk wf wx i)) (wx (16 * n + i))

-- The streams' blocks have the sum of all blocks, begun with that of the first ones.
pub streams_sum : (k : Element) (first xs : ℕ → Element) (n : ℕ) → IsWord k → AreElements first → AreElements xs
    → absorb k none (streams k first xs n) 16 ≡ absorb k (absorb k none first 16) xs (16 * n)
unfolding streams
streams_sum k first xs zero wk wf wx =
    sym (absorb_nothing k (absorb k none first 16) xs)
streams_sum k first xs (suc n) wk wf wx =
    let s : Element = absorb k none first 16 in
    let e : 16 * n + 16 ≡ 16 * suc n = omega arith in
    one_chunk 16 k (streams k first xs n) (λ (i : ℕ). xs (16 * n + i)) wk (streams_words k first xs n wk wf wx) (λ i. wx (16 * n + i))
    ∙ ap (λ (x : Element). absorb k x (λ (i : ℕ). xs (16 * n + i)) 16) (streams_sum k first xs n wk wf wx)
    ∙ sym (absorb_split k s xs (16 * n) 16)
    ∙ ap (absorb k s xs) e
