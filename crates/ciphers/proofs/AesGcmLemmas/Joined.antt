-- The streams of a text have the sum of all its blocks.
use Rattle.std.proofs.Common.{◌≡◌, ℕ, zero, suc, ◌+◌, ◌*◌, ◌/◌, ◌^◌, ◌<◌, ◌≤◌, List, length, drop, slice_index, refl, sym, ap, ap₂, ◌∙◌, arith, length-drop}
use Rattle.std.proofs.lemmas.List.{get_or-drop}
use lib.Bits.{xor_zero_l}
use Rattle.ciphers.specs.declared.aes_gcm.ghash.Element.{Element}
use Rattle.ciphers.specs.AesGcm.Ghash.{absorbed_all, block_at, product}
use Rattle.ciphers.specs.AesGcm.Streams.{byte_in, stream}
use Rattle.ciphers.specs.AesGcm.Tables.{IsNibbles, absorb, element_of, first_blocks, none, plus}
use Rattle.ciphers.proofs.AesGcmLemmas.Blocks.{absorb_same, absorbed_is, element_at, element_same, streams_are_all}
use Rattle.ciphers.proofs.AesGcmLemmas.Chain.{absorb_split}
use Rattle.ciphers.proofs.AesGcmLemmas.Tables.{element_below_16, table_from_nibbles}

absorb_below : (k s : Element) (xs ys : ℕ → Element) (n : ℕ) → ((i : ℕ) → i < n → xs i ≡ ys i) → absorb k s xs n ≡ absorb k s ys n
unfolding absorb
absorb_below k s xs ys zero e = refl
absorb_below k s xs ys (suc n) e = ap₂ (λ (a x : Element). product (plus a x) k) (absorb_below k s xs ys n (λ i h. e i (omega arith))) (e n (omega arith))

of : ℕ → ℕ → Element
of m n = record { hi = m; lo = n }

none_plus : (x : Element) → plus none x ≡ x
unfolding of
none_plus x = ap₂ of (xor_zero_l x.hi) (xor_zero_l x.lo)

-- A sum that is added to the first block counts as the one to begin with.
first_of_all : (k s : Element) (b : List ℕ) (n : ℕ) → absorb k none (first_blocks s b) (suc n) ≡ absorb k s (block_at b) (suc n)
unfolding absorb
first_of_all k s b zero = ap (λ (e : Element). product e k) (none_plus (plus s (block_at b 0)))
first_of_all k s b (suc n) = ap (λ (a : Element). product (plus a (block_at b (suc n))) k) (first_of_all k s b n)

-- blocks after the first sixteen
block_after : (b : List ℕ) (i : ℕ) → block_at (drop 256 b) i ≡ block_at b (16 + i)
block_after b i =
    sym (element_at (drop 256 b) i)
    ∙ element_same (λ (j : ℕ). slice_index (drop 256 b) (16 * i + j)) (λ (j : ℕ). slice_index b (16 * (16 + i) + j)) (λ j. get_or-drop 256 b (16 * i + j) 0 ∙ ap (slice_index b) (omega arith))
    ∙ element_at b (16 + i)

pub streams_of_text : (t b all done : List ℕ) (k s : Element) → IsNibbles 16 t k → ((i : ℕ) → slice_index t i < 2 ^ 8) → ((i : ℕ) → slice_index b i < 2 ^ 8) → ((i : ℕ) → slice_index all i < 2 ^ 8) → 512 ≤ length b
    → ((l : ℕ) → l < 16 → element_of (byte_in all l) ≡ first_blocks s b l)
    → ((l j : ℕ) → l < 16 → j < 16 → byte_in done l j ≡ stream t (byte_in all) (drop 256 b) (length (drop 256 b) / 256) l j)
    → absorb k none (λ (l : ℕ). element_of (byte_in done l)) 16 ≡ absorbed_all k s b (length b / 256 * 16)
streams_of_text t b all done k s is pt pb pa long begun made =
    let rest : List ℕ = drop 256 b in
    let n : ℕ = length rest / 256 in
    let first : ℕ → ℕ → ℕ = byte_in all in
    let x : Element = absorb k none (λ (l : ℕ). element_of (first l)) 16 in
    let size : 16 + 16 * n ≡ length b / 256 * 16 = omega (arith, length-drop 256 b) in
    let start : x ≡ absorb k s (block_at b) 16 = absorb_below k none (λ (l : ℕ). element_of (first l)) (first_blocks s b) 16 begun ∙ first_of_all k s b 15 in
    absorb_below k none (λ (l : ℕ). element_of (byte_in done l)) (λ (l : ℕ). element_of (stream t first rest n l)) 16 (λ l h. element_below_16 (byte_in done l) (stream t first rest n l) (λ j lt. made l j h lt))
    ∙ streams_are_all t k first rest n is.key (table_from_nibbles 16 t k pt is) (λ i j. pa (16 * j + i)) (λ i. let e = get_or-drop 256 b i 0 in rw e (pb (256 + i)))
    ∙ absorbed_is k x rest (16 * n)
    ∙ ap (λ (e : Element). absorb k e (block_at rest) (16 * n)) start
    ∙ absorb_same k (absorb k s (block_at b) 16) (block_at rest) (λ (i : ℕ). block_at b (16 + i)) (16 * n) (block_after b)
    ∙ sym (absorb_split k s (block_at b) 16 (16 * n))
    ∙ ap (absorb k s (block_at b)) size
    ∙ sym (absorbed_is k s b (length b / 256 * 16))
