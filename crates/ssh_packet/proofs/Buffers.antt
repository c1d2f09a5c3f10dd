-- A buffer that is filled from its front.
use Rattle.std.proofs.Common.{◌≡◌, ℕ, ◌+◌, ◌≤◌, List, ◌++◌, length, take, drop, sym, ap, ◌∙◌, arith, append_assoc, length-append}
use Rattle.std.proofs.Math.Seq.{take-append_seam}
use Rattle.std.proofs.lemmas.List.{length-take-le, take-take}

-- what stands in front once bytes are put after the first ones
pub front_put : (at : ℕ) (old bytes following : List ℕ) → at ≤ length old → take (at + length bytes) (take at old ++ (bytes ++ following)) ≡ take at old ++ bytes
front_put at old bytes following h =
    let n : at + length bytes ≡ length (take at old ++ bytes) = omega (arith, length-append (take at old) bytes, length-take-le at old h) in
    ap (λ (k : ℕ). take k (take at old ++ (bytes ++ following))) n ∙ (ap (take (length (take at old ++ bytes))) (sym (append_assoc (take at old) bytes following)) ∙ take-append_seam (take at old ++ bytes) following)

-- what was written in place of the whole buffer is read again
pub all_again : (len : ℕ) (given old : List ℕ) → length given ≡ len → take len (given ++ drop (length given) old) ≡ given
all_again len given old e = ap (λ (k : ℕ). take k (given ++ drop (length given) old)) (sym e) ∙ take-append_seam given (drop (length given) old)

-- what was written to the front is read there again
pub front_again : (size len : ℕ) (given old : List ℕ) → length given ≡ size → size ≤ len → take size (take len (given ++ drop (length given) old)) ≡ given
front_again size len given old e h =
    take-take size len (given ++ drop (length given) old) h ∙ ap (λ (k : ℕ). take k (given ++ drop (length given) old)) (sym e) ∙ take-append_seam given (drop (length given) old)
