-- Prefixes.
use Rattle.std.proofs.Common.{◌≡◌, ℕ, List, ◌++◌, length, take, sym, ap, ◌∙◌}
use Rattle.std.proofs.Math.Seq.{take-append_seam}

-- what was put in front is the front
pub front_of : (text written rest : List ℕ) → written ≡ text → length text ≡ 83 → take 83 (written ++ rest) ≡ text
front_of text written rest same long =
    ap (λ (l : List ℕ). take 83 (l ++ rest)) same ∙ ap (λ (n : ℕ). take n (text ++ rest)) (sym long) ∙ take-append_seam text rest
