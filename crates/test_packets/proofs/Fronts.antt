-- The front of bytes.
use Rattle.std.proofs.Common.{◌≡◌, ℕ, List, ◌++◌, length, take, sym, ap, ◌∙◌}
use Rattle.std.proofs.Math.Seq.{take-append_seam}

-- what was put in front of 83 bytes is the front
pub front_of : (bytes written rest : List ℕ) → written ≡ bytes → length bytes ≡ 83 → take 83 (written ++ rest) ≡ bytes
front_of bytes written rest same long =
    ap (λ (l : List ℕ). take 83 (l ++ rest)) same ∙ ap (λ (n : ℕ). take n (bytes ++ rest)) (sym long) ∙ take-append_seam bytes rest
