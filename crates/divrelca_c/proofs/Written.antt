-- What waits once more bytes are written.
use Rattle.std.proofs.Common.{◌≡◌, ◌∙◌, ◌+◌, ◌-◌, ◌<◌, ◌^◌, ℕ, List, ap, arith, drop, length, min, sym}
use Rattle.std.proofs.lemmas.List.{drop-drop, drop_min}

-- what waits behind so many bytes, and no more than there are
pub left : (bytes : List ℕ) (gone count : ℕ) → length bytes < 2 ^ 64 →
    drop (min (min (gone + count) (2 ^ 64 - 1)) (length bytes)) bytes ≡ drop count (drop gone bytes)
left bytes gone count small =
    let same : min (min (gone + count) (2 ^ 64 - 1)) (length bytes) ≡ min (gone + count) (length bytes) = omega (arith, small) in
    ap (λ (n : ℕ). drop n bytes) same ∙ (drop_min (gone + count) bytes ∙ sym (drop-drop count gone bytes))
