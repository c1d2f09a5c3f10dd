-- In a table that is not full, some number has nothing.
use Rattle.std.proofs.Common.{◌≡◌, suc, ◌+◌, ◌<◌, List, [], ◌∷◌, length, cond, Contains, count_by, is_some, Option, None, Some, refl, arith}
use Rattle.std.proofs.lemmas.List.Sums.{sum_by-cons}

-- If fewer numbers are in use than there are, some number has nothing.
pub some_unused : {A : Type 0} (l : List (Option A)) → count_by is_some l < length l → Contains l None
some_unused [] h = absurd (omega (arith, h))
some_unused (None ∷ l) h = (0, omega arith, refl)
some_unused (Some a ∷ l) h =
    let one_more : count_by is_some (Some a ∷ l) ≡ 1 + count_by is_some l = sum_by-cons (λ x. cond (is_some x) 1 0) (Some a) l in
    let c = some_unused l (omega (arith, h, one_more)) in
    (suc c.0, let b = c.1 in omega (arith, b), c.2)
