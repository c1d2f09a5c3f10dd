-- A list, an element at a time.
use Rattle.std.proofs.Common.{◌≡◌, ◌+◌, ◌<◌, ◌∙◌, ℕ, List, [], ◌∷◌, ◌++◌, All, ap, arith, length, map}
use Rattle.std.proofs.Common.{slice_index_or, subst, suc, sym, take}
use Rattle.std.proofs.Math.Seq.{take-suc}
use Rattle.std.proofs.lemmas.List.{map_push}
use Rattle.std.proofs.lemmas.List.Elements.{All-push}

-- the elements up to this one
pub up_to : {X : Type 0} (xs : List X) (j : ℕ) (d : X) → j < length xs → take (j + 1) xs ≡ take j xs ++ slice_index_or xs j d ∷ []
up_to xs j d below =
    let next : suc j ≡ j + 1 = omega arith in
    subst (λ (n : ℕ). take n xs ≡ take j xs ++ slice_index_or xs j d ∷ []) next (take-suc xs j d below)

-- what was put after the images of the elements before this one
pub map_up_to : {X Y : Type 0} (f : X → Y) (xs : List X) (j : ℕ) (d : X) {before after : List Y} → j < length xs →
    before ≡ map f (take j xs) → after ≡ before ++ f (slice_index_or xs j d) ∷ [] → after ≡ map f (take (j + 1) xs)
map_up_to f xs j d below had put =
    let images = ap (map f) (up_to xs j d below) ∙ map_push f (take j xs) (slice_index_or xs j d) in
    put ∙ (ap (λ ys. ys ++ f (slice_index_or xs j d) ∷ []) had ∙ sym images)

-- what holds of the elements before this one, and of this one
pub all_up_to : {X : Type 0} (P : X → Type 0) (xs : List X) (j : ℕ) (d : X) → j < length xs →
    All P (take j xs) → P (slice_index_or xs j d) → All P (take (j + 1) xs)
all_up_to P xs j d below before there =
    subst (All P) (sym (up_to xs j d below)) (All-push P (take j xs) (slice_index_or xs j d) before there)
