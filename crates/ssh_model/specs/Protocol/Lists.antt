-- Relations of lists that grow at their heads (own).
use Rattle.std.specs.Prelude.{◌≡◌, ℕ, List, [], ◌∷◌, ◌++◌, ◌⊎◌}

-- The value stands in the list.
abbrev pub IsIn : {A : Type 0} → A → List A → Type 0
IsIn x [] = ⊥
IsIn x (y ∷ l) = (x ≡ y) ⊎ IsIn x l

-- The old list is left when some of the newest items of the other list are removed, or none.
abbrev pub IsOlder : {A : Type 0} → List A → List A → Type 0
IsOlder old [] = old ≡ []
IsOlder old (x ∷ l) = (old ≡ (x ∷ l)) ⊎ IsOlder old l

-- the first list is a prefix of the second
abbrev pub IsPrefix : List (List ℕ) → List (List ℕ) → Type 0
IsPrefix xs ys = (rest : List (List ℕ)) × (xs ++ rest ≡ ys)
