-- Lists of payloads, in the order in which they went.
use Rattle.std.specs.Prelude.{ℕ, Bool, true, false, ◌&&◌, cond, nat_eq, List, [], ◌∷◌}
use Rattle.std.specs.Cmp.Lexicographic.{pointwise}
use Rattle.std.specs.Borrow.{Bor}

-- the payloads that references lead to
abbrev pub payloads_in : List (Bor (List ℕ)) → List (List ℕ)
payloads_in [] = []
payloads_in (payload ∷ payloads) = payload.now ∷ payloads_in payloads

-- whether a payload is a NEWKEYS (RFC 4253 section 7.3), by its number
abbrev pub has_newkeys : List ℕ → Bool
has_newkeys [] = false
has_newkeys (number ∷ rest) = nat_eq number 21

-- the payloads after the first NEWKEYS
abbrev pub after_first : List (List ℕ) → List (List ℕ)
after_first [] = []
after_first (payload ∷ payloads) = cond (has_newkeys payload) payloads (after_first payloads)

-- whether the first list is a prefix of the second
abbrev pub begins : List (List ℕ) → List (List ℕ) → Bool
begins [] whole = true
begins (payload ∷ payloads) [] = false
begins (payload ∷ payloads) (other ∷ whole) = pointwise nat_eq payload other && begins payloads whole
