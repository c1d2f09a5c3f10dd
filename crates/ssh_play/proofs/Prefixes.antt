-- Prefixes of lists of payloads.
use Rattle.std.proofs.Common.{◌≡◌, ℕ, suc, zero, ◌<◌, ◌≤◌, ◌↔◌, List, [], ◌∷◌, ◌++◌, length, drop, Bool, true, false, nat_eq, Bor, sym, ◌∙◌, ap, refl, true≢false, arith, rules, IsTrue}
use Rattle.std.specs.Cmp.Lexicographic.{pointwise, pointwise_decides}
use Rattle.std.proofs.lemmas.Bool.Decides.{Decides-eqb}
use Rattle.ssh_model.specs.Protocol.Lists.{IsPrefix}
use Rattle.ssh_play.specs.Prefixes.{begins, payloads_in}

-- Only an empty list is a prefix of none.
begins-nothing : (begun : List (Bor (List ℕ))) (i : ℕ) → i < length begun → begins (payloads_in (drop i begun)) [] ≡ false
begins-nothing [] i h = absurd (omega arith)
begins-nothing (b ∷ bs) zero h = refl
begins-nothing (b ∷ bs) (suc i) h = begins-nothing bs i (omega arith)

-- A list that has more is no prefix.
pub short_begins : (begun whole : List (Bor (List ℕ))) (i : ℕ) → i < length begun → length whole ≤ i → begins (payloads_in (drop i begun)) (payloads_in (drop i whole)) ≡ false
short_begins [] whole i h k = absurd (omega arith)
short_begins (b ∷ bs) [] zero h k = refl
short_begins (b ∷ bs) [] (suc i) h k = begins-nothing bs i (omega arith)
short_begins (b ∷ bs) (w ∷ ws) zero h k = absurd (omega arith)
short_begins (b ∷ bs) (w ∷ ws) (suc i) h k = short_begins bs ws i (omega arith) (omega arith)

-- What is computed is a prefix.
pub begins_true : (xs ys : List (List ℕ)) → begins xs ys ≡ true → IsPrefix xs ys
begins_true [] ys h = (ys, refl)
begins_true (x ∷ xs) [] h = absurd (true≢false (sym h))
begins_true (x ∷ xs) (y ∷ ys) h =
    let first : pointwise nat_eq x y ≡ true = search rules in
    let others : begins xs ys ≡ true = search rules in
    let same : x ≡ y = (pointwise_decides Decides-eqb x y).0 first in
    let further : IsPrefix xs ys = begins_true xs ys others in
    (further.0, ap (λ z. z ∷ (xs ++ further.0)) same ∙ ap (λ l. y ∷ l) further.1)

-- A prefix is computed to be one.
pub begins_of : (xs ys rest : List (List ℕ)) → xs ++ rest ≡ ys → begins xs ys ≡ true
begins_of [] ys rest h = refl
begins_of (x ∷ xs) ys rest h =
    let first : pointwise nat_eq x x ≡ true = (pointwise_decides Decides-eqb x x).1 refl in
    let others : begins xs (xs ++ rest) ≡ true = begins_of xs (xs ++ rest) rest refl in
    rw (← h) (rw (first, others) refl)

-- What is computed is whether it is a prefix.
pub begins_is : (xs ys : List (List ℕ)) (r : Bool) → r ≡ begins xs ys → IsTrue r ↔ IsPrefix xs ys
begins_is xs ys r e = (λ yes. begins_true xs ys (sym e ∙ yes), λ prefix. e ∙ begins_of xs ys prefix.0 prefix.1)
