-- A text is cut at the first byte that ends a part.
use Rattle.std.proofs.Common.{◌≡◌, ℕ, ◌<◌, ◌≤◌, ◌+◌, ◌^◌, false, List, [], ◌∷◌, ◌++◌, length, ltb, take, drop, get_or, take-append-drop, Some, None, refl, sym, ap, inl, inr, ◌∙◌, arith, All, position}
use Rattle.std.specs.List.{slice_split, onto_first, position_or_len}
use Rattle.std.proofs.lemmas.Bool.{cases_Bool, cond-true, ltb-false}
use Rattle.std.proofs.lemmas.Grind.{common_steps}
use Rattle.std.proofs.lemmas.List.{drop_more}
use Rattle.std.proofs.lemmas.List.Quantifiers.{position-Some}
use Rattle.std.proofs.lemmas.List.Splits.{slice_split_none, slice_split_at, slice_split-cons_yes, slice_split-cons_no, length-slice_split}
use Rattle.std.proofs.lemmas.List.Sums.{fails_before_first, count_by-le-length}
use Rattle.divrelca.specs.HostNames.{salt_and_hash}
use Rattle.divrelca.specs.Texts.{is_end, parts_of}

-- There is at most one part more than there are bytes.
pub parts_fit : (end : ℕ) (text : List ℕ) → length (parts_of end text) ≤ length text + 1
parts_fit end text =
    let parts = length-slice_split (is_end end) text in
    let ends = count_by-le-length (is_end end) text in
    omega arith

-- the lines of a text that fits into memory are fewer than 2^64
pub lines_fit : (text : List ℕ) → length text < 2 ^ 63 → 0 + length (parts_of 10 text) < 2 ^ 64
lines_fit text fits = let parts = parts_fit 10 text in omega arith

-- the parts are what stands before a first byte that ends one, and the parts of what stands after it
pub cut_at : (end : ℕ) (text : List ℕ) (place : ℕ) → position (is_end end) text ≡ Some place → parts_of end text ≡ take place text ∷ parts_of end (drop (place + 1) text)
cut_at end text place e =
    let found = position-Some (is_end end) text place 0 e in
    let front : All (λ c. is_end end c ≡ false) (take place text) = λ k d lt. grind (arith, common_steps, (position-Some (is_end end) text place d e).2) in
    let parts : text ≡ take place text ++ (get_or text place 0 ∷ drop (place + 1) text) =
    sym (take-append-drop place text) ∙ ap (λ (l : List ℕ). take place text ++ l) (drop_more text place 0 found.0) in
    ap (slice_split (is_end end)) parts ∙ slice_split_at (is_end end) (take place text) (get_or text place 0) (drop (place + 1) text) front found.1

-- without such a byte the text is the one part
pub uncut : (end : ℕ) (text : List ℕ) → position (is_end end) text ≡ None → parts_of end text ≡ text ∷ []
uncut end text e =
    elim (cases_Bool (ltb (position_or_len (is_end end) text) (length text))) [
      | inl t ↦ absurd (let q : Some (position_or_len (is_end end) text) ≡ None = sym (cond-true _ _ _ t) ∙ e in cc)
      | inr f ↦
          let past = ltb-false _ _ f in
          slice_split_none (is_end end) text (λ k d lt. fails_before_first (is_end end) text k d (omega arith))
    ]

-- There is a first part.
parts_some : (end : ℕ) (text : List ℕ) → (first : List ℕ) × (rest : List (List ℕ)) × (parts_of end text ≡ first ∷ rest)
parts_some end [] = ([], [], refl)
parts_some end (c ∷ text) =
    let more = parts_some end text in
    elim (cases_Bool (is_end end c)) [
      | inl yes' ↦ ([], parts_of end text, slice_split-cons_yes (is_end end) c text yes')
      | inr no' ↦ (c ∷ more.0, more.1, slice_split-cons_no (is_end end) c text no' ∙ ap (onto_first c) more.2)
    ]

-- three parts or more are no salt and no hash
pub three_parts : (salt hash part rest : List ℕ) → parts_of 124 hash ≡ part ∷ parts_of 124 rest → salt_and_hash (salt ∷ parts_of 124 hash) ≡ None
three_parts salt hash part rest e =
    let more = parts_some 124 rest in
    ap (λ (l : List (List ℕ)). salt_and_hash (salt ∷ l)) (e ∙ ap (λ (l : List (List ℕ)). part ∷ l) more.2)
