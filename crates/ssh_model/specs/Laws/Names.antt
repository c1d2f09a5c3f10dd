-- A text of names joined by commas belongs to only one list of names.
use Rattle.std.proofs.Common.{◌≡◌, ℕ, ◌≤◌, ◌*◌, true, false, ◌&&◌, leb, eqb, List, [], ◌∷◌, ◌++◌, length, refl}
use Rattle.std.proofs.Common.{sym, ap}
use Rattle.std.proofs.Common.{◌∙◌, arith, inl, inr, append_assoc, length-append}
use Rattle.std.specs.List.{join_with_byte, slice_split, list_all, All, count_by}
use Rattle.std.proofs.lemmas.Bool.{and_parts, leb-true, cases_Bool, cond-true}
use Rattle.std.proofs.lemmas.List.Sums.{AllPass-from_list_all}
use Rattle.std.proofs.lemmas.List.Splits.{slice_split_none, slice_split_at}
use Rattle.ssh_model.specs.Protocol.Bounds.{longest_name}
use Rattle.ssh_model.specs.Protocol.Wire.DataTypes.{is_comma, is_name_byte, is_name, IsNameText}

no_comma : (c : ℕ) → is_name_byte c ≡ true → is_comma c ≡ false
no_comma c h =
    elim (cases_Bool (is_comma c)) [
      | inl t ↦ absurd (let e : false
          ≡ true = sym (cond-true (is_comma c) false true t) ∙ (and_parts (leb 33 c && leb c 126) _ h).1 in cc)
      | inr f ↦ f
    ]

-- a name has 1 to `longest_name` bytes, and no comma
pub record NameFacts (name : List ℕ) : Type 0 where
  pub some : 1 ≤ length name
  pub most : length name ≤ longest_name
  pub plain : All (λ c. is_comma c ≡ false) name

-- A name has these properties.
pub name_facts : (name : List ℕ) → is_name name ≡ true → NameFacts name
name_facts name h =
    let p = and_parts ((leb 1 (length name) && leb (length name) longest_name)
    && list_all is_name_byte name) (leb (count_by (λ c. eqb c 64) name) 1) h in
    let q = and_parts (leb 1 (length name) && leb (length name) longest_name) (list_all is_name_byte name) p.0 in
    let r = and_parts (leb 1 (length name)) (leb (length name) longest_name) q.0 in
    record {
      some = leb-true 1 (length name) r.0;
      most = leb-true (length name) longest_name r.1;
      plain = λ k d lt. no_comma _ (AllPass-from_list_all is_name_byte name q.1 k d lt);
    }

-- Splitting joined names at the commas gives the names again.
pub split_joined : (name : List ℕ) (names : List (List ℕ)) → list_all is_name (name ∷ names) ≡ true →
    slice_split is_comma (join_with_byte 44 (name ∷ names)) ≡ name ∷ names
split_joined name [] h = slice_split_none is_comma name (name_facts name (and_parts (is_name name) true h).0).plain
split_joined name (next ∷ names) h =
    let p = and_parts (is_name name) (list_all is_name (next ∷ names)) h in
    slice_split_at is_comma name 44 (join_with_byte 44 (next
    ∷ names)) (name_facts name p.0).plain refl ∙ ap (λ (l : List (List ℕ)). name ∷ l) (split_joined next names p.1)

-- A text of at least one name is not empty. A text belongs to only one list of names.
not_empty : (names : List (List ℕ)) (name : List ℕ) → 1 ≤ length name → [] ≡ join_with_byte 44 (name ∷ names) → ⊥
not_empty [] name some e = omega (arith, ap length e)
not_empty (next ∷ names) [] some e = omega arith
not_empty (next ∷ names) (c ∷ cs) some e = cc

pub one_text : (names others : List (List ℕ)) (text : List ℕ) → IsNameText names text → IsNameText others text →
    names ≡ others
one_text [] [] text t u = refl
one_text [] (name ∷ names) text t u =
    let good = and_parts (is_name name) (list_all is_name names) u.all in
    absurd (not_empty names name (name_facts name good.0).some (sym t.joined ∙ u.joined))
one_text (name ∷ names) [] text t u =
    let good = and_parts (is_name name) (list_all is_name names) t.all in
    absurd (not_empty names name (name_facts name good.0).some (sym u.joined ∙ t.joined))
one_text (name ∷ names) (other ∷ others) text t u =
    let same = ap (slice_split is_comma) (sym t.joined ∙ u.joined) in
    sym (split_joined name names t.all) ∙ same ∙ split_joined other others u.all

-- Names joined by commas have at most 65 bytes for each name.
pub joined_length : (names : List (List ℕ)) → list_all is_name names ≡ true →
    length (join_with_byte 44 names) ≤ 65 * length names
joined_length [] h = omega arith
joined_length (name ∷ []) h =
    let p = and_parts (is_name name) true h in
    let most : length name ≤ longest_name = (name_facts name p.0).most in
    omega arith
joined_length (name ∷ next ∷ names) h =
    let p = and_parts (is_name name) (list_all is_name (next ∷ names)) h in
    let most : length name ≤ longest_name = (name_facts name p.0).most in
    let rest : length (join_with_byte 44 (next ∷ names)) ≤ 65 * length (next ∷ names) =
    joined_length (next ∷ names) p.1 in
    omega (arith, length-append name (44 ∷ join_with_byte 44 (next ∷ names)))

-- A text of names has at most 65 bytes for each name.
pub text_length : (names : List (List ℕ)) (text : List ℕ) → IsNameText names text → length text ≤ 65 * length names
text_length names text t =
    let joined : length (join_with_byte 44 names) ≤ 65 * length names = joined_length names t.all in
    let same : length text ≡ length (join_with_byte 44 names) = ap (λ (l : List ℕ). length l) t.joined in
    omega arith

-- one name more stands after a comma
pub one_more : (first : List ℕ) (names : List (List ℕ)) (name : List ℕ) →
    join_with_byte 44 (first ∷ (names ++ name ∷ [])) ≡ join_with_byte 44 (first ∷ names) ++ (44 ∷ name)
one_more first [] name = refl
one_more first (next ∷ names) name =
    ap (λ (l : List ℕ). first ++ (44 ∷ l)) (one_more next names name)
    ∙ sym (append_assoc first (44 ∷ join_with_byte 44 (next ∷ names)) (44 ∷ name))
