-- A list is gone through for the first name that another has.
use Rattle.std.proofs.Common.{◌≡◌, ℕ, List, [], ◌∷◌, ◌++◌, get_or, arith, Bool, true, false, IsTrue, inl, inr, refl, sym, ap, subst, ◌∙◌, append_assoc}
use Rattle.std.specs.Prelude.{◌↔◌, Some, None}
use Rattle.std.specs.List.{Contains, slice_get}
use Rattle.std.proofs.lemmas.List.{append-nil}
use Rattle.std.proofs.lemmas.List.Elements.{Contains-append_cases, Contains-append_left, Contains-append_right}
use Rattle.std.proofs.lemmas.Bool.{cases_Bool, cond-true, cond-false}
use Rattle.ssh_model.specs.Protocol.KeyExchange.Choice.{is_method, methods}
use Rattle.ssh_model.specs.Laws.KeyExchange.{IsFirstCommon, HasNoCommon, HasCommon}

-- The names before those that are left are not in the server's.
pub record Skipped (all left server : List (List ℕ)) : Type 0 where
  pub earlier : List (List ℕ)
  pub place : all ≡ earlier ++ left
  pub none : (other : List ℕ) → Contains earlier other → Contains server other → ⊥

contains_one : (x y : List ℕ) → Contains (x ∷ []) y → x ≡ y
contains_one x y h = let z : 0 ≡ h.0 = omega (arith, h.1) in ap (λ (k : ℕ). get_or (x ∷ []) k y) z ∙ h.2

contains_none : (y : List ℕ) → Contains {X = List ℕ} [] y → ⊥
contains_none y h = omega (arith, h.1)

pub begun : (all left server : List (List ℕ)) → left ≡ all → Skipped all left server
begun all left server same = record { earlier = []; place = sym same; none = λ other h _. contains_none other h }

skipped_one : (all left server rest : List (List ℕ)) (name : List ℕ) → Skipped all left server → left ≡ name ∷ rest → (Contains server name → ⊥) → Skipped all rest server
skipped_one all left server rest name s next missing = record {
  earlier = s.earlier ++ name ∷ [];
  place = s.place ∙ ap (λ (l : List (List ℕ)). s.earlier ++ l) next ∙ sym (append_assoc s.earlier (name ∷ []) rest);
  none = λ other h in_server. elim (Contains-append_cases s.earlier (name ∷ []) other h) [
    | inl early ↦ s.none other early in_server
    | inr one ↦ missing (subst (λ (n : List ℕ). Contains server n) (sym (contains_one name other one)) in_server)
  ];
}

pub goes_on : (all left server rest : List (List ℕ)) (name : List ℕ) (test : Bool) → Skipped all left server → left ≡ name ∷ rest → (IsTrue test ↔ Contains server name) → test ≡ false → Skipped all rest server
goes_on all left server rest name test s next means missing = skipped_one all left server rest name s next (λ here. let e : true ≡ false = sym (means.1 here) ∙ missing in cc)

pub found : (all left server rest : List (List ℕ)) (name : List ℕ) → Skipped all left server → left ≡ name ∷ rest → Contains server name → IsFirstCommon all server name
found all left server rest name s next here = record {
  earlier = s.earlier;
  later = rest;
  place = s.place ∙ ap (λ (l : List (List ℕ)). s.earlier ++ l) next;
  in_both = here;
  first = s.none;
}

in_middle : (earlier later : List (List ℕ)) (name : List ℕ) → Contains (earlier ++ name ∷ later) name
in_middle earlier later name = Contains-append_right earlier (name ∷ later) name (0, omega arith, refl)

pub has_common : (client server : List (List ℕ)) (name : List ℕ) → IsFirstCommon client server name → HasCommon client server
has_common client server name f = record {
  name = name;
  in_client = subst (λ (l : List (List ℕ)). Contains l name) (sym f.place) (in_middle f.earlier f.later name);
  in_server = f.in_both;
}

pub ended : (all left server : List (List ℕ)) → Skipped all left server → left ≡ [] → HasNoCommon all server
ended all left server s empty = record {
  none = λ name h in_server. s.none name (subst (λ (l : List (List ℕ)). Contains l name) (s.place ∙ ap (λ (l : List (List ℕ)). s.earlier ++ l) empty ∙ append-nil s.earlier) h) in_server;
}

-- ---- the markers taken out

method_kept : (name : List ℕ) (rest : List (List ℕ)) → is_method name ≡ true → methods (name ∷ rest) ≡ name ∷ methods rest
unfolding methods
method_kept name rest t = cond-true _ _ _ t

marker_out : (name : List ℕ) (rest : List (List ℕ)) → is_method name ≡ false → methods (name ∷ rest) ≡ methods rest
unfolding methods
marker_out name rest f = cond-false _ _ _ f

no_methods : methods [] ≡ []
unfolding methods
no_methods = refl

-- a method of the list
kept_method : (names : List (List ℕ)) (name : List ℕ) → is_method name ≡ true → Contains names name → Contains (methods names) name
kept_method [] name t h = absurd (contains_none name h)
kept_method (n ∷ names) name t h =
    elim (Contains-append_cases (n ∷ []) names name h) [
      | inl one ↦
          let same = contains_one n name one in
          subst (λ (m : List ℕ). Contains (methods (m ∷ names)) name) (sym same)
          (subst (λ (l : List (List ℕ)). Contains l name) (sym (method_kept name names t)) (0, omega arith, refl))
      | inr later ↦
          let rest = kept_method names name t later in
          elim (cases_Bool (is_method n)) [
            | inl kept ↦ subst (λ (l : List (List ℕ)). Contains l name) (sym (method_kept n names kept)) (Contains-append_right (n ∷ []) (methods names) name rest)
            | inr out ↦ subst (λ (l : List (List ℕ)). Contains l name) (sym (marker_out n names out)) rest
          ]
    ]

-- what is left is a method of the list
left_method : (names : List (List ℕ)) (name : List ℕ) → Contains (methods names) name → Contains names name × (is_method name ≡ true)
left_method [] name h = absurd (contains_none name (subst (λ (l : List (List ℕ)). Contains l name) no_methods h))
left_method (n ∷ names) name h =
    elim (cases_Bool (is_method n)) [
      | inl kept ↦ elim (Contains-append_cases (n ∷ []) (methods names) name (subst (λ (l : List (List ℕ)). Contains l name) (method_kept n names kept) h)) [
        | inl one ↦ (Contains-append_left (n ∷ []) names name one, subst (λ (m : List ℕ). is_method m ≡ true) (contains_one n name one) kept)
        | inr later ↦ let rest = left_method names name later in (Contains-append_right (n ∷ []) names name rest.0, rest.1)
      ]
      | inr out ↦
          let rest = left_method names name (subst (λ (l : List (List ℕ)). Contains l name) (marker_out n names out) h) in
          (Contains-append_right (n ∷ []) names name rest.0, rest.1)
    ]

pub in_methods : (names : List (List ℕ)) (name : List ℕ) (test : Bool) → (IsTrue test ↔ Contains names name) → is_method name ≡ true → IsTrue test ↔ Contains (methods names) name
in_methods names name test means t = (λ yes. kept_method names name t (means.0 yes), λ h. means.1 (left_method names name h).0)

pub not_in_methods : (names : List (List ℕ)) (name : List ℕ) → is_method name ≡ false → IsTrue false ↔ Contains (methods names) name
not_in_methods names name f = (λ e. absurd cc, λ h. (let e : false ≡ true = sym f ∙ (left_method names name h).1 in e))

-- a name that is no method of the server's, the markers taken out of the list that is gone through
pub goes_on_methods : (all left server rest : List (List ℕ)) (name : List ℕ) (test : Bool) → Skipped (methods all) (methods left) (methods server) → left ≡ name ∷ rest → (IsTrue test ↔ Contains (methods server) name) → test ≡ false → Skipped (methods all) (methods rest) (methods server)
goes_on_methods all left server rest name test s next means missing =
    elim (cases_Bool (is_method name)) [
      | inl kept ↦ goes_on (methods all) (methods left) (methods server) (methods rest) name test s (ap methods next ∙ method_kept name rest kept) means missing
      | inr out ↦ subst (λ (l : List (List ℕ)). Skipped (methods all) l (methods server)) (ap methods next ∙ marker_out name rest out) s
    ]

pub found_method : (all left server rest : List (List ℕ)) (name : List ℕ) → Skipped (methods all) (methods left) (methods server) → left ≡ name ∷ rest → Contains (methods server) name → IsFirstCommon (methods all) (methods server) name
found_method all left server rest name s next here =
    found (methods all) (methods left) (methods server) (methods rest) name s (ap methods next ∙ method_kept name rest (left_method server name here).1) here

pub ended_methods : (all left server : List (List ℕ)) → Skipped (methods all) (methods left) (methods server) → left ≡ [] → HasNoCommon (methods all) (methods server)
ended_methods all left server s empty = ended (methods all) (methods left) (methods server) s (ap methods empty ∙ no_methods)

-- the first method of a list
pub first_is : (all left rest : List (List ℕ)) (name : List ℕ) → methods all ≡ methods left → left ≡ name ∷ rest → is_method name ≡ true → slice_get (methods all) 0 ≡ Some name
first_is all left rest name same next t = ap (λ (l : List (List ℕ)). slice_get l 0) (same ∙ ap methods next ∙ method_kept name rest t)

pub first_after : (all left rest : List (List ℕ)) (name : List ℕ) → methods all ≡ methods left → left ≡ name ∷ rest → is_method name ≡ false → methods all ≡ methods rest
first_after all left rest name same next f = same ∙ ap methods next ∙ marker_out name rest f

pub no_first : (all left : List (List ℕ)) → methods all ≡ methods left → left ≡ [] → slice_get (methods all) 0 ≡ None
no_first all left same empty = ap (λ (l : List (List ℕ)). slice_get l 0) (same ∙ ap methods empty ∙ no_methods)
