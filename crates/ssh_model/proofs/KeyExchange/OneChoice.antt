-- Markers in a list, and lists of which no name is common.
use Rattle.std.proofs.Common.{Option, ◌≡◌, ◌↔◌, ℕ, suc, List, [], ◌∷◌, ◌++◌, ◌⊎◌, inl, inr, refl, ap, sym, subst, arith, Bool, true, false, cond, Some, None, is_some, ◌&&◌, if◌then◌else◌, IsTrue}
use Rattle.std.specs.List.{Contains, find}
use Rattle.ssh_model.specs.Protocol.Wire.DataTypes.{is_text}
use Rattle.ssh_model.specs.Protocol.KeyExchange.Choice.{Kind, Kind.Kex, Kind.HostKey, Kind.EncCs, Kind.EncSc, Kind.MacCs, Kind.MacSc, Kind.CompCs, Kind.CompSc, Lists, is_method, methods}
use Rattle.ssh_model.specs.Laws.KeyExchange.{HasNoCommon, IsFirstWithout}
use Rattle.ssh_model.specs.Protocol.KeyExchange.Exchanges.{common, first_common, has_choice, has_marker}
use Rattle.ssh_model.proofs.KeyExchange.Firsts.{first_is, head_in, in_cases, tail_in, text_same, text_self}

-- ---- a name in a list

middle_in : (earlier later : List (List ℕ)) (name : List ℕ) → Contains (earlier ++ name ∷ later) name
middle_in [] later name = head_in name later
middle_in (x ∷ earlier) later name = tail_in name x (earlier ++ name ∷ later) (middle_in earlier later name)

same_self : (one other : List ℕ) → one ≡ other → is_text one other ≡ true
same_self one other e = subst (λ (name : List ℕ). is_text one name ≡ true) e (text_self one)

-- ---- a marker

marker_found : (marker : List ℕ) (names : List (List ℕ)) → Contains names marker → has_marker marker names ≡ true
marker_found marker [] c = absurd (omega (arith, c.1))
marker_found marker (name ∷ names) c = go (is_text name marker) refl (in_cases marker name names c) (marker_found marker names)
  where
    go : (t : Bool) → is_text name marker ≡ t → ((name ≡ marker) ⊎ Contains names marker) → (Contains names marker → has_marker marker names ≡ true) → is_some (cond t (Some name) (find (λ other. is_text other marker) names)) ≡ true
    go true e d r = refl
    go false e (inl same) r = absurd (cc (e, same_self name marker same))
    go false e (inr later) r = r later

marker_in : (marker : List ℕ) (names : List (List ℕ)) → has_marker marker names ≡ true → Contains names marker
marker_in marker [] e = absurd (cc e)
marker_in marker (name ∷ names) e = go (is_text name marker) refl e (marker_in marker names)
  where
    go : (t : Bool) → is_text name marker ≡ t → is_some (cond t (Some name) (find (λ other. is_text other marker) names)) ≡ true → (has_marker marker names ≡ true → Contains names marker) → Contains (name ∷ names) marker
    go true f d r = (0, omega arith, text_same name marker f)
    go false f d r = let c = r d in (suc c.0, omega (arith, c.1), c.2)

pub marker_there : (marker : List ℕ) (names : List (List ℕ)) → IsTrue (has_marker marker names) ↔ Contains names marker
marker_there marker names = (marker_in marker names, marker_found marker names)

-- A marker after other names is no method, so it chooses nothing.
pub marker_chooses_nothing : (names : List (List ℕ)) (marker : List ℕ) → is_method marker ≡ false → methods (names ++ marker ∷ []) ≡ methods names
unfolding methods
marker_chooses_nothing [] marker out = ap (λ (t : Bool). if t then marker ∷ [] else []) out
marker_chooses_nothing (name ∷ names) marker out = go (is_method name) (marker_chooses_nothing names marker out)
  where
    go : (t : Bool) → methods (names ++ marker ∷ []) ≡ methods names → (if t then name ∷ methods (names ++ marker ∷ []) else methods (names ++ marker ∷ [])) ≡ (if t then name ∷ methods names else methods names)
    go true e = ap (λ (l : List (List ℕ)). name ∷ l) e
    go false e = e

-- ---- where there is no choice

pub none_computed : (client server : List (List ℕ)) → HasNoCommon client server → first_common client server ≡ None
none_computed client server h = go (first_common client server) refl
  where
    go : (x : Option (List ℕ)) → first_common client server ≡ x → x ≡ None
    go None e = refl
    go (Some other) e = let f = first_is client server other e in absurd (h.none other (subst (λ (l : List (List ℕ)). Contains l other) (sym f.place) (middle_in f.earlier f.later other)) f.in_both)

left : (a b : Bool) → a ≡ false → (a && b) ≡ false
left a b e = rw e refl

right : (a b : Bool) → b ≡ false → (a && b) ≡ false
right true b e = e
right false b e = refl

-- one of eight tests fails
not_eight : (client server : Lists) (kind : Kind) → is_some (common kind client server) ≡ false → has_choice client server ≡ false
not_eight client server Kex e = left _ _ (left _ _ (left _ _ (left _ _ (left _ _ (left _ _ (left _ _ e))))))
not_eight client server HostKey e = left _ _ (left _ _ (left _ _ (left _ _ (left _ _ (left _ _ (right _ _ e))))))
not_eight client server EncCs e = left _ _ (left _ _ (left _ _ (left _ _ (left _ _ (right _ _ e)))))
not_eight client server EncSc e = left _ _ (left _ _ (left _ _ (left _ _ (right _ _ e))))
not_eight client server MacCs e = left _ _ (left _ _ (left _ _ (right _ _ e)))
not_eight client server MacSc e = left _ _ (left _ _ (right _ _ e))
not_eight client server CompCs e = left _ _ (right _ _ e)
not_eight client server CompSc e = right _ _ e

pub no_choice : (client server : Lists) (kind : Kind) → IsFirstWithout client server kind → has_choice client server ≡ false
no_choice client server kind h = not_eight client server kind (ap is_some (none_computed _ _ h.none))
