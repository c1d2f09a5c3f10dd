-- Whether a list has a name, as it is computed.
use Rattle.std.proofs.Common.{◌≡◌, ℕ, zero, suc, List, [], ◌∷◌, ◌⊎◌, inl, inr, refl, sym, subst, arith, Bool, true, false, cond, Some, is_some, IsTrue}
use Rattle.std.specs.Prelude.{◌↔◌}
use Rattle.std.specs.List.{Contains, find}
use Rattle.std.specs.Cmp.Lexicographic.{same_text}
use Rattle.ssh_model.specs.Protocol.Wire.DataTypes.{is_text}
use Rattle.ssh_model.specs.Protocol.Authentication.Requests.{is_configured}

text_self : (a : List ℕ) → is_text a a ≡ true
text_self [] = refl
text_self (x ∷ a) = grind (arith, text_self a)

in_cases : (x y : List ℕ) (l : List (List ℕ)) → Contains (y ∷ l) x → (y ≡ x) ⊎ Contains l x
in_cases x y l (zero, n, e) = inl e
in_cases x y l (suc k, n, e) = inr (k, omega (arith, n), e)

found : (method : List ℕ) (names : List (List ℕ)) → is_configured names method ≡ true → Contains names method
found method [] e = absurd (cc e)
found method (name ∷ names) e = go (is_text name method) refl e (found method names)
  where
    go : (t : Bool) → is_text name method ≡ t → is_some (cond t (Some name) (find (λ other. is_text other method) names)) ≡ true
        → (is_configured names method ≡ true → Contains names method) → Contains (name ∷ names) method
    go true f g r = (0, omega arith, same_text name method (sym f))
    go false f g r = let c = r g in (suc c.0, omega (arith, c.1), c.2)

not_found : (method : List ℕ) (names : List (List ℕ)) → is_configured names method ≡ false → Contains names method → ⊥
not_found method [] e c = omega (arith, c.1)
not_found method (name ∷ names) e c = go (is_text name method) refl e (not_found method names) (in_cases method name names c)
  where
    go : (t : Bool) → is_text name method ≡ t → is_some (cond t (Some name) (find (λ other. is_text other method) names)) ≡ false
        → (is_configured names method ≡ false → Contains names method → ⊥) → ((name ≡ method) ⊎ Contains names method) → ⊥
    go true f g r c = cc g
    go false f g r (inl same) = let t : is_text name method ≡ true = subst (λ w. is_text w method ≡ true) (sym same) (text_self method) in cc (t, f)
    go false f g r (inr there) = r g there

pub one_truth : (test : Bool) (names : List (List ℕ)) (method : List ℕ) → (IsTrue test ↔ Contains names method) → test ≡ is_configured names method
one_truth test names method same = go test (is_configured names method) refl same
  where
    go : (t c : Bool) → is_configured names method ≡ c → (IsTrue t ↔ Contains names method) → t ≡ c
    go true true e s = refl
    go true false e s = absurd (not_found method names e (s.0 refl))
    go false true e s = s.1 (found method names e)
    go false false e s = refl
