-- Tests that compute, and what they tell.
use Rattle.std.proofs.Common.{◌≡◌, ℕ, Bool, true, false, ◌&&◌, ◌||◌, eqb, List, [], ◌∷◌, get_or, arith, refl, sym, ap, subst, ◌∙◌, inl, inr, ◌⊎◌}
use Rattle.std.specs.Prelude.{nat_eq, not}
use Rattle.std.specs.List.{Contains, list_all}
use Rattle.std.specs.Cmp.Lexicographic.{pointwise}
use Rattle.std.proofs.lemmas.Bool.{and_parts, eqb-true}
use Rattle.std.proofs.lemmas.List.Elements.{Contains-append_cases, Contains-append_right}
use Rattle.std.proofs.lemmas.Cmp.{nat_list_eq_equiv}

pub both : (a b : Bool) → a ≡ true → b ≡ true → (a && b) ≡ true
both true b p q = q
both false b p q = p

pub either : (a b : Bool) → (a || b) ≡ true → (a ≡ true) ⊎ (b ≡ true)
either true b h = inl refl
either false b h = inr h

pub first_of : (a b : Bool) → a ≡ true → (a || b) ≡ true
first_of true b p = refl
first_of false b p = absurd cc

pub second_of : (a b : Bool) → b ≡ true → (a || b) ≡ true
second_of true b q = refl
second_of false b q = q

pub neither : (a b : Bool) → (a || b) ≡ false → (a ≡ false) × (b ≡ false)
neither false b h = (refl, h)
neither true b h = absurd cc

pub no_one : (a b : Bool) → a ≡ false → b ≡ false → (a || b) ≡ false
no_one false b p q = q
no_one true b p q = absurd cc

pub not_true : (a : Bool) → not a ≡ true → a ≡ false
not_true false h = refl
not_true true h = absurd cc

-- a test that failed is one that did not hold
pub not_both : (a : Bool) → a ≡ false → a ≡ true → ⊥
not_both a f t = let e : true ≡ false = sym t ∙ f in cc

-- ---- texts

pub same_text : (xs ys : List ℕ) → pointwise nat_eq xs ys ≡ true → xs ≡ ys
same_text [] [] h = refl
same_text [] (y ∷ ys) h = absurd cc
same_text (x ∷ xs) [] h = absurd cc
same_text (x ∷ xs) (y ∷ ys) h =
    let p = and_parts (eqb x y) (pointwise nat_eq xs ys) h in
    ap (λ (n : ℕ). n ∷ xs) (eqb-true x y p.0) ∙ ap (λ (l : List ℕ). y ∷ l) (same_text xs ys p.1)

pub text_same : (xs ys : List ℕ) → xs ≡ ys → pointwise nat_eq xs ys ≡ true
text_same xs ys e = subst (λ (l : List ℕ). pointwise nat_eq xs l ≡ true) e (nat_list_eq_equiv.refl xs)

-- ---- all of a list

pub implied : (p q : ℕ → Bool) (xs : List ℕ) → ((x : ℕ) → p x ≡ true → q x ≡ true) → list_all p xs ≡ true → list_all q xs ≡ true
implied p q [] f h = refl
implied p q (x ∷ xs) f h =
    let parts = and_parts (p x) (list_all p xs) h in
    both (q x) (list_all q xs) (f x parts.0) (implied p q xs f parts.1)

contains_one : (x y : List ℕ) → Contains (x ∷ []) y → x ≡ y
contains_one x y h = let z : 0 ≡ h.0 = omega (arith, h.1) in ap (λ (k : ℕ). get_or (x ∷ []) k y) z ∙ h.2

pub passes : (p : List ℕ → Bool) (xs : List (List ℕ)) (x : List ℕ) → list_all p xs ≡ true → Contains xs x → p x ≡ true
passes p [] x h c = absurd (omega (arith, c.1))
passes p (y ∷ ys) x h c =
    let parts = and_parts (p y) (list_all p ys) h in
    elim (Contains-append_cases (y ∷ []) ys x c) [
      | inl one ↦ subst (λ (z : List ℕ). p z ≡ true) (contains_one y x one) parts.0
      | inr later ↦ passes p ys x parts.1 later
    ]

pub all_pass : (p : List ℕ → Bool) (xs : List (List ℕ)) → ((x : List ℕ) → Contains xs x → p x ≡ true) → list_all p xs ≡ true
all_pass p [] f = refl
all_pass p (y ∷ ys) f =
    both (p y) (list_all p ys) (f y (0, omega arith, refl)) (all_pass p ys (λ x c. f x (Contains-append_right (y ∷ []) ys x c)))
