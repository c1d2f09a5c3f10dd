-- Fronts and ends of lists of bytes.
use Rattle.std.proofs.Common.{◌≡◌, ℕ, Bool, true, false, ◌&&◌, List, [], ◌∷◌, ◌++◌, length, ◌⊎◌, inl, inr, refl, ap, arith, length-append}
use Rattle.std.specs.List.{list_all}

-- of two beginnings of one list one begins the other
pub cut : (u v p q : List ℕ) → u ++ v ≡ p ++ q → ((x : List ℕ) × (u ++ x ≡ p) × (v ≡ x ++ q)) ⊎ ((y : ℕ) × (x : List ℕ) × (p ++ y ∷ x ≡ u))
cut [] v p q e = inl (p, refl, e)
cut (a ∷ u) v [] q e = inr (a, u, refl)
cut (a ∷ u) v (b ∷ p) q e =
    let h : a ≡ b = cc e in
    let t : u ++ v ≡ p ++ q = cc e in
    go h (cut u v p q t)
  where
    go : a ≡ b → (((x : List ℕ) × (u ++ x ≡ p) × (v ≡ x ++ q)) ⊎ ((y : ℕ) × (x : List ℕ) × (p ++ y ∷ x ≡ u))) →
        ((x : List ℕ) × ((a ∷ u) ++ x ≡ b ∷ p) × (v ≡ x ++ q)) ⊎ ((y : ℕ) × (x : List ℕ) × ((b ∷ p) ++ y ∷ x ≡ a ∷ u))
    go h (inl r) = inl (r.0, cc (h, r.1), r.2)
    go h (inr r) = inr (r.0, r.1, cc (h, r.2))

-- lists with one more byte after them
pub same_last : (xs ys : List ℕ) (a b : ℕ) → xs ++ a ∷ [] ≡ ys ++ b ∷ [] → (xs ≡ ys) × (a ≡ b)
same_last [] [] a b e = (refl, cc e)
same_last [] (y ∷ ys) a b e = absurd (omega (arith, ap length e, length-append ys (b ∷ [])))
same_last (x ∷ xs) [] a b e = absurd (omega (arith, ap length e, length-append xs (a ∷ [])))
same_last (x ∷ xs) (y ∷ ys) a b e =
    let h : x ≡ y = cc e in
    let t : xs ++ a ∷ [] ≡ ys ++ b ∷ [] = cc e in
    let r = same_last xs ys a b t in
    (cc (h, r.0), r.1)

pub no_more : (x : List ℕ) → length x ≡ 0 → x ≡ []
no_more [] e = refl
no_more (b ∷ x) e = absurd (omega (arith, e))

-- ---- tests of all bytes

pub both : (a b : Bool) → (a && b) ≡ true → (a ≡ true) × (b ≡ true)
both true b e = (refl, e)
both false b e = (e, absurd (let f : false ≡ true = e in cc))

pub all_front : (test : ℕ → Bool) (u v : List ℕ) → list_all test (u ++ v) ≡ true → list_all test u ≡ true
all_front test [] v h = refl
all_front test (b ∷ u) v h = let p = both (test b) (list_all test (u ++ v)) h in rw p.0 (all_front test u v p.1)

pub all_there : (test : ℕ → Bool) (u v : List ℕ) (b : ℕ) → list_all test (u ++ b ∷ v) ≡ true → test b ≡ true
all_there test [] v b h = (both (test b) (list_all test v) h).0
all_there test (c ∷ u) v b h = all_there test u v b (both (test c) (list_all test (u ++ b ∷ v)) h).1
