-- The first byte of some bytes that a test of all of them fails at.
use Rattle.std.proofs.Common.{◌≡◌, ℕ, zero, suc, ◌+◌, ◌<◌, ◌≤◌, Bool, true, false, not, cond, ltb, List, [], ◌∷◌, ◌++◌, length, get_or, take, drop, Some, None, ◌⊎◌, inl, inr, refl, ap, sym, ◌∙◌, arith}
use Rattle.std.specs.List.{list_all, position, position_or_len}
use Rattle.std.proofs.lemmas.Bool.{cases_Bool, and_parts, and_from}
use Rattle.std.proofs.lemmas.List.{take-append-drop, drop_more, take_all}
use Rattle.std.proofs.lemmas.List.Sums.{fails_before_first}
use Rattle.std.proofs.lemmas.List.Quantifiers.{position-Some}

all_before : (test : ℕ → Bool) (xs : List ℕ) (n : ℕ) → n ≤ length xs → ((k : ℕ) → k < n → test (get_or xs k 0) ≡ true) → list_all test (take n xs) ≡ true
all_before test [] n h f = ap (λ (l : List ℕ). list_all test l) (take_all n [] (omega arith))
all_before test (x ∷ xs) zero h f = refl
all_before test (x ∷ xs) (suc n) h f = and_from _ _ (f 0 (omega arith)) (all_before test xs n (omega (arith, h)) (λ k l. f (suc k) (omega (arith, l))))

-- The bytes before pass the test, and this one doesn't.
pub record IsFirstOther (test : ℕ → Bool) (at : ℕ) (bytes : List ℕ) : Type 0 where
  pub within : at < length bytes
  pub before : list_all test (take at bytes) ≡ true
  pub here : test (get_or bytes at 0) ≡ false
  pub parts : bytes ≡ take at bytes ++ get_or bytes at 0 ∷ drop (at + 1) bytes

not_not : (a b : Bool) → a ≡ not b → a ≡ false → b ≡ true
not_not a true e f = refl
not_not a false e f = let g : true ≡ false = sym e ∙ f in cc g

not_true : (a b : Bool) → a ≡ not b → a ≡ true → b ≡ false
not_true a false e f = refl
not_true a true e f = let g : false ≡ true = sym e ∙ f in cc g

pub first_other : (test fails : ℕ → Bool) → ((b : ℕ) → fails b ≡ not (test b)) → (bytes : List ℕ) (at : ℕ) → position fails bytes ≡ Some at → IsFirstOther test at bytes
first_other test fails same bytes at e =
    let p = position-Some fails bytes at 0 e in
    record {
      within = p.0;
      before = all_before test bytes at (omega (arith, p.0)) (λ k l. not_not (fails (get_or bytes k 0)) (test (get_or bytes k 0)) (same (get_or bytes k 0)) (p.2 k l));
      here = not_true (fails (get_or bytes at 0)) (test (get_or bytes at 0)) (same (get_or bytes at 0)) p.1;
      parts = sym (take-append-drop at bytes) ∙ ap (λ (l : List ℕ). take at bytes ++ l) (drop_more bytes at 0 p.0);
    }

no_place : (a b : ℕ) → cond (ltb a b) (Some a) None ≡ None → b ≤ a
no_place a b e = go (cases_Bool (ltb a b))
  where
    go : ((ltb a b ≡ true) ⊎ (ltb a b ≡ false)) → b ≤ a
    go (inl t) = let f : Some a ≡ None = sym (ap (λ (c : Bool). cond c (Some a) None) t) ∙ e in cc f
    go (inr f) = grind (arith, f)

pub no_other : (test fails : ℕ → Bool) → ((b : ℕ) → fails b ≡ not (test b)) → (bytes : List ℕ) → position fails bytes ≡ None → list_all test bytes ≡ true
no_other test fails same bytes e =
    let long = no_place (position_or_len fails bytes) (length bytes) e in
    let whole = all_before test bytes (length bytes) (omega arith) (λ k l. not_not (fails (get_or bytes k 0)) (test (get_or bytes k 0)) (same (get_or bytes k 0)) (fails_before_first fails bytes k 0 (omega (arith, long, l)))) in
    sym (ap (λ (l : List ℕ). list_all test l) (take_all (length bytes) bytes (omega arith))) ∙ whole

-- a test that fails somewhere does not pass everywhere
pub not_all : (test : ℕ → Bool) (u v : List ℕ) (b : ℕ) → test b ≡ false → list_all test (u ++ b ∷ v) ≡ true → ⊥
not_all test [] v b f h = let g : true ≡ false = sym (and_parts (test b) (list_all test v) h).0 ∙ f in cc g
not_all test (c ∷ u) v b f h = not_all test u v b f (and_parts (test c) (list_all test (u ++ b ∷ v)) h).1

-- there is one first place
pub one_first : (test : ℕ → Bool) (a b s t : List ℕ) (x y : ℕ) → list_all test a ≡ true → list_all test b ≡ true → test x ≡ false → test y ≡ false → a ++ x ∷ s ≡ b ++ y ∷ t → (a ≡ b) × (x ≡ y)
one_first test [] [] s t x y h k f g e = (refl, cc e)
one_first test [] (d ∷ b) s t x y h k f g e =
    let same : x ≡ d = cc e in
    let w : true ≡ false = sym (and_parts (test d) (list_all test b) k).0 ∙ ap test (sym same) ∙ f in cc w
one_first test (c ∷ a) [] s t x y h k f g e =
    let same : c ≡ y = cc e in
    let w : true ≡ false = sym (and_parts (test c) (list_all test a) h).0 ∙ ap test same ∙ g in cc w
one_first test (c ∷ a) (d ∷ b) s t x y h k f g e =
    let same : c ≡ d = cc e in
    let rest : a ++ x ∷ s ≡ b ++ y ∷ t = cc e in
    let r = one_first test a b s t x y (and_parts (test c) (list_all test a) h).1 (and_parts (test d) (list_all test b) k).1 f g rest in
    (cc (same, r.0), r.1)
