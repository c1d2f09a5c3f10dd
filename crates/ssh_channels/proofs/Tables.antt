-- A table over a slab as one list.
use Rattle.std.proofs.Common.{◌≡◌, ◌≢◌, ℕ, zero, suc, ◌<◌, List, [], ◌∷◌, ◌⊎◌, inl, inr, length, map, replicate, Contains, count_by, is_some, ◌+◌, cond, refl, ap, ap₂, sym, ◌∙◌, arith, Option, None, Some, IsSome, option_map, slice_get, slice_set, get_or, ext_get_or, get_or-set_same, get_or-set_other, length-set, Bool, true, false, ◌==◌, eqb-true, eq-eqb}
use Rattle.std.proofs.lemmas.List.Recursion.{is_count_by}
use lib.ListN.{get_or-map, length-map, length-replicate}
use Rattle.slab.specs.Slab.{Slab, get, slab_len, Updates, with_value}
use Rattle.ssh_model.specs.Protocol.Bounds.{most_channels}
use Rattle.ssh_model.specs.State.Channels.Places.{at}
use Rattle.ssh_channels.specs.Table.{found, places, IsTable}

pub nothing_there : {A : Type 0} (l : List (Option A)) (x : ℕ) → slice_get l x ≡ None → at l x ≡ None
nothing_there [] x e = refl
nothing_there (a ∷ l) zero e = absurd (cc e)
nothing_there (a ∷ l) (suc x) e = nothing_there l x e

pub something_there : {A : Type 0} (l : List (Option A)) (x : ℕ) (k : Option A) → slice_get l x ≡ Some k → at l x ≡ k
something_there [] x k e = absurd (cc e)
something_there (a ∷ l) zero k e = cc
something_there (a ∷ l) (suc x) k e = something_there l x k e

-- what is within
pub within : {A : Type 0} (l : List (Option A)) (x : ℕ) (a : A) → at l x ≡ Some a → x < length l
within [] x a e = absurd (cc e)
within (b ∷ l) zero a e = omega arith
within (b ∷ l) (suc x) a e = let h = within l x a e in omega (arith, h)

pub not_full : {A : Type 0} (l : List (Option A)) → Contains l None → ((i : ℕ) → i < length l → IsSome (at l i)) → ⊥
not_full l c e = let z = e c.0 c.1 in let y = c.2 in absurd (cc (z, y))

set_same : {A : Type 0} (l : List (Option A)) (x : ℕ) → at l x ≡ None → slice_set l x None ≡ l
set_same [] x e = refl
set_same (a ∷ l) zero e = ap (λ b. b ∷ l) (sym e)
set_same (a ∷ l) (suc x) e = ap (λ m. a ∷ m) (set_same l x e)

-- ---- how many numbers are used

tally : {A : Type 0} → List (Option A) → ℕ
tally [] = 0
tally (None ∷ l) = tally l
tally (Some a ∷ l) = 1 + tally l

tallied : {A : Type 0} (l : List (Option A)) → tally l ≡ count_by is_some l
unfolding tally
tallied l = is_count_by tally is_some refl (λ x xs. go x xs) l
  where
    go : {A : Type 0} (x : Option A) (xs : List (Option A)) → tally (x ∷ xs) ≡ cond (is_some x) (1 + tally xs) (tally xs)
    go None xs = refl
    go (Some a) xs = refl

tally_put : {A : Type 0} (l : List (Option A)) (x : ℕ) (a : A) → x < length l → at l x ≡ None → tally (slice_set l x (Some a)) ≡ tally l + 1
unfolding tally
tally_put [] x a h e = absurd (omega (arith, h))
tally_put (None ∷ l) zero a h e = omega arith
tally_put (Some b ∷ l) zero a h e = absurd (cc e)
tally_put (None ∷ l) (suc x) a h e = tally_put l x a (omega (arith, h)) e
tally_put (Some b ∷ l) (suc x) a h e = let r = tally_put l x a (omega (arith, h)) e in omega (arith, r)

tally_gone : {A : Type 0} (l : List (Option A)) (x : ℕ) (a : A) → at l x ≡ Some a → tally (slice_set l x None) + 1 ≡ tally l
unfolding tally
tally_gone [] x a e = absurd (cc e)
tally_gone (None ∷ l) zero a e = absurd (cc e)
tally_gone (Some b ∷ l) zero a e = omega arith
tally_gone (None ∷ l) (suc x) a e = tally_gone l x a e
tally_gone (Some b ∷ l) (suc x) a e = let r = tally_gone l x a e in omega (arith, r)

count_put : {A : Type 0} (l : List (Option A)) (x : ℕ) (a : A) → x < length l → at l x ≡ None → count_by is_some (slice_set l x (Some a)) ≡ count_by is_some l + 1
count_put l x a h e = sym (tallied (slice_set l x (Some a))) ∙ (tally_put l x a h e ∙ ap (λ n. n + 1) (tallied l))

count_gone : {A : Type 0} (l : List (Option A)) (x : ℕ) (a : A) → at l x ≡ Some a → count_by is_some (slice_set l x None) + 1 ≡ count_by is_some l
count_gone l x a e = ap (λ n. n + 1) (sym (tallied (slice_set l x None))) ∙ (tally_gone l x a e ∙ tallied l)

-- ---- a table and what it keeps

module _ {A B : Type 0} (kept : A → B) where
  pub at_places : (s : Slab A) (keys : List (Option ℕ)) (x : ℕ) → at (places kept s keys) x ≡ found kept s (at keys x)
  unfolding places
  at_places s keys x = get_or-map (found kept s) keys x None

  -- the same values are the same places
  pub same_places : (s t : Slab A) (keys : List (Option ℕ)) → ((key : ℕ) → get t key ≡ get s key) → places kept t keys ≡ places kept s keys
  unfolding places
  same_places s t [] e = refl
  same_places s t (None ∷ keys) e = ap (λ l. None ∷ l) (same_places s t keys e)
  same_places s t (Some k ∷ keys) e = ap₂ (λ a l. a ∷ l) (ap (option_map kept) (e k)) (same_places s t keys e)

  -- a number with this key, or none, in place of what it has
  put_places : (s t : Slab A) (keys : List (Option ℕ)) (x : ℕ) (o : Option ℕ) → x < length keys → ((y : ℕ) → y ≢ x → found kept t (at keys y) ≡ found kept s (at keys y))
      → (w : Option B) → found kept t o ≡ w → places kept t (slice_set keys x o) ≡ slice_set (places kept s keys) x w
  unfolding places
  put_places s t keys x o inside apart w f = ext_get_or None (places kept t (slice_set keys x o)) (slice_set (places kept s keys) x w) lengths same
    where
      lengths : length (places kept t (slice_set keys x o)) ≡ length (slice_set (places kept s keys) x w)
      lengths = length-map (slice_set keys x o) (found kept t) ∙ (length-set keys x o ∙ (sym (length-map keys (found kept s)) ∙ sym (length-set (map (found kept s) keys) x w)))

      within_places : x < length (places kept s keys)
      within_places = rw (length-map keys (found kept s)) inside

      same : (i : ℕ) → i < length (places kept t (slice_set keys x o)) → get_or (places kept t (slice_set keys x o)) i None ≡ get_or (slice_set (places kept s keys) x w) i None
      same i h = go (i == x) refl
        where
          go : (b : Bool) → (i == x) ≡ b → get_or (places kept t (slice_set keys x o)) i None ≡ get_or (slice_set (places kept s keys) x w) i None
          go true e =
              let z = eqb-true i x e in
              rw z (at_places t (slice_set keys x o) x ∙ (ap (found kept t) (get_or-set_same keys x o None inside) ∙ (f ∙ sym (get_or-set_same (places kept s keys) x w None within_places))))
          go false e =
              let d : i ≢ x = λ w. let v : (i == x) ≡ true = rw w (grind (arith, eq-eqb)) in let r : true ≡ false = sym v ∙ e in cc r in
              at_places t (slice_set keys x o) i ∙ (ap (found kept t) (get_or-set_other keys x i o None d) ∙ (apart i d ∙ (sym (at_places s keys i) ∙ sym (get_or-set_other (places kept s keys) x i w None d))))

  -- a table with nothing in it
  pub none_places : (s : Slab A) (n : ℕ) → places kept s (replicate n None) ≡ replicate n None
  unfolding places
  none_places s zero = refl
  none_places s (suc n) = ap (λ l. None ∷ l) (none_places s n)

  pub used_places : (s : Slab A) (keys : List (Option ℕ)) → IsTable s keys → count_by is_some (places kept s keys) ≡ count_by is_some keys
  unfolding places tally
  used_places s keys ok = sym (tallied (map (found kept s) keys)) ∙ (go keys (λ i key e. ok.linked i key e) ∙ tallied keys)
    where
      go : (l : List (Option ℕ)) → ((i key : ℕ) → at l i ≡ Some key → IsSome (get s key)) → tally (map (found kept s) l) ≡ tally l
      go [] f = refl
      go (None ∷ l) f = go l (λ i key e. f (suc i) key e)
      go (Some k ∷ l) f = one (get s k) (f 0 k refl) (go l (λ i key e. f (suc i) key e))
        where
          one : (o : Option A) → IsSome o → tally (map (found kept s) l) ≡ tally l → tally (option_map kept o ∷ map (found kept s) l) ≡ 1 + tally l
          one None e r = absurd (cc e)
          one (Some a) e r = ap (λ n. 1 + n) r

  pub free_place : (s : Slab A) (keys : List (Option ℕ)) (x : ℕ) → at keys x ≡ None → at (places kept s keys) x ≡ None
  free_place s keys x e = at_places s keys x ∙ ap (found kept s) e

  pub nothing_freed : (s : Slab A) (keys : List (Option ℕ)) (x : ℕ) → at keys x ≡ None → places kept s keys ≡ slice_set (places kept s keys) x None
  nothing_freed s keys x e = sym (set_same (places kept s keys) x (free_place s keys x e))

at_none : (n x : ℕ) → at {A = ℕ} (replicate n None) x ≡ None
at_none zero x = refl
at_none (suc n) zero = refl
at_none (suc n) (suc x) = at_none n x

none_counted : (n : ℕ) → tally {A = ℕ} (replicate n None) ≡ 0
unfolding tally
none_counted zero = refl
none_counted (suc n) = none_counted n

pub none_table : {A : Type 0} (s : Slab A) → slab_len s ≡ 0 → IsTable s (replicate most_channels None)
none_table s e = record {
  size = length-replicate {A = Option ℕ} most_channels None;
  linked = λ x key f. let z = at_none most_channels x in absurd (cc (z, f));
  single = λ x y key f g. let z = at_none most_channels x in absurd (cc (z, f));
  used = e ∙ (sym (none_counted most_channels) ∙ tallied (replicate most_channels None));
}

-- ---- an entry is changed

pub written : {A : Type 0} (s : Slab A) (key : ℕ) (a : A) → IsSome (get s key) → Updates s (with_value s key a) key (Some a)
written {A = A} s key a h = record {
  changed = go (get s key) refl h;
  others = λ other d. get_or-set_other s.slots key other (Some a) None d;
}
  where
    go : (o : Option A) → get s key ≡ o → IsSome o → get (with_value s key a) key ≡ Some a
    go None e z = absurd (cc z)
    go (Some b) e z = get_or-set_same s.slots key (Some a) None (within s.slots key b e)

tally_again : {A : Type 0} (l : List (Option A)) (x : ℕ) (a b : A) → at l x ≡ Some b → tally (slice_set l x (Some a)) ≡ tally l
unfolding tally
tally_again [] x a b e = absurd (cc e)
tally_again (None ∷ l) zero a b e = absurd (cc e)
tally_again (Some c ∷ l) zero a b e = refl
tally_again (None ∷ l) (suc x) a b e = tally_again l x a b e
tally_again (Some c ∷ l) (suc x) a b e = ap (λ n. 1 + n) (tally_again l x a b e)

written_count : {A : Type 0} (s : Slab A) (key : ℕ) (a : A) → IsSome (get s key) → slab_len (with_value s key a) ≡ slab_len s
written_count {A = A} s key a h = go (get s key) refl h
  where
    go : (o : Option A) → get s key ≡ o → IsSome o → slab_len (with_value s key a) ≡ slab_len s
    go None e z = absurd (cc z)
    go (Some b) e z = sym (tallied (slice_set s.slots key (Some a))) ∙ (tally_again s.slots key a b e ∙ tallied s.slots)

module _ {A : Type 0} (s : Slab A) (keys : List (Option ℕ)) (ok : IsTable s keys) (x key : ℕ) (a : A) (k : at keys x ≡ Some key) where
  linked_there : IsSome (get s key)
  linked_there = ok.linked x key k

  u : Updates s (with_value s key a) key (Some a)
  u = written s key a linked_there

  pub written_table : IsTable (with_value s key a) keys
  written_table = record {
    size = ok.size;
    linked = λ y q e. go y q e (q == key) refl;
    single = ok.single;
    used = written_count s key a linked_there ∙ ok.used;
  }
    where
      go : (y q : ℕ) → at keys y ≡ Some q → (b : Bool) → (q == key) ≡ b → IsSome (get (with_value s key a) q)
      go y q e true z = let h : get (with_value s key a) q ≡ Some a = ap (get (with_value s key a)) (eqb-true q key z) ∙ u.changed in rw h refl
      go y q e false z = rw (u.others q (λ w. let v : (q == key) ≡ true = rw w (grind (arith, eq-eqb)) in let r : true ≡ false = sym v ∙ z in cc r)) (ok.linked y q e)

  pub written_places : {B : Type 0} (kept : A → B) → places kept (with_value s key a) keys ≡ slice_set (places kept s keys) x (Some (kept a))
  written_places kept =
      ap (places kept (with_value s key a)) (sym (again keys x k)) ∙ put_places kept s (with_value s key a) keys x (Some key) (within keys x key k) apart (Some (kept a)) (ap (option_map kept) u.changed)
    where
      again : {C : Type 0} {c : C} (l : List (Option C)) (y : ℕ) → at l y ≡ Some c → slice_set l y (Some c) ≡ l
      again [] y e = refl
      again (d ∷ l) zero e = ap (λ b. b ∷ l) (sym e)
      again (d ∷ l) (suc y) e = ap (λ m. d ∷ m) (again l y e)

      apart : (y : ℕ) → y ≢ x → found kept (with_value s key a) (at keys y) ≡ found kept s (at keys y)
      apart y d = go (at keys y) refl
        where
          go : (o : Option ℕ) → at keys y ≡ o → found kept (with_value s key a) o ≡ found kept s o
          go None e = refl
          go (Some q) e = ap (option_map kept) (u.others q (λ z. d (ok.single y x key (e ∙ ap Some z) k)))

-- ---- a new key at a free number

module _ {A : Type 0} (s t : Slab A) (keys : List (Option ℕ)) (ok : IsTable s keys) (x key : ℕ) (a : A) (inside : x < length keys) (free : at keys x ≡ None)
    (was : get s key ≡ None) (u : Updates s t key (Some a)) where
  unused : (y : ℕ) → at keys y ≡ Some key → ⊥
  unused y e = let z = ok.linked y key e in cc (z, was)

  others : (y q : ℕ) → at keys y ≡ Some q → get t q ≡ get s q
  others y q e = u.others q (λ z. unused y (e ∙ ap Some z))

  pub inserted_places : {B : Type 0} (kept : A → B) → places kept t (slice_set keys x (Some key)) ≡ slice_set (places kept s keys) x (Some (kept a))
  inserted_places kept = put_places kept s t keys x (Some key) inside (λ y d. apart y (at keys y) refl) (Some (kept a)) (ap (option_map kept) u.changed)
    where
      apart : (y : ℕ) (o : Option ℕ) → at keys y ≡ o → found kept t o ≡ found kept s o
      apart y None e = refl
      apart y (Some q) e = ap (option_map kept) (others y q e)

  at_set : (y : ℕ) (o : Option ℕ) → at (slice_set keys x (Some key)) y ≡ o → ((y ≡ x) × (o ≡ Some key)) ⊎ ((y ≢ x) × (at keys y ≡ o))
  at_set y o e = go (y == x) refl
    where
      go : (b : Bool) → (y == x) ≡ b → ((y ≡ x) × (o ≡ Some key)) ⊎ ((y ≢ x) × (at keys y ≡ o))
      go true q = let z = eqb-true y x q in inl (z, sym e ∙ (ap (at (slice_set keys x (Some key))) z ∙ get_or-set_same keys x (Some key) None inside))
      go false q =
          let d : y ≢ x = λ w. let v : (y == x) ≡ true = rw w (grind (arith, eq-eqb)) in let r : true ≡ false = sym v ∙ q in cc r in
          inr (d, sym (get_or-set_other keys x y (Some key) None d) ∙ e)

  pub inserted_table : slab_len t ≡ slab_len s + 1 → IsTable t (slice_set keys x (Some key))
  inserted_table more = record {
    size = length-set keys x (Some key) ∙ ok.size;
    linked = λ y q e. link y q (at_set y (Some q) e);
    single = λ y z q e f. one y z q (at_set y (Some q) e) (at_set z (Some q) f);
    used = more ∙ (ap (λ n. n + 1) ok.used ∙ sym (count_put keys x key inside free));
  }
    where
      link : (y q : ℕ) → ((y ≡ x) × (Some q ≡ Some key)) ⊎ ((y ≢ x) × (at keys y ≡ Some q)) → IsSome (get t q)
      link y q (inl e) = let z : q ≡ key = cc (e.1) in let h : get t q ≡ Some a = ap (get t) z ∙ u.changed in rw h refl
      link y q (inr e) = rw (others y q e.1) (ok.linked y q e.1)

      one : (y z q : ℕ) → ((y ≡ x) × (Some q ≡ Some key)) ⊎ ((y ≢ x) × (at keys y ≡ Some q)) → ((z ≡ x) × (Some q ≡ Some key)) ⊎ ((z ≢ x) × (at keys z ≡ Some q)) → y ≡ z
      one y z q (inl e) (inl f) = e.0 ∙ sym f.0
      one y z q (inl e) (inr f) = absurd (unused z (f.1 ∙ e.1))
      one y z q (inr e) (inl f) = absurd (unused y (e.1 ∙ f.1))
      one y z q (inr e) (inr f) = ok.single y z q e.1 f.1

-- ---- a number is freed

module _ {A : Type 0} (s t : Slab A) (keys : List (Option ℕ)) (ok : IsTable s keys) (x key : ℕ) (k : at keys x ≡ Some key) (u : Updates s t key None) where
  left : (y q : ℕ) → y ≢ x → at keys y ≡ Some q → get t q ≡ get s q
  left y q d e = u.others q (λ z. d (ok.single y x key (e ∙ ap Some z) k))

  pub removed_places : {B : Type 0} (kept : A → B) → places kept t (slice_set keys x None) ≡ slice_set (places kept s keys) x None
  removed_places kept = put_places kept s t keys x None (within keys x key k) (λ y d. apart y d (at keys y) refl) None refl
    where
      apart : (y : ℕ) → y ≢ x → (o : Option ℕ) → at keys y ≡ o → found kept t o ≡ found kept s o
      apart y d None e = refl
      apart y d (Some q) e = ap (option_map kept) (left y q d e)

  kept_key : (y q : ℕ) → at (slice_set keys x None) y ≡ Some q → (y ≢ x) × (at keys y ≡ Some q)
  kept_key y q e = go (y == x) refl
    where
      go : (b : Bool) → (y == x) ≡ b → (y ≢ x) × (at keys y ≡ Some q)
      go true w =
          let z = eqb-true y x w in
          let v : None ≡ Some q = sym (ap (at (slice_set keys x None)) z ∙ get_or-set_same keys x None None (within keys x key k)) ∙ e in
          absurd (cc v)
      go false w =
          let d : y ≢ x = λ w2. let v : (y == x) ≡ true = rw w2 (grind (arith, eq-eqb)) in let r : true ≡ false = sym v ∙ w in cc r in
          (d, sym (get_or-set_other keys x y None None d) ∙ e)

  pub removed_table : slab_len t + 1 ≡ slab_len s → IsTable t (slice_set keys x None)
  removed_table less = record {
    size = length-set keys x None ∙ ok.size;
    linked = λ y q e. let c = kept_key y q e in rw (left y q c.0 c.1) (ok.linked y q c.1);
    single = λ y z q e f. ok.single y z q (kept_key y q e).1 (kept_key z q f).1;
    used = let counted = count_gone keys x key k in let one = ok.used in omega (arith, counted, less, one);
  }
