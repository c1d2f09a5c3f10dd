-- Older parts of a list that grows at its head, and the places in it.
use Rattle.std.proofs.Common.{◌≡◌, ℕ, suc, ◌<◌, List, [], ◌∷◌, ◌++◌, length, reverse, map, ◌⊎◌, inl, inr, refl, ap, sym, ◌∙◌, subst, arith, append_assoc, append-nil, cond, ◌==◌, eq-eqb, eqb-true, ne_eqb, Bool, true, false}
use Rattle.std.proofs.lemmas.List.{reverse-append}
use Rattle.ssh_model.specs.Protocol.Lists.{IsOlder, IsIn}
use Rattle.ssh_model.specs.Protocol.KeyExchange.Exchanges.{nth}
use Rattle.ssh_model.specs.Protocol.Sessions.Honest.{AreDistinct}
use Rattle.ssh_model.proofs.Sessions.Ends.{older_length, older_same}

-- n older ones lie below this x
abbrev pub IsNth : {A : Type 0} → A → ℕ → List A → Type 0
IsNth x n [] = ⊥
IsNth x n (y ∷ l) = ((x ≡ y) × (n ≡ length l)) ⊎ IsNth x n l

pub older_self : {A : Type 0} (l : List A) → IsOlder l l
older_self [] = refl
older_self (x ∷ l) = inl refl

pub older_nil : {A : Type 0} (l : List A) → IsOlder [] l
older_nil [] = refl
older_nil (x ∷ l) = inr (older_nil l)

pub older_trans : {A : Type 0} (a b c : List A) → IsOlder a b → IsOlder b c → IsOlder a c
older_trans a b [] p q = let P : List _ → Type 0 = λ w. IsOlder a w in subst P q p
older_trans a b (x ∷ c) p (inl q) = let P : List _ → Type 0 = λ w. IsOlder a w in subst P q p
older_trans a b (x ∷ c) p (inr q) = inr (older_trans a b c p q)

pub older_tail : {A : Type 0} (x : A) (o l : List A) → IsOlder (x ∷ o) l → IsOlder o l
older_tail x o [] e = absurd (cc e)
older_tail {A} x o (y ∷ l) (inl e) = inr (let t : o ≡ l = cc e in let P : List A → Type 0 = λ w. IsOlder w l in subst P (sym t) (older_self l))
older_tail x o (y ∷ l) (inr r) = inr (older_tail x o l r)

pub nth_below : {A : Type 0} (x : A) (n : ℕ) (l : List A) → IsNth x n l → n < length l
nth_below x n [] h = elim h [ ]
nth_below x n (y ∷ l) (inl h) = omega (arith, h.1)
nth_below x n (y ∷ l) (inr h) = omega (arith, nth_below x n l h)

-- what has as many below it as are in the old list comes right after that
pub next_after : {A : Type 0} (x : A) (o l : List A) → IsOlder o l → IsNth x (length o) l → IsOlder (x ∷ o) l
next_after x o [] e h = elim h [ ]
next_after x o (y ∷ l) (inl e) (inl n) = absurd (omega (arith, ap length e, n.1))
next_after x o (y ∷ l) (inl e) (inr n) = absurd (omega (arith, ap length e, nth_below x (length o) l n))
next_after x o (y ∷ l) (inr r) (inr n) = inr (next_after x o l r n)
next_after x o (y ∷ l) (inr r) (inl n) = inl (let e = older_same o l r n.1 in cc (e, n.0))

pub nth_older : {A : Type 0} (x : A) (n : ℕ) (o l : List A) → IsOlder o l → IsNth x n o → IsNth x n l
nth_older x n o [] e h = rw e at h
nth_older x n o (y ∷ l) (inl e) h = rw e at h
nth_older x n o (y ∷ l) (inr r) h = inr (nth_older x n o l r h)

pub nth_in : {A : Type 0} (x : A) (n : ℕ) (l : List A) → IsNth x n l → IsIn x l
nth_in x n [] h = h
nth_in x n (y ∷ l) (inl h) = inl h.0
nth_in x n (y ∷ l) (inr h) = inr (nth_in x n l h)

pub in_older : {A : Type 0} (x : A) (o l : List A) → IsOlder o l → IsIn x o → IsIn x l
in_older x o [] e h = rw e at h
in_older x o (y ∷ l) (inl e) h = rw e at h
in_older x o (y ∷ l) (inr r) h = inr (in_older x o l r h)

-- the function nth finds it
pub nth_is : {A : Type 0} (none : A) (n : ℕ) (l : List A) → n < length l → IsNth (nth none n l) n l
nth_is none n [] h = absurd (omega arith)
nth_is none n (x ∷ l) h = go (n == length l) refl (nth_is none n l)
  where
    smaller : (n == length l) ≡ false → n < length l
    smaller e = grind (arith, e, eq-eqb)

    go : (b : Bool) → (n == length l) ≡ b → (n < length l → IsNth (nth none n l) n l) → IsNth (cond b x (nth none n l)) n (x ∷ l)
    go true e r = inl (refl, eqb-true n (length l) e)
    go false e r = inr (r (smaller e))

-- in a list without repeats a thing has one place
pub one_place : {A : Type 0} (x : A) (i j : ℕ) (l : List A) → AreDistinct l → IsNth x i l → IsNth x j l → i ≡ j
one_place x i j [] d h k = elim h [ ]
one_place x i j (y ∷ l) d (inl h) (inl k) = h.1 ∙ sym k.1
one_place x i j (y ∷ l) d (inl h) (inr k) = absurd (d.0 (rw h.0 at (nth_in x j l k)))
one_place x i j (y ∷ l) d (inr h) (inl k) = absurd (d.0 (rw k.0 at (nth_in x i l h)))
one_place x i j (y ∷ l) d (inr h) (inr k) = one_place x i j l d.1 h k

pub distinct_older : {A : Type 0} (o l : List A) → IsOlder o l → AreDistinct l → AreDistinct o
distinct_older o [] e d = rw e tt
distinct_older o (x ∷ l) (inl e) d = rw e d
distinct_older o (x ∷ l) (inr r) d = distinct_older o l r d.1

in_map : {A B : Type 0} (f : A → B) (x : A) (l : List A) → IsIn x l → IsIn (f x) (map f l)
in_map f x [] h = h
in_map f x (y ∷ l) (inl e) = inl (ap f e)
in_map f x (y ∷ l) (inr h) = inr (in_map f x l h)

pub distinct_map : {A B : Type 0} (f : A → B) (l : List A) → AreDistinct (map f l) → AreDistinct l
distinct_map f [] d = tt
distinct_map f (x ∷ l) d = ((λ h. d.0 (in_map f x l h)), distinct_map f l d.1)

-- an older part, read the other way, is a beginning
pub reverse_older : {A : Type 0} (o l : List A) → IsOlder o l → (rest : List A) × (reverse o ++ rest ≡ reverse l)
reverse_older o [] e = ([], rw e refl)
reverse_older o (x ∷ l) (inl e) = ([], append-nil (reverse o) ∙ ap reverse e)
reverse_older o (x ∷ l) (inr r) =
    let b = reverse_older o l r in
    (b.0 ++ x ∷ [], sym (append_assoc (reverse o) b.0 (x ∷ [])) ∙ (ap (λ w. w ++ x ∷ []) b.1 ∙ sym (reverse-append (x ∷ []) l)))

pub map_older : {A B : Type 0} (f : A → B) (o l : List A) → IsOlder o l → IsOlder (map f o) (map f l)
map_older f o [] e = rw e refl
map_older f o (x ∷ l) (inl e) = rw e (inl refl)
map_older f o (x ∷ l) (inr r) = inr (map_older f o l r)

-- what stands in an older part stands at the same place
pub nth_same : {A : Type 0} (none : A) (n : ℕ) (o l : List A) → IsOlder o l → n < length o → nth none n o ≡ nth none n l
nth_same none n o [] e h = ap (nth none n) e
nth_same none n o (x ∷ l) (inl e) h = ap (nth none n) e
nth_same none n o (x ∷ l) (inr r) h =
    nth_same none n o l r h ∙ sym (ap (λ b. cond b x (nth none n l)) (ne_eqb n (length l) (λ e. omega (arith, e, older_length o l r))))

pub nth_map : {A B : Type 0} (f : A → B) (x : A) (n : ℕ) (l : List A) → IsNth x n l → IsNth (f x) n (map f l)
nth_map f x n [] h = h
nth_map f x n (y ∷ l) (inl h) = inl (ap f h.0, h.1 ∙ sym (map_length f l))
  where
    map_length : {A B : Type 0} (f : A → B) (l : List A) → length (map f l) ≡ length l
    map_length f [] = refl
    map_length f (x ∷ l) = ap suc (map_length f l)
nth_map f x n (y ∷ l) (inr h) = inr (nth_map f x n l h)
