-- Epoch and count tell the place of a payload among those of a direction.
use Rattle.std.proofs.Common.{◌≡◌, ℕ, zero, suc, ◌<◌, List, [], ◌∷◌, ◌⊎◌, inl, inr, refl, ap, sym, ◌∙◌, arith, subst}
use Rattle.ssh_model.specs.Protocol.Lists.{IsOlder}
use Rattle.ssh_model.specs.Protocol.Sessions.Items.{Payload, Payload.NewkeysOf, Payload.OtherOf}
use Rattle.ssh_model.specs.Protocol.Sessions.Epochs.{epoch, count, after_first, from_epoch}
use Rattle.ssh_model.proofs.Sessions.Older.{older_self}

-- a is placed before b
abbrev IsBefore : List Payload → List Payload → Type 0
IsBefore a b = (epoch a < epoch b) ⊎ ((epoch a ≡ epoch b) × (count a < count b))

grows : (m : Payload) (l : List Payload) → IsBefore l (m ∷ l)
grows (NewkeysOf b) l = inl (omega arith)
grows (OtherOf b) l = inr (refl, omega arith)

older_before : (a : List Payload) (m : Payload) (l : List Payload) → IsOlder a l → IsBefore a (m ∷ l)
older_before a m [] e = rw e (grows m [])
older_before a m (n ∷ l) (inl e) = rw e (grows m (n ∷ l))
older_before a m (n ∷ l) (inr r) = next (older_before a n l r) (grows m (n ∷ l))
  where
    next : IsBefore a (n ∷ l) → IsBefore (n ∷ l) (m ∷ (n ∷ l)) → IsBefore a (m ∷ (n ∷ l))
    next (inl p) (inl q) = inl (omega arith)
    next (inl p) (inr q) = inl (omega (arith, q.0))
    next (inr p) (inl q) = inl (omega (arith, p.0))
    next (inr p) (inr q) = inr (p.0 ∙ q.0, omega (arith, p.1, q.1))

differs : (a b : List Payload) → IsBefore a b → epoch a ≡ epoch b → count a ≡ count b → ⊥
differs a b (inl h) x y = omega (arith, h, x)
differs a b (inr h) x y = omega (arith, h.1, y)

-- two older parts of one list with the same epoch and count are the same
pub same_place : (a b l : List Payload) → IsOlder a l → IsOlder b l → epoch a ≡ epoch b → count a ≡ count b → a ≡ b
same_place a b [] p q e n = p ∙ sym q
same_place a b (m ∷ l) (inl p) (inl q) e n = p ∙ sym q
same_place a b (m ∷ l) (inr p) (inr q) e n = same_place a b l p q e n
same_place a b (m ∷ l) (inl p) (inr q) e n = absurd (differs b (m ∷ l) (older_before b m l q) (sym e ∙ ap epoch p) (sym n ∙ ap count p))
same_place a b (m ∷ l) (inr p) (inl q) e n = absurd (differs a (m ∷ l) (older_before a m l p) (e ∙ ap epoch q) (n ∙ ap count q))

pub after_zero : (m : Payload) (l : List Payload) → epoch l ≡ 0 → after_first (m ∷ l) ≡ []
after_zero m l e = ap (λ n. from_epoch n m (after_first l)) e

below : (m : Payload) (l : List Payload) → epoch (m ∷ l) ≡ 0 → epoch l ≡ 0
below (NewkeysOf b) l e = absurd (omega (arith, e))
below (OtherOf b) l e = e

-- before the first NEWKEYS there is nothing after it
pub zero_after : (l : List Payload) → epoch l ≡ 0 → after_first l ≡ []
zero_after [] e = refl
zero_after (m ∷ l) e = after_zero m l (below m l e)

pub after_suc : (m : Payload) (l : List Payload) (e : ℕ) → epoch l ≡ suc e → after_first (m ∷ l) ≡ m ∷ after_first l
after_suc m l e h = ap (λ n. from_epoch n m (after_first l)) h

epoch_cons : (m : Payload) (a b : List Payload) → suc (epoch a) ≡ epoch b → suc (epoch (m ∷ a)) ≡ epoch (m ∷ b)
epoch_cons (NewkeysOf x) a b e = ap suc e
epoch_cons (OtherOf x) a b e = e

count_cons : (m : Payload) (a b : List Payload) → count a ≡ count b → count (m ∷ a) ≡ count (m ∷ b)
count_cons (NewkeysOf x) a b e = refl
count_cons (OtherOf x) a b e = ap suc e

-- the payload that begins the first epoch is a NEWKEYS
first_is : (m : Payload) (l : List Payload) (e : ℕ) → epoch l ≡ 0 → epoch (m ∷ l) ≡ suc e → (0 ≡ e) × (0 ≡ count (m ∷ l))
first_is (NewkeysOf b) l e z h = (omega (arith, z, h), refl)
first_is (OtherOf b) l e z h = absurd (omega (arith, z, h))

-- epoch and count after the first NEWKEYS
pub after_epoch : (l : List Payload) (e : ℕ) → epoch l ≡ suc e → (suc (epoch (after_first l)) ≡ epoch l) × (count (after_first l) ≡ count l)
after_epoch [] e h = absurd (omega (arith, h))
after_epoch (m ∷ l) e h = go (epoch l) refl (after_epoch l)
  where
    go : (n : ℕ) → epoch l ≡ n → ((k : ℕ) → epoch l ≡ suc k → (suc (epoch (after_first l)) ≡ epoch l) × (count (after_first l) ≡ count l)) → (suc (epoch (after_first (m ∷ l))) ≡ epoch (m ∷ l)) × (count (after_first (m ∷ l)) ≡ count (m ∷ l))
    go zero x r = let f = first_is m l e x h in rw (after_zero m l x) (omega (arith, f.0, h), f.1)
    go (suc n) x r = rw (after_suc m l n x) (epoch_cons m (after_first l) l (r n x).0, count_cons m (after_first l) l (r n x).1)

pub after_older : (a l : List Payload) → IsOlder a l → IsOlder (after_first a) (after_first l)
after_older a [] p = rw p refl
after_older a (m ∷ l) (inl p) = rw p (older_self (after_first (m ∷ l)))
after_older a (m ∷ l) (inr p) = go (epoch l) refl (after_older a l p)
  where
    go : (n : ℕ) → epoch l ≡ n → IsOlder (after_first a) (after_first l) → IsOlder (after_first a) (after_first (m ∷ l))
    go zero x r = rw (after_zero m l x) (subst (λ w. IsOlder (after_first a) w) (zero_after l x) r)
    go (suc n) x r = rw (after_suc m l n x) (inr r)
