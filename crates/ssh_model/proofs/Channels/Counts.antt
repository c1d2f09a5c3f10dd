-- How many numbers are in use, over a list of places and over a history.
use Rattle.std.proofs.Common.{◌≡◌, ℕ, zero, suc, ◌+◌, ◌<◌, ◌≤◌, List, ◌∷◌, length, refl, ap, sym, ◌∙◌, arith, cond, not, ◌&&◌, ◌||◌, Bool, true, false, Option, is_some, count_by, nat_lt, nat_le, lt-ltb, ltb-true, ltb-false}
use Rattle.std.proofs.lemmas.Bool.{le-leb, lt-leb}
use Rattle.std.proofs.lemmas.List.Recursion.{is_count_by}
use Rattle.ssh_model.specs.Protocol.Bounds.{most_channels}
use Rattle.ssh_model.specs.declared.side.Side.{Side}
use Rattle.ssh_model.specs.Protocol.Channels.Notes.{Note}
use Rattle.ssh_model.specs.Protocol.Channels.Numbers.{is_held}
use Rattle.ssh_model.specs.Protocol.Channels.History.{Item, noted, owed, is_owed, is_free, some_free, has_place}
use Rattle.ssh_model.specs.State.Channels.Places.{Place, place, in_use, count_below, count, at}
use Rattle.ssh_model.proofs.Channels.PlaceQueue.{place_held, place_owed, place_none}

pub below_same : (p q : ℕ → Bool) (k : ℕ) → ((x : ℕ) → p x ≡ q x) → count_below p k ≡ count_below q k
unfolding count_below
below_same p q zero e = refl
below_same p q (suc k) e = rw (e k, below_same p q k e) refl

-- one number more in front
below_front : (p : ℕ → Bool) (k : ℕ) → count_below p (suc k) ≡ cond (p 0) 1 0 + count_below (λ x. p (suc x)) k
unfolding count_below
below_front p zero = go (p 0)
  where
    go : (b : Bool) → cond b (suc 0) 0 ≡ cond b 1 0 + 0
    go true = refl
    go false = refl
below_front p (suc k) = go (p (suc k)) (below_front p k)
  where
    go : (b : Bool) → count_below p (suc k) ≡ cond (p 0) 1 0 + count_below (λ x. p (suc x)) k
        → cond b (suc (count_below p (suc k))) (count_below p (suc k)) ≡ cond (p 0) 1 0 + cond b (suc (count_below (λ x. p (suc x)) k)) (count_below (λ x. p (suc x)) k)
    go true e = omega (arith, e)
    go false e = e

pub places_count : (l : List (Option Place)) → count_below (λ x. is_some (at l x)) (length l) ≡ count_by is_some l
unfolding count_below
places_count l = is_count_by (λ (m : List (Option Place)). count_below (λ x. is_some (at m x)) (length m)) is_some refl more l
  where
    more : (a : Option Place) (m : List (Option Place)) → count_below (λ x. is_some (at (a ∷ m) x)) (length (a ∷ m))
        ≡ cond (is_some a) (1 + count_below (λ x. is_some (at m x)) (length m)) (count_below (λ x. is_some (at m x)) (length m))
    more a m = below_front (λ x. is_some (at (a ∷ m) x)) (length m) ∙ go (is_some a) (count_below (λ x. is_some (at m x)) (length m))
      where
        go : (b : Bool) (k : ℕ) → cond b 1 0 + k ≡ cond b (1 + k) k
        go true k = refl
        go false k = omega arith

pub below_bound : (p : ℕ → Bool) (k : ℕ) → count_below p k ≤ k
unfolding count_below
below_bound p zero = omega arith
below_bound p (suc k) = go (p k) (below_bound p k)
  where
    go : (b : Bool) → count_below p k ≤ k → cond b (suc (count_below p k)) (count_below p k) ≤ suc k
    go true e = omega (arith, e)
    go false e = omega (arith, e)

pub used_is : (s : Side) (n : List Note) (o : List Item) (x : ℕ) → is_some (place s n o x) ≡ in_use n o x
used_is s n o x = go (is_held x n) (is_owed x o) refl refl
  where
    go : (b c : Bool) → is_held x n ≡ b → is_owed x o ≡ c → is_some (place s n o x) ≡ in_use n o x
    go true c e f = let z : in_use n o x ≡ true = rw e refl in ap is_some (place_held s x n o e) ∙ sym z
    go false true e f = let z : in_use n o x ≡ true = rw (e, f) refl in ap is_some (place_owed s x n o e f) ∙ sym z
    go false false e f = let z : in_use n o x ≡ false = rw (e, f) refl in ap is_some (place_none s x n o e f) ∙ sym z

-- ---- a place for a new channel

no_more : (b : Bool) (u k : ℕ) → b ≡ nat_lt u k → b ≡ nat_lt (suc u) (suc k)
no_more b u k e = e ∙ step (nat_lt u k) refl
  where
    step : (c : Bool) → nat_lt u k ≡ c → nat_lt u k ≡ nat_lt (suc u) (suc k)
    step true z = let w : u < k = ltb-true u k z in z ∙ sym (lt-ltb (suc u) (suc k) (omega (arith, w)))
    step false z = go (nat_lt (suc u) (suc k)) refl
      where
        go : (d : Bool) → nat_lt (suc u) (suc k) ≡ d → nat_lt u k ≡ nat_lt (suc u) (suc k)
        go false y = z ∙ sym y
        go true y = let w : suc u < suc k = ltb-true (suc u) (suc k) y in let v : nat_lt u k ≡ true = lt-ltb u k (omega (arith, w)) in absurd (cc (v, z))

pub some_free_is : (s : Side) (h : List Item) (k : ℕ) → k ≤ most_channels → some_free s h k ≡ nat_lt (count_below (in_use (noted s h) (owed s h)) k) k
unfolding some_free count_below
some_free_is s h zero e = refl
some_free_is s h (suc k) e =
    let more = some_free_is s h k (omega (arith, e)) in
    let inside : nat_lt k most_channels ≡ true = lt-ltb k most_channels (omega (arith, e)) in
    go (is_held k (noted s h)) (is_owed k (owed s h)) refl refl more inside
  where
    used : ℕ
    used = count_below (in_use (noted s h) (owed s h)) k

    fits : used ≤ k
    fits = below_bound (in_use (noted s h) (owed s h)) k

    goal : Bool → Bool → Type 0
    goal b c = ((nat_lt k most_channels && (not b && not c)) || some_free s h k) ≡ nat_lt (cond (b || c) (suc used) used) (suc k)

    taken : some_free s h k ≡ nat_lt used k → ((nat_lt k most_channels && false) || some_free s h k) ≡ nat_lt (suc used) (suc k)
    taken more = fall (nat_lt k most_channels) ∙ no_more (some_free s h k) used k more
      where
        fall : (b : Bool) → ((b && false) || some_free s h k) ≡ some_free s h k
        fall true = refl
        fall false = refl

    go : (b c : Bool) → is_held k (noted s h) ≡ b → is_owed k (owed s h) ≡ c → some_free s h k ≡ nat_lt used k → nat_lt k most_channels ≡ true
        → (is_free s h k || some_free s h k) ≡ nat_lt (cond (in_use (noted s h) (owed s h) k) (suc used) used) (suc k)
    go true c p q more i = rw (p) (taken more)
    go false true p q more i = rw (p, q) (taken more)
    go false false p q more i = rw (p, q, i) (sym (lt-ltb used (suc k) (omega (arith, fits))))

not_below : (u : ℕ) → not (nat_lt u most_channels) ≡ nat_le most_channels u
not_below u = go (nat_lt u most_channels) refl
  where
    go : (b : Bool) → nat_lt u most_channels ≡ b → not b ≡ nat_le most_channels u
    go true e = sym (lt-leb most_channels u (ltb-true u most_channels e))
    go false e = sym (le-leb most_channels u (ltb-false u most_channels e))

pub full_is : (s : Side) (h : List Item) → not (has_place s h) ≡ nat_le most_channels (count (noted s h) (owed s h))
unfolding has_place count
full_is s h = ap not (some_free_is s h most_channels (omega arith)) ∙ not_below _
