-- How a change at one number keeps the summary, and what a test of what is kept tells of the history.
use Rattle.std.proofs.Common.{◌≡◌, ℕ, suc, ◌<◌, List, [], ◌∷◌, ◌++◌, length, map, refl, ap, sym, ◌∙◌, arith, subst, Option, None, Some, is_some, option_map, nat_le, reverse, slice_set, get_or-set_same, get_or-set_other, length-set, lt-ltb, zero, cond, ◌&&◌, ◌||◌, Bool, true, false, ◌==◌, eqb-true}
use Rattle.std.proofs.lemmas.List.{length-reverse, reverse-append, map-append}
use lib.ListN.{length-map}
use Rattle.ssh_model.specs.Protocol.Bounds.{most_channels, most_owed_replies}
use Rattle.ssh_model.specs.declared.side.Side.{Side}
use Rattle.ssh_model.specs.Protocol.Sessions.Refusals.{Check, Check.RefusedWhere, first_refusal}
use Rattle.ssh_model.specs.Protocol.Sessions.Items.{Item}
use Rattle.ssh_model.specs.Protocol.Sessions.Phases.{blocked}
use Rattle.ssh_model.specs.Protocol.Channels.Message.{begun, stage, closed}
use Rattle.ssh_model.specs.State.Channels.Places.{has_eof}
use Rattle.ssh_model.specs.Protocol.Channels.Notes.{Note, channel_at}
use Rattle.ssh_model.specs.Protocol.Channels.Numbers.{said_at, took_at, is_held, is_confirmed, is_offered, is_waiting, has_ended, has_closed, peer_ended}
use Rattle.ssh_model.specs.State.Channels.Rules.{EndRun}
use Rattle.ssh_model.specs.Protocol.Channels.History as channel
use Rattle.ssh_model.specs.Protocol.Channels.History.{is_owed, is_free}
use Rattle.ssh_model.specs.State.Channels.Places.{Place, place_at, place, in_use, AreOwed, at, is_at, is_open, is_opening, is_waiting_place, count_below, count}
use Rattle.ssh_model.specs.Protocol.Channels.Connection.{notes, owed_replies, channel_items, is_full, is_limit_reached, is_owed_limit_reached, globals_here, globals_there}
use Rattle.ssh_model.specs.State.Channels.Kept.{DueReply, Channels, put, change, used, is_table_full, is_queue_full, IsUnused}
use Rattle.ssh_model.specs.State.Channels.Summary.{reply_item, pending, SumsUp}
use Rattle.ssh_model.proofs.Channels.View.{blocked_same}
use Rattle.ssh_model.proofs.Channels.State.{and_is, not_is}
use Rattle.ssh_model.proofs.Channels.End.{local}
use Rattle.ssh_model.proofs.Channels.Steps.{Steps}
use Rattle.ssh_model.proofs.Channels.PlaceRows.{ended_is}
use Rattle.ssh_model.proofs.Channels.PlaceQueue.{other_number, place_held, place_none, place_after, place_other, owed_kept, held_unowed, unused_is, confirmed_at, offered_at, waits_at}
use Rattle.ssh_model.proofs.Channels.Counts.{below_same, places_count, used_is, full_is}

-- ---- lists

-- what is within
pub within : {A : Type 0} (l : List (Option A)) (x : ℕ) (a : A) → at l x ≡ Some a → x < length l
within [] x a e = absurd (cc e)
within (b ∷ l) zero a e = omega arith
within (b ∷ l) (suc x) a e = let h = within l x a e in omega (arith, h)

-- one place is written, the others keep theirs
pub written : (s : Side) (n r : List Note) (o q : List channel.Item) (t : List (Option Place)) (x : ℕ) (w : Option Place)
    → ((y : ℕ) → at t y ≡ place s n o y) → x < length t → w ≡ place s r q x → ((y : ℕ) → (y ≡ x → ⊥) → place s r q y ≡ place s n o y)
    → (y : ℕ) → at (slice_set t x w) y ≡ place s r q y
written s n r o q t x w old inside here others y = go (y == x) refl
  where
    go : (b : Bool) → (y == x) ≡ b → at (slice_set t x w) y ≡ place s r q y
    go true e =
        let z = eqb-true y x e in
        rw z (get_or-set_same t x w None inside ∙ here)
    go false e =
        let d = other_number y x e in
        get_or-set_other t x y w None d ∙ (old y ∙ sym (others y d))

-- two lists of checks whose first agree, and whose others agree where the first does not hold
pub same_first : {W : Type 0} (a b : Bool) (why : W) (l m : List (Check W)) → a ≡ b → (a ≡ false → first_refusal l ≡ first_refusal m)
    → first_refusal (RefusedWhere a why ∷ l) ≡ first_refusal (RefusedWhere b why ∷ m)
same_first true b why l m e f = rw (sym e) refl
same_first false b why l m e f = rw (sym e) (f refl)

pub cond_same : {A : Type 0} (b : Bool) (a : A) → cond b a a ≡ a
cond_same true a = refl
cond_same false a = refl

pub queue_more : (l : List DueReply) (r : DueReply) → pending (l ++ (r ∷ [])) ≡ reply_item r ∷ pending l
queue_more l r = ap reverse (map-append reply_item l (r ∷ [])) ∙ reverse-append (map reply_item l) (reply_item r ∷ [])

pub on_owed : (s : Side) (later : List Item) (o : List channel.Item) (c : Channels) → owed_replies s later ≡ o → SumsUp s later o c → SumsUp s later (owed_replies s later) c
on_owed s later o c e has = subst (λ q. SumsUp s later q c) (sym e) has

-- what falls due where the end is blocked or not
pub owed_after : (s : Side) (h : List Item) (due : List channel.Item) (b : Bool) → blocked h ≡ b
    → cond (channel.blocked (channel_items h)) (due ++ owed_replies s h) (owed_replies s h) ≡ cond b (due ++ owed_replies s h) (owed_replies s h)
owed_after s h due b e = ap (λ a. cond a (due ++ owed_replies s h) (owed_replies s h)) (blocked_same h ∙ e)

pub nothing_due : (s : Side) (h : List Item) → cond (channel.blocked (channel_items h)) (owed_replies s h) (owed_replies s h) ≡ owed_replies s h
nothing_due s h = cond_same (channel.blocked (channel_items h)) (owed_replies s h)

-- ---- what is known at a number

module _ (s : Side) (h : List Item) (o : List channel.Item) (c : Channels) (has : SumsUp s h o c) (x : ℕ) where
  pub open_is : is_confirmed x (notes s h) ≡ is_at is_open (at c.places x)
  open_is = confirmed_at s x (notes s h) o has.settled ∙ sym (ap (is_at is_open) (has.places x))

  pub opening_is : is_offered s x (notes s h) ≡ is_at is_opening (at c.places x)
  opening_is = offered_at s x (notes s h) o has.settled has.run ∙ sym (ap (is_at is_opening) (has.places x))

  pub waiting_is : is_waiting s x (notes s h) ≡ is_at is_waiting_place (at c.places x)
  waiting_is = waits_at s x (notes s h) o has.settled has.run ∙ sym (ap (is_at is_waiting_place) (has.places x))

  pub used_here : is_some (at c.places x) ≡ in_use (notes s h) o x
  used_here = ap is_some (has.places x) ∙ used_is s (notes s h) o x

  pub held_there : is_confirmed x (notes s h) ≡ true → is_held x (notes s h) ≡ true
  held_there e = (and_is (is_held x (notes s h)) _ e).0

  pub kept_is : is_held x (notes s h) ≡ true → at c.places x ≡ Some (place_at s x (notes s h))
  kept_is e = has.places x ∙ place_held s x (notes s h) o e

  not_shut : is_confirmed x (notes s h) ≡ true → closed (stage (took_at x (notes s h))) ≡ false
  not_shut e =
      let a = and_is (is_held x (notes s h)) _ e in
      let b = and_is (begun (said_at x (notes s h))) _ a.1 in
      let d = and_is (begun (took_at x (notes s h))) _ b.1 in
      not_is _ d.1

  -- on a channel that is confirmed, EOF taken is what the peer ended with
  pub peer_eof : is_confirmed x (notes s h) ≡ true → peer_ended x (notes s h) ≡ has_eof (took_at x (notes s h))
  peer_eof e =
      ended_is _ (took_at x (notes s h)) ((local s (notes s h) has.run).good (channel_at x (notes s h))).took_kept
      ∙ or_none (has_eof (took_at x (notes s h))) (closed (stage (took_at x (notes s h)))) (not_shut e)
    where
      or_none : (a b : Bool) → b ≡ false → (a || b) ≡ a
      or_none true b e = refl
      or_none false b e = e

  pub own_end : has_ended x (notes s h) ≡ (has_eof (said_at x (notes s h)) || has_closed x (notes s h))
  own_end = ended_is _ (said_at x (notes s h)) ((local s (notes s h) has.run).good (channel_at x (notes s h))).said_kept

  -- a step at a channel that is held and stays so, with no reply
  pub changed_sums : (r : List Note) (v : Place) (f : Place → Place) (later : List Item) → is_held x (notes s h) ≡ true → Steps s x (notes s h) r true v
      → f (place_at s x (notes s h)) ≡ v → notes s later ≡ r → c.globals_here ≡ globals_here later → c.globals_there ≡ globals_there later
      → SumsUp s later o (change x f c)
  changed_sums r v f later e st g n a b =
      let p = kept_is e in
      let u = held_unowed x (notes s h) o has.settled e in
      let w : option_map f (at c.places x) ≡ Some v = ap (option_map f) p ∙ ap (λ (q : Place). Some q) g in
      let P : List Note → Type 0 = λ q. (y : ℕ) → at (change x f c).places y ≡ place s q o y in
      let Q : List Note → Type 0 = λ q. AreOwed o q in
      record {
        run = subst (λ q. EndRun s q) (sym n) st.run;
        places = subst P (sym n) (written s (notes s h) r o o c.places x (option_map f (at c.places x)) has.places (within c.places x _ p)
            (w ∙ sym (place_after s x (notes s h) r o v st))
            (λ y d. place_other s x (notes s h) r o o st.moves has.settled y d refl));
        size = length-set c.places x (option_map f (at c.places x)) ∙ has.size;
        queue = has.queue;
        settled = subst Q (sym n) (owed_kept s x (notes s h) r st.moves o u has.settled);
        here = a;
        there = b;
      }

  -- the channel is over, and nothing is owed
  pub freed_sums : (r : List Note) (v : Place) (later : List Item) → is_held x (notes s h) ≡ true → Steps s x (notes s h) r false v → notes s later ≡ r
      → c.globals_here ≡ globals_here later → c.globals_there ≡ globals_there later → SumsUp s later o (put x None c)
  freed_sums r v later e st n a b =
      let p = kept_is e in
      let u = held_unowed x (notes s h) o has.settled e in
      let P : List Note → Type 0 = λ q. (y : ℕ) → at (put x None c).places y ≡ place s q o y in
      let Q : List Note → Type 0 = λ q. AreOwed o q in
      record {
        run = subst (λ q. EndRun s q) (sym n) st.run;
        places = subst P (sym n) (written s (notes s h) r o o c.places x None has.places (within c.places x _ p)
            (sym (place_none s x r o st.held u))
            (λ y d. place_other s x (notes s h) r o o st.moves has.settled y d refl));
        size = length-set c.places x None ∙ has.size;
        queue = has.queue;
        settled = subst Q (sym n) (owed_kept s x (notes s h) r st.moves o u has.settled);
        here = a;
        there = b;
      }

  -- a channel is opened at a number that was not used
  pub opened_sums : (r : List Note) (v : Place) (later : List Item) → IsUnused c.places x → Steps s x (notes s h) r true v → notes s later ≡ r
      → c.globals_here ≡ globals_here later → c.globals_there ≡ globals_there later → SumsUp s later o (put x (Some v) c)
  opened_sums r v later free st n a b =
      let u = unused_is s (notes s h) o x (sym (has.places x) ∙ free.nothing) in
      let inside : x < length c.places = rw has.size free.inside in
      let P : List Note → Type 0 = λ q. (y : ℕ) → at (put x (Some v) c).places y ≡ place s q o y in
      let Q : List Note → Type 0 = λ q. AreOwed o q in
      record {
        run = subst (λ q. EndRun s q) (sym n) st.run;
        places = subst P (sym n) (written s (notes s h) r o o c.places x (Some v) has.places inside
            (sym (place_after s x (notes s h) r o v st))
            (λ y d. place_other s x (notes s h) r o o st.moves has.settled y d refl));
        size = length-set c.places x (Some v) ∙ has.size;
        queue = has.queue;
        settled = subst Q (sym n) (owed_kept s x (notes s h) r st.moves o u.1 has.settled);
        here = a;
        there = b;
      }

  pub unused_here : IsUnused c.places x → (is_held x (notes s h) ≡ false) × (is_owed x o ≡ false)
  unused_here free = unused_is s (notes s h) o x (sym (has.places x) ∙ free.nothing)

-- ---- the table

module _ (s : Side) (h : List Item) (o : List channel.Item) (c : Channels) (has : SumsUp s h o c) where
  pub count_is : used c.places ≡ count (notes s h) o
  unfolding count
  count_is =
      sym (places_count c.places) ∙ (ap (λ k. count_below (λ y. is_some (at c.places y)) k) has.size
      ∙ below_same (λ y. is_some (at c.places y)) (in_use (notes s h) o) most_channels (λ y. used_here s h o c has y))

  pub queue_owed : length c.owed ≡ length o
  queue_owed = sym (length-map c.owed reply_item) ∙ (sym (length-reverse (map reply_item c.owed)) ∙ ap length has.queue)

module _ (s : Side) (h : List Item) (c : Channels) (has : SumsUp s h (owed_replies s h) c) where
  pub full_here : is_full s h ≡ is_table_full c.places
  full_here = full_is s (channel_items h) ∙ ap (λ k. nat_le most_channels k) (sym (count_is s h (owed_replies s h) c has))

  pub many_here : is_owed_limit_reached s h ≡ is_queue_full (blocked h) c.owed
  many_here = ap (λ n. blocked h && is_limit_reached most_owed_replies n) (sym (queue_owed s h (owed_replies s h) c has))

  pub free_here : (x : ℕ) → IsUnused c.places x → is_free s (channel_items h) x ≡ true
  free_here x free =
      let u = unused_here s h (owed_replies s h) c has x free in
      rw (lt-ltb x most_channels free.inside, u.0, u.1) refl
