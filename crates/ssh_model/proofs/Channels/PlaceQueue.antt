-- What an end keeps at its numbers, by its notes and the replies that it owes.
use Rattle.std.proofs.Common.{◌≡◌, ℕ, suc, List, [], ◌∷◌, refl, ap, sym, ◌∙◌, arith, subst, cond, not, ◌&&◌, ◌||◌, Bool, true, false, ◌==◌, eq-eqb, eqb-true, Option, Some, None}
use Rattle.ssh_model.specs.declared.side.Side.{Side}
use Rattle.ssh_model.specs.Protocol.Channels.Message.{Message.OpenFailure, Message.Close, begun, Stage, Stage.Quiet, Stage.Speaking, Stage.Ended, Stage.Closed, Stage.Failed, stage, closed, talked}
use Rattle.ssh_model.specs.State.Channels.Places.{has_eof}
use Rattle.ssh_model.specs.Protocol.Channels.Notes.{Note, Note.Refused, next_theirs}
use Rattle.ssh_model.specs.Protocol.Channels.Numbers.{said_at, took_at, has_open, is_held, is_confirmed, is_offered, is_waiting, has_closed, send_window}
use Rattle.ssh_model.specs.State.Channels.Rules.{EndRun}
use Rattle.ssh_model.specs.Protocol.Channels.History.{Item, Item.Sent, is_owed}
use Rattle.ssh_model.specs.State.Channels.Places.{Place, place_of, place_at, place, IsOver, AreOwed, ChannelState, ChannelState.Opening, ChannelState.Waiting, ChannelState.Confirmed, channel_state, room, is_at, is_open, is_opening, is_waiting_place, shown_state, shown_room}
use Rattle.ssh_model.proofs.Channels.Steps.{Same, Moves, Steps, refused_moves}
use Rattle.ssh_model.proofs.Channels.PlaceOpens.{offered_place, waits_place}

-- ---- two numbers

pub other_number : (y x : ℕ) → (y == x) ≡ false → y ≡ x → ⊥
other_number y x e z = let v : (y == x) ≡ true = rw z (grind (arith, eq-eqb)) in let r : true ≡ false = sym v ∙ e in cc r

pub apart_number : (y x : ℕ) → (y ≡ x → ⊥) → (y == x) ≡ false
apart_number y x d = go (y == x) refl
  where
    go : (b : Bool) → (y == x) ≡ b → b ≡ false
    go false e = refl
    go true e = absurd (d (eqb-true y x e))

pub same_number : (x : ℕ) → (x == x) ≡ true
same_number x = grind (arith, eq-eqb)

-- ---- owed replies

owed_over : (x : ℕ) (o : List Item) (n : List Note) → AreOwed o n → is_owed x o ≡ true → IsOver x n
owed_over x [] n a e = absurd (cc e)
owed_over x (Sent None (OpenFailure t) ∷ l) n a e = owed_over x l n a e
owed_over x (Sent (Some y) (Close t) ∷ l) n a e = go (y == x) refl (λ f. owed_over x l n a.1.1 f)
  where
    go : (b : Bool) → (y == x) ≡ b → (is_owed x l ≡ true → IsOver x n) → IsOver x n
    go true q more = subst (λ w. IsOver w n) (eqb-true y x q) a.0
    go false q more = more (sym (ap (λ b. cond b true (is_owed x l)) q) ∙ e)
owed_over x (i ∷ l) n a e = elim a [ ]

unowed_parts : (b c : Bool) → cond b true c ≡ false → (b ≡ false) × (c ≡ false)
unowed_parts true c e = absurd (cc e)
unowed_parts false c e = (refl, e)

over_kept : (s : Side) (y : ℕ) (n r : List Note) → Same s y n r → IsOver y n → IsOver y r
over_kept s y n r e o = record {
  opened = e.opened ∙ o.opened;
  held = e.held ∙ o.held;
  close_taken = e.close_taken ∙ o.close_taken;
  close_said = e.close_said ∙ o.close_said;
}

-- what is owed at other numbers stays owed
pub owed_kept : (s : Side) (x : ℕ) (n r : List Note) → Moves s x n r → (o : List Item) → is_owed x o ≡ false → AreOwed o n → AreOwed o r
owed_kept s x n r m [] f a = tt
owed_kept s x n r m (Sent None (OpenFailure t) ∷ l) f a = owed_kept s x n r m l f a
owed_kept s x n r m (Sent (Some y) (Close t) ∷ l) f a =
    let p = unowed_parts (y == x) (is_owed x l) f in
    (over_kept s y n r (m.same y (other_number y x p.0) a.0.opened) a.0, (a.1.0, owed_kept s x n r m l p.1 a.1.1))
owed_kept s x n r m (i ∷ l) f a = elim a [ ]

pub held_unowed : (x : ℕ) (n : List Note) (o : List Item) → AreOwed o n → is_held x n ≡ true → is_owed x o ≡ false
held_unowed x n o a h = go (is_owed x o) refl
  where
    go : (b : Bool) → is_owed x o ≡ b → b ≡ false
    go false e = refl
    go true e = let z : true ≡ false = sym h ∙ (owed_over x o n a e).held in absurd (cc z)

-- ---- places

-- what is kept at a number that is held, or at which a CLOSE is owed
abbrev pub kept_at : Bool → Bool → Place → Option Place
kept_at held owed v = cond held (Some v) (cond owed (Some (record v { close_owed = true })) None)

place_is : (s : Side) (x : ℕ) (n : List Note) (o : List Item) (b c : Bool) (v : Place) → is_held x n ≡ b → is_owed x o ≡ c → place_at s x n ≡ v → place s n o x ≡ kept_at b c v
unfolding place
place_is s x n o b c v e f g = rw (e, f, g) refl

pub place_held : (s : Side) (x : ℕ) (n : List Note) (o : List Item) → is_held x n ≡ true → place s n o x ≡ Some (place_at s x n)
place_held s x n o h = place_is s x n o true (is_owed x o) (place_at s x n) h refl refl

pub place_owed : (s : Side) (x : ℕ) (n : List Note) (o : List Item) → is_held x n ≡ false → is_owed x o ≡ true → place s n o x ≡ Some (record (place_at s x n) { close_owed = true })
place_owed s x n o h e = place_is s x n o false true (place_at s x n) h e refl

pub place_none : (s : Side) (x : ℕ) (n : List Note) (o : List Item) → is_held x n ≡ false → is_owed x o ≡ false → place s n o x ≡ None
place_none s x n o h e = place_is s x n o false false (place_at s x n) h e refl

pub place_after : (s : Side) (x : ℕ) (n r : List Note) (o : List Item) (v : Place) → Steps s x n r true v → place s r o x ≡ Some v
place_after s x n r o v e = place_is s x r o true (is_owed x o) v e.held refl e.place

-- the other numbers keep their places
pub place_other : (s : Side) (x : ℕ) (n r : List Note) (o q : List Item) → Moves s x n r → AreOwed o n → (y : ℕ) → (y ≡ x → ⊥) → is_owed y q ≡ is_owed y o → place s r q y ≡ place s n o y
place_other s x n r o q m a y d e = go (has_open y n) refl
  where
    go : (b : Bool) → has_open y n ≡ b → place s r q y ≡ place s n o y
    go true p =
        let c = m.same y d p in
        place_is s y r q (is_held y n) (is_owed y o) (place_at s y n) c.held e c.place ∙ sym (place_is s y n o (is_held y n) (is_owed y o) (place_at s y n) refl refl refl)
    go false p = place_none s y r q (none r (m.opened y d ∙ p)) (e ∙ unowed) ∙ sym (place_none s y n o (none n p) unowed)
      where
        none : (w : List Note) → has_open y w ≡ false → is_held y w ≡ false
        none w z = rw z refl

        unowed : is_owed y o ≡ false
        unowed = go2 (is_owed y o) refl
          where
            go2 : (b : Bool) → is_owed y o ≡ b → b ≡ false
            go2 false z = refl
            go2 true z = let u : true ≡ false = sym (owed_over y o n a z).opened ∙ p in absurd (cc u)

-- the same is owed at a number
pub unowed_same : (s : Side) (y : ℕ) (n : List Note) (o q : List Item) → is_owed y q ≡ is_owed y o → place s n o y ≡ place s n q y
unowed_same s y n o q e =
    place_is s y n o (is_held y n) (is_owed y o) (place_at s y n) refl refl refl
    ∙ sym (place_is s y n q (is_held y n) (is_owed y o) (place_at s y n) refl e refl)

-- nothing is kept at a number that is not held, and at which nothing is owed
nothing_kept : (b c : Bool) (v : Place) → kept_at b c v ≡ None → (b ≡ false) × (c ≡ false)
nothing_kept false false v e = (refl, refl)
nothing_kept true c v e = absurd (cc e)
nothing_kept false true v e = absurd (cc e)

pub unused_is : (s : Side) (n : List Note) (o : List Item) (x : ℕ) → place s n o x ≡ None → (is_held x n ≡ false) × (is_owed x o ≡ false)
unused_is s n o x e =
    nothing_kept (is_held x n) (is_owed x o) (place_at s x n) (sym (place_is s x n o (is_held x n) (is_owed x o) (place_at s x n) refl refl refl) ∙ e)

-- ---- tests of a place

shut_begun : (q : Stage) → closed q ≡ true → talked q ≡ true
shut_begun Closed e = refl
shut_begun Quiet e = absurd (cc e)
shut_begun Speaking e = absurd (cc e)
shut_begun Ended e = absurd (cc e)
shut_begun Failed e = absurd (cc e)

-- what is kept where a CLOSE is owed
over_answered : (s : Side) (x : ℕ) (n : List Note) → IsOver x n → (place_at s x n).is_answered ≡ true
unfolding place_at place_of
over_answered s x n o = rw (shut_begun (stage (said_at x n)) o.close_said, shut_begun (stage (took_at x n)) o.close_taken) refl

over_closed : (s : Side) (x : ℕ) (n : List Note) → IsOver x n → (place_at s x n).close_taken ≡ true
unfolding place_at place_of
over_closed s x n o = o.close_taken

open_parts : (h d c e : Bool) → h ≡ true → (h && (d && (c && e))) ≡ ((d && c) && e)
open_parts h true c e z = rw z refl
open_parts h false c e z = rw z refl

open_there : (s : Side) (x : ℕ) (n : List Note) → is_held x n ≡ true → is_confirmed x n ≡ is_open (place_at s x n)
unfolding place_at place_of
open_there s x n e = open_parts (is_held x n) (begun (said_at x n)) (begun (took_at x n)) (not (closed (stage (took_at x n)))) e

window_is : (s : Side) (x : ℕ) (n : List Note) → (place_at s x n).send_window ≡ send_window x n
unfolding place_at place_of
window_is s x n = refl

and_none : (b c : Bool) → b ≡ false → (b && c) ≡ false
and_none b c e = rw e refl

module _ (s : Side) (x : ℕ) (n : List Note) (o : List Item) (a : AreOwed o n) where
  -- a test that fails where no channel is held, and of a place where one is
  tested : (held : Bool) → (test : Place → Bool) → (is_held x n ≡ false → held ≡ false) → (is_held x n ≡ true → held ≡ test (place_at s x n))
      → (IsOver x n → test (record (place_at s x n) { close_owed = true }) ≡ false) → held ≡ is_at test (place s n o x)
  tested held test none some over = go (is_held x n) (is_owed x o) refl refl
    where
      go : (b c : Bool) → is_held x n ≡ b → is_owed x o ≡ c → held ≡ is_at test (place s n o x)
      go true c e f = some e ∙ sym (ap (is_at test) (place_held s x n o e))
      go false true e f = none e ∙ sym (ap (is_at test) (place_owed s x n o e f) ∙ over (owed_over x o n a f))
      go false false e f = none e ∙ sym (ap (is_at test) (place_none s x n o e f))

  -- whether a channel is confirmed, as its place tells
  pub confirmed_at : is_confirmed x n ≡ is_at is_open (place s n o x)
  confirmed_at = tested (is_confirmed x n) is_open (λ e. and_none _ _ e) (open_there s x n) shut
    where
      closed_off : (d c : Bool) → c ≡ true → (d && not c) ≡ false
      closed_off true c z = rw z refl
      closed_off false c z = refl

      shut : IsOver x n → is_open (record (place_at s x n) { close_owed = true }) ≡ false
      shut v = closed_off (place_at s x n).is_answered (place_at s x n).close_taken (over_closed s x n v)

  answered_off : (own : Bool) → IsOver x n → (own && not (place_at s x n).is_answered) ≡ false
  answered_off own v = off own (place_at s x n).is_answered (over_answered s x n v)
    where
      off : (d c : Bool) → c ≡ true → (d && not c) ≡ false
      off true c z = rw z refl
      off false c z = refl

  module _ (run : EndRun s n) where
    pub offered_at : is_offered s x n ≡ is_at is_opening (place s n o x)
    offered_at = tested (is_offered s x n) is_opening (λ e. and_none _ _ e) (λ e. offered_place s n run x e) (λ v. answered_off (place_at s x n).is_own v)

    pub waits_at : is_waiting s x n ≡ is_at is_waiting_place (place s n o x)
    waits_at = tested (is_waiting s x n) is_waiting_place (λ e. and_none _ _ e) (λ e. waits_place s n run x e) (λ v. answered_off (not (place_at s x n).is_own) v)

-- ---- what is shown

answered_is : (s : Side) (x : ℕ) (n : List Note) → (place_at s x n).is_answered ≡ (begun (said_at x n) && begun (took_at x n))
unfolding place_at place_of
answered_is s x n = refl

pub room_is : (s : Side) (x : ℕ) (n : List Note) (o : List Item) → room n o x ≡ shown_room (place s n o x)
room_is s x n o = go (is_held x n) (is_owed x o) refl refl
  where
    go : (b c : Bool) → is_held x n ≡ b → is_owed x o ≡ c → room n o x ≡ shown_room (place s n o x)
    go true c e f = rw (place_held s x n o e, e, answered_is s x n, window_is s x n) refl
    go false true e f = rw (place_owed s x n o e f, e, f, answered_is s x n, window_is s x n) refl
    go false false e f = rw (place_none s x n o e f, e, f) refl

-- what is shown of a number by the tests of its history
abbrev state_of_tests : (opening waiting used : Bool) → ChannelState → Option ChannelState
state_of_tests opening waiting used confirmed = cond opening (Some Opening) (cond waiting (Some Waiting) (cond used (Some confirmed) None))

of_place : (own answered : Bool) (d : ChannelState)
    → cond answered (Some d) (cond own (Some Opening) (Some Waiting)) ≡ state_of_tests (own && not answered) (not own && not answered) true d
of_place true true d = refl
of_place true false d = refl
of_place false true d = refl
of_place false false d = refl

module _ (s : Side) (x : ℕ) (n : List Note) (o : List Item) (a : AreOwed o n) (run : EndRun s n) where
  confirmed_state : Bool → ChannelState
  confirmed_state owed = Confirmed (has_eof (said_at x n)) (has_eof (took_at x n)) (has_closed x n && not owed) (closed (stage (took_at x n)))

  shown_of : (owed : Bool) → shown_state (Some (record (place_at s x n) { close_owed = owed }))
      ≡ cond (place_at s x n).is_answered (Some (confirmed_state owed)) (cond (place_at s x n).is_own (Some Opening) (Some Waiting))
  unfolding place_at place_of confirmed_state
  shown_of owed = refl

  not_owed : place_at s x n ≡ record (place_at s x n) { close_owed = false }
  unfolding place_at place_of
  not_owed = refl

  state_here : (b d : Bool) → is_held x n ≡ b → is_owed x o ≡ d
      → shown_state (place s n o x) ≡ state_of_tests (is_offered s x n) (is_waiting s x n) (b || d) (confirmed_state d)
  state_here true d e f =
      let z : d ≡ false = sym f ∙ held_unowed x n o a e in
      let v = place_at s x n in
      ap shown_state (place_held s x n o e ∙ ap (λ (w : Place). Some w) not_owed)
      ∙ (shown_of false ∙ (of_place v.is_own v.is_answered (confirmed_state false)
      ∙ (ap (λ b. state_of_tests b (not v.is_own && not v.is_answered) true (confirmed_state false)) (sym (offered_place s n run x e))
      ∙ (ap (λ b. state_of_tests (is_offered s x n) b true (confirmed_state false)) (sym (waits_place s n run x e))
      ∙ ap (λ q. state_of_tests (is_offered s x n) (is_waiting s x n) true (confirmed_state q)) (sym z)))))
  state_here false true e f =
      ap shown_state (place_owed s x n o e f)
      ∙ (shown_of true ∙ (ap (λ b. cond b (Some (confirmed_state true)) (cond (place_at s x n).is_own (Some Opening) (Some Waiting))) (over_answered s x n (owed_over x o n a f))
      ∙ (ap (λ b. state_of_tests b false true (confirmed_state true)) (sym (and_none _ _ e))
      ∙ ap (λ b. state_of_tests (is_offered s x n) b true (confirmed_state true)) (sym (and_none _ _ e)))))
  state_here false false e f =
      ap shown_state (place_none s x n o e f)
      ∙ (ap (λ b. state_of_tests b false false (confirmed_state false)) (sym (and_none _ _ e))
      ∙ ap (λ b. state_of_tests (is_offered s x n) b false (confirmed_state false)) (sym (and_none _ _ e)))

  pub state_is : shown_state (place s n o x) ≡ channel_state s n o x
  unfolding confirmed_state
  state_is = state_here (is_held x n) (is_owed x o) refl refl

-- ---- an OPEN of the peer that is refused for want of a place

module _ (s : Side) (n : List Note) (run : EndRun s n) (f w k : ℕ) where
  refused_at : (x : ℕ) → Moves s x n (Refused (next_theirs s n) f w k ∷ n)
  refused_at x = record { opened = λ y d. refl; same = λ y d a. refused_moves s n run x f w k y a }

  pub refused_place : (o q : List Item) → AreOwed o n → (y : ℕ) → is_owed y q ≡ is_owed y o → place s (Refused (next_theirs s n) f w k ∷ n) q y ≡ place s n o y
  refused_place o q a y e = place_other s (suc y) n (Refused (next_theirs s n) f w k ∷ n) o q (refused_at (suc y)) a y (λ z. omega (arith, z)) e

  pub refused_owed : (o : List Item) → AreOwed o n → AreOwed o (Refused (next_theirs s n) f w k ∷ n)
  refused_owed [] a = tt
  refused_owed (Sent None (OpenFailure t) ∷ l) a = refused_owed l a
  refused_owed (Sent (Some y) (Close t) ∷ l) a = (over_kept s y n (Refused (next_theirs s n) f w k ∷ n) (refused_moves s n run y f w k y a.0.opened) a.0, (a.1.0, refused_owed l a.1.1))
  refused_owed (i ∷ l) a = elim a [ ]
