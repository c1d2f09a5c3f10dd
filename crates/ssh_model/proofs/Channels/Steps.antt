-- What one note changes of what an end keeps, at every other number than that of the note: nothing.
use Rattle.std.proofs.Common.{◌≡◌, ℕ, suc, ◌-◌, List, [], ◌∷◌, refl, ap, ◌∙◌, arith, subst, cond, not, Bool, true, false, ◌==◌, eqb-true}
use Rattle.ssh_model.specs.declared.side.Side.{Side}
use Rattle.ssh_model.specs.Protocol.Channels.Message.{Message, Message.Open, Message.OpenFailure, Message.Request, Message.Reply, Channel, same, mine, stage, closed, over}
use Rattle.ssh_model.specs.State.Channels.Rules.{is_open, OpenedAt, EndRun, EndRun.saying, EndRun.take, Says, Takes}
use Rattle.ssh_model.specs.Protocol.Channels.Notes.{Note, Note.Said, Note.Took, Note.Refused, said_all, took_all, said, took, opens, channel_at, waits_here, waits_there}
use Rattle.ssh_model.specs.Protocol.Channels.Numbers.{took_at, has_open, is_held, has_closed}
use Rattle.ssh_model.specs.Protocol.Channels.Notes.{next_own, next_theirs}
use Rattle.ssh_model.specs.State.Channels.Places.{Place, place_of, place_at}
use Rattle.ssh_model.proofs.Channels.Lines.{same_true, same_self, on_hit, on_miss, Unused, unused_opened}
use Rattle.ssh_model.proofs.Channels.Local.{channel_said, channel_took}
use Rattle.ssh_model.proofs.Channels.State.{opened_is, has_opened}
use Rattle.ssh_model.proofs.Channels.SinceOpen.{literal}
use Rattle.ssh_model.proofs.Channels.End.{local}

-- what is known of a number is the same in two lists of notes
pub record Same (s : Side) (y : ℕ) (n r : List Note) : Type 0 where
  pub opened : has_open y r ≡ has_open y n
  pub held : is_held y r ≡ is_held y n
  pub close_taken : closed (stage (took_at y r)) ≡ closed (stage (took_at y n))
  pub close_said : has_closed y r ≡ has_closed y n
  pub place : place_at s y r ≡ place_at s y n

-- From notes n to r at the number x, the other numbers stay as they are.
pub record Moves (s : Side) (x : ℕ) (n r : List Note) : Type 0 where
  pub opened : (y : ℕ) → (y ≡ x → ⊥) → has_open y r ≡ has_open y n
  pub same : (y : ℕ) → (y ≡ x → ⊥) → has_open y n ≡ true → Same s y n r

-- From notes n to r at the number x, at which this is then known; a channel is held there or not.
pub record Steps (s : Side) (x : ℕ) (n r : List Note) (lives : Bool) (v : Place) : Type 0 where
  pub run : EndRun s r
  pub moves : Moves s x n r
  pub opened : has_open x r ≡ true
  pub held : is_held x r ≡ lives
  pub close_said : has_closed x r ≡ v.close_said
  pub place : place_at s x r ≡ v

-- ---- another channel

here_took : (i j : Channel) (x : ℕ) (m : Message) (n : List Note) → same i j ≡ false → waits_here i (Took x j m ∷ n) ≡ waits_here i n
here_took i j x (Request t true) n e = ap (λ b. cond b (cond (closed (stage (said i n))) (waits_here i n) (suc (waits_here i n))) (waits_here i n)) e
here_took i j x m n e = refl

there_took : (i j : Channel) (x : ℕ) (m : Message) (n : List Note) → same i j ≡ false → waits_there i (Took x j m ∷ n) ≡ waits_there i n
there_took i j x (Reply t b) n e = ap (λ b. cond b (waits_there i n - 1) (waits_there i n)) e
there_took i j x m n e = refl

here_said : (i j : Channel) (x : ℕ) (m : Message) (n : List Note) → same i j ≡ false → waits_here i (Said x j m ∷ n) ≡ waits_here i n
here_said i j x (Reply t b) n e = ap (λ b. cond b (waits_here i n - 1) (waits_here i n)) e
here_said i j x m n e = refl

there_said : (i j : Channel) (x : ℕ) (m : Message) (n : List Note) → same i j ≡ false → waits_there i (Said x j m ∷ n) ≡ waits_there i n
there_said i j x (Request t true) n e = ap (λ b. cond b (suc (waits_there i n)) (waits_there i n)) e
there_said i j x m n e = refl

pub none_here : (i : Channel) (n : List Note) → Unused i n → waits_here i n ≡ 0
none_here i [] u = refl
none_here i (Said x j m ∷ n) u = here_said i j x m n u.0 ∙ none_here i n u.1
none_here i (Took x j m ∷ n) u = here_took i j x m n u.0 ∙ none_here i n u.1
none_here i (Refused j f w k ∷ n) u = none_here i n u.1

pub none_there : (i : Channel) (n : List Note) → Unused i n → waits_there i n ≡ 0
none_there i [] u = refl
none_there i (Said x j m ∷ n) u = there_said i j x m n u.0 ∙ none_there i n u.1
none_there i (Took x j m ∷ n) u = there_took i j x m n u.0 ∙ none_there i n u.1
none_there i (Refused j f w k ∷ n) u = none_there i n u.1

same_of : (s : Side) (y : ℕ) (i : Channel) (n r : List Note) → channel_at y n ≡ i → channel_at y r ≡ i → has_open y r ≡ has_open y n → said i r ≡ said i n → took i r ≡ took i n
    → waits_here i r ≡ waits_here i n → waits_there i r ≡ waits_there i n → Same s y n r
unfolding place_at
same_of s y i n r e f o a b h t = record {
  opened = o;
  held = rw (e, f, o, a, b) refl;
  close_said = rw (e, f, a) refl;
  close_taken = rw (e, f, b) refl;
  place = rw (e, f, a, b, h, t) refl;
}

module _ (s : Side) (y x : ℕ) (j : Channel) (n : List Note) (apart : same (channel_at y n) j ≡ false) where
  same_took : (m : Message) → channel_at y (Took x j m ∷ n) ≡ channel_at y n → has_open y (Took x j m ∷ n) ≡ has_open y n → Same s y n (Took x j m ∷ n)
  same_took m e o =
      let i = channel_at y n in
      same_of s y i n (Took x j m ∷ n) refl e o refl (on_miss i j m (took_all n) apart) (here_took i j x m n apart) (there_took i j x m n apart)

  same_said : (m : Message) → channel_at y (Said x j m ∷ n) ≡ channel_at y n → has_open y (Said x j m ∷ n) ≡ has_open y n → Same s y n (Said x j m ∷ n)
  same_said m e o =
      let i = channel_at y n in
      same_of s y i n (Said x j m ∷ n) refl e o (on_miss i j m (said_all n) apart) refl (here_said i j x m n apart) (there_said i j x m n apart)

  same_refused : (f w k : ℕ) → Same s y n (Refused j f w k ∷ n)
  same_refused f w k =
      let i = channel_at y n in
      same_of s y i n (Refused j f w k ∷ n) refl refl refl (on_miss i j (OpenFailure f) (said_all n) apart) (on_miss i j (Open f w k) (took_all n) apart) refl refl

-- ---- which channels are others

open_said : (y x : ℕ) (j : Channel) (m : Message) (n : List Note) → is_open m ≡ false → has_open y (Said x j m ∷ n) ≡ has_open y n
open_said y x j (Open f w k) n e = absurd (cc e)
open_said y x j m n e = refl

open_took : (y x : ℕ) (j : Channel) (m : Message) (n : List Note) → is_open m ≡ false → has_open y (Took x j m ∷ n) ≡ has_open y n
open_took y x j (Open f w k) n e = absurd (cc e)
open_took y x j m n e = refl

-- two numbers that were opened have two channels
apart_numbers : (s : Side) (y x : ℕ) (n : List Note) → EndRun s n → has_open y n ≡ true → has_open x n ≡ true → (y ≡ x → ⊥) → same (channel_at y n) (channel_at x n) ≡ false
apart_numbers s y x n r a b d = go (same (channel_at y n) (channel_at x n)) refl
  where
    go : (c : Bool) → same (channel_at y n) (channel_at x n) ≡ c → c ≡ false
    go false e = refl
    go true e =
        let P : Channel → Type 0 = λ w. OpenedAt y w n in
        absurd (d ((literal s n r).one y x (channel_at x n) (subst P (same_true _ _ e) (opened_is y n a)) (opened_is x n b)))

-- a channel that is not there yet is another
apart_new : (y : ℕ) (j : Channel) (n : List Note) → has_open y n ≡ true → Unused j n → same (channel_at y n) j ≡ false
apart_new y j n a u = go (same (channel_at y n) j) refl
  where
    go : (c : Bool) → same (channel_at y n) j ≡ c → c ≡ false
    go false e = refl
    go true e = let P : Channel → Type 0 = λ w. OpenedAt y w n in absurd (unused_opened y j n u (subst P (same_true _ _ e) (opened_is y n a)))

not_same : (y x : ℕ) → (y ≡ x → ⊥) → (y == x) ≡ false
not_same y x d = go (y == x) refl
  where
    go : (c : Bool) → (y == x) ≡ c → c ≡ false
    go false e = refl
    go true e = absurd (d (eqb-true y x e))

-- ---- at every other number

module _ (s : Side) (n : List Note) (run : EndRun s n) (x : ℕ) where
  pub took_moves : (m : Message) → is_open m ≡ false → has_open x n ≡ true → Moves s x n (Took x (channel_at x n) m ∷ n)
  took_moves m p o = record {
    opened = λ y d. open_took y x (channel_at x n) m n p;
    same = λ y d a.
        same_took s y x (channel_at x n) n (apart_numbers s y x n run a o d) m (channel_took y x (channel_at x n) m n p) (open_took y x (channel_at x n) m n p);
  }

  pub said_moves : (m : Message) → is_open m ≡ false → has_open x n ≡ true → Moves s x n (Said x (channel_at x n) m ∷ n)
  said_moves m p o = record {
    opened = λ y d. open_said y x (channel_at x n) m n p;
    same = λ y d a.
        same_said s y x (channel_at x n) n (apart_numbers s y x n run a o d) m (channel_said y x (channel_at x n) m n p) (open_said y x (channel_at x n) m n p);
  }

  pub open_taken_moves : (f w k : ℕ) → Moves s x n (Took x (next_theirs s n) (Open f w k) ∷ n)
  open_taken_moves f w k = record {
    opened = λ y d. ap (λ b. cond b true (has_open y n)) (not_same y x d);
    same = λ y d a.
        let none = (local s n run).fresh_peer (opens (took_all n)) (omega arith) in
        same_took s y x (next_theirs s n) n (apart_new y (next_theirs s n) n a none) (Open f w k)
        (ap (λ b. cond b (next_theirs s n) (channel_at y n)) (not_same y x d)) (ap (λ b. cond b true (has_open y n)) (not_same y x d));
  }

  pub open_said_moves : (f w k : ℕ) → Moves s x n (Said x (next_own s n) (Open f w k) ∷ n)
  open_said_moves f w k = record {
    opened = λ y d. ap (λ b. cond b true (has_open y n)) (not_same y x d);
    same = λ y d a.
        let none = (local s n run).fresh (opens (said_all n)) (omega arith) in
        same_said s y x (next_own s n) n (apart_new y (next_own s n) n a none) (Open f w k)
        (ap (λ b. cond b (next_own s n) (channel_at y n)) (not_same y x d)) (ap (λ b. cond b true (has_open y n)) (not_same y x d));
  }

  pub refused_moves : (f w k : ℕ) → (y : ℕ) → has_open y n ≡ true → Same s y n (Refused (next_theirs s n) f w k ∷ n)
  refused_moves f w k y a =
      let none = (local s n run).fresh_peer (opens (took_all n)) (omega arith) in
      same_refused s y x (next_theirs s n) n (apart_new y (next_theirs s n) n a none) f w k

pub moves_then : (s : Side) (x : ℕ) (n r q : List Note) → Moves s x n r → Moves s x r q → Moves s x n q
moves_then s x n r q a b = record {
  opened = λ y d. b.opened y d ∙ a.opened y d;
  same = λ y d o.
      let e = a.same y d o in
      let f = b.same y d (e.opened ∙ o) in
      record {
        opened = f.opened ∙ e.opened;
        held = f.held ∙ e.held;
        close_said = f.close_said ∙ e.close_said;
        close_taken = f.close_taken ∙ e.close_taken;
        place = f.place ∙ e.place;
      };
}

-- ---- at the number itself

pub said_close_is : (s : Side) (x : ℕ) (n : List Note) → has_closed x n ≡ (place_at s x n).close_said
unfolding place_at place_of
said_close_is s x n = refl

pub place_here : (s : Side) (x : ℕ) (i : Channel) (r : List Note) (a b : List Message) (h t : ℕ) → channel_at x r ≡ i → said i r ≡ a → took i r ≡ b → waits_here i r ≡ h → waits_there i r ≡ t
    → place_at s x r ≡ place_of (mine s i) a b h t
unfolding place_at
place_here s x i r a b h t e f g k l = rw (e, f, g, k, l) refl

pub held_here : (x : ℕ) (i : Channel) (r : List Note) (a b : List Message) → channel_at x r ≡ i → has_open x r ≡ true → said i r ≡ a → took i r ≡ b → is_held x r ≡ not (over a b)
held_here x i r a b e o f g = rw (e, o, f, g) refl

module _ (s : Side) (n : List Note) (run : EndRun s n) (x : ℕ) where
  -- a message that is no OPEN is taken, after which so many requests wait
  pub took_steps : (m : Message) → Takes s n x (channel_at x n) m → (h t : ℕ) → waits_here (channel_at x n) (Took x (channel_at x n) m ∷ n) ≡ h
      → waits_there (channel_at x n) (Took x (channel_at x n) m ∷ n) ≡ t → (lives : Bool) (v : Place)
      → not (over (said (channel_at x n) n) (m ∷ took (channel_at x n) n)) ≡ lives
      → place_of (mine s (channel_at x n)) (said (channel_at x n) n) (m ∷ took (channel_at x n) n) h t ≡ v → Steps s x n (Took x (channel_at x n) m ∷ n) lives v
  took_steps m may h t a b lives v live sees =
      let i = channel_at x n in
      let r = Took x i m ∷ n in
      let c = channel_took x x i m n may.other in
      let o = open_took x x i m n may.other ∙ has_opened x i n may.at.opened in
      let l = on_hit i i m (took_all n) (same_self i) in
      let e = place_here s x i r (said i n) (m ∷ took i n) h t c refl l a b ∙ sees in
      record {
        run = take x i m run may;
        moves = took_moves s n run x m may.other (has_opened x i n may.at.opened);
        opened = o;
        held = held_here x i r (said i n) (m ∷ took i n) c o refl l ∙ live;
        close_said = said_close_is s x r ∙ ap (λ (w : Place). w.close_said) e;
        place = e;
      }

  -- a message that is no OPEN is said, after which so many requests wait
  pub said_steps : (m : Message) → Says s n x (channel_at x n) m → (h t : ℕ) → waits_here (channel_at x n) (Said x (channel_at x n) m ∷ n) ≡ h
      → waits_there (channel_at x n) (Said x (channel_at x n) m ∷ n) ≡ t → (lives : Bool) (v : Place)
      → not (over (m ∷ said (channel_at x n) n) (took (channel_at x n) n)) ≡ lives
      → place_of (mine s (channel_at x n)) (m ∷ said (channel_at x n) n) (took (channel_at x n) n) h t ≡ v → Steps s x n (Said x (channel_at x n) m ∷ n) lives v
  said_steps m may h t a b lives v live sees =
      let i = channel_at x n in
      let r = Said x i m ∷ n in
      let c = channel_said x x i m n may.other in
      let o = open_said x x i m n may.other ∙ has_opened x i n may.at.opened in
      let l = on_hit i i m (said_all n) (same_self i) in
      let e = place_here s x i r (m ∷ said i n) (took i n) h t c l refl a b ∙ sees in
      record {
        run = saying x i m run may;
        moves = said_moves s n run x m may.other (has_opened x i n may.at.opened);
        opened = o;
        held = held_here x i r (m ∷ said i n) (took i n) c o l refl ∙ live;
        close_said = said_close_is s x r ∙ ap (λ (w : Place). w.close_said) e;
        place = e;
      }
