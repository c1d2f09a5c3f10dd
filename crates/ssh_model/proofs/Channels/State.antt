-- What the tests on a local number tell.
use Rattle.std.proofs.Common.{◌≡◌, ℕ, List, [], ◌∷◌, ◌⊎◌, inl, inr, refl, sym, arith, subst, cond, not, ◌&&◌, Bool, true, false, ◌==◌, eq-eqb, eqb-true}
use Rattle.ssh_model.specs.declared.side.Side.{Side}
use Rattle.ssh_model.specs.declared.side.Side.TheVariants.{Client, Server}
use Rattle.ssh_model.specs.Protocol.Side.{peer}
use Rattle.ssh_model.specs.Protocol.Channels.Message.{Message, Message.Open, Channel, Channel.Opened, mine, Stage, Stage.Quiet, Stage.Speaking, Stage.Ended, Stage.Closed, Stage.Failed, stage, talked, closed, ended, begun, over}
use Rattle.ssh_model.specs.Protocol.Channels.Notes.{Note, Note.Said, Note.Took, Note.Refused, said, took, channel_at}
use Rattle.ssh_model.specs.State.Channels.Rules.{OpenedAt, At, Free}
use Rattle.ssh_model.specs.Protocol.Channels.Numbers.{said_at, took_at, is_empty, has_open, is_held, is_confirmed, is_offered, is_waiting, has_ended, has_closed, peer_ended}
use Rattle.ssh_model.proofs.Channels.Local.{Local}

-- there is a confirmed channel, and the peer did not close it
pub record Confirmed (n : List Note) (x : ℕ) : Type 0 where
  pub at : At x (channel_at x n) n
  pub spoke : begun (said_at x n) ≡ true
  pub heard : begun (took_at x n) ≡ true
  pub lives : stage (took_at x n) ≡ Closed → ⊥

-- an OPEN of the peer waits there
pub record Waits (s : Side) (n : List Note) (x : ℕ) : Type 0 where
  pub at : At x (channel_at x n) n
  pub theirs : mine s (channel_at x n) ≡ false
  pub silent : said_at x n ≡ []
  pub heard : begun (took_at x n) ≡ true

-- an OPEN of this end is not answered
pub record Offered (s : Side) (n : List Note) (x : ℕ) : Type 0 where
  pub at : At x (channel_at x n) n
  pub ours : mine (peer s) (channel_at x n) ≡ false
  pub unanswered : took_at x n ≡ []
  pub spoke : begun (said_at x n) ≡ true

-- ---- tests

pub and_is : (a b : Bool) → (a && b) ≡ true → (a ≡ true) × (b ≡ true)
and_is true b e = (refl, e)
and_is false b e = absurd (cc e)

pub and_true : (a b : Bool) → a ≡ true → b ≡ true → (a && b) ≡ true
and_true a b p q = rw (p, q) refl

pub not_is : (a : Bool) → not a ≡ true → a ≡ false
not_is true e = absurd (cc e)
not_is false e = refl

pub not_true : (a : Bool) → a ≡ false → not a ≡ true
not_true a e = rw e refl

empty_is : (l : List Message) → is_empty l ≡ true → l ≡ []
empty_is [] e = refl
empty_is (m ∷ l) e = absurd (cc e)

pub not_closed_is : (q : Stage) → closed q ≡ false → q ≡ Closed → ⊥
not_closed_is Closed e z = cc e
not_closed_is q e z = cc z

pub speaking_is : (q : Stage) → talked q ≡ true → ended q ≡ false → q ≡ Speaking
speaking_is Speaking t e = refl
speaking_is Quiet t e = absurd (cc t)
speaking_is Ended t e = absurd (cc e)
speaking_is Closed t e = absurd (cc e)
speaking_is Failed t e = absurd (cc t)

other_side : (s : Side) (i : Channel) → mine s i ≡ true → mine (peer s) i ≡ false
other_side Client (Opened Client k) e = refl
other_side Server (Opened Server k) e = refl
other_side Client (Opened Server k) e = absurd (cc e)
other_side Server (Opened Client k) e = absurd (cc e)

-- ---- held

newest : (x y : ℕ) (j : Channel) (n : List Note) → (has_open x n ≡ true → OpenedAt x (channel_at x n) n) → (b : Bool) → (x == y) ≡ b → cond b true (has_open x n) ≡ true
    → ((x ≡ y) × (cond b j (channel_at x n) ≡ j)) ⊎ OpenedAt x (cond b j (channel_at x n)) n
newest x y j n r true q e = inl (eqb-true x y q, refl)
newest x y j n r false q e = inr (r e)

either_way : (b c : Bool) → c ≡ true → cond b true c ≡ true
either_way true c e = refl
either_way false c e = e

pub opened_is : (x : ℕ) (n : List Note) → has_open x n ≡ true → OpenedAt x (channel_at x n) n
opened_is x [] e = absurd (cc e)
opened_is x (Said y j (Open f w k) ∷ n) e = newest x y j n (opened_is x n) (x == y) refl e
opened_is x (Took y j (Open f w k) ∷ n) e = newest x y j n (opened_is x n) (x == y) refl e
opened_is x (Said y j m ∷ n) e = opened_is x n e
opened_is x (Took y j m ∷ n) e = opened_is x n e
opened_is x (Refused j f w k ∷ n) e = opened_is x n e

pub has_opened : (x : ℕ) (i : Channel) (n : List Note) → OpenedAt x i n → has_open x n ≡ true
has_opened x i [] o = elim o [ ]
has_opened x i (Said y j (Open f w k) ∷ n) (inl e) = let z : (x == y) ≡ true = rw e.0 (grind (arith, eq-eqb)) in rw z refl
has_opened x i (Said y j (Open f w k) ∷ n) (inr o) = either_way (x == y) (has_open x n) (has_opened x i n o)
has_opened x i (Took y j (Open f w k) ∷ n) (inl e) = let z : (x == y) ≡ true = rw e.0 (grind (arith, eq-eqb)) in rw z refl
has_opened x i (Took y j (Open f w k) ∷ n) (inr o) = either_way (x == y) (has_open x n) (has_opened x i n o)
has_opened x i (Said y j m ∷ n) o = has_opened x i n o
has_opened x i (Took y j m ∷ n) o = has_opened x i n o
has_opened x i (Refused j f w k ∷ n) o = has_opened x i n o

pub held_at : (x : ℕ) (n : List Note) → is_held x n ≡ true → At x (channel_at x n) n
held_at x n e =
    let a = and_is (has_open x n) _ e in
    record { opened = opened_is x n a.0; live = not_is (over (said_at x n) (took_at x n)) a.1 }

-- a channel that is not over is held
pub at_held : (s : Side) (x : ℕ) (i : Channel) (n : List Note) → Local s n → At x i n → is_held x n ≡ true
at_held s x i n v a =
    let P : Channel → Type 0 = λ q. over (said q n) (took q n) ≡ false in
    and_true _ _ (has_opened x i n a.opened) (not_true _ (subst P (sym (v.current x i a)) a.live))

-- a number that is not held is free
pub free_number : (s : Side) (x : ℕ) (n : List Note) → Local s n → is_held x n ≡ false → Free x n
free_number s x n v e k o = go (over (said k n) (took k n)) refl
  where
    go : (b : Bool) → over (said k n) (took k n) ≡ b → b ≡ true
    go true q = refl
    go false q = let h = at_held s x k n v (record { opened = o; live = q }) in absurd (cc (h, e))

-- ---- the rows

pub confirmed_is : (x : ℕ) (n : List Note) → is_confirmed x n ≡ true → Confirmed n x
confirmed_is x n e =
    let a = and_is (is_held x n) _ e in
    let b = and_is (begun (said_at x n)) _ a.1 in
    let c = and_is (begun (took_at x n)) _ b.1 in
    record { at = held_at x n a.0; spoke = b.0; heard = c.0; lives = not_closed_is (stage (took_at x n)) (not_is _ c.1) }

pub waits_is : (s : Side) (x : ℕ) (n : List Note) → is_waiting s x n ≡ true → Waits s n x
waits_is s x n e =
    let a = and_is (is_held x n) _ e in
    let b = and_is (not (mine s (channel_at x n))) _ a.1 in
    let c = and_is (begun (took_at x n)) _ b.1 in
    record { at = held_at x n a.0; theirs = not_is _ b.0; heard = c.0; silent = empty_is (said_at x n) c.1 }

pub offered_is : (s : Side) (x : ℕ) (n : List Note) → is_offered s x n ≡ true → Offered s n x
offered_is s x n e =
    let a = and_is (is_held x n) _ e in
    let b = and_is (mine s (channel_at x n)) _ a.1 in
    let c = and_is (begun (said_at x n)) _ b.1 in
    record { at = held_at x n a.0; ours = other_side s (channel_at x n) b.0; spoke = c.0; unanswered = empty_is (took_at x n) c.1 }

pub speaks : (x : ℕ) (n : List Note) → Confirmed n x → has_ended x n ≡ false → stage (said_at x n) ≡ Speaking
speaks x n c e = speaking_is (stage (said_at x n)) c.spoke e

pub peer_speaks : (x : ℕ) (n : List Note) → Confirmed n x → peer_ended x n ≡ false → stage (took_at x n) ≡ Speaking
peer_speaks x n c e = speaking_is (stage (took_at x n)) c.heard e

pub not_closed_at : (x : ℕ) (n : List Note) → has_closed x n ≡ false → stage (said_at x n) ≡ Closed → ⊥
not_closed_at x n e = not_closed_is (stage (said_at x n)) e

-- the test of a confirmed channel holds
pub is_confirmed_at : (s : Side) (x : ℕ) (i : Channel) (n : List Note) → Local s n → At x i n → begun (said i n) ≡ true → begun (took i n) ≡ true
    → closed (stage (took i n)) ≡ false → is_confirmed x n ≡ true
is_confirmed_at s x i n v a spoke heard lives =
    let P : Channel → Type 0 = λ q. (begun (said q n) && (begun (took q n) && not (closed (stage (took q n))))) ≡ true in
    and_true _ _ (at_held s x i n v a) (subst P (sym (v.current x i a)) (and_true _ _ spoke (and_true _ _ heard (not_true _ lives))))
