-- What a received message does to the notes, with the replies that it makes due.
use Rattle.std.proofs.Common.{◌≡◌, ℕ, ◌≤◌, List, [], ◌∷◌, ◌++◌, map, refl, ap, sym, arith, subst, cond, Bool, true, false, Some, None}
use Rattle.ssh_model.specs.Protocol.Bounds.{largest_window}
use Rattle.ssh_model.specs.declared.side.Side.{Side}
use Rattle.ssh_model.specs.Protocol.Channels.Message.{Message, Message.Open, Message.OpenFailure, Message.Close, Channel, same, mine, sender, Stage, Stage.Quiet, Stage.Speaking, Stage.Ended, Stage.Closed, Stage.Failed, stage, talked, closed, over_at}
use Rattle.ssh_model.specs.State.Channels.Rules.{MayFollow, payload, Free, Says, Takes}
use Rattle.ssh_model.specs.Protocol.Channels.Notes.{Note, Note.Said, Note.Took, Note.Refused, said_all, took_all, said, took, opens, channel_at}
use Rattle.ssh_model.specs.Protocol.Channels.Numbers.{has_closed}
use Rattle.ssh_model.specs.Protocol.Channels.Notes.{next_own, next_theirs}
use Rattle.ssh_model.specs.Protocol.Channels.History.{Item, Item.Sent, due, note_received, is_owed}
use Rattle.ssh_model.specs.ChannelLayer.Rows.{sent}
use Rattle.ssh_model.proofs.Channels.Lines.{same_true, same_self, on_hit, Unused, unused_said}
use Rattle.ssh_model.proofs.Channels.Local.{Local, channel_took, local_takes}
use Rattle.ssh_model.proofs.Channels.Replies.{AllDue, due_kept, due_kept_but}

-- the steps of the end of this side: R holds of its notes, and N n m where m may come to it
pub record Can (s : Side) (R : List Note → Type 0) (N : List Note → Message → Type 0) : Type 0 where
  pub stands : (n : List Note) → R n → Local s n
  pub opening : (n : List Note) (x w k : ℕ) → R n → Free x n → w ≤ largest_window → R (Said x (next_own s n) (Open x w k) ∷ n)
  pub saying : (n : List Note) (x : ℕ) (i : Channel) (m : Message) → R n → Says s n x i m → R (Said x i m ∷ n)
  pub take_open : (n : List Note) (x f w k : ℕ) → R n → Free x n → N n (Open f w k) → R (Took x (next_theirs s n) (Open f w k) ∷ n)
  pub refuse_open : (n : List Note) (f w k : ℕ) → R n → N n (Open f w k) → R (Refused (next_theirs s n) f w k ∷ n)
  pub take : (n : List Note) (x : ℕ) (i : Channel) (m : Message) → R n → Takes s n x i m → N n m → R (Took x i m ∷ n)

-- from notes n to r by m, with replies d; o are those owed before
pub record StepOf (n r : List Note) (d o : List Item) (m : Message) : Type 0 where
  pub said_now : map payload (said_all r) ≡ sent d ++ map payload (said_all n)
  pub took_now : map payload (took_all r) ≡ m ∷ map payload (took_all n)
  pub due_now : AllDue d r
  pub settled : AllDue o r

pub record Got (R : List Note → Type 0) (n r : List Note) (d o : List Item) (m : Message) : Type 0 where
  pub step : StepOf n r d o m
  pub run : R r

still_open : (q : Stage) (r : ℕ) (o : Bool) → talked q ≡ true → closed q ≡ false → (over_at q Closed ≡ false) × MayFollow (Close r) q o
still_open Speaking r o t c = (refl, tt)
still_open Ended r o t c = (refl, tt)
still_open Quiet r o t c = absurd (cc t)
still_open Failed r o t c = absurd (cc t)
still_open Closed r o t c = absurd (cc c)

module _ (s : Side) (R : List Note → Type 0) (N : List Note → Message → Type 0) (can : Can s R N) (n : List Note) (o : List Item) (run : R n) (settled : AllDue o n) where
  -- no reply
  plain : (x : ℕ) (i : Channel) (m : Message) → Takes s n x i m → N n m → Got R n (Took x i m ∷ n) [] o m
  plain x i m may next = record {
    step = record {
      said_now = refl;
      took_now = refl;
      due_now = tt;
      settled = due_kept o n (Took x i m ∷ n) (λ y e. let P : Channel → Type 0 = λ w. closed (stage (said w n)) ≡ true in subst P (sym (channel_took y x i m n may.other)) e) settled;
    };
    run = can.take n x i m run may next;
  }

  -- a CLOSE is answered
  pub answer : (x : ℕ) (i : Channel) (t : ℕ) → Takes s n x i (Close t) → closed (stage (said i n)) ≡ false → Says s (Took x i (Close t) ∷ n) x i (Close (sender (took i n)))
  answer x i t may c =
      let y = still_open (stage (said i n)) (sender (took i n)) (mine s i) may.spoke c in
      let v = (local_takes s n x i (Close t) (can.stands n run) may).good i in
      record {
        other = refl;
        at = record { opened = may.at.opened; live = rw (on_hit i i (Close t) (took_all n) (same_self i)) y.0 };
        may_follow = y.1;
        heard = rw (on_hit i i (Close t) (took_all n) (same_self i)) refl;
        to = rw (on_hit i i (Close t) (took_all n) (same_self i)) refl;
        from = tt;
        fits = omega (arith, v.said_fits);
        small = omega arith;
        bounded = omega (arith, v.bounded);
      }

  reply : (x : ℕ) (i : Channel) (t : ℕ) → i ≡ channel_at x n → Takes s n x i (Close t) → N n (Close t) → closed (stage (said i n)) ≡ false
      → Got R n (Said x i (Close (sender (took i n))) ∷ Took x i (Close t) ∷ n) (Sent (Some x) (Close (sender (took i n))) ∷ []) o (Close t)
  reply x i t e may next c = record {
    step = record {
      said_now = refl;
      took_now = refl;
      due_now = (here (channel_at x n) (sym e), tt);
      settled = due_kept o n _ (λ y c. stays (channel_at y n) c) settled;
    };
    run = can.saying (Took x i (Close t) ∷ n) x i (Close (sender (took i n))) (can.take n x i (Close t) run may next) (answer x i t may c);
  }
    where
      here : (j : Channel) → j ≡ i → closed (stage (cond (same j i) (Close (sender (took i n)) ∷ said j n) (said j n))) ≡ true
      here j e = rw (e, same_self i) refl

      stays : (j : Channel) → closed (stage (said j n)) ≡ true → closed (stage (cond (same j i) (Close (sender (took i n)) ∷ said j n) (said j n))) ≡ true
      stays j c = go (same j i)
        where
          go : (b : Bool) → closed (stage (cond b (Close (sender (took i n)) ∷ said j n) (said j n))) ≡ true
          go true = refl
          go false = c

  pub got : (x : ℕ) (m : Message) → Takes s n x (channel_at x n) m → N n m → Got R n (note_received s (Some x) m n) (due (Some x) m n) o m
  got x (Open f w k) may next = let z = may.other in absurd (cc z)
  got x (Close t) may next = go (has_closed x n) refl
    where
      go : (b : Bool) → has_closed x n ≡ b
          → Got R n (cond b (Took x (channel_at x n) (Close t) ∷ n) (Said x (channel_at x n) (Close (sender (took (channel_at x n) n))) ∷ Took x (channel_at x n) (Close t) ∷ n))
          (cond b [] (Sent (Some x) (Close (sender (took (channel_at x n) n))) ∷ [])) o (Close t)
      go true e = plain x (channel_at x n) (Close t) may next
      go false e = reply x (channel_at x n) t refl may next e
  got x m may next = plain x (channel_at x n) m may next

  pub got_open : (x f w k : ℕ) → Free x n → is_owed x o ≡ false → N n (Open f w k) → Got R n (Took x (next_theirs s n) (Open f w k) ∷ n) [] o (Open f w k)
  got_open x f w k free not_owed next = record {
    step = record {
      said_now = refl;
      took_now = refl;
      due_now = tt;
      settled = due_kept_but x o n _ not_owed
          (λ y e c. let P : Channel → Type 0 = λ j. closed (stage (said j n)) ≡ true in subst P (sym (ap (λ b. cond b (next_theirs s n) (channel_at y n)) e)) c) settled;
    };
    run = can.take_open n x f w k run free next;
  }

  -- the OPEN is refused for want of a place
  pub got_refused : (f w k : ℕ) → N n (Open f w k) → Got R n (Refused (next_theirs s n) f w k ∷ n) (Sent None (OpenFailure f) ∷ []) o (Open f w k)
  got_refused f w k next = record {
    step = record { said_now = refl; took_now = refl; due_now = (tt, tt); settled = due_kept o n _ (λ y c. stays (channel_at y n) c) settled };
    run = can.refuse_open n f w k run next;
  }
    where
      none : Unused (next_theirs s n) n
      none = (can.stands n run).fresh_peer (opens (took_all n)) (omega arith)

      stays : (j : Channel) → closed (stage (said j n)) ≡ true → closed (stage (cond (same j (next_theirs s n)) (OpenFailure f ∷ said j n) (said j n))) ≡ true
      stays j c = go (same j (next_theirs s n)) refl
        where
          go : (b : Bool) → same j (next_theirs s n) ≡ b → closed (stage (cond b (OpenFailure f ∷ said j n) (said j n))) ≡ true
          go false q = c
          go true q =
              let P : Channel → Type 0 = λ j. closed (stage (said j n)) ≡ true in
              let z = subst P (same_true j (next_theirs s n) q) c in
              let u : false ≡ true = rw (unused_said (next_theirs s n) n none) at z in
              absurd (cc u)
