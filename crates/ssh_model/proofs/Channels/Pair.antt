-- The claims of whole runs of two ends.
use Rattle.std.proofs.Common.{◌≡◌, ℕ, List, [], ◌∷◌, ◌++◌, reverse, inr, refl, ap, sym, ◌∙◌, subst, cond, Bool, true, false, Option, Some, None}
use Rattle.ssh_model.specs.declared.side.Side.{Side}
use Rattle.ssh_model.specs.declared.side.Side.TheVariants.{Client, Server}
use Rattle.ssh_model.specs.Protocol.Side.{peer, part, done_by}
use Rattle.ssh_model.specs.Protocol.Lists.{IsOlder}
use Rattle.ssh_model.specs.Protocol.Channels.Message.{Message, Message.Open, Message.OpenFailure, Message.Data, Message.Close, Channel, same}
use Rattle.ssh_model.specs.ChannelLayer.Claims.{data_of, WindowsKept, NotRefused, DataInOrder}
use Rattle.ssh_model.specs.Protocol.Channels.Notes.{Line, Line.On, Note, Note.Said, Note.Took, said_all, took_all, on, said, took, channel_at}
use Rattle.ssh_model.specs.Protocol.Channels.Numbers.{has_closed, peer_number}
use Rattle.ssh_model.specs.Protocol.Channels.Notes.{next_own, next_theirs}
use Rattle.ssh_model.specs.State.Channels.Rules.{Next, Run, Run.start, Run.swap, Run.opening, Run.saying, Run.take_open, Run.refuse_open, Run.take}
use Rattle.ssh_model.specs.Protocol.Channels.History.{Item, Item.Sent, Item.Received, Item.KexinitSent, Item.NewkeysSent, noted, owed}
use Rattle.ssh_model.specs.ChannelLayer.Rows.{sent, received, Turn, Done, PairRun, PairRun.begins, PairRun.then_turn, Ordered}
use Rattle.ssh_model.specs.Protocol.Channels.Claims.{data_sent, data_received}
use Rattle.ssh_model.proofs.Channels.Whole.{both, within_holds, data_begins, welcome}
use Rattle.ssh_model.proofs.Channels.End.{part_own, part_other}
use Rattle.ssh_model.proofs.Channels.Taken.{Can}
use Rattle.ssh_model.proofs.Channels.Turn.{End, end_nothing, turned}

older_before : {A : Type 0} (o a l : List A) → IsOlder o l → IsOlder o (a ++ l)
older_before o [] l r = r
older_before o (x ∷ a) l r = inr (older_before o a l r)

pub next_noted : (s t : Side) (h g : List Item) (m : Message) → End s h → End t g → IsOlder (m ∷ received h) (sent g) → Next m (noted s h) (noted t g)
next_noted s t h g m v w r = rw (v.taken, w.total) (older_before _ (sent (owed t g)) (sent g) r)

can_pair : (s : Side) (g : List Note) → Can s (λ n. Run s n g) (λ n m. Next m n g)
can_pair s g = record {
  stands = λ n r. (both s n g r).here;
  opening = λ n x w k r free small. opening x w k r free small;
  saying = λ n x i m r may. saying x i m r may;
  take_open = λ n x f w k r free c. take_open x f w k r free c;
  refuse_open = λ n f w k r c. refuse_open f w k r c;
  take = λ n x i m r may c. take x i m r may c;
}

pub record Ends (s : Side) (h g : List Item) : Type 0 where
  pub run : Run s (noted s h) (noted (peer s) g)
  pub here : End s h
  pub there : End (peer s) g

ends_turned : (s : Side) (h g : List Item) → Ends s h g → Ends (peer s) g h
ends_turned Client h g v = record { run = swap v.run; here = v.there; there = v.here }
ends_turned Server h g v = record { run = swap v.run; here = v.there; there = v.here }

-- a turn in order goes on with the run
goes_on : (s : Side) (h g items : List Item) → Ends s h g → Turn s h items → IsOlder (received (items ++ h)) (sent g) → Ends s (items ++ h) g
goes_on s h g items v turn o =
    let P : List Message → Type 0 = λ w. IsOlder w (sent g) in
    let t = turned s (λ n. Run s n (noted (peer s) g)) (λ n m. Next m n (noted (peer s) g)) (can_pair s (noted (peer s) g)) h (record { run = v.run; end = v.here }) items turn
    (λ m e. next_noted s (peer s) h g m v.here v.there (subst P e o)) in
    record { run = t.run; here = t.end; there = v.there }

ordered_tail : (l run : List Done) → Ordered (l ++ run) → Ordered run
ordered_tail [] run o = o
ordered_tail (d ∷ l) run o = ordered_tail l run o.1

ordered_now : (run : List Done) → Ordered run → (s : Side) → IsOlder (received (part s run)) (sent (part (peer s) run))
ordered_now [] o Client = refl
ordered_now [] o Server = refl
ordered_now (d ∷ run) o s = o.0 s

pub played : (run : List Done) → PairRun run → Ordered run → (s : Side) → Ends s (part s run) (part (peer s) run)
played run begins o Client = record { run = start; here = end_nothing Client; there = end_nothing Server }
played run begins o Server = record { run = start; here = end_nothing Server; there = end_nothing Client }
played run (then_turn {run = r} {items = items} side before turn) o s = go side s turn o (played r before (ordered_tail (done_by side items) r o))
  where
    own : (t : Side) → Turn t (part t r) items → Ordered (done_by t items ++ r) → Ends t (part t r) (part (peer t) r) → Ends t (part t (done_by t items ++ r)) (part (peer t) (done_by t items ++ r))
    own t u o p =
        let n = ordered_now (done_by t items ++ r) o t in
        let x : IsOlder (received (items ++ part t r)) (sent (part (peer t) r)) = rw (part_own t items r, part_other t items r) at n in
        rw (part_own t items r, part_other t items r) (goes_on t (part t r) (part (peer t) r) items p u x)

    go : (t s : Side) → Turn t (part t r) items → Ordered (done_by t items ++ r) → ((s : Side) → Ends s (part s r) (part (peer s) r)) → Ends s (part s (done_by t items ++ r)) (part (peer s) (done_by t items ++ r))
    go Client Client u o p = own Client u o (p Client)
    go Server Server u o p = own Server u o (p Server)
    go Client Server u o p = ends_turned Client _ _ (own Client u o (p Client))
    go Server Client u o p = ends_turned Server _ _ (own Server u o (p Server))

-- ---- the claims

pub not_refused : (run : List Done) → PairRun run → Ordered run → (s : Side) → NotRefused s run
not_refused run r o s m n =
    let v = played run r o s in
    welcome s _ _ m v.run (next_noted s (peer s) (part s run) (part (peer s) run) m v.here v.there n)

pub windows_kept : (run : List Done) → PairRun run → Ordered run → (s : Side) → WindowsKept s run
windows_kept run r o s = within_holds s _ _ (played run r o s).run

-- what is no data adds none
not_data : (i j : Channel) (m : Message) (l : List Line) → ((r : List Message) → data_of (m ∷ r) ≡ data_of r) → data_of (on i (On j m ∷ l)) ≡ data_of (on i l)
not_data i j m l f = go (same i j)
  where
    go : (b : Bool) → data_of (cond b (m ∷ on i l) (on i l)) ≡ data_of (on i l)
    go true = f (on i l)
    go false = refl

is_data : (i j : Channel) (t : ℕ) (k : Option ℕ) (c : List ℕ) (l : List Line) → data_of (on i (On j (Data t k c) ∷ l)) ≡ cond (same i j) ((k, c) ∷ data_of (on i l)) (data_of (on i l))
is_data i j t k c l = go (same i j)
  where
    go : (b : Bool) → data_of (cond b (Data t k c ∷ on i l) (on i l)) ≡ cond b ((k, c) ∷ data_of (on i l)) (data_of (on i l))
    go true = refl
    go false = refl

sent_is : (s : Side) (i : Channel) (h : List Item) → data_of (said i (noted s h)) ≡ data_sent s i h
sent_is s i [] = refl
sent_is s i (Sent None m ∷ h) = sent_is s i h
sent_is s i (Sent (Some x) (Data t k c) ∷ h) =
    is_data i (channel_at x (noted s h)) t k c (said_all (noted s h)) ∙ ap (λ r. cond (same i (channel_at x (noted s h))) ((k, c) ∷ r) r) (sent_is s i h)
sent_is s i (Sent (Some x) (Close t) ∷ h) = go (has_closed x (noted s h)) ∙ sent_is s i h
  where
    go : (b : Bool) → data_of (said i (cond b (noted s h) (Said x (channel_at x (noted s h)) (Close t) ∷ noted s h))) ≡ data_of (said i (noted s h))
    go true = refl
    go false = not_data i (channel_at x (noted s h)) (Close t) (said_all (noted s h)) (λ r. refl)
sent_is s i (Sent (Some x) (Open f w k) ∷ h) = not_data i (next_own s (noted s h)) (Open f w k) (said_all (noted s h)) (λ r. refl) ∙ sent_is s i h
sent_is s i (Sent (Some x) m ∷ h) = not_data i (channel_at x (noted s h)) m (said_all (noted s h)) (λ r. refl) ∙ sent_is s i h
sent_is s i (Received None (Open f w k) ∷ h) = not_data i (next_theirs s (noted s h)) (OpenFailure f) (said_all (noted s h)) (λ r. refl) ∙ sent_is s i h
sent_is s i (Received None m ∷ h) = sent_is s i h
sent_is s i (Received (Some x) (Close t) ∷ h) = go (has_closed x (noted s h)) ∙ sent_is s i h
  where
    go : (b : Bool) → data_of (said i (cond b (Took x (channel_at x (noted s h)) (Close t) ∷ noted s h) (Said x (channel_at x (noted s h)) (Close (peer_number x (noted s h))) ∷ Took x (channel_at x (noted s h)) (Close t) ∷ noted s h))) ≡ data_of (said i (noted s h))
    go true = refl
    go false = not_data i (channel_at x (noted s h)) (Close (peer_number x (noted s h))) (said_all (noted s h)) (λ r. refl)
sent_is s i (Received (Some x) m ∷ h) = sent_is s i h
sent_is s i (KexinitSent ∷ h) = sent_is s i h
sent_is s i (NewkeysSent ∷ h) = sent_is s i h

pub received_is : (s : Side) (i : Channel) (h : List Item) → data_of (took i (noted s h)) ≡ data_received s i h
received_is s i [] = refl
received_is s i (Received None (Open f w k) ∷ h) = not_data i (next_theirs s (noted s h)) (Open f w k) (took_all (noted s h)) (λ r. refl) ∙ received_is s i h
received_is s i (Received None m ∷ h) = received_is s i h
received_is s i (Received (Some x) (Data t k c) ∷ h) =
    is_data i (channel_at x (noted s h)) t k c (took_all (noted s h)) ∙ ap (λ r. cond (same i (channel_at x (noted s h))) ((k, c) ∷ r) r) (received_is s i h)
received_is s i (Received (Some x) (Open f w k) ∷ h) = not_data i (next_theirs s (noted s h)) (Open f w k) (took_all (noted s h)) (λ r. refl) ∙ received_is s i h
received_is s i (Received (Some x) (Close t) ∷ h) = go (has_closed x (noted s h)) ∙ received_is s i h
  where
    go : (b : Bool) → data_of (took i (cond b (Took x (channel_at x (noted s h)) (Close t) ∷ noted s h) (Said x (channel_at x (noted s h)) (Close (peer_number x (noted s h))) ∷ Took x (channel_at x (noted s h)) (Close t) ∷ noted s h))) ≡ data_of (took i (noted s h))
    go true = not_data i (channel_at x (noted s h)) (Close t) (took_all (noted s h)) (λ r. refl)
    go false = not_data i (channel_at x (noted s h)) (Close t) (took_all (noted s h)) (λ r. refl)
received_is s i (Received (Some x) m ∷ h) = not_data i (channel_at x (noted s h)) m (took_all (noted s h)) (λ r. refl) ∙ received_is s i h
received_is s i (Sent None m ∷ h) = received_is s i h
received_is s i (Sent (Some x) (Close t) ∷ h) = go (has_closed x (noted s h)) ∙ received_is s i h
  where
    go : (b : Bool) → data_of (took i (cond b (noted s h) (Said x (channel_at x (noted s h)) (Close t) ∷ noted s h))) ≡ data_of (took i (noted s h))
    go true = refl
    go false = refl
received_is s i (Sent (Some x) m ∷ h) = received_is s i h
received_is s i (KexinitSent ∷ h) = received_is s i h
received_is s i (NewkeysSent ∷ h) = received_is s i h

pub data_in_order : (run : List Done) → PairRun run → Ordered run → (s : Side) → DataInOrder s run
data_in_order run r o s i =
    let d = data_begins s _ _ (played run r o s).run i in
    (d.0, ap (λ w. reverse w ++ d.0) (sym (received_is s i (part s run))) ∙ (d.1 ∙ ap reverse (sent_is (peer s) i (part (peer s) run))))
