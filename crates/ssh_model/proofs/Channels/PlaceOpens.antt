-- Opening a channel: what each message of it changes of what an end keeps.
use Rattle.std.proofs.Common.{◌≡◌, ℕ, ◌+◌, ◌-◌, ◌≤◌, List, [], ◌∷◌, ◌⊎◌, inl, inr, refl, ap, sym, ◌∙◌, arith, subst, cond, not, ◌&&◌, Bool, true, false, ◌==◌, eq-eqb}
use Rattle.ssh_model.specs.Protocol.Bounds.{largest_window}
use Rattle.ssh_model.specs.declared.side.Side.{Side}
use Rattle.ssh_model.specs.Protocol.Side.{peer}
use Rattle.ssh_model.specs.Protocol.Channels.Message.{window, spent, Message, Message.Open, Message.OpenConfirmation, Message.OpenFailure, Message.WindowAdjust, Message.Data, Message.Eof, Message.Close, Message.Request, Message.Reply, Channel, same, mine, Stage, Stage.Quiet, Stage.Speaking, Stage.Ended, Stage.Closed, Stage.Failed, stage, talked, begun, over_at}
use Rattle.ssh_model.specs.State.Channels.Rules.{MayFollow, OpenedAt}
use Rattle.ssh_model.specs.Protocol.Channels.Notes.{Note, Note.Said, Note.Took, said_all, took_all, said, took, opens, channel_at}
use Rattle.ssh_model.specs.Protocol.Channels.Numbers.{said_at, took_at, is_empty, has_open, is_held, is_offered, is_waiting, peer_number}
use Rattle.ssh_model.specs.State.Channels.Rules.{EndRun, EndRun.start, EndRun.opening, EndRun.saying, EndRun.take_open, EndRun.refuse_open, EndRun.take}
use Rattle.ssh_model.specs.Protocol.Channels.Notes.{next_own, next_theirs}
use Rattle.ssh_model.specs.ChannelLayer.Rows as row
use Rattle.ssh_model.specs.State.Channels.Places.{Place, place_of, place_at, is_opening, is_waiting_place}
use Rattle.ssh_model.specs.State.Channels.Kept.{waiting_place, opening_place}
use Rattle.ssh_model.proofs.Channels.Lines.{same_true, same_self, on_hit, mine_own, mine_peer, opened_said, opened_took, Unused, unused_said, unused_took}
use Rattle.ssh_model.proofs.Channels.Lists.{Kept, grown_once}
use Rattle.ssh_model.proofs.Channels.State.{held_at, not_true, offered_is, waits_is}
use Rattle.ssh_model.proofs.Channels.Rows.{ask_says, take_takes}
use Rattle.ssh_model.proofs.Channels.Laws.{free_is}
use Rattle.ssh_model.proofs.Channels.End.{local}
use Rattle.ssh_model.proofs.Channels.Steps.{Steps, none_here, none_there, open_taken_moves, open_said_moves, said_close_is, place_here, held_here, took_steps, said_steps}

-- a list that is kept has begun, or failed, or is empty
started : (o : Bool) (l : List Message) → Kept o l → (stage l ≡ Failed → ⊥) → is_empty l ≡ not (begun l)
started o [] k f = refl
started o (Open a w b ∷ l) k f = refl
started o (OpenConfirmation t a w b ∷ l) k f = refl
started o (OpenFailure t ∷ l) k f = absurd (f refl)
started o (WindowAdjust t c ∷ l) k f = go (stage l) k.0
  where
    go : (q : Stage) → MayFollow (WindowAdjust t c) q o → false ≡ not (talked q)
    go Speaking u = refl
    go Ended u = refl
    go Quiet u = elim u [ ]
    go Closed u = elim u [ ]
    go Failed u = elim u [ ]
started o (Data t c b ∷ l) k f = go (stage l) k.0
  where
    go : (q : Stage) → MayFollow (Data t c b) q o → false ≡ not (talked q)
    go Speaking u = refl
    go Ended u = elim u [ ]
    go Quiet u = elim u [ ]
    go Closed u = elim u [ ]
    go Failed u = elim u [ ]
started o (Eof t ∷ l) k f = refl
started o (Close t ∷ l) k f = refl
started o (Request t b ∷ l) k f = go (stage l) k.0
  where
    go : (q : Stage) → MayFollow (Request t b) q o → false ≡ not (talked q)
    go Speaking u = refl
    go Ended u = refl
    go Quiet u = elim u [ ]
    go Closed u = elim u [ ]
    go Failed u = elim u [ ]
started o (Reply t b ∷ l) k f = go (stage l) k.0
  where
    go : (q : Stage) → MayFollow (Reply t b) q o → false ≡ not (talked q)
    go Speaking u = refl
    go Ended u = refl
    go Quiet u = elim u [ ]
    go Closed u = elim u [ ]
    go Failed u = elim u [ ]

-- what the opener of a channel that is there says has begun
pub record Begins (s : Side) (n : List Note) : Type 0 where
  pub own : (x : ℕ) (i : Channel) → OpenedAt x i n → mine s i ≡ true → begun (said i n) ≡ true
  pub theirs : (x : ℕ) (i : Channel) → OpenedAt x i n → mine s i ≡ false → begun (took i n) ≡ true

on_more : (b o : Bool) (m : Message) (l : List Message) → (b ≡ true → MayFollow m (stage l) o) → begun l ≡ true → begun (cond b (m ∷ l) l) ≡ true
on_more true o m l u e = (grown_once m l o (u refl) e).still
on_more false o m l u e = e

pub begins : (s : Side) (n : List Note) → EndRun s n → Begins s n
begins s n start = record { own = λ x i o e. elim o [ ]; theirs = λ x i o e. elim o [ ] }
begins s n (saying {notes = b} x i m r may) =
    let v = begins s b r in
    record {
      own = λ y j o e.
          on_more (same j i) (mine s i) m (said j b) (λ z. subst (λ w. MayFollow m (stage (said w b)) (mine s i)) (sym (same_true j i z)) may.may_follow) (v.own y j (opened_said y j x i m b may.other o) e);
      theirs = λ y j o e. v.theirs y j (opened_said y j x i m b may.other o) e;
    }
begins s n (take {notes = b} x i m r may) =
    let v = begins s b r in
    record {
      own = λ y j o e. v.own y j (opened_took y j x i m b may.other o) e;
      theirs = λ y j o e.
          on_more (same j i) (mine (peer s) i) m (took j b) (λ z. subst (λ w. MayFollow m (stage (took w b)) (mine (peer s) i)) (sym (same_true j i z)) may.may_follow) (v.theirs y j (opened_took y j x i m b may.other o) e);
    }
begins s n (opening {notes = b} x w k r free small) =
    let v = begins s b r in
    record { own = λ y j o e. own v y j o e; theirs = λ y j o e. theirs v y j o e }
  where
    own : Begins s b → (y : ℕ) (j : Channel) → ((y ≡ x) × (j ≡ next_own s b)) ⊎ OpenedAt y j b → mine s j ≡ true → begun (said j (Said x (next_own s b) (Open x w k) ∷ b)) ≡ true
    own v y j (inl o) e = rw (o.1, same_self (next_own s b)) refl
    own v y j (inr o) e = more (same j (next_own s b)) (v.own y j o e)
      where
        more : (c : Bool) → begun (said j b) ≡ true → begun (cond c (Open x w k ∷ said j b) (said j b)) ≡ true
        more true z = refl
        more false z = z

    theirs : Begins s b → (y : ℕ) (j : Channel) → ((y ≡ x) × (j ≡ next_own s b)) ⊎ OpenedAt y j b → mine s j ≡ false → begun (took j b) ≡ true
    theirs v y j (inl o) e = let z : true ≡ false = sym (mine_own s (opens (said_all b))) ∙ (ap (mine s) (sym o.1) ∙ e) in absurd (cc z)
    theirs v y j (inr o) e = v.theirs y j o e
begins s n (take_open {notes = b} x f w k r free) =
    let v = begins s b r in
    record { own = λ y j o e. own v y j o e; theirs = λ y j o e. theirs v y j o e }
  where
    theirs : Begins s b → (y : ℕ) (j : Channel) → ((y ≡ x) × (j ≡ next_theirs s b)) ⊎ OpenedAt y j b → mine s j ≡ false → begun (took j (Took x (next_theirs s b) (Open f w k) ∷ b)) ≡ true
    theirs v y j (inl o) e = rw (o.1, same_self (next_theirs s b)) refl
    theirs v y j (inr o) e = more (same j (next_theirs s b)) (v.theirs y j o e)
      where
        more : (c : Bool) → begun (took j b) ≡ true → begun (cond c (Open f w k ∷ took j b) (took j b)) ≡ true
        more true z = refl
        more false z = z

    own : Begins s b → (y : ℕ) (j : Channel) → ((y ≡ x) × (j ≡ next_theirs s b)) ⊎ OpenedAt y j b → mine s j ≡ true → begun (said j b) ≡ true
    own v y j (inl o) e = let z : true ≡ false = sym e ∙ (ap (mine s) o.1 ∙ mine_peer s (opens (took_all b))) in absurd (cc z)
    own v y j (inr o) e = v.own y j o e
begins s n (refuse_open {notes = b} f w k r) =
    let v = begins s b r in
    record { own = λ y j o e. said_more (same j (next_theirs s b)) j refl e (v.own y j o e); theirs = λ y j o e. took_more (same j (next_theirs s b)) j (v.theirs y j o e) }
  where
    took_more : (c : Bool) (j : Channel) → begun (took j b) ≡ true → begun (cond c (Open f w k ∷ took j b) (took j b)) ≡ true
    took_more true j z = refl
    took_more false j z = z

    said_more : (c : Bool) (j : Channel) → same j (next_theirs s b) ≡ c → mine s j ≡ true → begun (said j b) ≡ true → begun (cond c (OpenFailure f ∷ said j b) (said j b)) ≡ true
    said_more true j q e z = let y : true ≡ false = sym e ∙ (ap (mine s) (same_true j (next_theirs s b) q) ∙ mine_peer s (opens (took_all b))) in absurd (cc y)
    said_more false j q e z = z

failed_left : (p q : Stage) → over_at p q ≡ false → p ≡ Failed → ⊥
failed_left Failed q e z = cc e
failed_left p q e z = let y : over_at Failed q ≡ false = rw z at e in cc y

failed_right : (p q : Stage) → over_at p q ≡ false → q ≡ Failed → ⊥
failed_right Quiet Failed e z = cc e
failed_right Speaking Failed e z = cc e
failed_right Ended Failed e z = cc e
failed_right Closed Failed e z = cc e
failed_right Failed q e z = cc e
failed_right p q e z = cc z

plain_offered : (h m a b e : Bool) → h ≡ true → (m ≡ true → a ≡ true) → e ≡ not b → (h && (m && (a && e))) ≡ (m && not (a && b))
plain_offered h true a b e p f q = rw (p, f refl, q) refl
plain_offered h false a b e p f q = rw p refl

plain_waiting : (h m a b e : Bool) → h ≡ true → (m ≡ false → b ≡ true) → e ≡ not a → (h && (not m && (b && e))) ≡ (not m && not (a && b))
plain_waiting h true a b e p f q = rw p refl
plain_waiting h false true b e p f q = rw (p, f refl, q) refl
plain_waiting h false false b e p f q = rw (p, f refl, q) refl

module _ (s : Side) (n : List Note) (run : EndRun s n) (x : ℕ) (held : is_held x n ≡ true) where
  pub offered_place : is_offered s x n ≡ is_opening (place_at s x n)
  unfolding place_at place_of
  offered_place =
      let a = held_at x n held in
      let i = channel_at x n in
      plain_offered (is_held x n) (mine s i) (begun (said_at x n)) (begun (took_at x n)) (is_empty (took_at x n)) held ((begins s n run).own x i a.opened)
      (started (mine (peer s) i) (took_at x n) ((local s n run).good i).took_kept (failed_right (stage (said_at x n)) (stage (took_at x n)) a.live))

  pub waits_place : is_waiting s x n ≡ is_waiting_place (place_at s x n)
  unfolding place_at place_of
  waits_place =
      let a = held_at x n held in
      let i = channel_at x n in
      plain_waiting (is_held x n) (mine s i) (begun (said_at x n)) (begun (took_at x n)) (is_empty (said_at x n)) held ((begins s n run).theirs x i a.opened)
      (started (mine s i) (said_at x n) ((local s n run).good i).said_kept (failed_left (stage (said_at x n)) (stage (took_at x n)) a.live))

-- ---- the answers to an OPEN

confirm_taken_place : (o : Bool) (a l : List Message) (h r t f w k : ℕ) → l ≡ [] → begun a ≡ true → spent a ≤ window l
    → place_of o a (OpenConfirmation t f w k ∷ l) h r ≡ record (place_of o a l h r) { is_answered = true; peer_number = f; send_window = w; max_packet_there = k }
unfolding place_of
confirm_taken_place o a [] h r t f w k e b fits =
    let y : w + 0 - spent a ≡ w = omega arith in
    rw (y, b) refl
confirm_taken_place o a (m ∷ l) h r t f w k e b fits = absurd (cc e)

confirm_said_place : (o : Bool) (a l : List Message) (h r t f w k : ℕ) → a ≡ [] → begun l ≡ true → spent l ≤ window a
    → place_of o (OpenConfirmation t f w k ∷ a) l h r ≡ record (place_of o a l h r) { is_answered = true; receive_window = w; max_packet_here = k }
unfolding place_of
confirm_said_place o [] l h r t f w k e b fits =
    let y : w + 0 - spent l ≡ w = omega arith in
    rw (y, b) refl
confirm_said_place o (m ∷ a) l h r t f w k e b fits = absurd (cc e)

speaks_right : (q : Stage) → talked q ≡ true → over_at q Speaking ≡ false
speaks_right Speaking e = refl
speaks_right Ended e = refl
speaks_right Closed e = refl
speaks_right Quiet e = absurd (cc e)
speaks_right Failed e = absurd (cc e)

speaks_left : (q : Stage) → talked q ≡ true → over_at Speaking q ≡ false
speaks_left Speaking e = refl
speaks_left Ended e = refl
speaks_left Closed e = refl
speaks_left Quiet e = absurd (cc e)
speaks_left Failed e = absurd (cc e)

ends_right : (q : Stage) → over_at q Failed ≡ true
ends_right Quiet = refl
ends_right Speaking = refl
ends_right Ended = refl
ends_right Closed = refl
ends_right Failed = refl

module _ (s : Side) (n : List Note) (run : EndRun s n) (x : ℕ) where
  pub confirm_taken : (f w k : ℕ) → is_offered s x n ≡ true
      → Steps s x n (Took x (channel_at x n) (OpenConfirmation x f w k) ∷ n) true
      (record (place_at s x n) { is_answered = true; peer_number = f; send_window = w; max_packet_there = k })
  unfolding place_at
  confirm_taken f w k e =
      let v = local s n run in
      let may = take_takes s n x (OpenConfirmation x f w k) v (row.Take.confirmed f w k e) in
      let t = offered_is s x n e in
      took_steps s n run x (OpenConfirmation x f w k) may _ _ refl refl true
      (record (place_at s x n) { is_answered = true; peer_number = f; send_window = w; max_packet_there = k })
      (not_true _ (speaks_right (stage (said_at x n)) t.spoke))
      (confirm_taken_place _ (said_at x n) (took_at x n) _ _ x f w k t.unanswered t.spoke (v.good (channel_at x n)).said_fits)

  pub failure_taken : is_offered s x n ≡ true → Steps s x n (Took x (channel_at x n) (OpenFailure x) ∷ n) false (place_at s x (Took x (channel_at x n) (OpenFailure x) ∷ n))
  unfolding place_at
  failure_taken e =
      let i = channel_at x n in
      let may = take_takes s n x (OpenFailure x) (local s n run) (row.Take.refused e) in
      took_steps s n run x (OpenFailure x) may _ _ refl refl false (place_at s x (Took x i (OpenFailure x) ∷ n)) (rw (ends_right (stage (said_at x n))) refl)
      (sym (place_here s x i (Took x i (OpenFailure x) ∷ n) (said_at x n) (OpenFailure x ∷ took_at x n) _ _ refl refl (on_hit i i (OpenFailure x) (took_all n) (same_self i)) refl refl))

  pub confirm_said : (w k : ℕ) → is_waiting s x n ≡ true → w ≤ largest_window
      → Steps s x n (Said x (channel_at x n) (OpenConfirmation (peer_number x n) x w k) ∷ n) true
      (record (place_at s x n) { is_answered = true; receive_window = w; max_packet_here = k })
  unfolding place_at
  confirm_said w k e small =
      let v = local s n run in
      let may = ask_says s n x (OpenConfirmation (peer_number x n) x w k) v (row.Ask.confirm w k e small) in
      let t = waits_is s x n e in
      said_steps s n run x (OpenConfirmation (peer_number x n) x w k) may _ _ refl refl true
      (record (place_at s x n) { is_answered = true; receive_window = w; max_packet_here = k })
      (not_true _ (speaks_left (stage (took_at x n)) t.heard))
      (confirm_said_place _ (said_at x n) (took_at x n) _ _ (peer_number x n) x w k t.silent t.heard (v.good (channel_at x n)).took_fits)

  pub failure_said : is_waiting s x n ≡ true
      → Steps s x n (Said x (channel_at x n) (OpenFailure (peer_number x n)) ∷ n) false (place_at s x (Said x (channel_at x n) (OpenFailure (peer_number x n)) ∷ n))
  unfolding place_at
  failure_said e =
      let i = channel_at x n in
      let t = peer_number x n in
      let may = ask_says s n x (OpenFailure t) (local s n run) (row.Ask.refuse e) in
      said_steps s n run x (OpenFailure t) may _ _ refl refl false (place_at s x (Said x i (OpenFailure t) ∷ n)) refl
      (sym (place_here s x i (Said x i (OpenFailure t) ∷ n) (OpenFailure t ∷ said_at x n) (took_at x n) _ _ refl (on_hit i i (OpenFailure t) (said_all n) (same_self i)) refl refl refl))

-- ---- an OPEN at a number that is not held

opening_is : (f w k : ℕ) → place_of true (Open f w k ∷ []) [] 0 0 ≡ opening_place w k
unfolding place_of
opening_is f w k = let z : w + 0 - 0 ≡ w = omega arith in rw z refl

waiting_is : (f w k : ℕ) → place_of false [] (Open f w k ∷ []) 0 0 ≡ waiting_place f w k
unfolding place_of
waiting_is f w k = let z : w + 0 - 0 ≡ w = omega arith in rw z refl

module _ (s : Side) (n : List Note) (run : EndRun s n) (x : ℕ) (free : is_held x n ≡ false) where
  pub theirs_opened : (f w k : ℕ) → Steps s x n (Took x (next_theirs s n) (Open f w k) ∷ n) true (waiting_place f w k)
  theirs_opened f w k =
      let i = next_theirs s n in
      let r = Took x i (Open f w k) ∷ n in
      let none : Unused i n = (local s n run).fresh_peer (opens (took_all n)) (omega arith) in
      let self : (x == x) ≡ true = grind (arith, eq-eqb) in
      let c : channel_at x r ≡ i = ap (λ b. cond b i (channel_at x n)) self in
      let o : has_open x r ≡ true = ap (λ b. cond b true (has_open x n)) self in
      let a : said i r ≡ [] = unused_said i n none in
      let b : took i r ≡ Open f w k ∷ [] = on_hit i i (Open f w k) (took_all n) (same_self i) ∙ ap (λ l. Open f w k ∷ l) (unused_took i n none) in
      let v : place_at s x r ≡ waiting_place f w k =
      place_here s x i r [] (Open f w k ∷ []) 0 0 c a b (none_here i n none) (none_there i n none)
      ∙ (ap (λ d. place_of d [] (Open f w k ∷ []) 0 0) (mine_peer s (opens (took_all n))) ∙ waiting_is f w k) in
      record {
        run = take_open x f w k run (free_is s n x run free);
        moves = open_taken_moves s n run x f w k;
        opened = o;
        held = held_here x i r [] (Open f w k ∷ []) c o a b;
        close_said = said_close_is s x r ∙ ap (λ (w : Place). w.close_said) v;
        place = v;
      }

  pub own_opened : (w k : ℕ) → w ≤ largest_window → Steps s x n (Said x (next_own s n) (Open x w k) ∷ n) true (opening_place w k)
  own_opened w k small =
      let i = next_own s n in
      let r = Said x i (Open x w k) ∷ n in
      let none : Unused i n = (local s n run).fresh (opens (said_all n)) (omega arith) in
      let self : (x == x) ≡ true = grind (arith, eq-eqb) in
      let c : channel_at x r ≡ i = ap (λ b. cond b i (channel_at x n)) self in
      let o : has_open x r ≡ true = ap (λ b. cond b true (has_open x n)) self in
      let a : said i r ≡ Open x w k ∷ [] = on_hit i i (Open x w k) (said_all n) (same_self i) ∙ ap (λ l. Open x w k ∷ l) (unused_said i n none) in
      let b : took i r ≡ [] = unused_took i n none in
      let v : place_at s x r ≡ opening_place w k =
      place_here s x i r (Open x w k ∷ []) [] 0 0 c a b (none_here i n none) (none_there i n none)
      ∙ (ap (λ d. place_of d (Open x w k ∷ []) [] 0 0) (mine_own s (opens (said_all n))) ∙ opening_is x w k) in
      record {
        run = opening x w k run (free_is s n x run free) small;
        moves = open_said_moves s n run x x w k;
        opened = o;
        held = held_here x i r (Open x w k ∷ []) [] c o a b;
        close_said = said_close_is s x r ∙ ap (λ (w : Place). w.close_said) v;
        place = v;
      }
