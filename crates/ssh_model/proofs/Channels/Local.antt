-- What holds of the notes of one end, and that each step keeps it.
use Rattle.std.proofs.Common.{◌≡◌, ℕ, ◌+◌, ◌≤◌, List, [], ◌∷◌, ◌⊎◌, inl, inr, refl, ap, sym, ◌∙◌, arith, subst, cond, Bool, true, false, ◌==◌, eq-eqb, eqb-true}
use Rattle.ssh_model.specs.Protocol.Bounds.{largest_window}
use Rattle.ssh_model.specs.declared.side.Side.{Side}
use Rattle.ssh_model.specs.Protocol.Side.{peer}
use Rattle.ssh_model.specs.Protocol.Channels.Message.{Message, Message.Open, Message.OpenConfirmation, Message.OpenFailure, Message.WindowAdjust, Message.Data, Message.Eof, Message.Close, Message.Request, Message.Reply, Channel, Channel.Opened, same, mine, size, window, spent, sender, Stage, Stage.Quiet, Stage.Speaking, Stage.Ended, Stage.Closed, Stage.Failed, stage, talked, begun, over_at, over}
use Rattle.ssh_model.specs.State.Channels.Rules.{is_open, FromIs, MayFollow, OpenedAt, At, Free, Says, Takes}
use Rattle.ssh_model.specs.Protocol.Channels.Notes.{Note, Note.Said, Note.Took, Note.Refused, said_all, took_all, said, took, opens, channel_at}
use Rattle.ssh_model.proofs.Channels.Lists.{Good, grown_once, good_says, good_took, suits_closed, suits_failed}
use Rattle.ssh_model.proofs.Channels.Lines.{same_true, same_not, same_other, same_peer, mine_own, mine_peer, on_miss, Placed, Unused, unused_said, unused_took, unused_opened, opened_grow, opened_said, opened_took, opens_other, place_other}

pub record Local (s : Side) (h : List Note) : Type 0 where
  pub good : (i : Channel) → Good (mine s i) (mine (peer s) i) (said i h) (took i h)
  pub placed : Placed s (said_all h)
  -- a number has one channel at a time
  pub single : (x : ℕ) (i j : Channel) → At x i h → At x j h → i ≡ j
  -- it is the one that was opened there last
  pub current : (x : ℕ) (i : Channel) → At x i h → channel_at x h ≡ i
  -- the end names its own number
  pub named : (i : Channel) → begun (said i h) ≡ true → OpenedAt (sender (said i h)) i h
  pub fresh : (n : ℕ) → opens (said_all h) ≤ n → Unused (Opened s n) h
  pub fresh_peer : (n : ℕ) → opens (took_all h) ≤ n → Unused (Opened (peer s) n) h

-- a channel that is over stays over
over_failed : (q : Stage) → over_at q Failed ≡ true
over_failed Quiet = refl
over_failed Speaking = refl
over_failed Ended = refl
over_failed Closed = refl
over_failed Failed = refl

back_said : (m : Message) (r q t : Stage) (o : Bool) → MayFollow m q o → over_at r t ≡ false → over_at q t ≡ false
back_said m r Closed t o u e = absurd (suits_closed m o u)
back_said m r Failed t o u e = absurd (suits_failed m o u)
back_said m r q Failed o u e = let z = over_failed r in absurd (cc (z, e))
back_said m r q t o u e = refl

back_took : (m : Message) (q t r : Stage) (o : Bool) → MayFollow m t o → over_at q r ≡ false → over_at q t ≡ false
back_took m q Closed r o u e = absurd (suits_closed m o u)
back_took m q Failed r o u e = absurd (suits_failed m o u)
back_took m Failed t r o u e = absurd (cc e)
back_took m q t r o u e = refl

-- the first message after which the end has begun names its number
begins : (x : ℕ) (m : Message) (l : List Message) (o : Bool) → FromIs x m → MayFollow m (stage l) o → begun l ≡ false → begun (m ∷ l) ≡ true → sender (m ∷ l) ≡ x
begins x (Open f w k) l o f_is u n b = f_is
begins x (OpenConfirmation t f w k) l o f_is u n b = f_is
begins x (OpenFailure t) l o f_is u n b = absurd (cc b)
begins x (WindowAdjust t c) l o f_is u n b = absurd (cc (n, b))
begins x (Data t k c) l o f_is u n b = absurd (cc (n, b))
begins x (Request t c) l o f_is u n b = absurd (cc (n, b))
begins x (Reply t c) l o f_is u n b = absurd (cc (n, b))
begins x (Eof t) l o f_is u n b = absurd (go (stage l) u n)
  where
    go : (q : Stage) → MayFollow (Eof t) q o → talked q ≡ false → ⊥
    go Speaking u n = cc n
    go q u n = u
begins x (Close t) l o f_is u n b = absurd (go (stage l) u n)
  where
    go : (q : Stage) → MayFollow (Close t) q o → talked q ≡ false → ⊥
    go Speaking u n = cc n
    go Ended u n = cc n
    go q u n = u

-- a note on channel j that suits what stood there
module _ (s : Side) (h : List Note) (v : Local s h) (x : ℕ) (j : Channel) (m : Message) where
  pub over_said : MayFollow m (stage (said j h)) (mine s j) → (k : Channel) → over (said k (Said x j m ∷ h)) (took k h) ≡ false → over (said k h) (took k h) ≡ false
  over_said u k e = go (same k j) refl e
    where
      go : (b : Bool) → same k j ≡ b → over (cond b (m ∷ said k h) (said k h)) (took k h) ≡ false → over (said k h) (took k h) ≡ false
      go false n e = e
      go true n e =
          let P : Channel → Type 0 = λ w. MayFollow m (stage (said w h)) (mine s j) in
          back_said m (stage (m ∷ said k h)) (stage (said k h)) (stage (took k h)) (mine s j) (subst P (sym (same_true k j n)) u) e

  pub over_took : MayFollow m (stage (took j h)) (mine (peer s) j) → (k : Channel) → over (said k h) (took k (Took x j m ∷ h)) ≡ false → over (said k h) (took k h) ≡ false
  over_took u k e = go (same k j) refl e
    where
      go : (b : Bool) → same k j ≡ b → over (said k h) (cond b (m ∷ took k h) (took k h)) ≡ false → over (said k h) (took k h) ≡ false
      go false n e = e
      go true n e =
          let P : Channel → Type 0 = λ w. MayFollow m (stage (took w h)) (mine (peer s) j) in
          back_took m (stage (said k h)) (stage (took k h)) (stage (m ∷ took k h)) (mine (peer s) j) (subst P (sym (same_true k j n)) u) e

  good_now_said : Good (mine s j) (mine (peer s) j) (m ∷ said j h) (took j h) → (k : Channel) → Good (mine s k) (mine (peer s) k) (said k (Said x j m ∷ h)) (took k h)
  good_now_said g k = go (same k j) refl
    where
      go : (b : Bool) → same k j ≡ b → Good (mine s k) (mine (peer s) k) (cond b (m ∷ said k h) (said k h)) (took k h)
      go false n = v.good k
      go true n =
          let P : Channel → Type 0 = λ w. Good (mine s w) (mine (peer s) w) (m ∷ said w h) (took w h) in
          subst P (sym (same_true k j n)) g

  good_now_took : Good (mine s j) (mine (peer s) j) (said j h) (m ∷ took j h) → (k : Channel) → Good (mine s k) (mine (peer s) k) (said k h) (took k (Took x j m ∷ h))
  good_now_took g k = go (same k j) refl
    where
      go : (b : Bool) → same k j ≡ b → Good (mine s k) (mine (peer s) k) (said k h) (cond b (m ∷ took k h) (took k h))
      go false n = v.good k
      go true n =
          let P : Channel → Type 0 = λ w. Good (mine s w) (mine (peer s) w) (said w h) (m ∷ took w h) in
          subst P (sym (same_true k j n)) g

  named_said : MayFollow m (stage (said j h)) (mine s j) → FromIs x m → OpenedAt x j (Said x j m ∷ h)
      → (k : Channel) → begun (said k (Said x j m ∷ h)) ≡ true → OpenedAt (sender (said k (Said x j m ∷ h))) k (Said x j m ∷ h)
  named_said u f o k e = go (same k j) refl e
    where
      at_number : ℕ → Type 0
      at_number w = OpenedAt w j (Said x j m ∷ h)

      at_j : (b : Bool) → begun (said j h) ≡ b → begun (m ∷ said j h) ≡ true → OpenedAt (sender (m ∷ said j h)) j (Said x j m ∷ h)
      at_j true n b =
          let y = (grown_once m (said j h) (mine s j) u n).number in
          subst at_number y (opened_grow (sender (said j h)) j (Said x j m) h (v.named j n))
      at_j false n b = subst at_number (sym (begins x m (said j h) (mine s j) f u n b)) o

      go : (b : Bool) → same k j ≡ b → begun (cond b (m ∷ said k h) (said k h)) ≡ true → OpenedAt (sender (cond b (m ∷ said k h) (said k h))) k (Said x j m ∷ h)
      go false n e = opened_grow _ k (Said x j m) h (v.named k e)
      go true n e =
          let P : Channel → Type 0 = λ w. begun (m ∷ said w h) ≡ true → OpenedAt (sender (m ∷ said w h)) w (Said x j m ∷ h) in
          subst P (sym (same_true k j n)) (at_j (begun (said j h)) refl) e

  not_fresh : (i : Channel) → Unused i h → OpenedAt x j h → same i j ≡ false
  not_fresh i u o = go (same i j) refl
    where
      go : (b : Bool) → same i j ≡ b → b ≡ false
      go false n = refl
      go true n = let P : Channel → Type 0 = λ w. OpenedAt x w h in absurd (unused_opened x i h u (subst P (sym (same_true i j n)) o))

pub channel_said : (y x : ℕ) (i : Channel) (m : Message) (n : List Note) → is_open m ≡ false → channel_at y (Said x i m ∷ n) ≡ channel_at y n
channel_said y x i (Open f w k) n e = absurd (cc e)
channel_said y x i m n e = refl

pub channel_took : (y x : ℕ) (i : Channel) (m : Message) (n : List Note) → is_open m ≡ false → channel_at y (Took x i m ∷ n) ≡ channel_at y n
channel_took y x i (Open f w k) n e = absurd (cc e)
channel_took y x i m n e = refl

pub local_says : (s : Side) (h : List Note) (x : ℕ) (i : Channel) (m : Message) → Local s h → Says s h x i m → Local s (Said x i m ∷ h)
local_says s h x i m v r = record {
  good = good_now_said s h v x i m (good_says _ _ m _ _ (v.good i) r.may_follow r.heard r.to r.fits r.small r.bounded);
  placed = (place_other s i m (said_all h) r.other, v.placed);
  single = λ y j k a b. v.single y j k (back y j a) (back y k b);
  current = λ y k a. channel_said y x i m h r.other ∙ v.current y k (back y k a);
  named = named_said s h v x i m r.may_follow r.from (opened_grow x i (Said x i m) h r.at.opened);
  fresh = λ n l. let u = v.fresh n (omega (arith, opens_other i m (said_all h) r.other, l)) in (not_fresh s h v x i m (Opened s n) u r.at.opened, u);
  fresh_peer = λ n l. let u = v.fresh_peer n l in (not_fresh s h v x i m (Opened (peer s) n) u r.at.opened, u);
}
  where
    back : (y : ℕ) (k : Channel) → At y k (Said x i m ∷ h) → At y k h
    back y k a = record { opened = opened_said y k x i m h r.other a.opened; live = over_said s h v x i m r.may_follow k a.live }

pub local_takes : (s : Side) (h : List Note) (x : ℕ) (i : Channel) (m : Message) → Local s h → Takes s h x i m → Local s (Took x i m ∷ h)
local_takes s h x i m v r = record {
  good = good_now_took s h v x i m (good_took _ _ m _ _ (v.good i) r.may_follow r.fits);
  placed = v.placed;
  single = λ y j k a b. v.single y j k (back y j a) (back y k b);
  current = λ y k a. channel_took y x i m h r.other ∙ v.current y k (back y k a);
  named = λ k b. opened_grow _ k (Took x i m) h (v.named k b);
  fresh = λ n l. let u = v.fresh n l in (not_fresh s h v x i m (Opened s n) u r.at.opened, u);
  fresh_peer = λ n l. let u = v.fresh_peer n (omega (arith, opens_other i m (took_all h) r.other, l)) in (not_fresh s h v x i m (Opened (peer s) n) u r.at.opened, u);
}
  where
    back : (y : ℕ) (k : Channel) → At y k (Took x i m ∷ h) → At y k h
    back y k a = record { opened = opened_took y k x i m h r.other a.opened; live = over_took s h v x i m r.may_follow k a.live }

-- after an OPEN at a free number, that channel is the one there
current_new : (h g : List Note) (x : ℕ) (i : Channel)
    → ((y : ℕ) → channel_at y g ≡ cond (y == x) i (channel_at y h))
    → ((y : ℕ) (k : Channel) → OpenedAt y k g → ((y ≡ x) × (k ≡ i)) ⊎ OpenedAt y k h)
    → ((k : Channel) → same k i ≡ false → over (said k g) (took k g) ≡ over (said k h) (took k h))
    → ((k : Channel) → over (said k g) (took k g) ≡ false → over (said k h) (took k h) ≡ false)
    → Free x h → ((y : ℕ) (k : Channel) → At y k h → channel_at y h ≡ k)
    → (y : ℕ) (k : Channel) → At y k g → channel_at y g ≡ k
current_new h g x i names opened other back free before y k a = names y ∙ go (opened y k a.opened)
  where
    new : OpenedAt x k h → k ≡ i
    new o = at (same k i) refl
      where
        at : (b : Bool) → same k i ≡ b → k ≡ i
        at true n = same_true k i n
        at false n = let e = other k n in let f = free k o in let l = a.live in absurd (cc (e, f, l))

    go : ((y ≡ x) × (k ≡ i)) ⊎ OpenedAt y k h → cond (y == x) i (channel_at y h) ≡ k
    go (inl e) = let z : (y == x) ≡ true = rw e.0 (grind (arith, eq-eqb)) in ap (λ b. cond b i (channel_at y h)) z ∙ sym e.1
    go (inr o) = at (y == x) refl
      where
        at : (b : Bool) → (y == x) ≡ b → cond b i (channel_at y h) ≡ k
        at true e = let P : ℕ → Type 0 = λ w. OpenedAt w k h in sym (new (subst P (eqb-true y x e) o))
        at false e = before y k (record { opened = o; live = back k a.live })

-- a number that was free has one channel at a time after an OPEN
single_new : (h g : List Note) (x : ℕ) (i : Channel)
    → ((y : ℕ) (k : Channel) → OpenedAt y k g → ((y ≡ x) × (k ≡ i)) ⊎ OpenedAt y k h)
    → ((k : Channel) → same k i ≡ false → over (said k g) (took k g) ≡ over (said k h) (took k h))
    → ((k : Channel) → over (said k g) (took k g) ≡ false → over (said k h) (took k h) ≡ false)
    → Free x h → ((y : ℕ) (a b : Channel) → At y a h → At y b h → a ≡ b)
    → (y : ℕ) (a b : Channel) → At y a g → At y b g → a ≡ b
single_new h g x i opened other back free before y a b p q = go (opened y a p.opened) (opened y b q.opened)
  where
    new : (k : Channel) → OpenedAt x k h → over (said k g) (took k g) ≡ false → k ≡ i
    new k o live = at (same k i) refl
      where
        at : (b : Bool) → same k i ≡ b → k ≡ i
        at true n = same_true k i n
        at false n = let e = other k n in let f = free k o in absurd (cc (e, f, live))

    go : ((y ≡ x) × (a ≡ i)) ⊎ OpenedAt y a h → ((y ≡ x) × (b ≡ i)) ⊎ OpenedAt y b h → a ≡ b
    go (inl e) (inl f) = e.1 ∙ sym f.1
    go (inl e) (inr o) = let P : ℕ → Type 0 = λ w. OpenedAt w b h in e.1 ∙ sym (new b (subst P e.0 o) q.live)
    go (inr o) (inl f) = let P : ℕ → Type 0 = λ w. OpenedAt w a h in new a (subst P f.0 o) p.live ∙ sym f.1
    go (inr o) (inr c) = before y a b (record { opened = o; live = back a p.live }) (record { opened = c; live = back b q.live })

module _ (s : Side) (h : List Note) (v : Local s h) (x : ℕ) (i : Channel) (f w k : ℕ) (none : Unused i h) (free : Free x h) where
  pub local_opening : w ≤ largest_window → f ≡ x → i ≡ Opened s (opens (said_all h)) → Local s (Said x i (Open f w k) ∷ h)
  local_opening small named place = record {
    good = good_now_said s h v x i (Open f w k) good;
    placed = (place, v.placed);
    single = single_new h (Said x i (Open f w k) ∷ h) x i (λ y k o. o) other (over_said s h v x i (Open f w k) may_follow) free v.single;
    current = current_new h (Said x i (Open f w k) ∷ h) x i (λ y. refl) (λ y k o. o) other (over_said s h v x i (Open f w k) may_follow) free v.current;
    named = named_said s h v x i (Open f w k) may_follow named (inl (refl, refl));
    fresh = λ n l. (rw place (same_not s n (opens (said_all h)) (omega arith)), v.fresh n (omega arith));
    fresh_peer = λ n l. (rw place (same_peer s n (opens (said_all h))), v.fresh_peer n l);
  }
    where
      own : mine s i ≡ true
      own = rw place (mine_own s (opens (said_all h)))

      may_follow : MayFollow (Open f w k) (stage (said i h)) (mine s i)
      may_follow = rw (unused_said i h none, own) tt

      good : Good (mine s i) (mine (peer s) i) (Open f w k ∷ said i h) (took i h)
      good = rw (unused_said i h none, unused_took i h none, own)
          (record {
            said_kept = (tt, tt);
            took_kept = tt;
            answered = λ e. absurd (cc e);
            addressed = (tt, tt);
            within = (omega arith, tt);
            said_fits = omega arith;
            took_fits = omega arith;
            bounded = omega (arith, small);
          })

      other : (j : Channel) → same j i ≡ false → over (said j (Said x i (Open f w k) ∷ h)) (took j h) ≡ over (said j h) (took j h)
      other j n = ap (λ l. over l (took j h)) (on_miss j i (Open f w k) (said_all h) n)

  pub local_take_open : mine (peer s) i ≡ true → i ≡ Opened (peer s) (opens (took_all h)) → Local s (Took x i (Open f w k) ∷ h)
  local_take_open own place = record {
    good = good_now_took s h v x i (Open f w k) (good_took _ _ (Open f w k) _ _ (v.good i) may_follow fits);
    placed = v.placed;
    single = single_new h (Took x i (Open f w k) ∷ h) x i (λ y k o. o) other (over_took s h v x i (Open f w k) may_follow) free v.single;
    current = current_new h (Took x i (Open f w k) ∷ h) x i (λ y. refl) (λ y k o. o) other (over_took s h v x i (Open f w k) may_follow) free v.current;
    named = λ j b. opened_grow _ j (Took x i (Open f w k)) h (v.named j b);
    fresh = λ n l. (rw place (same_other s n (opens (took_all h))), v.fresh n l);
    fresh_peer = λ n l. (rw place (same_not (peer s) n (opens (took_all h)) (omega arith)), v.fresh_peer n (omega arith));
  }
    where
      may_follow : MayFollow (Open f w k) (stage (took i h)) (mine (peer s) i)
      may_follow = rw (unused_took i h none, own) tt

      fits : size (Open f w k) + spent (took i h) ≤ window (said i h)
      fits = rw (unused_took i h none) (omega arith)

      other : (j : Channel) → same j i ≡ false → over (said j h) (took j (Took x i (Open f w k) ∷ h)) ≡ over (said j h) (took j h)
      other j n = ap (λ l. over (said j h) l) (on_miss j i (Open f w k) (took_all h) n)

-- an OPEN that is refused for want of a place
module _ (s : Side) (h : List Note) (v : Local s h) (f w k : ℕ) where
  abbrev i : Channel
  i = Opened (peer s) (opens (took_all h))

  none : Unused i h
  none = v.fresh_peer (opens (took_all h)) (omega arith)

  back_refused : (y : ℕ) (j : Channel) → At y j (Refused i f w k ∷ h) → At y j h
  back_refused y j a = record { opened = a.opened; live = go (same j i) refl a.live }
    where
      go : (b : Bool) → same j i ≡ b → over (cond b (OpenFailure f ∷ said j h) (said j h)) (cond b (Open f w k ∷ took j h) (took j h)) ≡ false → over (said j h) (took j h) ≡ false
      go false n e = e
      go true n e =
          let P : Channel → Type 0 = λ q. OpenedAt y q h in
          absurd (unused_opened y i h none (subst P (same_true j i n) a.opened))

  good_refused : (j : Channel) → Good (mine s j) (mine (peer s) j) (said j (Refused i f w k ∷ h)) (took j (Refused i f w k ∷ h))
  good_refused j = go (same j i) refl
    where
      new : Good (mine s i) (mine (peer s) i) (OpenFailure f ∷ said i h) (Open f w k ∷ took i h)
      new = rw (unused_said i h none, unused_took i h none, mine_peer s (opens (took_all h)), mine_own (peer s) (opens (took_all h)))
          (record {
            said_kept = (tt, tt);
            took_kept = (tt, tt);
            answered = λ e. refl;
            addressed = (refl, tt);
            within = (omega arith, tt);
            said_fits = omega arith;
            took_fits = omega arith;
            bounded = omega arith;
          })

      go : (b : Bool) → same j i ≡ b → Good (mine s j) (mine (peer s) j) (cond b (OpenFailure f ∷ said j h) (said j h)) (cond b (Open f w k ∷ took j h) (took j h))
      go false n = v.good j
      go true n =
          let P : Channel → Type 0 = λ q. Good (mine s q) (mine (peer s) q) (OpenFailure f ∷ said q h) (Open f w k ∷ took q h) in
          subst P (sym (same_true j i n)) new

  named_refused : (j : Channel) → begun (said j (Refused i f w k ∷ h)) ≡ true → OpenedAt (sender (said j (Refused i f w k ∷ h))) j h
  named_refused j e = go (same j i) e
    where
      go : (b : Bool) → begun (cond b (OpenFailure f ∷ said j h) (said j h)) ≡ true → OpenedAt (sender (cond b (OpenFailure f ∷ said j h) (said j h))) j h
      go false e = v.named j e
      go true e = absurd (cc e)

  pub local_refuse_open : Local s (Refused i f w k ∷ h)
  local_refuse_open = record {
    good = good_refused;
    placed = (tt, v.placed);
    single = λ y a b p q. v.single y a b (back_refused y a p) (back_refused y b q);
    current = λ y a p. v.current y a (back_refused y a p);
    named = named_refused;
    fresh = λ n l. (same_other s n (opens (took_all h)), v.fresh n l);
    fresh_peer = λ n l. (same_not (peer s) n (opens (took_all h)) (omega arith), v.fresh_peer n (omega arith));
  }

pub nothing_noted : (s : Side) → Local s []
nothing_noted s = record {
  good = λ i. record { said_kept = tt; took_kept = tt; answered = λ e. absurd (cc e); addressed = tt; within = tt; said_fits = omega arith; took_fits = omega arith; bounded = omega arith };
  placed = tt;
  single = λ x i j a b. elim a.opened [ ];
  current = λ x i a. elim a.opened [ ];
  named = λ i e. absurd (cc e);
  fresh = λ n l. tt;
  fresh_peer = λ n l. tt;
}
