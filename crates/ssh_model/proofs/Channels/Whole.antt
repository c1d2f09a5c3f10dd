-- The invariant of a run of two, and what follows from it.
use Rattle.std.proofs.Common.{◌≡◌, ℕ, ◌+◌, ◌-◌, ◌≤◌, List, [], ◌∷◌, ◌++◌, reverse, length, inl, inr, refl, ap, sym, ◌∙◌, arith, subst, Bool, true, false, not, ◌||◌, nat_lt, Option, append_assoc, append-nil}
use Rattle.std.proofs.lemmas.List.{reverse-append}
use Rattle.std.proofs.lemmas.Bool.{le-ltb}
use Rattle.ssh_model.specs.Protocol.Bounds.{largest_window}
use Rattle.ssh_model.specs.declared.side.Side.{Side}
use Rattle.ssh_model.specs.declared.side.Side.TheVariants.{Client, Server}
use Rattle.ssh_model.specs.Protocol.Side.{peer}
use Rattle.ssh_model.specs.Protocol.Lists.{IsOlder, IsIn}
use Rattle.ssh_model.specs.Protocol.Channels.Message.{Message, Message.Open, Message.OpenConfirmation, Message.OpenFailure, Message.WindowAdjust, Message.Data, Message.Eof, Message.Close, Message.Request, Message.Reply, Channel, Channel.Opened, mine, recipient, gives, window, spent, sender, max_packet, Stage, Stage.Quiet, Stage.Speaking, Stage.Ended, Stage.Closed, Stage.Failed, stage, talked, closed}
use Rattle.ssh_model.specs.State.Channels.Rules.{is_open, ToIs, MayFollow, At}
use Rattle.ssh_model.specs.ChannelLayer.Claims.{data_of, DataBegins, Acceptable}
use Rattle.ssh_model.specs.Protocol.Channels.Notes.{Line.On, Note, said_all, took_all, said, took, opens}
use Rattle.ssh_model.specs.Protocol.Channels.Numbers.{is_held, is_confirmed, is_window_overrun, is_window_too_large}
use Rattle.ssh_model.specs.State.Channels.Rules.{Next, Takes, Run, Run.start, Run.swap, Run.opening, Run.saying, Run.take_open, Run.refuse_open, Run.take}
use Rattle.ssh_model.specs.Protocol.Channels.Claims.{Within}
use Rattle.ssh_model.proofs.Channels.Lists.{Good, meets, suits_closed, suits_failed}
use Rattle.ssh_model.proofs.Channels.Lines.{older_self, on_older, on_next, lift_next, placed_older, mine_own, mine_twice}
use Rattle.ssh_model.proofs.Channels.Local.{Local, local_says, local_takes, local_opening, local_take_open, local_refuse_open, nothing_noted}
use Rattle.ssh_model.proofs.Channels.State.{at_held, is_confirmed_at}

pub record Both (s : Side) (h g : List Note) : Type 0 where
  pub here : Local s h
  pub there : Local (peer s) g
  -- what each took is an older part of what the other said, channel by channel
  pub to_here : IsOlder (took_all h) (said_all g)
  pub to_there : IsOlder (took_all g) (said_all h)

turned : (s : Side) (h g : List Note) → Both s h g → Both (peer s) g h
turned Client h g v = record { here = v.there; there = v.here; to_here = v.to_there; to_there = v.to_here }
turned Server h g v = record { here = v.there; there = v.here; to_here = v.to_there; to_there = v.to_here }

-- the next message is one that the end may take, and it stands on the channel of that number
pub record Found (s : Side) (h g : List Note) (m : Message) : Type 0 where
  pub i : Channel
  pub may : Takes s h (sender (said i h)) i m
  pub bounded : gives m + window (took i h) ≤ largest_window + spent (said i h)
  pub next : IsOlder (On i m ∷ took_all h) (said_all g)

pub found : (s : Side) (h g : List Note) (m : Message) → Both s h g → Next m h g → is_open m ≡ false → Found s h g m
found s h g m v n e =
    let j = lift_next m (took_all h) (said_all g) v.to_here n in
    let P : Bool → Type 0 = λ o. Good (mine (peer s) j.0) o (said j.0 g) (took j.0 g) in
    let t = meets _ _ m _ _ _ _ (v.here.good j.0) (subst P (mine_twice s j.0) (v.there.good j.0)) e
    (on_next j.0 m (took_all h) (said_all g) j.1) (on_older j.0 _ _ v.to_there) in
    record {
      i = j.0;
      next = j.1;
      bounded = t.bounded;
      may = record {
        other = e;
        at = record { opened = v.here.named j.0 t.spoke; live = t.live };
        may_follow = t.may_follow;
        spoke = t.spoke;
        to = t.to;
        fits = t.fits;
        small = t.small;
      };
    }

-- a message goes to one number
pub one_number : (m : Message) (x y : ℕ) → is_open m ≡ false → ToIs x m → ToIs y m → x ≡ y
one_number (Open f w k) x y e a b = absurd (cc e)
one_number (OpenConfirmation t f w k) x y e a b = cc
one_number (OpenFailure t) x y e a b = cc
one_number (WindowAdjust t n) x y e a b = cc
one_number (Data t k c) x y e a b = cc
one_number (Eof t) x y e a b = cc
one_number (Close t) x y e a b = cc
one_number (Request t c) x y e a b = cc
one_number (Reply t c) x y e a b = cc

same_channel : (s : Side) (h g : List Note) (m : Message) → Local s h → (f : Found s h g m) → (x : ℕ) (i : Channel) → ToIs x m → At x i h → f.i ≡ i
same_channel s h g m v f x i t a =
    let e = one_number m (sender (said f.i h)) x f.may.other f.may.to t in
    let P : ℕ → Type 0 = λ w. At w f.i h in
    v.single x f.i i (subst P e f.may.at) a

pub both : (s : Side) (h g : List Note) → Run s h g → Both s h g
both s h g start = record {
  here = nothing_noted s;
  there = nothing_noted (peer s);
  to_here = refl;
  to_there = refl;
}
both s h g (swap {side = t} {notes = a} {others = b} r) = turned t a b (both t a b r)
both s h g (opening {notes = b} x w k r free small) =
    let v = both s b g r in
    record {
      here = local_opening s b v.here x (Opened s (opens (said_all b))) x w k (v.here.fresh (opens (said_all b)) (omega arith)) free small refl refl;
      there = v.there;
      to_here = v.to_here;
      to_there = inr v.to_there;
    }
both s h g (saying {notes = b} x i m r may) =
    let v = both s b g r in
    record { here = local_says s b x i m v.here may; there = v.there; to_here = v.to_here; to_there = inr v.to_there }
both s h g (take_open {notes = b} x f w k r free n) =
    let v = both s b g r in
    let j = lift_next (Open f w k) (took_all b) (said_all g) v.to_here n in
    let e : j.0 ≡ Opened (peer s) (opens (took_all b)) = (placed_older (peer s) _ (said_all g) j.1 v.there.placed).0 in
    let P : Channel → Type 0 = λ q. IsOlder (On q (Open f w k) ∷ took_all b) (said_all g) in
    record {
      here = local_take_open s b v.here x (Opened (peer s) (opens (took_all b))) f w k (v.here.fresh_peer (opens (took_all b)) (omega arith)) free (mine_own (peer s) (opens (took_all b))) refl;
      there = v.there;
      to_here = subst P e j.1;
      to_there = v.to_there;
    }
both s h g (refuse_open {notes = b} f w k r n) =
    let v = both s b g r in
    let j = lift_next (Open f w k) (took_all b) (said_all g) v.to_here n in
    let e : j.0 ≡ Opened (peer s) (opens (took_all b)) = (placed_older (peer s) _ (said_all g) j.1 v.there.placed).0 in
    let P : Channel → Type 0 = λ q. IsOlder (On q (Open f w k) ∷ took_all b) (said_all g) in
    record { here = local_refuse_open s b v.here f w k; there = v.there; to_here = subst P e j.1; to_there = inr v.to_there }
both s h g (take {notes = b} x i m r may n) =
    let v = both s b g r in
    let f = found s b g m v n may.other in
    let e = same_channel s b g m v.here f x i may.to may.at in
    let P : Channel → Type 0 = λ q. IsOlder (On q m ∷ took_all b) (said_all g) in
    record { here = local_takes s b x i m v.here may; there = v.there; to_here = subst P e f.next; to_there = v.to_there }

pub in_older : {A : Type 0} (x : A) (o l : List A) → IsOlder o l → IsIn x o → IsIn x l
in_older x o [] e h = rw e at h
in_older x o (y ∷ l) (inl e) h = rw e at h
in_older x o (y ∷ l) (inr r) h = inr (in_older x o l r h)

-- no window is overrun
pub within_holds : (s : Side) (h g : List Note) → Run s h g → Within h g
within_holds s h g r =
    let v = both s h g r in
    record {
      sends = λ i. (v.here.good i).said_fits;
      takes = λ i. (v.here.good i).took_fits;
      had_sent = λ i. on_older i (took_all h) (said_all g) v.to_here;
    }

data_older : (o l : List Message) → IsOlder o l → IsOlder (data_of o) (data_of l)
data_older o [] e = rw e refl
data_older o (m ∷ l) (inl e) = rw e (older_self (data_of (m ∷ l)))
data_older o (Data t k b ∷ l) (inr r) = inr (data_older o l r)
data_older o (m ∷ l) (inr r) = data_older o l r

reverse_older : {A : Type 0} (o l : List A) → IsOlder o l → (rest : List A) × (reverse o ++ rest ≡ reverse l)
reverse_older o [] e = ([], rw e refl)
reverse_older o (x ∷ l) (inl e) = ([], append-nil (reverse o) ∙ ap reverse e)
reverse_older o (x ∷ l) (inr r) =
    let b = reverse_older o l r in
    (b.0 ++ x ∷ [], sym (append_assoc (reverse o) b.0 (x ∷ [])) ∙ (ap (λ w. w ++ x ∷ []) b.1 ∙ sym (reverse-append (x ∷ []) l)))

-- the data taken on a channel are a beginning of those said on it
pub data_begins : (s : Side) (h g : List Note) → Run s h g → DataBegins h g
data_begins s h g r i = reverse_older _ _ (data_older _ _ (on_older i (took_all h) (said_all g) (both s h g r).to_here))

-- ---- no reason to refuse what comes next

-- it is neither an OPEN nor the answer to one
abbrev later : Message → Bool
later (Open f w k) = false
later (OpenConfirmation t f w k) = false
later (OpenFailure t) = false
later m = true

quiet : (m : Message) (p : Bool) → MayFollow m Quiet p → later m ≡ true → ⊥
quiet (Open f w k) p u e = cc e
quiet (OpenConfirmation t f w k) p u e = cc e
quiet (OpenFailure t) p u e = cc e
quiet m p u e = u

goes : (m : Message) (q : Stage) (p : Bool) → MayFollow m q p → later m ≡ true → (talked q ≡ true) × (closed q ≡ false)
goes m Speaking p u e = (refl, refl)
goes m Ended p u e = (refl, refl)
goes m Closed p u e = absurd (suits_closed m p u)
goes m Failed p u e = absurd (suits_failed m p u)
goes m Quiet p u e = absurd (quiet m p u e)

not_false : (b : Bool) → b ≡ true → not b ≡ false
not_false b e = rw e refl

or_false : (a b : Bool) → a ≡ false → b ≡ false → (a || b) ≡ false
or_false a b p q = rw (p, q) refl

-- a message that stands on the channel of its number is welcome
module _ (s : Side) (h g : List Note) (v : Both s h g) where
  at_number : (m : Message) (f : Found s h g m) → is_open m ≡ false → ToIs (recipient m) m → At (recipient m) f.i h
  at_number m f e t =
      let P : ℕ → Type 0 = λ w. At w f.i h in
      subst P (one_number m (sender (said f.i h)) (recipient m) e f.may.to t) f.may.at

  known_later : (m : Message) (f : Found s h g m) → is_open m ≡ false → ToIs (recipient m) m → later m ≡ true → not (is_confirmed (recipient m) h) ≡ false
  known_later m f e t l =
      let q = goes m (stage (took f.i h)) _ f.may.may_follow l in
      not_false _ (is_confirmed_at s (recipient m) f.i h v.here (at_number m f e t) f.may.spoke q.0 q.1)

  known_answer : (m : Message) (f : Found s h g m) → is_open m ≡ false → ToIs (recipient m) m → not (is_held (recipient m) h) ≡ false
  known_answer m f e t = not_false _ (at_held s (recipient m) f.i h v.here (at_number m f e t))

  fits_data : (t : ℕ) (k : Option ℕ) (b : List ℕ) → Found s h g (Data t k b) → is_window_overrun (Data t k b) h ≡ false
  fits_data t k b f =
      let a = at_number (Data t k b) f refl refl in
      let P : Channel → Type 0 = λ i. (nat_lt (window (said i h) - spent (took i h)) (length b) || nat_lt (max_packet (said i h)) (length b)) ≡ false in
      subst P (sym (v.here.current t f.i a)) (or_false _ _ (le-ltb _ _ (omega (arith, f.may.fits))) (le-ltb _ _ f.may.small))

  bounded_adjust : (t c : ℕ) → Found s h g (WindowAdjust t c) → is_window_too_large (WindowAdjust t c) h ≡ false
  bounded_adjust t c f =
      let a = at_number (WindowAdjust t c) f refl refl in
      let w = (v.here.good f.i).said_fits in
      let P : Channel → Type 0 = λ i. nat_lt largest_window (c + (window (took i h) - spent (said i h))) ≡ false in
      subst P (sym (v.here.current t f.i a)) (le-ltb _ _ (omega (arith, f.bounded, w)))

  pub welcome_both : (m : Message) → Next m h g → Acceptable m h
  welcome_both (Open f w k) n = record { known = refl; fits = refl; bounded = refl }
  welcome_both (OpenConfirmation t f w k) n = record { known = known_answer _ (found s h g _ v n refl) refl refl; fits = refl; bounded = refl }
  welcome_both (OpenFailure t) n = record { known = known_answer _ (found s h g _ v n refl) refl refl; fits = refl; bounded = refl }
  welcome_both (WindowAdjust t c) n =
      let f = found s h g (WindowAdjust t c) v n refl in
      record { known = known_later _ f refl refl refl; fits = refl; bounded = bounded_adjust t c f }
  welcome_both (Data t k b) n =
      let f = found s h g (Data t k b) v n refl in
      record { known = known_later _ f refl refl refl; fits = fits_data t k b f; bounded = refl }
  welcome_both m n = record { known = known_later _ (found s h g m v n refl) refl refl refl; fits = refl; bounded = refl }

pub welcome : (s : Side) (h g : List Note) (m : Message) → Run s h g → Next m h g → Acceptable m h
welcome s h g m r n = welcome_both s h g (both s h g r) m n
