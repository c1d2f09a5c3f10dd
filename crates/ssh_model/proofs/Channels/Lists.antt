-- The lists of one channel: what one end said and took, and the same of the other.
use Rattle.std.proofs.Common.{◌≡◌, ℕ, ◌+◌, ◌≤◌, List, [], ◌∷◌, inl, inr, refl, sym, ◌∙◌, arith, Bool, true, false}
use Rattle.ssh_model.specs.Protocol.Bounds.{largest_window}
use Rattle.ssh_model.specs.Protocol.Lists.{IsOlder}
use Rattle.ssh_model.specs.Protocol.Channels.Message.{Message, Message.Open, Message.OpenConfirmation, Message.OpenFailure, Message.WindowAdjust, Message.Data, Message.Eof, Message.Close, Message.Request, Message.Reply, size, gives, window, spent, sender, max_packet, Stage, Stage.Quiet, Stage.Speaking, Stage.Ended, Stage.Closed, Stage.Failed, stage, talked, begun, over_at, over}
use Rattle.ssh_model.specs.State.Channels.Rules.{is_open, ToIs, MayFollow}

abbrev pub Kept : Bool → List Message → Type 0
Kept o [] = Unit {0}
Kept o (m ∷ l) = MayFollow m (stage l) o × Kept o l

abbrev pub AllTo : ℕ → List Message → Type 0
AllTo y [] = Unit {0}
AllTo y (m ∷ l) = ToIs y m × AllTo y l

abbrev pub AllWithin : ℕ → List Message → Type 0
AllWithin k [] = Unit {0}
AllWithin k (m ∷ l) = (size m ≤ k) × AllWithin k l

-- there is more than an OPEN
abbrev pub more : List Message → Bool
more [] = false
more (Open f w k ∷ l) = more l
more (_ ∷ l) = true

-- what holds of the messages s said and those t taken on a channel, at one end
pub record Good (o p : Bool) (s t : List Message) : Type 0 where
  pub said_kept : Kept o s
  pub took_kept : Kept p t
  pub answered : more s ≡ true → begun t ≡ true
  pub addressed : AllTo (sender t) s
  pub within : AllWithin (max_packet t) s
  pub said_fits : spent s ≤ window t
  pub took_fits : spent t ≤ window s
  pub bounded : window s ≤ largest_window + spent t

not_quiet : (m : Message) (q : Stage) (o : Bool) → is_open m ≡ true → MayFollow m q o → talked q ≡ true → ⊥
not_quiet (Open f w k) Quiet o i u e = cc e
not_quiet (Open f w k) Speaking o i u e = elim u [ ]
not_quiet (Open f w k) Ended o i u e = elim u [ ]
not_quiet (Open f w k) Closed o i u e = elim u [ ]
not_quiet (Open f w k) Failed o i u e = elim u [ ]
not_quiet m q o i u e = cc i

confirm_not : (t f w k : ℕ) (q : Stage) (o : Bool) → MayFollow (OpenConfirmation t f w k) q o → talked q ≡ true → ⊥
confirm_not t f w k Quiet o u e = cc e
confirm_not t f w k q o u e = elim u [ ]

failure_not : (t : ℕ) (q : Stage) (o : Bool) → MayFollow (OpenFailure t) q o → talked q ≡ true → ⊥
failure_not t Quiet o u e = cc e
failure_not t q o u e = elim u [ ]

pub suits_closed : (m : Message) (o : Bool) → MayFollow m Closed o → ⊥
suits_closed (Open f w k) o u = u
suits_closed (OpenConfirmation t f w k) o u = u
suits_closed (OpenFailure t) o u = u
suits_closed (WindowAdjust t n) o u = u
suits_closed (Data t k b) o u = u
suits_closed (Eof t) o u = u
suits_closed (Close t) o u = u
suits_closed (Request t b) o u = u
suits_closed (Reply t b) o u = u

pub suits_failed : (m : Message) (o : Bool) → MayFollow m Failed o → ⊥
suits_failed (Open f w k) o u = u
suits_failed (OpenConfirmation t f w k) o u = u
suits_failed (OpenFailure t) o u = u
suits_failed (WindowAdjust t n) o u = u
suits_failed (Data t k b) o u = u
suits_failed (Eof t) o u = u
suits_failed (Close t) o u = u
suits_failed (Request t b) o u = u
suits_failed (Reply t b) o u = u

-- once begun it stays so, and number and bound are fixed
pub record Grown (l r : List Message) : Type 0 where
  pub still : begun r ≡ true
  pub number : sender l ≡ sender r
  pub bound : max_packet l ≡ max_packet r

pub grown_once : (m : Message) (l : List Message) (o : Bool) → MayFollow m (stage l) o → begun l ≡ true → Grown l (m ∷ l)
grown_once (Open f w k) l o u b = absurd (not_quiet (Open f w k) (stage l) o refl u b)
grown_once (OpenConfirmation t f w k) l o u b = absurd (confirm_not t f w k (stage l) o u b)
grown_once (OpenFailure t) l o u b = absurd (failure_not t (stage l) o u b)
grown_once (WindowAdjust t n) l o u b = record { still = b; number = refl; bound = refl }
grown_once (Data t k x) l o u b = record { still = b; number = refl; bound = refl }
grown_once (Eof t) l o u b = record { still = refl; number = refl; bound = refl }
grown_once (Close t) l o u b = record { still = refl; number = refl; bound = refl }
grown_once (Request t x) l o u b = record { still = b; number = refl; bound = refl }
grown_once (Reply t x) l o u b = record { still = b; number = refl; bound = refl }

pub grown : (o : Bool) (l r : List Message) → Kept o r → IsOlder l r → begun l ≡ true → Grown l r
grown o l [] k e b = let z : false ≡ true = rw e at b in absurd (cc z)
grown o l (m ∷ r) k (inl e) b = rw (sym e) (record { still = b; number = refl; bound = refl })
grown o l (m ∷ r) k (inr y) b =
    let g = grown o l r k.1 y b in
    let n = grown_once m r o k.0 g.still in
    record { still = n.still; number = g.number ∙ n.number; bound = g.bound ∙ n.bound }

pub window_older : (o l : List Message) → IsOlder o l → window o ≤ window l
window_older o [] e = rw e (omega arith)
window_older o (m ∷ l) (inl e) = rw e (omega arith)
window_older o (m ∷ l) (inr r) = omega (arith, window_older o l r)

pub spent_older : (o l : List Message) → IsOlder o l → spent o ≤ spent l
spent_older o [] e = rw e (omega arith)
spent_older o (m ∷ l) (inl e) = rw e (omega arith)
spent_older o (m ∷ l) (inr r) = omega (arith, spent_older o l r)

pub kept_older : (o : Bool) (a l : List Message) → IsOlder a l → Kept o l → Kept o a
kept_older o a [] e k = rw e k
kept_older o a (m ∷ l) (inl e) k = rw e k
kept_older o a (m ∷ l) (inr r) k = kept_older o a l r k.1

to_older : (y : ℕ) (a l : List Message) → IsOlder a l → AllTo y l → AllTo y a
to_older y a [] e k = rw e k
to_older y a (m ∷ l) (inl e) k = rw e k
to_older y a (m ∷ l) (inr r) k = to_older y a l r k.1

within_older : (y : ℕ) (a l : List Message) → IsOlder a l → AllWithin y l → AllWithin y a
within_older y a [] e k = rw e k
within_older y a (m ∷ l) (inl e) k = rw e k
within_older y a (m ∷ l) (inr r) k = within_older y a l r k.1

more_once : (m : Message) (l : List Message) → more l ≡ true → more (m ∷ l) ≡ true
more_once (Open f w k) l e = e
more_once m l e = refl

more_head : (m : Message) (l : List Message) → is_open m ≡ false → more (m ∷ l) ≡ true
more_head (Open f w k) l e = absurd (cc e)
more_head m l e = refl

pub more_older : (a l : List Message) → IsOlder a l → more a ≡ true → more l ≡ true
more_older a [] e k = rw e at k
more_older a (m ∷ l) (inl e) k = rw e at k
more_older a (m ∷ l) (inr r) k = more_once m l (more_older a l r k)

-- with nothing more, there is nothing to address or to bound
to_none : (y : ℕ) (l : List Message) → more l ≡ false → AllTo y l
to_none y [] e = tt
to_none y (Open f w k ∷ l) e = (tt, to_none y l e)
to_none y (m ∷ l) e = absurd (cc e)

within_none : (y : ℕ) (l : List Message) → more l ≡ false → AllWithin y l
within_none y [] e = tt
within_none y (Open f w k ∷ l) e = (omega arith, within_none y l e)
within_none y (m ∷ l) e = absurd (cc e)

-- what is said on a channel that the other end offered or confirmed
pub good_says : (o p : Bool) (m : Message) (s t : List Message) → Good o p s t → MayFollow m (stage s) o → begun t ≡ true → ToIs (sender t) m
    → size m + spent s ≤ window t → size m ≤ max_packet t → gives m + window s ≤ largest_window + spent t → Good o p (m ∷ s) t
good_says o p m s t g u b to fits small bounded = record {
  said_kept = (u, g.said_kept);
  took_kept = g.took_kept;
  answered = λ _. b;
  addressed = (to, g.addressed);
  within = (small, g.within);
  said_fits = fits;
  took_fits = omega (arith, g.took_fits);
  bounded = bounded;
}

pub good_took : (o p : Bool) (m : Message) (s t : List Message) → Good o p s t → MayFollow m (stage t) p
    → size m + spent t ≤ window s → Good o p s (m ∷ t)
good_took o p m s t g u fits = record {
  said_kept = g.said_kept;
  took_kept = (u, g.took_kept);
  answered = λ e. (grown_once m t p u (g.answered e)).still;
  addressed = addressed (more s) refl;
  within = within (more s) refl;
  said_fits = omega (arith, g.said_fits);
  took_fits = fits;
  bounded = omega (arith, g.bounded);
}
  where
    addressed : (b : Bool) → more s ≡ b → AllTo (sender (m ∷ t)) s
    addressed true e = rw (sym (grown_once m t p u (g.answered e)).number) g.addressed
    addressed false e = to_none _ s e

    within : (b : Bool) → more s ≡ b → AllWithin (max_packet (m ∷ t)) s
    within true e = rw (sym (grown_once m t p u (g.answered e)).bound) g.within
    within false e = within_none _ s e

over_not : (m : Message) (q t : Stage) (p : Bool) → talked q ≡ true → MayFollow m t p → over_at q t ≡ false
over_not m q Closed p b u = absurd (suits_closed m p u)
over_not m q Failed p b u = absurd (suits_failed m p u)
over_not m Quiet t p b u = absurd (cc b)
over_not m Failed t p b u = absurd (cc b)
over_not m q t p b u = refl

-- what the next message of the other meets
pub record Meets (p : Bool) (m : Message) (s t : List Message) : Type 0 where
  pub may_follow : MayFollow m (stage t) p
  pub spoke : begun s ≡ true
  pub live : over s t ≡ false
  pub to : ToIs (sender s) m
  pub fits : size m + spent t ≤ window s
  pub small : size m ≤ max_packet s
  pub bounded : gives m + window t ≤ largest_window + spent s

pub meets : (o p : Bool) (m : Message) (s t v w : List Message) → Good o p s t → Good p o v w → is_open m ≡ false
    → IsOlder (m ∷ t) v → IsOlder w s → Meets p m s t
meets o p m s t v w g f i n r =
    let k = (kept_older p (m ∷ t) v n f.said_kept).0 in
    let b : begun w ≡ true = f.answered (more_older (m ∷ t) v n (more_head m t i)) in
    let e = grown o w s g.said_kept r b in
    record {
      may_follow = k;
      spoke = e.still;
      live = over_not m (stage s) (stage t) p e.still k;
      to = rw e.number at (to_older _ (m ∷ t) v n f.addressed).0;
      fits = omega (arith, spent_older (m ∷ t) v n, f.said_fits, window_older w s r);
      small = rw e.bound at (within_older _ (m ∷ t) v n f.within).0;
      bounded = omega (arith, window_older (m ∷ t) v n, f.bounded, spent_older w s r);
    }
