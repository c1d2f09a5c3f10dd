-- The numbers of an end's channels are below their bound, whatever comes to it.
use Rattle.std.proofs.Common.{◌≡◌, ℕ, ◌<◌, List, [], ◌∷◌, ◌++◌, ◌⊎◌, inl, inr, refl, ap, sym, ◌∙◌, subst, Bool, true, false, cond, nat_lt, ◌==◌, eqb-true, Option, Some, None}
use Rattle.std.proofs.lemmas.Bool.{ltb-true}
use Rattle.ssh_model.specs.Protocol.Bounds.{most_channels}
use Rattle.ssh_model.specs.declared.side.Side.{Side}
use Rattle.ssh_model.specs.Protocol.Channels.Message.{Message, Message.Open, Message.OpenFailure, Message.Close}
use Rattle.ssh_model.specs.Protocol.Channels.Notes.{Note, channel_at}
use Rattle.ssh_model.specs.Protocol.Channels.Numbers.{has_open, is_held, has_closed, peer_number}
use Rattle.ssh_model.specs.Protocol.Channels.History.{Item, Item.Sent, Item.Received, Item.KexinitSent, Item.NewkeysSent, blocked, noted, note_sent, note_received, owed, is_owed, is_free, due, at_once}
use Rattle.ssh_model.specs.ChannelLayer.Rows.{EndTurns, EndTurns.begins, EndTurns.then_turn, Turn, Turn.opens, Turn.asks, Turn.takes_open, Turn.refuses_open, Turn.takes, Turn.rekeys, Turn.completes, Ask, Take, Take.confirmed, Take.refused, Take.adjusted, Take.got_data, Take.ended, Take.closed, Take.requested, Take.replied}
use Rattle.ssh_model.specs.ChannelLayer.Rows as row
use Rattle.ssh_model.specs.Protocol.Sessions.Parties.{AreLawful, Parties}
use Rattle.ssh_model.specs.Protocol.Sessions.Items as session
use Rattle.ssh_model.specs.Protocol.Sessions.Turns.{EndRun}
use Rattle.ssh_model.specs.Protocol.Sessions.Bounded.{KeepsBounds}
use Rattle.ssh_model.specs.Protocol.Channels.Connection.{channel_items, notes, owed_replies}
use Rattle.ssh_model.proofs.Sessions.Stages.{and_left, or_split}
use Rattle.ssh_model.proofs.Channels.Run.{end_turns}
use Rattle.ssh_model.proofs.AnyPeer.Kept.{end_bounds}
use Rattle.ssh_model.proofs.AnyPeer.Waits.{end_waits}

record Small (side : Side) (l : List Item) : Type 0 where
  opened : (x : ℕ) → has_open x (noted side l) ≡ true → x < most_channels
  owes : (x : ℕ) → is_owed x (owed side l) ≡ true → x < most_channels

-- ---- one more OPEN

either : (t r : Bool) → cond t true r ≡ true → (t ≡ true) ⊎ (r ≡ true)
either true r e = inl refl
either false r e = inr e

new_number : (x n : ℕ) (r : Bool) → n < most_channels → (r ≡ true → x < most_channels) → cond (x == n) true r ≡ true → x < most_channels
new_number x n r k f e = go (either (x == n) r e)
  where
    go : ((x == n) ≡ true) ⊎ (r ≡ true) → x < most_channels
    go (inl a) = subst (λ y. y < most_channels) (sym (eqb-true x n a)) k
    go (inr a) = f a

owed_number : (x n : ℕ) (r : Bool) → n < most_channels → (r ≡ true → x < most_channels) → cond (n == x) true r ≡ true → x < most_channels
owed_number x n r k f e = go (either (n == x) r e)
  where
    go : ((n == x) ≡ true) ⊎ (r ≡ true) → x < most_channels
    go (inl a) = subst (λ y. y < most_channels) (eqb-true n x a) k
    go (inr a) = f a

free_small : (side : Side) (l : List Item) (n : ℕ) → is_free side l n ≡ true → n < most_channels
free_small side l n e = ltb-true n most_channels (and_left (nat_lt n most_channels) _ e)

-- ---- other messages

abbrev IsNoOpen : Message → Type 0
IsNoOpen (Open f w k) = ⊥
IsNoOpen _ = Unit {0}

cond_open : (x : ℕ) (t : Bool) (a b : List Note) → has_open x a ≡ has_open x b → has_open x (cond t b a) ≡ has_open x b
cond_open x true a b e = refl
cond_open x false a b e = e

sent_open : (x : ℕ) (side : Side) (at : Option ℕ) (m : Message) (l : List Note) → IsNoOpen m → has_open x (note_sent side at m l) ≡ has_open x l
sent_open x side None m l q = refl
sent_open x side (Some n) (Open f w k) l q = elim q [ ]
sent_open x side (Some n) (Close to) l q = cond_open x (has_closed n l) _ l refl
sent_open x side (Some n) m l q = refl

cond_two : (x : ℕ) (t : Bool) (a b : List Note) (r : Bool) → has_open x a ≡ r → has_open x b ≡ r → has_open x (cond t a b) ≡ r
cond_two x true a b r e f = e
cond_two x false a b r e f = f

taken_open : (x : ℕ) (side : Side) (n : ℕ) (m : Message) (l : List Note) → IsNoOpen m → has_open x (note_received side (Some n) m l) ≡ has_open x l
taken_open x side n (Open f w k) l q = elim q [ ]
taken_open x side n (Close to) l q = cond_two x (has_closed n l) _ _ _ refl refl
taken_open x side n m l q = refl

-- the replies that are owed are no OPEN
abbrev AreReplies : List Item → Type 0
AreReplies [] = Unit {0}
AreReplies (Sent at m ∷ l) = IsNoOpen m × AreReplies l
AreReplies (_ ∷ l) = ⊥

joined : (a b : List Item) → AreReplies a → AreReplies b → AreReplies (a ++ b)
joined [] b p q = q
joined (Sent at m ∷ a) b p q = (p.0, joined a b p.1 q)
joined (Received at m ∷ a) b p q = elim p [ ]
joined (KexinitSent ∷ a) b p q = elim p [ ]
joined (NewkeysSent ∷ a) b p q = elim p [ ]

if_either : (t : Bool) (a b : List Item) → AreReplies a → AreReplies b → AreReplies (cond t a b)
if_either true a b p q = p
if_either false a b p q = q

due_replies : (at : Option ℕ) (m : Message) (l : List Note) → AreReplies (due at m l)
due_replies None (Open f w k) l = (tt, tt)
due_replies (Some n) (Close to) l = if_either (has_closed n l) [] _ tt (tt, tt)
due_replies None m l = tt
due_replies (Some n) m l = tt

owed_are : (side : Side) (l : List Item) → AreReplies (owed side l)
owed_are side [] = tt
owed_are side (NewkeysSent ∷ l) = tt
owed_are side (Received at m ∷ l) = if_either (blocked l) (due at m (noted side l) ++ owed side l) (owed side l) (joined (due at m (noted side l)) (owed side l) (due_replies at m (noted side l)) (owed_are side l)) (owed_are side l)
owed_are side (Sent at m ∷ l) = owed_are side l
owed_are side (KexinitSent ∷ l) = owed_are side l

module _ (side : Side) where
  replies_small : (items l : List Item) → AreReplies items → Small side l → Small side (items ++ l)
  replies_small [] l q v = v
  replies_small (Sent at m ∷ items) l q v =
      let w = replies_small items l q.1 v in
      record { opened = λ x e. w.opened x (sym (sent_open x side at m (noted side (items ++ l)) q.0) ∙ e); owes = w.owes }
  replies_small (Received at m ∷ items) l q v = elim q [ ]
  replies_small (KexinitSent ∷ items) l q v = elim q [ ]
  replies_small (NewkeysSent ∷ items) l q v = elim q [ ]

  -- a message that makes nothing due
  quiet_owed : (x : ℕ) (t : Bool) (o : List Item) → is_owed x (cond t ([] ++ o) o) ≡ true → is_owed x o ≡ true
  quiet_owed x true o e = e
  quiet_owed x false o e = e

  close_owed : (x n : ℕ) (t c : Bool) (o : List Item) (m : Message) → n < most_channels → (is_owed x o ≡ true → x < most_channels) → is_owed x (cond t (cond c [] (Sent (Some n) m ∷ []) ++ o) o) ≡ true → x < most_channels
  close_owed x n true true o m k f e = f e
  close_owed x n true false o m k f e = owed_number x n (is_owed x o) k f e
  close_owed x n false c o m k f e = f e

  refused_owed : (x : ℕ) (t : Bool) (o : List Item) (m : Message) → is_owed x (cond t ((Sent None m ∷ []) ++ o) o) ≡ true → is_owed x o ≡ true
  refused_owed x true o m e = e
  refused_owed x false o m e = e

  taken : (l : List Item) (n : ℕ) (m : Message) → Take side (noted side l) n m → Small side l → Small side (Received (Some n) m ∷ l)
  taken l n m (confirmed a b c e) v = record { opened = v.opened; owes = λ x f. v.owes x (quiet_owed x (blocked l) (owed side l) f) }
  taken l n m (refused e) v = record { opened = v.opened; owes = λ x f. v.owes x (quiet_owed x (blocked l) (owed side l) f) }
  taken l n m (adjusted a e f) v = record { opened = v.opened; owes = λ x f. v.owes x (quiet_owed x (blocked l) (owed side l) f) }
  taken l n m (got_data a b c d e f) v = record { opened = v.opened; owes = λ x f. v.owes x (quiet_owed x (blocked l) (owed side l) f) }
  taken l n m (ended a b) v = record { opened = v.opened; owes = λ x f. v.owes x (quiet_owed x (blocked l) (owed side l) f) }
  taken l n m (closed c) v =
      let k : n < most_channels = v.opened n (and_left (has_open n (noted side l)) _ (and_left (is_held n (noted side l)) _ c)) in
      record {
        opened = λ x e. v.opened x (sym (taken_open x side n (Close n) (noted side l) tt) ∙ e);
        owes = λ x e. close_owed x n (blocked l) (has_closed n (noted side l)) (owed side l) (Close (peer_number n (noted side l))) k (v.owes x) e;
      }
  taken l n m (requested a b) v = record { opened = v.opened; owes = λ x f. v.owes x (quiet_owed x (blocked l) (owed side l) f) }
  taken l n m (replied a b) v = record { opened = v.opened; owes = λ x f. v.owes x (quiet_owed x (blocked l) (owed side l) f) }

  asked : (l : List Item) (n : ℕ) (m : Message) → Ask side (noted side l) n m → IsNoOpen m
  asked l n m (row.Ask.confirm w k a b) = tt
  asked l n m (row.Ask.refuse a) = tt
  asked l n m (row.Ask.adjust a b c d) = tt
  asked l n m (row.Ask.give_data a b c d e f g) = tt
  asked l n m (row.Ask.eof a b) = tt
  asked l n m (row.Ask.close a b) = tt
  asked l n m (row.Ask.request a b c) = tt
  asked l n m (row.Ask.reply a b c) = tt

  due_at_once : (t : Bool) (at : Option ℕ) (m : Message) (l : List Note) → AreReplies (at_once t (due at m l))
  due_at_once t at m l = if_either t [] (due at m l) tt (due_replies at m l)

  over : (items : List Item) (i : Item) (l : List Item) → Small side (items ++ (i ∷ l)) → Small side ((items ++ (i ∷ [])) ++ l)
  over items i l v = subst (λ w. Small side w) (sym (append items i l)) v
    where
      append : (items : List Item) (i : Item) (l : List Item) → (items ++ (i ∷ [])) ++ l ≡ items ++ (i ∷ l)
      append [] i l = refl
      append (j ∷ items) i l = ap (λ w. j ∷ w) (append items i l)

  turned : (l items : List Item) → Turn side l items → Small side l → Small side (items ++ l)
  turned l items (opens n w k b e c) v = record { opened = λ x e2. new_number x n (has_open x (noted side l)) (free_small side l n e) (v.opened x) e2; owes = v.owes }
  turned l items (Turn.asks n m b a) v = record { opened = λ x e. v.opened x (sym (sent_open x side (Some n) m (noted side l) (asked l n m a)) ∙ e); owes = v.owes }
  turned l items (takes_open n f w k e) v = record { opened = λ x e2. new_number x n (has_open x (noted side l)) (free_small side l n e) (v.opened x) e2; owes = λ x f2. v.owes x (quiet_owed x (blocked l) (owed side l) f2) }
  turned l items (refuses_open f w k) v =
      over (at_once (blocked l) (due None (Open f w k) (noted side l))) (Received None (Open f w k)) l (replies_small _ _ (due_at_once (blocked l) None (Open f w k) (noted side l))
      (record { opened = v.opened; owes = λ x e. v.owes x (refused_owed x (blocked l) (owed side l) (OpenFailure f) e) }))
  turned l items (takes n m t) v =
      over (at_once (blocked l) (due (Some n) m (noted side l))) (Received (Some n) m) l (replies_small _ _ (due_at_once (blocked l) (Some n) m (noted side l)) (taken l n m t v))
  turned l items (rekeys b) v = record { opened = v.opened; owes = v.owes }
  turned l items (completes b) v = over (owed side l) NewkeysSent l (replies_small _ _ (owed_are side l) (record { opened = v.opened; owes = λ x e. absurd (cc e) }))

  small : (l : List Item) → EndTurns side l → Small side l
  small l begins = record { opened = λ x e. absurd (cc e); owes = λ x e. absurd (cc e) }
  small l (then_turn {history = h} {items = items} before t) = turned h items t (small h before)

module _ {K : Type 0} (p : Parties K) (laws : AreLawful p) where
  pub keeps_bounds : (side : Side) (h : List session.Item) → EndRun p side h → KeepsBounds p side h
  keeps_bounds side h r =
      let v = end_bounds p side h r in
      let w = end_waits p side h r in
      let s = small side (channel_items h) (end_turns p laws side h r) in
      record { owed = v.owes; channels = λ x e. held s x (or_split (is_held x (notes side h)) (is_owed x (owed_replies side h)) e); globals_here = v.here; globals_there = v.there; requests_here = λ x. w.here (channel_at x (notes side h)); requests_there = λ x. w.there (channel_at x (notes side h)); tries = v.tries }
    where
      held : Small side (channel_items h) → (x : ℕ) → ((is_held x (notes side h) ≡ true) ⊎ (is_owed x (owed_replies side h) ≡ true)) → x < most_channels
      held s x (inl e) = s.opened x (and_left (has_open x (notes side h)) _ e)
      held s x (inr e) = s.owes x e
