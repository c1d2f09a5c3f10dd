-- Replies at once and owed: what a history notes, and what its end keeps.
use Rattle.std.proofs.Common.{◌≡◌, ℕ, List, [], ◌∷◌, ◌++◌, refl, ap, sym, ◌∙◌, subst, cond, Bool, true, false, ◌==◌, Option, Some, None}
use Rattle.ssh_model.specs.declared.side.Side.{Side}
use Rattle.ssh_model.specs.Protocol.Channels.Message.{Message, Message.Close, Stage, Stage.Closed, closed}
use Rattle.ssh_model.specs.State.Channels.Rules.{MayFollow}
use Rattle.ssh_model.specs.Protocol.Channels.Notes.{Note, Note.Said, channel_at}
use Rattle.ssh_model.specs.Protocol.Channels.Numbers.{has_closed}
use Rattle.ssh_model.specs.Protocol.Channels.History.{Item, Item.Sent, noted, owed, is_owed}
use Rattle.ssh_model.specs.ChannelLayer.Rows.{sent, received}
use Rattle.ssh_model.proofs.Channels.Lists.{suits_closed}

-- the item is a reply that was said already
abbrev pub IsDue : Option ℕ → Message → List Note → Type 0
IsDue None m n = Unit {0}
IsDue (Some x) (Close t) n = has_closed x n ≡ true
IsDue p m n = ⊥

abbrev pub AllDue : List Item → List Note → Type 0
AllDue [] n = Unit {0}
AllDue (Sent p m ∷ l) n = IsDue p m n × AllDue l n
AllDue (_ ∷ l) n = ⊥

-- sending such replies notes nothing
pub drop : (s : Side) (l h : List Item) → AllDue l (noted s h) → noted s (l ++ h) ≡ noted s h
drop s [] h d = refl
drop s (Sent None m ∷ l) h d = drop s l h d.1
drop s (Sent (Some x) (Close t) ∷ l) h d =
    let e = drop s l h d.1 in
    let P : List Note → Type 0 = λ n. has_closed x n ≡ true in
    ap (λ b. cond b (noted s (l ++ h)) (Said x (channel_at x (noted s (l ++ h))) (Close t) ∷ noted s (l ++ h))) (subst P (sym e) d.0) ∙ e
drop s (Sent p m ∷ l) h d = elim d.0 [ ]
drop s (i ∷ l) h d = elim d [ ]

pub owed_drop : (s : Side) (l h : List Item) (n : List Note) → AllDue l n → owed s (l ++ h) ≡ owed s h
owed_drop s [] h n d = refl
owed_drop s (Sent p m ∷ l) h n d = owed_drop s l h n d.1
owed_drop s (i ∷ l) h n d = elim d [ ]

pub received_drop : (l h : List Item) (n : List Note) → AllDue l n → received (l ++ h) ≡ received h
received_drop [] h n d = refl
received_drop (Sent p m ∷ l) h n d = received_drop l h n d.1
received_drop (i ∷ l) h n d = elim d [ ]

pub sent_append : (l h : List Item) → sent (l ++ h) ≡ sent l ++ sent h
sent_append [] h = refl
sent_append (Sent p m ∷ l) h = ap (λ r. m ∷ r) (sent_append l h)
sent_append (i ∷ l) h = sent_append l h

pub due_append : (a b : List Item) (n : List Note) → AllDue a n → AllDue b n → AllDue (a ++ b) n
due_append [] b n p q = q
due_append (Sent x m ∷ a) b n p q = (p.0, due_append a b n p.1 q)
due_append (i ∷ a) b n p q = elim p [ ]

-- what keeps the closed ones closed keeps the replies due
pub due_kept : (l : List Item) (n r : List Note) → ((y : ℕ) → has_closed y n ≡ true → has_closed y r ≡ true) → AllDue l n → AllDue l r
due_kept [] n r f d = tt
due_kept (Sent None m ∷ l) n r f d = (tt, due_kept l n r f d.1)
due_kept (Sent (Some x) (Close t) ∷ l) n r f d = (f x d.0, due_kept l n r f d.1)
due_kept (Sent p m ∷ l) n r f d = elim d.0 [ ]
due_kept (i ∷ l) n r f d = elim d [ ]

unowed_head : (b c : Bool) → cond b true c ≡ false → (b ≡ false) × (c ≡ false)
unowed_head true c e = absurd (cc e)
unowed_head false c e = (refl, e)

pub due_kept_but : (x : ℕ) (l : List Item) (n r : List Note) → is_owed x l ≡ false → ((y : ℕ) → (y == x) ≡ false → has_closed y n ≡ true → has_closed y r ≡ true)
    → AllDue l n → AllDue l r
due_kept_but z [] n r o f d = tt
due_kept_but z (Sent None m ∷ l) n r o f d = (tt, due_kept_but z l n r o f d.1)
due_kept_but z (Sent (Some x) (Close t) ∷ l) n r o f d = let a = unowed_head (x == z) (is_owed z l) o in (f x a.0 d.0, due_kept_but z l n r a.1 f d.1)
due_kept_but z (Sent p m ∷ l) n r o f d = elim d.0 [ ]
due_kept_but z (i ∷ l) n r o f d = elim d [ ]

pub not_closed : (q : Stage) (m : Message) (o : Bool) → MayFollow m q o → closed q ≡ false
not_closed Closed m o u = absurd (suits_closed m o u)
not_closed q m o u = refl
