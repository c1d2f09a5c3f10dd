-- Items by which nothing is taken, the bytes that are pending for an end, and that they begin with one unit.
use Rattle.std.proofs.Common.{◌≡◌, ℕ, List, [], ◌∷◌, ◌++◌, ◌⊎◌, inl, inr, refl, ap, sym, ◌∙◌, subst, append-nil, Some, None}
use Rattle.ssh_model.specs.declared.side.Side.{Side}
use Rattle.ssh_model.specs.Protocol.Side.{peer, DoneBy.By, done_by}
use Rattle.ssh_model.specs.Protocol.Wire.Outcome.{Outcome}
use Rattle.ssh_model.specs.Protocol.Wire.Unit.{IsUnit, Stage}
use Rattle.ssh_model.specs.Protocol.Sessions.Parties.{AreLawful, Parties}
use Rattle.ssh_model.specs.Protocol.Sessions.Items.{Item, Item.Took, Item.TookGuess, Item.TookLine, Item.Refused, Done, messages_sent, messages_taken}
use Rattle.ssh_model.specs.Protocol.Sessions.Phases.{has_line}
use Rattle.ssh_model.specs.Protocol.Sessions.Turns.{Run}
use Rattle.ssh_model.specs.Protocol.Sessions.Faithful.{IsFaithful, LiesInEnds, PutsSince}
use Rattle.ssh_model.proofs.Wire.Units.{unit_alone, unit_outcome}
use Rattle.ssh_model.proofs.Faithful.Plain.{ArePlain, IsPlain}
use Rattle.ssh_model.proofs.Faithful.Lined.{has_said}

-- ---- items by which nothing is taken

-- neither taken nor a line, and refused for a reason that lies in the ends
abbrev pub IsCalm : Item → Type 0
IsCalm (Took c m b) = ⊥
IsCalm (TookGuess b) = ⊥
IsCalm (TookLine line) = ⊥
IsCalm (Refused why (Some b)) = ⊥
IsCalm (Refused why None) = LiesInEnds why
IsCalm _ = Unit {0}

abbrev pub AreCalm : List Item → Type 0
AreCalm [] = Unit {0}
AreCalm (i ∷ l) = IsCalm i × AreCalm l

plain_item : (i : Item) → IsPlain i → IsCalm i
plain_item (Took c m b) q = elim q [ ]
plain_item (TookGuess b) q = elim q [ ]
plain_item (TookLine line) q = elim q [ ]
plain_item (Refused why b) q = elim q [ ]
plain_item i q = tt

pub plain_calm : (l : List Item) → ArePlain l → AreCalm l
plain_calm [] q = tt
plain_calm (i ∷ l) q = (plain_item i q.0, plain_calm l q.1)

pub calm_following : (a b : List Item) → AreCalm a → AreCalm b → AreCalm (a ++ b)
calm_following [] b q r = r
calm_following (i ∷ a) b q r = (q.0, calm_following a b q.1 r)

calm_item_taken : (i : Item) (h : List Item) → IsCalm i → (messages_taken (i ∷ h) ≡ messages_taken h) × (has_line (i ∷ h) ≡ has_line h)
calm_item_taken (Took c m b) h q = elim q [ ]
calm_item_taken (TookLine line) h q = elim q [ ]
calm_item_taken i h q = (refl, refl)

pub calm_taken : (l h : List Item) → AreCalm l → (messages_taken (l ++ h) ≡ messages_taken h) × (has_line (l ++ h) ≡ has_line h)
calm_taken [] h q = (refl, refl)
calm_taken (i ∷ l) h q = let e = calm_item_taken i (l ++ h) q.0 in let f = calm_taken l h q.1 in (e.0 ∙ f.0, e.1 ∙ f.1)

-- what was refused before it was opened is refused for such a reason
abbrev pub UnitsSpared : List Done → Type 0
UnitsSpared [] = Unit {0}
UnitsSpared (By side (Refused why None) ∷ run) = LiesInEnds why × UnitsSpared run
UnitsSpared (_ ∷ run) = UnitsSpared run

-- a run over a faithful network, so far
pub record SoFar {K : Type 0} (p : Parties K) (run : List Done) : Type 0 where
  pub run_is : Run p run
  pub faithful : IsFaithful run
  pub spared : UnitsSpared run

-- and of what is done by one turn
pub record Faithfully (run : List Done) : Type 0 where
  pub faithful : IsFaithful run
  pub spared : UnitsSpared run

pub calm_item : (side : Side) (i : Item) (run : List Done) → IsCalm i → Faithfully run → Faithfully (By side i ∷ run)
calm_item side (Took c m b) run q v = elim q [ ]
calm_item side (TookGuess b) run q v = elim q [ ]
calm_item side (Refused why (Some b)) run q v = elim q [ ]
calm_item side (Refused why None) run q v = record { faithful = v.faithful; spared = (q, v.spared) }
calm_item side i run q v = record { faithful = v.faithful; spared = v.spared }

pub calm_run : (side : Side) (l : List Item) (run : List Done) → AreCalm l → Faithfully run → Faithfully (done_by side l ++ run)
calm_run side [] run q v = v
calm_run side (i ∷ l) run q v = calm_item side i (done_by side l ++ run) q.0 (calm_run side l run q.1 v)

pub calm_after : (side : Side) (l last : List Item) (run : List Done) → AreCalm l → Faithfully (done_by side last ++ run) → Faithfully (done_by side (l ++ last) ++ run)
calm_after side [] last run q v = v
calm_after side (i ∷ l) last run q v = calm_item side i (done_by side (l ++ last) ++ run) q.0 (calm_after side l last run q.1 v)

-- ---- the bytes that are pending

pub record Pending {K : Type 0} (p : Parties K) (side : Side) (h g : List Item) (bytes : List ℕ) : Type 0 where
  pub since : List Item
  pub puts : PutsSince p (peer side) since g bytes
  pub same : messages_taken h ≡ messages_sent since
  pub line : has_line h ≡ has_said since

-- of two beginnings of one list one is a beginning of the other
beginnings : (a b c d : List ℕ) → a ++ b ≡ c ++ d → ((x : List ℕ) × (a ++ x ≡ c)) ⊎ ((x : List ℕ) × (c ++ x ≡ a))
beginnings [] b c d e = inl (c, refl)
beginnings (n ∷ a) b [] d e = inr (n ∷ a, refl)
beginnings (n ∷ a) b (k ∷ c) d e = go (beginnings a b c d rest)
  where
    first_same : n ≡ k
    first_same = cc e

    rest : a ++ b ≡ c ++ d
    rest = cc e

    go : ((x : List ℕ) × (a ++ x ≡ c)) ⊎ ((x : List ℕ) × (c ++ x ≡ a)) → ((x : List ℕ) × ((n ∷ a) ++ x ≡ k ∷ c)) ⊎ ((x : List ℕ) × ((k ∷ c) ++ x ≡ n ∷ a))
    go (inl x) = inl (x.0, cc (first_same, x.1))
    go (inr x) = inr (x.0, cc (first_same, x.1))

same_rest : (a b d : List ℕ) → a ++ b ≡ a ++ d → b ≡ d
same_rest [] b d e = e
same_rest (n ∷ a) b d e = let f : a ++ b ≡ a ++ d = cc e in same_rest a b d f

-- there is one unit, with one outcome
pub record One (unit more wire rest : List ℕ) (o outcome : Outcome) : Type 0 where
  pub rest_is : more ≡ rest
  pub outcome_is : o ≡ outcome

pub one : {K : Type 0} (p : Parties K) (laws : AreLawful p) (st : Stage K) (unit more wire rest : List ℕ) (o outcome : Outcome) → IsUnit p.crypto st unit o → IsUnit p.crypto st wire outcome → unit ++ more ≡ wire ++ rest → One unit more wire rest o outcome
one p laws st unit more wire rest o outcome a b e = go (beginnings unit more wire rest e)
  where
    equal : unit ≡ wire → One unit more wire rest o outcome
    equal f =
        let P : List ℕ → Type 0 = λ w. IsUnit p.crypto st w o in
        record {
          rest_is = same_rest wire more rest (sym (ap (λ w. w ++ more) f) ∙ e);
          outcome_is = unit_outcome p.crypto st wire o outcome laws.sealing (subst P f a) b;
        }

    go : ((x : List ℕ) × (unit ++ x ≡ wire)) ⊎ ((x : List ℕ) × (wire ++ x ≡ unit)) → One unit more wire rest o outcome
    go (inl x) = equal (sym (append-nil unit) ∙ (ap (λ w. unit ++ w) (sym (unit_alone p.crypto st unit x.0 wire o outcome laws.sealing a b x.1)) ∙ x.1))
    go (inr x) = equal (sym x.1 ∙ (ap (λ w. wire ++ w) (unit_alone p.crypto st wire x.0 unit outcome o laws.sealing b a x.1) ∙ append-nil wire))
