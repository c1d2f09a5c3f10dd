-- An end puts out its version line first, once, and then packets.
use Rattle.std.proofs.Common.{◌≡◌, ℕ, List, [], ◌∷◌, ◌++◌, inl, inr, refl, sym, subst, Bool, true, false, Option}
use Rattle.ssh_model.specs.declared.side.Side.{Side}
use Rattle.ssh_model.specs.Protocol.Lists.{IsOlder}
use Rattle.ssh_model.specs.declared.refusal.Refusal.{Refusal}
use Rattle.ssh_model.specs.Protocol.Sessions.Parties.{Parties, settings_of}
use Rattle.ssh_model.specs.Protocol.Sessions.Items.{Item, Item.SentLine, Item.Sent}
use Rattle.ssh_model.specs.Protocol.Sessions.Turns.{AsksTurn, FeedsTurn, EndRun, EndRun.start, EndRun.then_turn, OnOutcome, OnOutcome.other_line, OnOutcome.version_line, OnOutcome.refused_line, OnOutcome.refused_packet, OnPayload, OnPayload.takes, OnPayload.skips, OnPayload.unexpected, OnPayload.bad_message, OnUnit, Refuses, Refuses.silently, Refuses.spent, Refuses.said, Turn, Turn.asks, Turn.reads}
use Rattle.ssh_model.specs.Protocol.Wire.Outcome.{Outcome}
use Rattle.ssh_model.proofs.Faithful.Plain.{ArePlain, IsPlain, answer_plain, ask_plain}

-- The version line was sent.
abbrev pub has_said : List Item → Bool
has_said [] = false
has_said (SentLine line ∷ h) = true
has_said (_ ∷ h) = has_said h

abbrev pub AllLined : {K : Type 0} → Parties K → Side → List Item → Type 0
AllLined p side [] = Unit {0}
AllLined p side (SentLine line ∷ h) = (line ≡ (settings_of p side).line) × (has_said h ≡ false) × AllLined p side h
AllLined p side (Sent c m b ∷ h) = (has_said h ≡ true) × AllLined p side h
AllLined p side (_ ∷ h) = AllLined p side h

abbrev IsLineless : Item → Type 0
IsLineless (SentLine line) = ⊥
IsLineless _ = Unit {0}

abbrev AreLineless : List Item → Type 0
AreLineless [] = Unit {0}
AreLineless (i ∷ l) = IsLineless i × AreLineless l

plain_item : (i : Item) → IsPlain i → IsLineless i
plain_item (SentLine line) q = elim q [ ]
plain_item i q = tt

plain_lineless : (l : List Item) → ArePlain l → AreLineless l
plain_lineless [] q = tt
plain_lineless (i ∷ l) q = (plain_item i q.0, plain_lineless l q.1)

lineless_following : (a b : List Item) → AreLineless a → AreLineless b → AreLineless (a ++ b)
lineless_following [] b q r = r
lineless_following (i ∷ a) b q r = (q.0, lineless_following a b q.1 r)

still_said : (i : Item) (h : List Item) → has_said h ≡ true → has_said (i ∷ h) ≡ true
still_said (SentLine line) h e = refl
still_said i h e = e

pub record Lined {K : Type 0} (p : Parties K) (side : Side) (h : List Item) : Type 0 where
  pub said : has_said h ≡ true
  pub lines : AllLined p side h

module _ {K : Type 0} (p : Parties K) (side : Side) where
  add_item : (i : Item) (h : List Item) → IsLineless i → Lined p side h → Lined p side (i ∷ h)
  add_item (SentLine line) h q v = elim q [ ]
  add_item (Sent c m b) h q v = record { said = v.said; lines = (v.said, v.lines) }
  add_item i h q v = record { said = v.said; lines = v.lines }

  add_items : (items h : List Item) → AreLineless items → Lined p side h → Lined p side (items ++ h)
  add_items [] h q v = v
  add_items (i ∷ l) h q v = add_item i (l ++ h) q.0 (add_items l h q.1 v)

  refuses_lineless : (h items : List Item) (why : Refusal) (b : Option (List ℕ)) → Refuses h why b items → AreLineless items
  refuses_lineless h items why b (silently e) = (tt, (tt, tt))
  refuses_lineless h items why b (spent e) = (tt, (tt, tt))
  refuses_lineless h items why b (said r x e f s) = (tt, (tt, (tt, tt)))

  payload_lineless : (h items : List Item) (b : List ℕ) → OnPayload p side h b items → AreLineless items
  payload_lineless h items b (takes {items = l} c m w a s k) = lineless_following l _ (plain_lineless l (answer_plain p side h c m l a)) (tt, tt)
  payload_lineless h items b (skips e m) = (tt, (tt, tt))
  payload_lineless h items b (unexpected m r) = refuses_lineless h items _ _ r
  payload_lineless h items b (bad_message m e f r) = refuses_lineless h items _ _ r
  payload_lineless h items b (OnPayload.refuses m why a e f c r) = refuses_lineless h items _ _ r
  payload_lineless h items b (OnPayload.spends c m w a s k) = (tt, (tt, tt))

  outcome_lineless : (h items : List Item) (o : Outcome) → OnOutcome p side h o items → AreLineless items
  outcome_lineless h items o (other_line text) = (tt, tt)
  outcome_lineless h items o (version_line text) = (tt, tt)
  outcome_lineless h items o (refused_line why r) = refuses_lineless h items _ _ r
  outcome_lineless h items o (OnOutcome.opened b x) = payload_lineless h items b x
  outcome_lineless h items o (refused_packet why r) = refuses_lineless h items _ _ r

  turn_lineless : (h items : List Item) → Turn p side h items → AreLineless items
  turn_lineless h items (Turn.feeds c s (FeedsTurn.feeds k m)) = (tt, tt)
  turn_lineless h items (Turn.feeds c s (FeedsTurn.answers_false e)) = tt
  turn_lineless h items (asks a (AsksTurn.refuses why alive e)) = (tt, (tt, tt))
  turn_lineless h items (asks a (AsksTurn.answers {items = l} alive c o s k)) = lineless_following l _ (plain_lineless l (ask_plain p side h l a o)) (tt, tt)
  turn_lineless h items (asks a (AsksTurn.spends alive c o s k)) = (tt, (tt, (tt, tt)))
  turn_lineless h items (asks a (AsksTurn.dies alive c o s k)) = (tt, tt)
  turn_lineless h items (asks a (AsksTurn.is_dead e)) = tt
  turn_lineless h items (reads unit alive (OnUnit.reads o u x)) = outcome_lineless h items o x
  turn_lineless h items (reads unit alive (OnUnit.dies o u x k)) = (tt, tt)

  pub lined : (h : List Item) → EndRun p side h → Lined p side h
  lined h (start o) = let P : List Item → Type 0 = λ l. Lined p side l in subst P (sym o.items_are) (record { said = refl; lines = (refl, (refl, refl, tt)) })
  lined h (then_turn {h = b} {items = items} before turn) = add_items items b (turn_lineless b items turn) (lined b before)

-- an older part of a history keeps to it as well
pub lined_older : {K : Type 0} (p : Parties K) (side : Side) (before h : List Item) → IsOlder before h → AllLined p side h → AllLined p side before
lined_older {K} p side before [] e f = let P : List Item → Type 0 = λ l. AllLined p side l in subst P (sym e) f
lined_older {K} p side before (i ∷ h) (inl e) f = let P : List Item → Type 0 = λ l. AllLined p side l in subst P (sym e) f
lined_older p side before (SentLine line ∷ h) (inr o) f = lined_older p side before h o f.2
lined_older p side before (Sent c m b ∷ h) (inr o) f = lined_older p side before h o f.1
lined_older p side before (i ∷ h) (inr o) f = lined_older p side before h o f
