-- When an end dies, and what it says of it.
use Rattle.std.proofs.Common.{◌≡◌, ℕ, ◌<◌, ◌^◌, ◌-◌, Bool, true, false, not, ◌&&◌, nat_lt, List, [], ◌∷◌, ◌++◌, length, map, refl, ap, arith, Option, Some, None, lt-ltb}
use Rattle.ssh_model.specs.declared.side.Side.{Side}
use Rattle.ssh_model.specs.Protocol.Wire.Message.{Msg.Disconnect}
use Rattle.ssh_model.specs.Protocol.Sessions.Parties.{Parties}
use Rattle.ssh_model.specs.declared.refusal.Refusal.{Refusal}
use Rattle.ssh_model.specs.declared.refusal.Refusal.TheVariants.{NumberSpent}
use Rattle.ssh_model.specs.Protocol.Sessions.Refusals.{first_refusal, refusal_name, refusal_reason}
use Rattle.ssh_model.specs.Protocol.Sessions.Items.{Ask, Item, Item.Asked, Item.Sent, Item.Took, Item.Refused, Item.Died, has_died, sent}
use Rattle.ssh_model.specs.Protocol.Sessions.Epochs.{count}
use Rattle.ssh_model.specs.Protocol.KeyExchange.Exchanges.{fed}
use Rattle.ssh_model.specs.Protocol.Sessions.Phases.{has_material}
use Rattle.ssh_model.specs.Protocol.Wire.Outcome.{Outcome}
use Rattle.ssh_model.specs.Protocol.Sessions.Transport.{TransportAsk.service, TransportAsk.rekey, TransportAsk.disconnect}
use Rattle.ssh_model.specs.Protocol.Authentication.Rows.{AuthenticationAsk.none, AuthenticationAsk.password, AuthenticationAsk.probe, AuthenticationAsk.sign}
use Rattle.ssh_model.specs.Protocol.Channels.Connection.{ConnectionAsk.opens, ConnectionAsk.confirm, ConnectionAsk.refuse, ConnectionAsk.sends, ConnectionAsk.sends_extended, ConnectionAsk.adjust, ConnectionAsk.eof, ConnectionAsk.close, ConnectionAsk.request, ConnectionAsk.reply_yes, ConnectionAsk.reply_no, ConnectionAsk.global, ConnectionAsk.global_yes, ConnectionAsk.global_no}
use Rattle.ssh_model.specs.Protocol.Sessions.Turns.{AreNumbered, Refuses, Refuses.silently, Refuses.spent, Refuses.said, OnPayload, OnPayload.takes, OnPayload.skips, OnPayload.unexpected, OnPayload.bad_message, OnOutcome, OnOutcome.other_line, OnOutcome.version_line, OnOutcome.refused_line, OnOutcome.opened, OnOutcome.refused_packet, OnUnit, OnUnit.reads, ask_checks, OnAsk, OnAsk.of_transport, OnAsk.of_authentication, OnAsk.of_connection, AsksTurn, AsksTurn.answers, AsksTurn.is_dead, can_feed}
use Rattle.ssh_model.specs.Laws.Turns.{DiesAt, shown}

-- ---- a death alone

abbrev first_item : Item → List Item → Item
first_item other [] = other
first_item other (i ∷ l) = i

pub two_or_more : (items : List Item) (i : Item) → items ++ i ∷ [] ≡ Died ∷ [] → i ≡ Died
two_or_more [] i e = ap (first_item i) e
two_or_more (j ∷ []) i e = absurd (cc e)
two_or_more (j ∷ k ∷ items) i e = absurd (cc e)

refuses_more : (h items : List Item) (why : Refusal) (payload : Option (List ℕ)) → Refuses h why payload items → items ≡ Died ∷ [] → ⊥
refuses_more h items why payload (silently e) f = cc f
refuses_more h items why payload (spent e) f = cc f
refuses_more h items why payload (said r x e n s) f = cc f

module _ {K : Type 0} (p : Parties K) where
  payload_more : (side : Side) (h items : List Item) (payload : List ℕ) → OnPayload p side h payload items → items ≡ Died ∷ [] → ⊥
  payload_more side h items payload (takes {items = l} c m w a s k) f = let e = two_or_more l (Took c m payload) f in cc e
  payload_more side h items payload (skips e m) f = cc f
  payload_more side h items payload (unexpected m r) f = refuses_more h items _ _ r f
  payload_more side h items payload (bad_message m e n r) f = refuses_more h items _ _ r f
  payload_more side h items payload (OnPayload.refuses m why a e n c r) f = refuses_more h items why _ r f
  payload_more side h items payload (OnPayload.spends c m w a s k) f = cc f

  outcome_more : (side : Side) (h items : List Item) (outcome : Outcome) → OnOutcome p side h outcome items → items ≡ Died ∷ [] → ⊥
  outcome_more side h items outcome (other_line line) f = cc f
  outcome_more side h items outcome (version_line line) f = cc f
  outcome_more side h items outcome (refused_line why r) f = refuses_more h items why _ r f
  outcome_more side h items outcome (opened payload a) f = payload_more side h items payload a f
  outcome_more side h items outcome (refused_packet why r) f = refuses_more h items why _ r f

  unit_dies : (side : Side) (h items : List Item) (unit : List ℕ) → OnUnit p side h unit items → items ≡ Died ∷ [] → DiesAt p side h unit
  unit_dies side h items unit (reads outcome is_unit a) f = absurd (outcome_more side h items outcome a f)
  unit_dies side h items unit (OnUnit.dies {items = l} outcome is_unit a memory) f = record { items = l; turn = reads outcome is_unit a; memory = memory }

  pub dies_at_unit : (side : Side) (h : List Item) (unit : List ℕ) → OnUnit p side h unit (Died ∷ []) → DiesAt p side h unit
  dies_at_unit side h unit turn = unit_dies side h _ unit turn refl

  ask_dies : (side : Side) (h items : List Item) (ask : Ask) → AsksTurn p side h ask items → items ≡ Died ∷ [] → first_refusal (ask_checks p side h ask) ≡ None
  ask_dies side h items ask (AsksTurn.refuses why live e) f = absurd (cc f)
  ask_dies side h items ask (answers live e o s k) f = e
  ask_dies side h items ask (AsksTurn.spends live e o s k) f = e
  ask_dies side h items ask (AsksTurn.dies live e o s k) f = e
  ask_dies side h items ask (is_dead e) f = absurd (cc f)

  pub dies_at_ask : (side : Side) (h : List Item) (ask : Ask) → AsksTurn p side h ask (Died ∷ []) → first_refusal (ask_checks p side h ask) ≡ None
  dies_at_ask side h ask turn = ask_dies side h _ ask turn refl

-- ---- what is said of a refusal

pub refused_silently : (h items : List Item) (why : Refusal) (payload : Option (List ℕ)) → refusal_reason why ≡ None → Refuses h why payload items → items ≡ Died ∷ Refused why payload ∷ []
refused_silently h items why payload e (silently f) = refl
refused_silently h items why payload e (spent f) = refl
refused_silently h items why payload e (said r x f n s) = absurd (cc (e, f))

pub refused_when_spent : (h items : List Item) (why : Refusal) (payload : Option (List ℕ)) → count (sent h) ≡ 2 ^ 32 → Refuses h why payload items → items ≡ Died ∷ Refused why payload ∷ []
refused_when_spent h items why payload e (silently f) = refl
refused_when_spent h items why payload e (spent f) = refl
refused_when_spent h items why payload e (said r x f n s) = absurd (omega (arith, e, n))

reason_is : (a : Option ℕ) (r x : ℕ) → a ≡ Some r → a ≡ Some x → x ≡ r
reason_is None r x e f = absurd (cc e)
reason_is (Some a) r x e f = cc (e, f)

pub refused_aloud : (h items : List Item) (why : Refusal) (reason : ℕ) (payload : Option (List ℕ)) → refusal_reason why ≡ Some reason → count (sent h) < 2 ^ 32 → Refuses h why payload items
    → map shown items ≡ Died ∷ Sent None (Disconnect reason (refusal_name why) []) [] ∷ Refused why payload ∷ []
refused_aloud h items why reason payload e n (silently f) = absurd (cc (e, f))
refused_aloud h items why reason payload e n (spent f) = absurd (omega (arith, f, n))
refused_aloud h items why reason payload e n (said r x f m s) = rw (reason_is (refusal_reason why) reason r e f) refl

-- ---- spent numbers

module _ {K : Type 0} (p : Parties K) where
  -- every answer to an ask sends something
  needs_number : (side : Side) (h items : List Item) (ask : Ask) → OnAsk p side h ask items → AreNumbered items (Asked ask ∷ h) → count (sent h) < 2 ^ 32
  needs_number side h items ask (of_transport (service x)) numbered = numbered.0
  needs_number side h items ask (of_authentication (none x y)) numbered = numbered.0
  needs_number side h items ask (of_authentication (password x y z)) numbered = numbered.0
  needs_number side h items ask (of_authentication (probe x y z b)) numbered = numbered.0
  needs_number side h items ask (of_authentication (sign x y z b)) numbered = numbered.0
  needs_number side h items ask (of_transport (rekey b)) numbered = numbered.0
  needs_number side h items ask (of_transport (disconnect x b)) numbered = numbered.0
  needs_number side h items ask (of_connection (opens x k w m r b f)) numbered = numbered.0
  needs_number side h items ask (of_connection (confirm x w m r b)) numbered = numbered.0
  needs_number side h items ask (of_connection (refuse x r b)) numbered = numbered.0
  needs_number side h items ask (of_connection (sends x y b)) numbered = numbered.0
  needs_number side h items ask (of_connection (sends_extended x k y b)) numbered = numbered.0
  needs_number side h items ask (of_connection (adjust x n b)) numbered = numbered.0
  needs_number side h items ask (of_connection (eof x b)) numbered = numbered.0
  needs_number side h items ask (of_connection (close x b)) numbered = numbered.0
  needs_number side h items ask (of_connection (request x n w r b)) numbered = numbered.0
  needs_number side h items ask (of_connection (reply_yes x b)) numbered = numbered.0
  needs_number side h items ask (of_connection (reply_no x b)) numbered = numbered.0
  needs_number side h items ask (of_connection (global n w r b)) numbered = numbered.0
  needs_number side h items ask (of_connection (global_yes r b)) numbered = numbered.0
  needs_number side h items ask (of_connection (global_no r b)) numbered = numbered.0

  spent_then : (side : Side) (h items : List Item) (ask : Ask) → AsksTurn p side h ask items → has_died h ≡ false → first_refusal (ask_checks p side h ask) ≡ None → count (sent h) ≡ 2 ^ 32
      → items ≡ Died ∷ Refused NumberSpent None ∷ Asked ask ∷ []
  spent_then side h items ask (AsksTurn.refuses why live e) f c n = absurd (cc (e, c))
  spent_then side h items ask (answers live e o s k) f c n = absurd (omega (arith, needs_number side h _ ask o k, n))
  spent_then side h items ask (AsksTurn.spends live e o s k) f c n = refl
  spent_then side h items ask (AsksTurn.dies live e o s k) f c n = absurd (omega (arith, needs_number side h _ ask o k, n))
  spent_then side h items ask (is_dead e) f c n = absurd (cc (e, f))

  pub asked_when_spent : (side : Side) (h items : List Item) (ask : Ask) → has_died h ≡ false → first_refusal (ask_checks p side h ask) ≡ None → count (sent h) ≡ 2 ^ 32 → AsksTurn p side h ask items
      → items ≡ Died ∷ Refused NumberSpent None ∷ Asked ask ∷ []
  asked_when_spent side h items ask f c n turn = spent_then side h items ask turn f c n

-- ---- feeding

pub feeds_one : (h : List Item) → has_died h ≡ false → has_material h ≡ false → length (fed h) < 2 ^ 32 - 1 → can_feed h ≡ true
feeds_one h live e n = rw (live, e, lt-ltb (length (fed h)) (2 ^ 32 - 1) n) refl

pub keeps_one : (h : List Item) → has_material h ≡ true → can_feed h ≡ false
keeps_one h e = go (has_died h)
  where
    go : (t : Bool) → (not t && not (has_material h) && nat_lt (length (fed h)) (2 ^ 32 - 1)) ≡ false
    go true = refl
    go false = rw e refl

pub most_are_fed : (h : List Item) → length (fed h) ≡ 2 ^ 32 - 1 → can_feed h ≡ false
most_are_fed h e = go (has_died h) (has_material h)
  where
    none_left : nat_lt (length (fed h)) (2 ^ 32 - 1) ≡ false
    none_left = rw e refl

    go : (t u : Bool) → (not t && not u && nat_lt (length (fed h)) (2 ^ 32 - 1)) ≡ false
    go true u = refl
    go false true = refl
    go false false = none_left
