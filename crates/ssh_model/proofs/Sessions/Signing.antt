-- What an end signs: the request for authentication that it is asked for.
use Rattle.std.proofs.Common.{◌≡◌, ℕ, Bool, true, List, [], ◌∷◌, ◌++◌, Option, Some, refl, sym, subst, take, ◌∙◌}
use Rattle.ssh_model.specs.declared.side.Side.{Side}
use Rattle.ssh_model.specs.declared.side.Side.TheVariants.{Client}
use Rattle.ssh_model.specs.declared.refusal.Refusal.{Refusal}
use Rattle.ssh_model.specs.Laws.Supplied.{AgreeOnAnswered, AgreeOnSent, AgreeOnTaken, EachSigned, IfSigned, IsSigned, IsSignedOn, SignsNone, SignsSettled}
use Rattle.ssh_model.specs.Laws.Supplied.{Supplied, supplied_by, supplied_of, text_to_sign}
use Rattle.ssh_model.specs.Protocol.Wire.Message.{Msg, Msg.KexEcdhInit, Msg.KexEcdhReply, Msg.UserauthRequest, Method.Publickey}
use Rattle.ssh_model.specs.Protocol.Wire.Outcome.{Outcome}
use Rattle.ssh_model.specs.Protocol.Authentication.Rows as authentication
use Rattle.ssh_model.specs.Protocol.Authentication.Requests.{judge_of}
use Rattle.ssh_model.specs.Protocol.Sessions.Items.{Ask, Ask.AskSign, Item, Item.Asked, Item.Died, Item.Sent, Item.Told, Item.Took}
use Rattle.ssh_model.specs.Protocol.Sessions.Parties.{Parties, user_signature_by}
use Rattle.ssh_model.specs.Protocol.Sessions.Turns as turns
use Rattle.ssh_model.specs.Protocol.Sessions.Turns.{AsksTurn, EndRun, FeedsTurn, IsOpening, OnAsk, OnOutcome, OnPayload, OnUnit, Refuses, Turn}
use Rattle.ssh_model.proofs.Sessions.Own.{AreOwn, own_answer, own_connection_ask, own_transport_ask}
use Rattle.ssh_model.proofs.Sessions.SuppliedParts.{same_exchanges}
use Rattle.ssh_model.proofs.Sessions.Widened.{same_judge}

-- ---- requests with a signature

if_signed : (P Q : (user service algorithm key signature : List ℕ) → Type 0) → ((user service algorithm key signature : List ℕ) →
    P user service algorithm key signature → Q user service algorithm key signature) → (m : Msg) → IfSigned P m → IfSigned Q m
if_signed P Q f (UserauthRequest user service (Publickey algorithm key (Some signature))) x = f user service algorithm key signature x
if_signed P Q f m x = tt

-- what holds of each such request of a turn, and of a history, holds of each after the turn
each_signed : (P Q : (before : List Item) → (user service algorithm key signature : List ℕ) → Type 0) (items h : List Item) →
    ((before : List Item) (user service algorithm key signature : List ℕ) → P before user service algorithm key signature →
    Q (before ++ h) user service algorithm key signature) → EachSigned P items → EachSigned Q h → EachSigned Q (items ++ h)
each_signed P Q [] h f x y = y
each_signed P Q (Sent c m b ∷ items) h f x y = (if_signed (P items) (Q (items ++ h)) (f items) m x.0, each_signed P Q items h f x.1 y)
each_signed P Q (i ∷ items) h f x y = each_signed P Q items h f x y

each_of : (P Q : (before : List Item) → (user service algorithm key signature : List ℕ) → Type 0) (h : List Item) →
    ((before : List Item) (user service algorithm key signature : List ℕ) → P before user service algorithm key signature →
    Q before user service algorithm key signature) → EachSigned P h → EachSigned Q h
each_of P Q [] f x = tt
each_of P Q (Sent c m b ∷ h) f x = (if_signed (P h) (Q h) (f h) m x.0, each_of P Q h f x.1)
each_of P Q (i ∷ h) f x = each_of P Q h f x

abbrev Nothing : (user service algorithm key signature : List ℕ) → Type 0
Nothing user service algorithm key signature = ⊥

nothing_signed : (items : List Item) → AreOwn Nothing items → SignsNone items
unfolding AreOwn
nothing_signed [] o = tt
nothing_signed (Sent c m b ∷ items) o = (o.0, nothing_signed items o.1)
nothing_signed (Told fact ∷ items) o = nothing_signed items o
nothing_signed (Died ∷ items) o = nothing_signed items o
nothing_signed (_ ∷ items) o = absurd o

none_then : (Q : (before : List Item) → (user service algorithm key signature : List ℕ) → Type 0) (items h : List Item) → SignsNone items →
    EachSigned Q h → EachSigned Q (items ++ h)
none_then Q items h x y = each_signed (λ before. Nothing) Q items h (λ before user service algorithm key signature e. absurd e) x y

-- ---- turns that sign nothing

refusal_none : (h : List Item) (why : Refusal) (payload : Option (List ℕ)) (items : List Item) → Refuses h why payload items → SignsNone items
refusal_none h why payload items (turns.Refuses.silently e) = tt
refusal_none h why payload items (turns.Refuses.spent e) = tt
refusal_none h why payload items (turns.Refuses.said r x e n s) = (tt, tt)

pub fed_none : (side : Side) (h : List Item) (cookie secret : List ℕ) (items : List Item) → FeedsTurn side h cookie secret items → SignsNone items
fed_none side h cookie secret items (turns.FeedsTurn.feeds f m) = tt
fed_none side h cookie secret items (turns.FeedsTurn.answers_false f) = tt

module _ {K : Type 0} (p : Parties K) where
  payload_none : (side : Side) (h : List Item) (b : List ℕ) (items : List Item) → OnPayload p side h b items → SignsNone items
  payload_none side h b items (turns.OnPayload.takes {items = l} c m w t s n) =
      none_then (λ before. Nothing) l (Took c m b ∷ []) (nothing_signed l (own_answer p Nothing side h c m l t)) tt
  payload_none side h b items (turns.OnPayload.skips f m) = tt
  payload_none side h b items (turns.OnPayload.unexpected m r) = refusal_none h _ _ items r
  payload_none side h b items (turns.OnPayload.bad_message m f n r) = refusal_none h _ _ items r
  payload_none side h b items (turns.OnPayload.refuses m k t f n c r) = refusal_none h _ _ items r
  payload_none side h b items (turns.OnPayload.spends c m w t s n) = tt

  outcome_none : (side : Side) (h : List Item) (o : Outcome) (items : List Item) → OnOutcome p side h o items → SignsNone items
  outcome_none side h o items (turns.OnOutcome.other_line l) = tt
  outcome_none side h o items (turns.OnOutcome.version_line l) = tt
  outcome_none side h o items (turns.OnOutcome.refused_line k r) = refusal_none h _ _ items r
  outcome_none side h o items (turns.OnOutcome.opened b t) = payload_none side h b items t
  outcome_none side h o items (turns.OnOutcome.refused_packet k r) = refusal_none h _ _ items r

  pub unit_none : (side : Side) (h : List Item) (unit : List ℕ) (items : List Item) → OnUnit p side h unit items → SignsNone items
  unit_none side h unit items (turns.OnUnit.reads o u t) = outcome_none side h o items t
  unit_none side h unit items (turns.OnUnit.dies o u t m) = tt

  pub opening_none : (side : Side) (items : List Item) → IsOpening p side items → SignsNone items
  opening_none side items o = subst (λ (x : List Item). SignsNone x) (sym o.items_are) (tt, tt)

  -- ---- the turn on an ask

  signed_on_ask : (side : Side) (h : List Item) (ask : Ask) (items : List Item) → OnAsk p side h ask items →
      EachSigned (IsSignedOn p h ask) (items ++ (Asked ask ∷ []))
  signed_on_ask side h ask items (turns.OnAsk.of_transport t) =
      none_then (IsSignedOn p h ask) items (Asked ask ∷ []) (nothing_signed items (own_transport_ask p Nothing side h ask items t)) tt
  signed_on_ask side h ask items (turns.OnAsk.of_connection t) =
      none_then (IsSignedOn p h ask) items (Asked ask ∷ []) (nothing_signed items (own_connection_ask p Nothing side h ask items t)) tt
  signed_on_ask side h ask items (turns.OnAsk.of_authentication (authentication.AuthenticationAsk.none u b)) = (tt, tt)
  signed_on_ask side h ask items (turns.OnAsk.of_authentication (authentication.AuthenticationAsk.password u w b)) = (tt, tt)
  signed_on_ask side h ask items (turns.OnAsk.of_authentication (authentication.AuthenticationAsk.probe u n k b)) = (tt, tt)
  signed_on_ask side h ask items (turns.OnAsk.of_authentication (authentication.AuthenticationAsk.sign u n k b)) =
      (record { ask_is = refl; before_is = refl; signed = record { service_is = refl; signature_is = refl } }, tt)

  pub ask_signed : (side : Side) (h : List Item) (ask : Ask) (items : List Item) → AsksTurn p side h ask items → EachSigned (IsSignedOn p h ask) items
  ask_signed side h ask items (turns.AsksTurn.refuses k alive c) = tt
  ask_signed side h ask items (turns.AsksTurn.answers {items = l} alive c o s n) = signed_on_ask side h ask l o
  ask_signed side h ask items (turns.AsksTurn.spends alive c o s n) = tt
  ask_signed side h ask items (turns.AsksTurn.dies alive c o s n) = tt
  ask_signed side h ask items (turns.AsksTurn.is_dead f) = tt

  -- ---- a run

  asked_before : (h : List Item) (ask : Ask) (before : List Item) (user service algorithm key signature : List ℕ) →
      IsSignedOn p h ask before user service algorithm key signature → IsSigned p (before ++ h) user service algorithm key signature
  asked_before h ask before user service algorithm key signature x =
      subst (λ (b : List Item). IsSigned p (b ++ h) user service algorithm key signature) (sym x.before_is)
      (record { service_is = x.signed.service_is; signature_is = x.signed.signature_is })

  turn_signed : (side : Side) (h items : List Item) → Turn p side h items → EachSigned (IsSigned p) h → EachSigned (IsSigned p) (items ++ h)
  turn_signed side h items (turns.Turn.feeds c s t) y = none_then (IsSigned p) items h (fed_none side h c s items t) y
  turn_signed side h items (turns.Turn.asks ask t) y =
      each_signed (IsSignedOn p h ask) (IsSigned p) items h (asked_before h ask) (ask_signed side h ask items t) y
  turn_signed side h items (turns.Turn.reads unit alive t) y = none_then (IsSigned p) items h (unit_none side h unit items t) y

  pub run_signed : (side : Side) (h : List Item) → EndRun p side h → EachSigned (IsSigned p) h
  run_signed side h (turns.EndRun.start o) =
      subst (λ (x : List Item). EachSigned (IsSigned p) x) (sym o.items_are) (tt, tt)
  run_signed side h (turns.EndRun.then_turn {h = b} {items = items} before turn) = turn_signed side b items turn (run_signed side b before)

-- ---- settled texts

abbrev Settled : {K : Type 0} → Parties K → ((user algorithm key text : List ℕ) → Bool) → (before : List Item) →
    (user service algorithm key signature : List ℕ) → Type 0
Settled p settled before user service algorithm key signature = settled user algorithm key (text_to_sign p before user algorithm key) ≡ true

module _ {K : Type 0} (p : Parties K) (settled : (user algorithm key text : List ℕ) → Bool) where
  pub settled_unasked : (items h : List Item) → SignsNone items → SignsSettled p settled h → SignsSettled p settled (items ++ h)
  settled_unasked items h x y = none_then (Settled p settled) items h x y

  settled_on : (h : List Item) (ask : Ask) → ((user algorithm key : List ℕ) → ask ≡ AskSign user algorithm key →
      settled user algorithm key (text_to_sign p h user algorithm key) ≡ true) → (before : List Item)
      (user service algorithm key signature : List ℕ) → IsSignedOn p h ask before user service algorithm key signature →
      Settled p settled (before ++ h) user service algorithm key signature
  settled_on h ask known before user service algorithm key signature x =
      subst (λ (b : List Item). Settled p settled (b ++ h) user service algorithm key signature) (sym x.before_is)
      (known user algorithm key x.ask_is)

  pub settled_asked : (side : Side) (h : List Item) (ask : Ask) (items : List Item) → AsksTurn p side h ask items →
      ((user algorithm key : List ℕ) → ask ≡ AskSign user algorithm key →
      settled user algorithm key (text_to_sign p h user algorithm key) ≡ true) → SignsSettled p settled h → SignsSettled p settled (items ++ h)
  settled_asked side h ask items t known y =
      each_signed (IsSignedOn p h ask) (Settled p settled) items h (settled_on h ask known) (ask_signed p side h ask items t) y

  pub settled_more : (given : Supplied) (other : (user algorithm key text : List ℕ) → Bool) (h : List Item) →
      ((user algorithm key text : List ℕ) → settled user algorithm key text ≡ true → other user algorithm key text ≡ true) →
      SignsSettled p settled h → SignsSettled (supplied_by given p) other h
  settled_more given other h more y = each_of (Settled p settled) (Settled (supplied_by given p) other) h
      (λ before user service algorithm key signature e. rw (same_exchanges p given Client before) (more user algorithm key _ e)) y

  -- ---- another signer

  module _ (signature : (user algorithm key text : List ℕ) → List ℕ) (agrees : (user algorithm key text : List ℕ) →
      settled user algorithm key text ≡ true → user_signature_by p user algorithm key text ≡ take 4096 (signature user algorithm key text)) where
    given : Supplied
    given = record (supplied_of p) { user_signature = signature }

    same_taken : (h : List Item) (m : Msg) → AgreeOnTaken p given h m
    unfolding given
    same_taken h (UserauthRequest user service method) = λ e. same_judge (judge_of p) user method
    same_taken h (KexEcdhInit q) = refl
    same_taken h (KexEcdhReply k q s) = refl
    same_taken h m = tt

    same_sent : (h : List Item) (m : Msg) → IfSigned (Settled p settled h) m → AgreeOnSent p given h m
    unfolding given
    same_sent h (UserauthRequest user service (Publickey algorithm key (Some signed))) e =
        agrees user algorithm key _ e
        ∙ rw (same_exchanges p (record (supplied_of p) { user_signature = signature }) Client h) refl
    same_sent h m e = tt

    same_all : (h : List Item) → SignsSettled p settled h → AgreeOnAnswered p given h
    same_all [] y = tt
    same_all (Took c m b ∷ h) y = (same_taken h m, same_all h y)
    same_all (Sent c m b ∷ h) y = (same_sent h m y.0, same_all h y.1)
    same_all (i ∷ h) y = same_all h y

    pub settled_exchanged : (h : List Item) → SignsSettled p settled h →
        AgreeOnAnswered p (record (supplied_of p) { user_signature = signature }) h
    unfolding given
    settled_exchanged h y = same_all h y
