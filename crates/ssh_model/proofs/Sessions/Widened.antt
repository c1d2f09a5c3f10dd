-- A client that comes to trust more host keys: what it took, it took from hosts that it trusted.
use Rattle.std.proofs.Common.{◌≡◌, ℕ, Bool, true, false, not, List, [], ◌∷◌, ◌++◌, Option, Some, None, refl, sym, subst, append_assoc}
use Rattle.ssh_model.specs.declared.side.Side.{Side}
use Rattle.ssh_model.specs.declared.side.Side.TheVariants.{Client}
use Rattle.ssh_model.specs.declared.refusal.Refusal.{Refusal}
use Rattle.ssh_model.specs.declared.refusal.Refusal.TheVariants.{BadHost, BadPoint}
use Rattle.ssh_model.specs.Laws.Supplied.{AgreeOnAnswered, AgreeOnSent, AgreeOnTaken, Supplied, TakesNone, supplied_of}
use Rattle.ssh_model.specs.Laws.Verdicts.{AgreeOn, AgreeOnSignature}
use Rattle.ssh_model.specs.Protocol.Wire.Message.{Msg, Msg.KexEcdhInit, Msg.KexEcdhReply, Msg.UserauthRequest, Method, Method.NoMethod, Method.Other}
use Rattle.ssh_model.specs.Protocol.Wire.Message.{Method.Password, Method.Publickey}
use Rattle.ssh_model.specs.Protocol.Wire.Outcome.{Outcome}
use Rattle.ssh_model.specs.Protocol.Authentication.Requests.{Judge, judge_of}
use Rattle.ssh_model.specs.Protocol.Authentication.Rows as authentication
use Rattle.ssh_model.specs.Protocol.Channels.Connection as connection
use Rattle.ssh_model.specs.Protocol.Sessions.Items.{Ask, Item, Item.Asked, Item.Died, Item.Sent, Item.Told, Item.Took, Item.TookGuess, has_died}
use Rattle.ssh_model.specs.Protocol.Sessions.Parties.{Parties}
use Rattle.ssh_model.specs.Protocol.Sessions.Refusals.{Check, Check.RefusedWhere, first_refusal}
use Rattle.ssh_model.specs.Protocol.Sessions.Transport.{is_point, is_trusted}
use Rattle.ssh_model.specs.Protocol.Sessions.Turns as turns
use Rattle.ssh_model.specs.Protocol.Sessions.Turns.{AsksTurn, EndRun, FeedsTurn, IsAcceptable, IsOpening, OnOutcome, OnPayload, OnUnit, Refuses, Turn}
use Rattle.ssh_model.proofs.Sessions.SuppliedParts.{same_exchanges}
use Rattle.ssh_model.proofs.Sessions.Own.{AreOwn, own_answer, own_ask}

-- ---- whatever an end signs

abbrev Any : (user service algorithm key signature : List ℕ) → Type 0
Any user service algorithm key signature = Unit {0}

any : (user service algorithm key signature : List ℕ) → Any user service algorithm key signature
any user service algorithm key signature = tt

-- ---- what an ask takes

own_take_none : (items : List Item) → AreOwn Any items → TakesNone items
unfolding AreOwn
own_take_none [] o = tt
own_take_none (Sent c m b ∷ items) o = own_take_none items o.1
own_take_none (Told fact ∷ items) o = own_take_none items o
own_take_none (Died ∷ items) o = own_take_none items o
own_take_none (_ ∷ items) o = absurd o

none_before : (ask : Ask) (items : List Item) → TakesNone items → TakesNone (items ++ (Asked ask ∷ []))
none_before ask [] t = tt
none_before ask (Took c m b ∷ items) t = absurd t
none_before ask (TookGuess b ∷ items) t = absurd t
none_before ask (i ∷ items) t = none_before ask items t

pub asks_take_none : {K : Type 0} (p : Parties K) (side : Side) (h : List Item) (ask : Ask) (items : List Item) →
    AsksTurn p side h ask items → TakesNone items
asks_take_none p side h ask items (turns.AsksTurn.refuses k alive c) = tt
asks_take_none p side h ask items (turns.AsksTurn.answers {items = l} alive c o s n) =
    none_before ask l (own_take_none l (own_ask p Any any side h ask l o))
asks_take_none p side h ask items (turns.AsksTurn.spends alive c o s n) = tt
asks_take_none p side h ask items (turns.AsksTurn.dies alive c o s n) = tt
asks_take_none p side h ask items (turns.AsksTurn.is_dead f) = tt

-- ---- a run

same_signature : (one : Judge) (algorithm key : List ℕ) (signature : Option (List ℕ)) → AgreeOnSignature one one algorithm key signature
same_signature one algorithm key None = tt
same_signature one algorithm key (Some signature) = λ text. refl

pub same_judge : (one : Judge) (user : List ℕ) (method : Method) → AgreeOn one one user method
same_judge one user NoMethod = refl
same_judge one user (Password word None) = refl
same_judge one user (Password word (Some new)) = tt
same_judge one user (Publickey algorithm key signature) = (refl, λ known. same_signature one algorithm key signature)
same_judge one user (Other name rest) = tt

no_refusal : {A : Type 0} (h : List Item) (why : Refusal) (payload : Option (List ℕ)) (items : List Item) → Refuses h why payload items →
    has_died items ≡ false → A
no_refusal h why payload items (turns.Refuses.silently e) f = absurd (cc f)
no_refusal h why payload items (turns.Refuses.spent e) f = absurd (cc f)
no_refusal h why payload items (turns.Refuses.said r x e n s) f = absurd (cc f)

passed : (a b : Bool) (rest : List (Check Refusal)) →
    first_refusal (RefusedWhere (not a) BadPoint ∷ RefusedWhere (not b) BadHost ∷ rest) ≡ None → b ≡ true
passed a true rest e = refl
passed true false rest e = absurd (cc e)
passed false false rest e = absurd (cc e)

died_before : (items h : List Item) → has_died (items ++ h) ≡ false → has_died h ≡ false
died_before [] h e = e
died_before (Died ∷ items) h e = absurd (cc e)
died_before (i ∷ items) h e = died_before items h e

died_then : (items h : List Item) → has_died (items ++ h) ≡ false → has_died items ≡ false
died_then [] h e = refl
died_then (Died ∷ items) h e = absurd (cc e)
died_then (i ∷ items) h e = died_then items h e

module _ {K : Type 0} (p : Parties K) (trusts : List ℕ → List ℕ → List ℕ → List ℕ → Bool)
    (wider : (algorithm key hash signature : List ℕ) → p.trusts algorithm key hash signature ≡ true → trusts algorithm key hash signature ≡ true) where
  given : Supplied
  given = record (supplied_of p) { trusts = trusts }

  sent_same : (h : List Item) (m : Msg) → AgreeOnSent p given h m
  unfolding given
  sent_same h (UserauthRequest user service (Publickey algorithm key (Some signature))) = rw (same_exchanges p given Client h) refl
  sent_same h m = tt

  own_agrees : (items h : List Item) → AreOwn Any items → AgreeOnAnswered p given h → AgreeOnAnswered p given (items ++ h)
  unfolding AreOwn
  own_agrees [] h o a = a
  own_agrees (Sent c m b ∷ items) h o a = (sent_same (items ++ h) m, own_agrees items h o.1 a)
  own_agrees (Told fact ∷ items) h o a = own_agrees items h o a
  own_agrees (Died ∷ items) h o a = own_agrees items h o a
  own_agrees (_ ∷ items) h o a = absurd o

  taken_same : (side : Side) (h : List Item) (m : Msg) (b : List ℕ) → IsAcceptable p side h m b → AgreeOnTaken p given h m
  unfolding given
  taken_same side h (UserauthRequest user service method) b w = λ e. same_judge (judge_of p) user method
  taken_same side h (KexEcdhInit q) b w = refl
  taken_same side h (KexEcdhReply k q s) b w =
      let trusted = passed (is_point p Client h q) (is_trusted p h k q s) (authentication.authentication_checks p side h (KexEcdhReply k q s) ++ connection.connection_checks side h (KexEcdhReply k q s)) w.not_refused in
      rw (trusted, wider _ _ _ _ trusted) refl
  taken_same side h m b w = tt

  on_payload : (side : Side) (h : List Item) (b : List ℕ) (items : List Item) → has_died items ≡ false → AgreeOnAnswered p given h →
      OnPayload p side h b items → AgreeOnAnswered p given (items ++ h)
  on_payload side h b items e a (turns.OnPayload.takes {items = l} c m w t s n) =
      subst (λ (x : List Item). AgreeOnAnswered p given x) (sym (append_assoc l (Took c m b ∷ []) h))
      (own_agrees l (Took c m b ∷ h) (own_answer p Any side h c m l t) (taken_same side h m b w, a))
  on_payload side h b items e a (turns.OnPayload.skips f m) = a
  on_payload side h b items e a (turns.OnPayload.unexpected m r) = no_refusal h _ _ items r e
  on_payload side h b items e a (turns.OnPayload.bad_message m f n r) = no_refusal h _ _ items r e
  on_payload side h b items e a (turns.OnPayload.refuses m k t f n c r) = no_refusal h _ _ items r e
  on_payload side h b items e a (turns.OnPayload.spends c m w t s n) = absurd (cc e)

  on_outcome : (side : Side) (h : List Item) (o : Outcome) (items : List Item) → has_died items ≡ false → AgreeOnAnswered p given h →
      OnOutcome p side h o items → AgreeOnAnswered p given (items ++ h)
  on_outcome side h o items e a (turns.OnOutcome.other_line l) = a
  on_outcome side h o items e a (turns.OnOutcome.version_line l) = a
  on_outcome side h o items e a (turns.OnOutcome.refused_line k r) = no_refusal h _ _ items r e
  on_outcome side h o items e a (turns.OnOutcome.opened b t) = on_payload side h b items e a t
  on_outcome side h o items e a (turns.OnOutcome.refused_packet k r) = no_refusal h _ _ items r e

  on_asks : (side : Side) (h : List Item) (ask : Ask) (items : List Item) → has_died items ≡ false → AgreeOnAnswered p given h →
      AsksTurn p side h ask items → AgreeOnAnswered p given (items ++ h)
  on_asks side h ask items e a (turns.AsksTurn.refuses k alive c) = a
  on_asks side h ask items e a (turns.AsksTurn.answers {items = l} alive c o s n) =
      subst (λ (x : List Item). AgreeOnAnswered p given x) (sym (append_assoc l (Asked ask ∷ []) h))
      (own_agrees l (Asked ask ∷ h) (own_ask p Any any side h ask l o) a)
  on_asks side h ask items e a (turns.AsksTurn.spends alive c o s n) = absurd (cc e)
  on_asks side h ask items e a (turns.AsksTurn.dies alive c o s n) = absurd (cc e)
  on_asks side h ask items e a (turns.AsksTurn.is_dead f) = a

  on_turn : (side : Side) (h items : List Item) → has_died items ≡ false → AgreeOnAnswered p given h → Turn p side h items →
      AgreeOnAnswered p given (items ++ h)
  on_turn side h items e a (turns.Turn.feeds c s (turns.FeedsTurn.feeds f m)) = a
  on_turn side h items e a (turns.Turn.feeds c s (turns.FeedsTurn.answers_false f)) = a
  on_turn side h items e a (turns.Turn.asks ask t) = on_asks side h ask items e a t
  on_turn side h items e a (turns.Turn.reads unit alive (turns.OnUnit.reads o u t)) = on_outcome side h o items e a t
  on_turn side h items e a (turns.Turn.reads unit alive (turns.OnUnit.dies o u t m)) = absurd (cc e)

  on_opening : (side : Side) (items : List Item) → IsOpening p side items → AgreeOnAnswered p given items
  on_opening side items o = subst (λ (x : List Item). AgreeOnAnswered p given x) (sym o.items_are) (tt, tt)

  pub widened : (side : Side) (h : List Item) → EndRun p side h → has_died h ≡ false → AgreeOnAnswered p (record (supplied_of p) { trusts = trusts }) h
  unfolding given
  widened side h (turns.EndRun.start o) e = on_opening side h o
  widened side h (turns.EndRun.then_turn {h = b} {items = items} before turn) e =
      on_turn side b items (died_then items b e) (widened side b before (died_before items b e)) turn
