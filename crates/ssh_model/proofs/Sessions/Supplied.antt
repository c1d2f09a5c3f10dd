-- A run with other supplied parts: each turn of a live end is one by both, where they agree on what it took and sent.
use Rattle.std.proofs.Common.{◌≡◌, ◌&&◌, ℕ, Bool, false, true, not, List, [], ◌∷◌, ◌++◌, Option, Some, None, codes, length, nat_le, refl, ap, sym, ◌∙◌}
use Rattle.ssh_model.specs.declared.side.Side.{Side}
use Rattle.ssh_model.specs.declared.side.Side.TheVariants.{Client, Server}
use Rattle.ssh_model.specs.Protocol.Wire.Message.{Msg.KexInit, Msg.KexEcdhInit, Msg.KexEcdhReply, Msg.ServiceRequest, Msg.ServiceAccept}
use Rattle.ssh_model.specs.Protocol.Wire.Message.{Msg, Msg.UserauthRequest, Method, Method.NoMethod, Method.Password, Method.Publickey}
use Rattle.ssh_model.specs.Protocol.Wire.Message.{Method.Other}
use Rattle.ssh_model.specs.Protocol.Wire.Outcome.{Outcome}
use Rattle.ssh_model.specs.declared.refusal.Refusal.{Refusal}
use Rattle.ssh_model.specs.Protocol.Sessions.Refusals.{Check.RefusedWhere, first_refusal}
use Rattle.ssh_model.specs.declared.refusal.Refusal.TheVariants.{BadHost, BadPoint}
use Rattle.ssh_model.specs.Protocol.Sessions.Parties.{Parties, AreLawful, host_signature_by}
use Rattle.ssh_model.specs.Protocol.Sessions.Items.{Ask, Item, Item.Asked, Item.Sent, Item.Took, Item.Died, has_died, sent}
use Rattle.ssh_model.specs.Protocol.Sessions.AnyLayers as layers
use Rattle.ssh_model.specs.Protocol.Sessions.Epochs.{epoch}
use Rattle.ssh_model.specs.Protocol.KeyExchange.Exchanges.{choice, exchanges, session_id}
use Rattle.ssh_model.specs.Protocol.Sessions.Transport.{hash_to_sign, is_point, transport_checks}
use Rattle.ssh_model.specs.Protocol.Authentication.Rows.{user_signature_now}
use Rattle.ssh_model.specs.Protocol.Authentication.Requests.{Judge, judge_of, accepts, approves, fails, is_accepted}
use Rattle.ssh_model.specs.Protocol.Bounds.{longest_algorithm_name, longest_user_key}
use Rattle.ssh_model.specs.Protocol.Authentication.Requests.{is_configured, is_for_connection, is_good_probe, is_failing, signed_text}
use Rattle.ssh_model.specs.Protocol.Authentication.Rows.{AuthenticationAnswer, AuthenticationAnswer.request_too_late}
use Rattle.ssh_model.specs.Protocol.Authentication.Rows.{AuthenticationAnswer.request_accepted, AuthenticationAnswer.request_probed}
use Rattle.ssh_model.specs.Protocol.Authentication.Rows.{AuthenticationAnswer.request_failed, AuthenticationAnswer.failure}
use Rattle.ssh_model.specs.Protocol.Authentication.Rows.{AuthenticationAnswer.success, AuthenticationAnswer.banner}
use Rattle.ssh_model.specs.Protocol.Authentication.Rows.{AuthenticationAnswer.key_ok, AuthenticationAsk, AuthenticationAsk.none}
use Rattle.ssh_model.specs.Protocol.Authentication.Rows.{AuthenticationAsk.password, AuthenticationAsk.probe, AuthenticationAsk.sign}
use Rattle.ssh_model.specs.Protocol.Authentication.Rows.{authentication_checks}
use Rattle.ssh_model.specs.Protocol.Sessions.Transport.{IsAnnounced, IsAnnounced.extensions, IsAnnounced.nothing, TransportAnswer}
use Rattle.ssh_model.specs.Protocol.Sessions.Transport.{TransportAnswer.disconnect, TransportAnswer.ignore, TransportAnswer.unimplemented}
use Rattle.ssh_model.specs.Protocol.Sessions.Transport.{TransportAnswer.debug, TransportAnswer.unknown, TransportAnswer.service_request}
use Rattle.ssh_model.specs.Protocol.Sessions.Transport.{TransportAnswer.service_accept, TransportAnswer.extensions as got_extensions}
use Rattle.ssh_model.specs.Protocol.Sessions.Transport.{TransportAnswer.kexinit_at_server, TransportAnswer.kexinit_at_client}
use Rattle.ssh_model.specs.Protocol.Sessions.Transport.{TransportAnswer.answered_at_server, TransportAnswer.answered_at_client}
use Rattle.ssh_model.specs.Protocol.Sessions.Transport.{TransportAnswer.newkeys, CompletingAnswer, CompletingAnswer.init}
use Rattle.ssh_model.specs.Protocol.Sessions.Transport.{CompletingAnswer.reply, TransportAsk, TransportAsk.service as asks_service}
use Rattle.ssh_model.specs.Protocol.Sessions.Transport.{TransportAsk.rekey, TransportAsk.disconnect as disconnecting}
use Rattle.ssh_model.specs.Protocol.Sessions.Turns.{Answer, Answer.of_transport, Answer.of_completion, Answer.of_authentication}
use Rattle.ssh_model.specs.Protocol.Sessions.Turns.{Answer.of_connection, AsksTurn, AsksTurn.refuses as refuses_ask, AsksTurn.answers}
use Rattle.ssh_model.specs.Protocol.Sessions.Turns.{AsksTurn.spends as spends_ask, AsksTurn.dies as dies_asked, AsksTurn.is_dead, EndRun}
use Rattle.ssh_model.specs.Protocol.Sessions.Turns.{EndRun.start, EndRun.then_turn, IsOpening, OnAsk}
use Rattle.ssh_model.specs.Protocol.Sessions.Turns.{OnAsk.of_transport as asks_transport, OnAsk.of_authentication as asks_authentication}
use Rattle.ssh_model.specs.Protocol.Sessions.Turns.{OnAsk.of_connection as asks_connection, OnOutcome, OnOutcome.other_line}
use Rattle.ssh_model.specs.Protocol.Sessions.Turns.{OnOutcome.version_line, OnOutcome.refused_line, OnOutcome.opened}
use Rattle.ssh_model.specs.Protocol.Sessions.Turns.{OnOutcome.refused_packet, OnPayload, OnPayload.takes, OnPayload.skips}
use Rattle.ssh_model.specs.Protocol.Sessions.Turns.{OnPayload.unexpected, OnPayload.bad_message, OnPayload.refuses, OnPayload.spends}
use Rattle.ssh_model.specs.Protocol.Sessions.Turns.{OnUnit, OnUnit.reads, OnUnit.dies, Refuses, Refuses.silently, Refuses.spent}
use Rattle.ssh_model.specs.Protocol.Sessions.Turns.{Refuses.said, Turn, Turn.feeds, Turn.asks, Turn.reads as reads_unit, IsAcceptable}
use Rattle.ssh_model.specs.Protocol.Sessions.Turns.{answer_checks, number_of}
use Rattle.ssh_model.specs.State.TransportLayer.Summary as transport_layer
use Rattle.ssh_model.specs.State.TransportLayer.Kept.{Transport}
use Rattle.ssh_model.specs.State.TransportLayer.View.{View, view}
use Rattle.ssh_model.specs.State.End.State.{EndState}
use Rattle.ssh_model.specs.State.End.Summary.{EndSumsUp}
use Rattle.ssh_model.specs.Laws.Verdicts.{AgreeOn}
use Rattle.ssh_model.specs.Laws.Supplied.{AgreeOnAnswered, AgreeOnTaken, Supplied, is_judged, supplied_by, supplied_of}
use Rattle.ssh_model.proofs.Sessions.SuppliedParts.{same_phase, same_exchanges, same_stage, same_may_take, same_ask_checks, same_view}

-- ---- lists of items

-- An end that is alive after these items was alive before them, and died at none of them.
alive_before : (items h : List Item) → has_died (items ++ h) ≡ false → has_died h ≡ false
alive_before [] h e = e
alive_before (Died ∷ items) h e = absurd (cc e)
alive_before (i ∷ items) h e = alive_before items h e

alive_then : (items h : List Item) → has_died (items ++ h) ≡ false → has_died items ≡ false
alive_then [] h e = refl
alive_then (Died ∷ items) h e = absurd (cc e)
alive_then (i ∷ items) h e = alive_then items h e

-- So too for what both agree on.
agree_before : {K : Type 0} (p : Parties K) (given : Supplied) (items h : List Item) → AgreeOnAnswered p given (items ++ h) → AgreeOnAnswered p given h
agree_before p given [] h a = a
agree_before p given (Took c m b ∷ items) h a = agree_before p given items h a.1
agree_before p given (Sent c m b ∷ items) h a = agree_before p given items h a.1
agree_before p given (i ∷ items) h a = agree_before p given items h a

-- They agree on the message that was taken before these items.
agree_on : {K : Type 0} (p : Parties K) (given : Supplied) (items h : List Item) (c : Option ℕ) (m : Msg) (b : List ℕ) →
    AgreeOnAnswered p given ((items ++ (Took c m b ∷ [])) ++ h) → AgreeOnTaken p given h m
agree_on p given [] h c m b a = a.0
agree_on p given (Took d n e ∷ items) h c m b a = agree_on p given items h c m b a.1
agree_on p given (Sent d n e ∷ items) h c m b a = agree_on p given items h c m b a.1
agree_on p given (i ∷ items) h c m b a = agree_on p given items h c m b a

-- An end that refuses its peer dies.
no_refusal : {A : Type 0} (h : List Item) (why : Refusal) (payload : Option (List ℕ)) (items : List Item) → Refuses h why payload items →
    has_died items ≡ false → A
no_refusal h why payload items (silently e) f = absurd (cc f)
no_refusal h why payload items (spent e) f = absurd (cc f)
no_refusal h why payload items (said r x e n s) f = absurd (cc f)

-- ---- one request

-- Both have the same value where the first ones are true.
admitted : (f x y : Bool) → (f ≡ true → x ≡ y) → (f && y) ≡ (f && x)
admitted true x y a = sym (a refl)
admitted false x y a = refl

by_password : (f c x y : Bool) → ((f && c) ≡ true → x ≡ y) → (f && (c && y)) ≡ (f && (c && x))
by_password true c x y a = admitted c x y a
by_password false c x y a = refl

by_key : (f c m n x y : Bool) → ((f && c && m && n) ≡ true → x ≡ y) → (f && c && (m && n && y)) ≡ (f && c && (m && n && x))
by_key true true true n x y a = admitted n x y a
by_key true true false n x y a = refl
by_key true false m n x y a = refl
by_key false c m n x y a = refl

by_signature : (f c m n x y s t : Bool) → ((f && c && m && n) ≡ true → (x ≡ y) × (x ≡ true → s ≡ t)) →
    (f && (c && (m && n && y) && t)) ≡ (f && (c && (m && n && x) && s))
by_signature true true true true true y s t a = rw (sym (a refl).0, (a refl).1 refl) refl
by_signature true true true true false y s t a = rw (sym (a refl).0) refl
by_signature true true true false x y s t a = refl
by_signature true true false n x y s t a = refl
by_signature true false m n x y s t a = refl
by_signature false c m n x y s t a = refl

-- Both judges agree on a request about which a judge is asked.
abbrev AgreeWhereAsked : (one other : Judge) → (methods : List (List ℕ)) → (user service : List ℕ) → Method → Type 0
AgreeWhereAsked one other methods user service method = is_judged methods service method ≡ true → AgreeOn one other user method

-- So what is accepted, a good probe, or fails by the one judge, is so by the other.
module _ (one other : Judge) (methods : List (List ℕ)) (session user service : List ℕ) where
  both_accept : (method : Method) → AgreeWhereAsked one other methods user service method →
      accepts other methods session user service method ≡ accepts one methods session user service method
  both_accept NoMethod a = admitted _ _ _ a
  both_accept (Password word None) a = by_password _ _ _ _ a
  both_accept (Password word (Some new)) a = refl
  both_accept (Publickey algorithm key None) a = refl
  both_accept (Publickey algorithm key (Some signature)) a =
      let text = signed_text session user service algorithm key in
      by_signature (is_for_connection service) (is_configured methods (codes "publickey")) (nat_le (length key) longest_user_key)
      (nat_le (length algorithm) longest_algorithm_name) (one.knows_key user algorithm key) (other.knows_key user algorithm key)
      (one.signature_is_right algorithm key text signature) (other.signature_is_right algorithm key text signature)
      (λ e. ((a e).0, λ known. (a e).1 known text))
  both_accept (Other name rest) a = refl

  both_approve : (method : Method) → AgreeWhereAsked one other methods user service method →
      approves other methods user service method ≡ approves one methods user service method
  both_approve NoMethod a = refl
  both_approve (Password word new) a = refl
  both_approve (Publickey algorithm key None) a =
      by_key (is_for_connection service) (is_configured methods (codes "publickey")) (nat_le (length key) longest_user_key)
      (nat_le (length algorithm) longest_algorithm_name) (one.knows_key user algorithm key) (other.knows_key user algorithm key)
      (λ e. (a e).0)
  both_approve (Publickey algorithm key (Some signature)) a = refl
  both_approve (Other name rest) a = refl

  both_fail : (method : Method) → AgreeWhereAsked one other methods user service method →
      fails other methods session user service method ≡ fails one methods session user service method
  both_fail method a = rw (both_accept method a, both_approve method a) refl

-- ---- turns

module _ {K : Type 0} (p : Parties K) (given : Supplied) where
  same_accepted : (h : List Item) (user service : List ℕ) (method : Method) →
      AgreeWhereAsked (judge_of p) given.judge p.server.methods user service method →
      is_accepted (supplied_by given p) h user service method ≡ is_accepted p h user service method
  same_accepted h user service method a =
      rw (same_exchanges p given Server h)
      (both_accept (judge_of p) given.judge p.server.methods (session_id (exchanges p Server h)) user service method a)

  same_probe : (user service : List ℕ) (method : Method) →
      AgreeWhereAsked (judge_of p) given.judge p.server.methods user service method →
      is_good_probe (supplied_by given p) user service method ≡ is_good_probe p user service method
  same_probe user service method a = both_approve (judge_of p) given.judge p.server.methods [] user service method a

  same_failing : (h : List Item) (user service : List ℕ) (method : Method) →
      AgreeWhereAsked (judge_of p) given.judge p.server.methods user service method →
      is_failing (supplied_by given p) h user service method ≡ is_failing p h user service method
  same_failing h user service method a =
      rw (same_exchanges p given Server h)
      (both_fail (judge_of p) given.judge p.server.methods (session_id (exchanges p Server h)) user service method a)

  same_authentication_checks : (side : Side) (h : List Item) (m : Msg) → AgreeOnTaken p given h m →
      authentication_checks (supplied_by given p) side h m ≡ authentication_checks p side h m
  same_authentication_checks side h (UserauthRequest user service method) a = rw (same_failing h user service method a) refl
  same_authentication_checks side h m a = refl

  same_transport_checks : (side : Side) (h : List Item) (m : Msg) → AgreeOnTaken p given h m →
      transport_checks (supplied_by given p) side h m ≡ transport_checks p side h m
  same_transport_checks Client h (KexInit theirs) a = refl
  same_transport_checks Server h (KexInit theirs) a = refl
  same_transport_checks side h (KexEcdhInit q) a = refl
  same_transport_checks side h (KexEcdhReply k q s) a =
      ap (λ (trusted : Bool). RefusedWhere (not (is_point p Client h q)) BadPoint ∷ RefusedWhere (not trusted) BadHost ∷ []) (sym a)
  same_transport_checks side h (ServiceRequest service) a = refl
  same_transport_checks side h (ServiceAccept service) a = refl
  same_transport_checks side h m a = refl

  same_checks : (side : Side) (h : List Item) (m : Msg) → AgreeOnTaken p given h m →
      answer_checks (supplied_by given p) side h m ≡ answer_checks p side h m
  same_checks side h m a = rw (same_transport_checks side h m a, same_authentication_checks side h m a) refl

  supplied_announced : (side : Side) (h items : List Item) → IsAnnounced p side h items → IsAnnounced (supplied_by given p) side h items
  supplied_announced Client h items (extensions b e) = extensions b e
  supplied_announced Server h items (extensions b e) = extensions b e
  supplied_announced Client h items (nothing e) = nothing e
  supplied_announced Server h items (nothing e) = nothing e

  supplied_transport : (side : Side) (h : List Item) (m : Msg) (items : List Item) → TransportAnswer p side h m items →
      TransportAnswer (supplied_by given p) side h m items
  supplied_transport side h m items (disconnect r d l) = disconnect r d l
  supplied_transport side h m items (ignore b) = ignore b
  supplied_transport side h m items (unimplemented n) = unimplemented n
  supplied_transport side h m items (debug d t l) = debug d t l
  supplied_transport side h m items (unknown n b) = unknown n b
  supplied_transport side h m items (service_request s b) = service_request s b
  supplied_transport side h m items (service_accept s) = service_accept s
  supplied_transport side h m items (got_extensions a) = got_extensions a
  supplied_transport side h m items (kexinit_at_server t e) = kexinit_at_server t e
  supplied_transport side h m items (kexinit_at_client t b e) = kexinit_at_client t b e
  supplied_transport side h m items (answered_at_server t b e) = answered_at_server t b e
  supplied_transport side h m items (answered_at_client t o b e) = answered_at_client t o b e
  supplied_transport side h m items newkeys = newkeys

  supplied_completion : (owed : List Item) (side : Side) (h : List Item) (m : Msg) (items : List Item) → AgreeOnTaken p given h m →
      CompletingAnswer p owed side h m items → CompletingAnswer (supplied_by given p) owed side h m items
  supplied_completion owed side h m items a (init q r n b) =
      let signed : host_signature_by p (choice Server (epoch (sent h)) h).host (hash_to_sign p h q)
      ≡ host_signature_by (supplied_by given p) (choice Server (epoch (sent h)) h).host (hash_to_sign p h q) = a in
      rw signed (init q r n (supplied_announced Server h _ b))
  supplied_completion owed side h m items a (reply k q s n b) = reply k q s n (supplied_announced Client h _ b)

  supplied_authentication : (side : Side) (h : List Item) (m : Msg) (items : List Item) → AgreeOnTaken p given h m → AuthenticationAnswer p side h m items →
      AuthenticationAnswer (supplied_by given p) side h m items
  supplied_authentication side h m items a (request_too_late u s how e) = request_too_late u s how e
  supplied_authentication side h m items a (request_accepted u s how b e f) = request_accepted u s how b e (same_accepted h u s how a ∙ f)
  supplied_authentication side h m items a (request_probed u s n k b e f) =
      request_probed u s n k b e (same_probe u s (Publickey n k None) a ∙ f)
  supplied_authentication side h m items a (request_failed u s how b e f) = request_failed u s how b e (same_failing h u s how a ∙ f)
  supplied_authentication side h m items a (failure l b) = failure l b
  supplied_authentication side h m items a (success way e) = success way e
  supplied_authentication side h m items a (banner t l) = banner t l
  supplied_authentication side h m items a (key_ok n k) = key_ok n k

  supplied_answer : (side : Side) (h : List Item) (c : Option ℕ) (m : Msg) (items : List Item) → AgreeOnTaken p given h m → Answer p side h c m items →
      Answer (supplied_by given p) side h c m items
  supplied_answer side h c m items a (of_transport t) = of_transport (supplied_transport side h m items t)
  supplied_answer side h c m items a (of_completion r t) = of_completion r (supplied_completion _ side h m items a t)
  supplied_answer side h c m items a (of_authentication t) = of_authentication (supplied_authentication side h m items a t)
  supplied_answer side h c m items a (of_connection t) = of_connection t

  supplied_welcome : (side : Side) (h : List Item) (m : Msg) (b : List ℕ) → AgreeOnTaken p given h m → IsAcceptable p side h m b →
      IsAcceptable (supplied_by given p) side h m b
  supplied_welcome side h m b a w = record {
    read = same_may_take p given side h (number_of b) ∙ w.read;
    no_guess = λ e. w.no_guess (sym (same_phase p given side h) ∙ e);
    message_is = w.message_is;
    not_refused = ap first_refusal (same_checks side h m a) ∙ w.not_refused;
  }

  supplied_payload : (side : Side) (h : List Item) (b : List ℕ) (items : List Item) → has_died items ≡ false →
      AgreeOnAnswered p given (items ++ h) → OnPayload p side h b items → OnPayload (supplied_by given p) side h b items
  supplied_payload side h b items e a (takes {items = l} c m w t s n) =
      let agrees = agree_on p given l h c m b a in
      takes c m (supplied_welcome side h m b agrees w) (supplied_answer side h c m l agrees t) s n
  supplied_payload side h b items e a (skips f m) = skips (same_phase p given side h ∙ f) (same_may_take p given side h (number_of b) ∙ m)
  supplied_payload side h b items e a (unexpected m r) = no_refusal h _ _ items r e
  supplied_payload side h b items e a (bad_message m f n r) = no_refusal h _ _ items r e
  supplied_payload side h b items e a (refuses m k t f n c r) = no_refusal h _ _ items r e
  supplied_payload side h b items e a (spends c m w t s n) = absurd (cc e)

  supplied_outcome : (side : Side) (h : List Item) (o : Outcome) (items : List Item) → has_died items ≡ false →
      AgreeOnAnswered p given (items ++ h) → OnOutcome p side h o items → OnOutcome (supplied_by given p) side h o items
  supplied_outcome side h o items e a (other_line l) = other_line l
  supplied_outcome side h o items e a (version_line l) = version_line l
  supplied_outcome side h o items e a (refused_line k r) = refused_line k r
  supplied_outcome side h o items e a (opened b t) = opened b (supplied_payload side h b items e a t)
  supplied_outcome side h o items e a (refused_packet k r) = refused_packet k r

  supplied_unit : (side : Side) (h : List Item) (unit : List ℕ) (items : List Item) → has_died items ≡ false →
      AgreeOnAnswered p given (items ++ h) → OnUnit p side h unit items → OnUnit (supplied_by given p) side h unit items
  supplied_unit side h unit items e a (reads o u t) = reads o (rw (same_stage p given side h) u) (supplied_outcome side h o items e a t)
  supplied_unit side h unit items e a (dies o u t m) = absurd (cc e)

  -- ---- asks

  supplied_transport_ask : (side : Side) (h : List Item) (ask : Ask) (items : List Item) → TransportAsk p side h ask items →
      TransportAsk (supplied_by given p) side h ask items
  supplied_transport_ask side h ask items (asks_service b) = asks_service b
  supplied_transport_ask Client h ask items (rekey b) = rekey b
  supplied_transport_ask Server h ask items (rekey b) = rekey b
  supplied_transport_ask side h ask items (disconnecting d b) = disconnecting d b

  supplied_authentication_ask : (side : Side) (h : List Item) (ask : Ask) (items : List Item) →
      AgreeOnAnswered p given ((items ++ (Asked ask ∷ [])) ++ h) → AuthenticationAsk p side h ask items →
      AuthenticationAsk (supplied_by given p) side h ask items
  supplied_authentication_ask side h ask items a (none u b) = none u b
  supplied_authentication_ask side h ask items a (password u w b) = password u w b
  supplied_authentication_ask side h ask items a (probe u n k b) = probe u n k b
  supplied_authentication_ask side h ask items a (sign u n k b) =
      let signed : user_signature_now p h u n k ≡ user_signature_now (supplied_by given p) h u n k = a.0 in
      rw signed (sign u n k b)

  supplied_on_ask : (side : Side) (h : List Item) (ask : Ask) (items : List Item) →
      AgreeOnAnswered p given ((items ++ (Asked ask ∷ [])) ++ h) → OnAsk p side h ask items → OnAsk (supplied_by given p) side h ask items
  supplied_on_ask side h ask items a (asks_transport t) = asks_transport (supplied_transport_ask side h ask items t)
  supplied_on_ask side h ask items a (asks_authentication t) = asks_authentication (supplied_authentication_ask side h ask items a t)
  supplied_on_ask side h ask items a (asks_connection t) = asks_connection t

  supplied_asks : (side : Side) (h : List Item) (ask : Ask) (items : List Item) → has_died items ≡ false →
      AgreeOnAnswered p given (items ++ h) → AsksTurn p side h ask items → AsksTurn (supplied_by given p) side h ask items
  supplied_asks side h ask items e a (refuses_ask k alive c) = refuses_ask k alive (ap first_refusal (same_ask_checks p given side h ask) ∙ c)
  supplied_asks side h ask items e a (answers {items = l} alive c o s n) =
      answers alive (ap first_refusal (same_ask_checks p given side h ask) ∙ c) (supplied_on_ask side h ask l a o) s n
  supplied_asks side h ask items e a (spends_ask alive c o s n) = absurd (cc e)
  supplied_asks side h ask items e a (dies_asked alive c o s n) = absurd (cc e)
  supplied_asks side h ask items e a (is_dead f) = is_dead f

  -- ---- runs

  supplied_turn : (side : Side) (h items : List Item) → has_died items ≡ false → AgreeOnAnswered p given (items ++ h) →
      Turn p side h items → Turn (supplied_by given p) side h items
  supplied_turn side h items e a (feeds c s t) = feeds c s t
  supplied_turn side h items e a (asks ask t) = asks ask (supplied_asks side h ask items e a t)
  supplied_turn side h items e a (reads_unit unit alive t) = reads_unit unit alive (supplied_unit side h unit items e a t)

  supplied_opening : (side : Side) (items : List Item) → IsOpening p side items → IsOpening (supplied_by given p) side items
  supplied_opening Client items o = record {
    cookie = o.cookie;
    secret = o.secret;
    payload = o.payload;
    is_material = o.is_material;
    is_encoded = o.is_encoded;
    items_are = o.items_are;
  }
  supplied_opening Server items o = record {
    cookie = o.cookie;
    secret = o.secret;
    payload = o.payload;
    is_material = o.is_material;
    is_encoded = o.is_encoded;
    items_are = o.items_are;
  }

  pub supplied_run : (side : Side) (h : List Item) → EndRun p side h → has_died h ≡ false → AgreeOnAnswered p given h →
      EndRun (supplied_by given p) side h
  supplied_run side h (start o) e a = start (supplied_opening side h o)
  supplied_run side h (then_turn {h = b} {items = items} before turn) e a =
      then_turn (supplied_run side b before (alive_before items b e) (agree_before p given items b a))
      (supplied_turn side b items (alive_then items b e) a turn)

  -- ---- the runs of a transport, whatever the layers above it do

  supplied_layers : (side : Side) (h items : List Item) → has_died items ≡ false → AgreeOnAnswered p given (items ++ h) →
      layers.TransportTurn p side h items → layers.TransportTurn (supplied_by given p) side h items
  supplied_layers side h items e a (layers.of_end t) = layers.of_end (supplied_turn side h items e a t)
  supplied_layers side h items e a (layers.sends c m b x) = layers.sends c m b x
  supplied_layers side h items e a (layers.takes c m b x) = layers.takes c m b (record {
    alive = x.alive;
    number = x.number;
    above = x.above;
    normal = same_phase p given side h ∙ x.normal;
    success = x.success;
    service = x.service;
  })
  supplied_layers side h items e a (layers.completes {items = l} m b alive w t s n) =
      let agrees = agree_on p given l h None m b a in
      layers.completes m b alive (supplied_welcome side h m b agrees w) (supplied_completion [] side h m l agrees t) s n
  supplied_layers side h items e a (layers.refuses why b alive r) = no_refusal h _ _ items r e
  supplied_layers side h items e a (layers.dies alive) = absurd (cc e)

  pub supplied_transport_run : (side : Side) (h : List Item) → layers.TransportRun p side h → has_died h ≡ false →
      AgreeOnAnswered p given h → layers.TransportRun (supplied_by given p) side h
  supplied_transport_run side h (layers.start o) e a = layers.start (supplied_opening side h o)
  supplied_transport_run side h (layers.then_turn {h = b} {items = items} before turn) e a =
      layers.then_turn (supplied_transport_run side b before (alive_before items b e) (agree_before p given items b a))
      (supplied_layers side b items (alive_then items b e) a turn)

  -- ---- what is kept

  supplied_live : (side : Side) (v : View) (s : Transport K) → transport_layer.Live p side v s →
      transport_layer.Live (supplied_by given p) side v s
  supplied_live Client v s l = record {
    side_is = l.side_is;
    settings_are = l.settings_are;
    own_line = l.own_line;
    lines = l.lines;
    sending = l.sending;
    taking = l.taking;
    keys = l.keys;
    phase_is = l.phase_is;
    blocked_is = l.blocked_is;
    firsts = l.firsts;
    session_is = l.session_is;
    requested_is = l.requested_is;
    accepted_is = l.accepted_is;
    authenticated_is = l.authenticated_is;
    material = l.material;
    counts = l.counts;
    underway = l.underway;
    points = l.points;
  }
  supplied_live Server v s l = record {
    side_is = l.side_is;
    settings_are = l.settings_are;
    own_line = l.own_line;
    lines = l.lines;
    sending = l.sending;
    taking = l.taking;
    keys = l.keys;
    phase_is = l.phase_is;
    blocked_is = l.blocked_is;
    firsts = l.firsts;
    session_is = l.session_is;
    requested_is = l.requested_is;
    accepted_is = l.accepted_is;
    authenticated_is = l.authenticated_is;
    material = l.material;
    counts = l.counts;
    underway = l.underway;
    points = l.points;
  }

  pub supplied_transport_sums : (side : Side) (h : List Item) (s : Transport K) → transport_layer.SumsUp p side h s →
      transport_layer.SumsUp (supplied_by given p) side h s
  supplied_transport_sums side h s x = record {
    dead_is = x.dead_is;
    live = λ alive. rw (same_view p given side h) (supplied_live side (view p side h) s (x.live alive));
  }

  pub supplied_sums : (side : Side) (h : List Item) (e : EndState K) → EndSumsUp p side h e → EndSumsUp (supplied_by given p) side h e
  supplied_sums side h e x = record { transport = supplied_transport_sums side h e.transport x.transport; above = x.above }

  pub supplied_laws : AreLawful p → AreLawful (supplied_by given p)
  supplied_laws l = record { sealing = l.sealing; client_line = l.client_line; server_line = l.server_line }

  pub supplied_are : supplied_of (supplied_by given p) ≡ given
  supplied_are = refl
