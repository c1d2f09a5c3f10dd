-- A run with other secrets is a run by agreements that make the same of them, and the end puts out the same bytes.
use Rattle.std.proofs.Common.{◌≡◌, ℕ, Bool, true, false, List, [], ◌∷◌, Option, Some, None, codes, refl, ap, sym, ◌∙◌, subst}
use Rattle.ssh_model.specs.Protocol.Wire.Message.{Msg, Msg.KexInit, Msg.UserauthRequest, Method.Publickey}
use Rattle.ssh_model.specs.Protocol.Channels.Connection.{ConnectionAsk, channel_ask_checks, connection_ask_checks, is_rekey_due}
use Rattle.ssh_model.specs.Protocol.Channels.Connection.{ConnectionAsk.opens as ask_opens, ConnectionAsk.confirm as ask_confirm, ConnectionAsk.refuse as ask_refuse}
use Rattle.ssh_model.specs.Protocol.Channels.Connection.{ConnectionAsk.sends as ask_sends, ConnectionAsk.sends_extended as ask_sends_extended, ConnectionAsk.adjust as ask_adjust}
use Rattle.ssh_model.specs.Protocol.Channels.Connection.{ConnectionAsk.eof as ask_eof, ConnectionAsk.close as ask_close, ConnectionAsk.request as ask_request}
use Rattle.ssh_model.specs.Protocol.Channels.Connection.{ConnectionAsk.reply_yes as ask_reply_yes, ConnectionAsk.reply_no as ask_reply_no, ConnectionAsk.global as ask_global}
use Rattle.ssh_model.specs.Protocol.Channels.Connection.{ConnectionAsk.global_yes as ask_global_yes, ConnectionAsk.global_no as ask_global_no}
use Rattle.ssh_model.specs.Protocol.Authentication.Rows.{user_signature_now}
use Rattle.ssh_model.specs.Protocol.KeyExchange.Exchanges.{fed}
use Rattle.ssh_model.specs.Protocol.Sessions.Events.{PutsOut, PutsOut.nothing as put_nothing, PutsOut.version, PutsOut.packet, PutsOut.other as put_other}
use Rattle.ssh_model.specs.Protocol.Sessions.Items.{Ask, Ask.AskService, Ask.AskRekey, Ask.AskDisconnect}
use Rattle.ssh_model.specs.Protocol.Sessions.Items.{Ask.AskSign}
use Rattle.ssh_model.specs.Protocol.Sessions.Items.{Item, Item.Asked, Item.Fed, Item.Sent, Item.Took, has_died}
use Rattle.ssh_model.specs.Protocol.Sessions.Items.{Item.SentLine}
use Rattle.ssh_model.specs.Protocol.Sessions.Parties.{Agreement, Parties, offer}
use Rattle.ssh_model.specs.Protocol.Sessions.Phases.{authenticated, blocked, phase}
use Rattle.ssh_model.specs.Protocol.Sessions.Refusals.{first_refusal}
use Rattle.ssh_model.specs.Protocol.Sessions.Transport.{transport_ask_checks}
use Rattle.ssh_model.specs.Protocol.Sessions.Turns.{FeedsTurn, FeedsTurn.feeds as feeds_pair, FeedsTurn.answers_false, IsMaterial, ask_checks, can_feed}
use Rattle.ssh_model.specs.Laws.Secrets.{AreExchanged, AreSecrets, MakesTheSame, agreeing_by, behind, with_secrets}
use Rattle.ssh_model.proofs.Sessions.WithSecrets as same
use Rattle.ssh_model.proofs.Sessions.OtherSecrets as other_secrets
use Rattle.ssh_model.proofs.Sessions.SecretAnswers as answers_same
use Rattle.ssh_model.proofs.Sessions.SecretAsks as asks_same
use Rattle.ssh_model.specs.Protocol.Channels.Connection.{after_authentication}
use Rattle.ssh_model.specs.Protocol.Sessions.Phases.{is_probe, may_take, probing}
use Rattle.ssh_model.specs.Protocol.Wire.Message.{IsPayload, Method}
use Rattle.ssh_model.specs.declared.side.Side.{Side}
use Rattle.ssh_model.specs.declared.side.Side.TheVariants.{Client, Server}
use Rattle.ssh_model.specs.Protocol.Wire.Outcome.{Outcome}
use Rattle.ssh_model.specs.declared.refusal.Refusal.{Refusal}
use Rattle.ssh_model.specs.Protocol.Authentication.Rows.{AuthenticationAsk, AuthenticationAsk.none}
use Rattle.ssh_model.specs.Protocol.Authentication.Rows.{AuthenticationAsk.password, AuthenticationAsk.probe, AuthenticationAsk.sign}
use Rattle.ssh_model.specs.Protocol.Sessions.Transport.{TransportAsk, TransportAsk.service as asks_service}
use Rattle.ssh_model.specs.Protocol.Sessions.Transport.{TransportAsk.rekey, TransportAsk.disconnect as disconnecting}
use Rattle.ssh_model.specs.Protocol.Sessions.Turns.{AsksTurn, AsksTurn.refuses as refuses_ask, AsksTurn.answers}
use Rattle.ssh_model.specs.Protocol.Sessions.Turns.{AsksTurn.spends as spends_ask, AsksTurn.dies as dies_asked, AsksTurn.is_dead, EndRun}
use Rattle.ssh_model.specs.Protocol.Sessions.Turns.{EndRun.start, EndRun.then_turn, IsOpening, OnAsk}
use Rattle.ssh_model.specs.Protocol.Sessions.Turns.{OnAsk.of_transport as asks_transport, OnAsk.of_authentication as asks_authentication}
use Rattle.ssh_model.specs.Protocol.Sessions.Turns.{OnAsk.of_connection as asks_connection, OnOutcome, OnOutcome.other_line}
use Rattle.ssh_model.specs.Protocol.Sessions.Turns.{OnOutcome.version_line, OnOutcome.refused_line, OnOutcome.opened}
use Rattle.ssh_model.specs.Protocol.Sessions.Turns.{OnOutcome.refused_packet, OnPayload, OnPayload.takes, OnPayload.skips}
use Rattle.ssh_model.specs.Protocol.Sessions.Turns.{OnPayload.unexpected, OnPayload.bad_message, OnPayload.refuses, OnPayload.spends}
use Rattle.ssh_model.specs.Protocol.Sessions.Turns.{OnUnit, OnUnit.reads, OnUnit.dies, Refuses, Refuses.silently, Refuses.spent}
use Rattle.ssh_model.specs.Protocol.Sessions.Turns.{Refuses.said, Turn, Turn.feeds, Turn.asks, Turn.reads as reads_unit, IsAcceptable}
use Rattle.ssh_model.specs.Protocol.Sessions.Turns.{number_of}

-- ---- nothing is fed but by a feed

refusal_unfed : (h : List Item) (why : Refusal) (payload : Option (List ℕ)) (items : List Item) → Refuses h why payload items → fed items ≡ []
refusal_unfed h why payload items (silently e) = refl
refusal_unfed h why payload items (spent e) = refl
refusal_unfed h why payload items (said r b e n s) = refl

module _ {K : Type 0} (p : Parties K) where
  payload_unfed : (side : Side) (h : List Item) (b : List ℕ) (items : List Item) → OnPayload p side h b items → fed items ≡ []
  payload_unfed side h b items (takes {items = l} c m w t s n) = answers_same.none_joined l (Took c m b ∷ []) (answers_same.answer_unfed p side h c m l t) refl
  payload_unfed side h b items (skips f m) = refl
  payload_unfed side h b items (unexpected m r) = refusal_unfed h _ _ items r
  payload_unfed side h b items (bad_message m f n r) = refusal_unfed h _ _ items r
  payload_unfed side h b items (refuses m k t f n c r) = refusal_unfed h _ _ items r
  payload_unfed side h b items (spends c m w t s n) = refl

  outcome_unfed : (side : Side) (h : List Item) (o : Outcome) (items : List Item) → OnOutcome p side h o items → fed items ≡ []
  outcome_unfed side h o items (other_line l) = refl
  outcome_unfed side h o items (version_line l) = refl
  outcome_unfed side h o items (refused_line k r) = refusal_unfed h _ _ items r
  outcome_unfed side h o items (opened b t) = payload_unfed side h b items t
  outcome_unfed side h o items (refused_packet k r) = refusal_unfed h _ _ items r

  unit_unfed : (side : Side) (h : List Item) (unit : List ℕ) (items : List Item) → OnUnit p side h unit items → fed items ≡ []
  unit_unfed side h unit items (reads o u t) = outcome_unfed side h o items t
  unit_unfed side h unit items (dies o u t m) = refl

  transport_ask_unfed : (side : Side) (h : List Item) (ask : Ask) (items : List Item) → TransportAsk p side h ask items → fed items ≡ []
  transport_ask_unfed side h ask items (asks_service b) = refl
  transport_ask_unfed side h ask items (rekey b) = refl
  transport_ask_unfed side h ask items (disconnecting d b) = refl

  user_ask_unfed : (side : Side) (h : List Item) (ask : Ask) (items : List Item) → AuthenticationAsk p side h ask items → fed items ≡ []
  user_ask_unfed side h ask items (none u b) = refl
  user_ask_unfed side h ask items (password u w b) = refl
  user_ask_unfed side h ask items (probe u n k b) = refl
  user_ask_unfed side h ask items (sign u n k b) = refl

connection_ask_unfed : (side : Side) (h : List Item) (ask : Ask) (items : List Item) → ConnectionAsk side h ask items → fed items ≡ []
connection_ask_unfed side h ask items (ask_opens x k w d r b e) = refl
connection_ask_unfed side h ask items (ask_confirm x w d r b) = refl
connection_ask_unfed side h ask items (ask_refuse x r b) = refl
connection_ask_unfed side h ask items (ask_sends x t b) = refl
connection_ask_unfed side h ask items (ask_sends_extended x k t b) = refl
connection_ask_unfed side h ask items (ask_adjust x n b) = refl
connection_ask_unfed side h ask items (ask_eof x b) = refl
connection_ask_unfed side h ask items (ask_close x b) = refl
connection_ask_unfed side h ask items (ask_request x n w r b) = refl
connection_ask_unfed side h ask items (ask_reply_yes x b) = refl
connection_ask_unfed side h ask items (ask_reply_no x b) = refl
connection_ask_unfed side h ask items (ask_global n w r b) = refl
connection_ask_unfed side h ask items (ask_global_yes r b) = refl
connection_ask_unfed side h ask items (ask_global_no r b) = refl

module _ {K : Type 0} (p : Parties K) where
  ask_unfed : (side : Side) (h : List Item) (ask : Ask) (items : List Item) → OnAsk p side h ask items → fed items ≡ []
  ask_unfed side h ask items (asks_transport t) = transport_ask_unfed p side h ask items t
  ask_unfed side h ask items (asks_authentication t) = user_ask_unfed p side h ask items t
  ask_unfed side h ask items (asks_connection t) = connection_ask_unfed side h ask items t

  asks_unfed : (side : Side) (h : List Item) (ask : Ask) (items : List Item) → AsksTurn p side h ask items → fed items ≡ []
  asks_unfed side h ask items (refuses_ask k alive c) = refl
  asks_unfed side h ask items (answers {items = l} alive c o s n) = answers_same.none_joined l (Asked ask ∷ []) (ask_unfed side h ask l o) refl
  asks_unfed side h ask items (spends_ask alive c o s n) = refl
  asks_unfed side h ask items (dies_asked alive c o s n) = refl
  asks_unfed side h ask items (is_dead f) = refl

-- ---- turns

module _ {K : Type 0} (p : Parties K) (other : List ℕ → List ℕ) (client server : Agreement) (x : AreExchanged p other client server) where
  abbrev q : Parties K
  q = agreeing_by client server p

  abbrev v : List Item → List Item
  v h = with_secrets other h

  phase_is : (side : Side) (h : List Item) → phase q side (v h) ≡ phase p side h
  phase_is = other_secrets.phase_same p other client server x

  may_take_is : (side : Side) (h : List Item) (n : ℕ) → may_take q side (v h) n ≡ may_take p side h n
  may_take_is = other_secrets.may_take_same p other client server x

  readable : (h : List Item) (m : Msg) (b : List ℕ) → IsPayload (probing h) m b → IsPayload (probing (v h)) m b
  readable h m b t = subst (λ (o : Option Method). IsPayload (is_probe o) m b) (sym (same.outstanding_same other h)) t

  readable_before : (h : List Item) (m : Msg) (b : List ℕ) → IsPayload (probing (v h)) m b → IsPayload (probing h) m b
  readable_before h m b t = subst (λ (o : Option Method). IsPayload (is_probe o) m b) (same.outstanding_same other h) t

  welcome : (side : Side) (h : List Item) (m : Msg) (b : List ℕ) → IsAcceptable p side h m b → IsAcceptable q side (v h) m b
  welcome side h m b w = record {
    read = may_take_is side h (number_of b) ∙ w.read;
    no_guess = λ e. w.no_guess (sym (phase_is side h) ∙ e);
    message_is = readable h m b w.message_is;
    not_refused = ap first_refusal (answers_same.checks_same p other client server x side h m) ∙ w.not_refused;
  }

  payload_turn : (side : Side) (h : List Item) (b : List ℕ) (items : List Item) → OnPayload p side h b items → OnPayload q side (v h) b items
  payload_turn side h b items (takes {items = l} c m w t s n) =
      takes c m (welcome side h m b w) (answers_same.answer p other client server x side h c m l t) s (same.numbered other l (Took c m b ∷ h) n)
  payload_turn side h b items (skips f m) = skips (phase_is side h ∙ f) (may_take_is side h (number_of b) ∙ m)
  payload_turn side h b items (unexpected m r) = unexpected (may_take_is side h (number_of b) ∙ m) (asks_same.refusal_same other h _ _ items r)
  payload_turn side h b items (bad_message m f n r) =
      bad_message (may_take_is side h (number_of b) ∙ m) (λ e. f (sym (phase_is side h) ∙ e)) (λ message t. n message (readable_before h message b t))
      (asks_same.refusal_same other h _ _ items r)
  payload_turn side h b items (refuses m k t f n c r) =
      refuses m k (may_take_is side h (number_of b) ∙ t) (λ e. f (sym (phase_is side h) ∙ e)) (readable h m b n)
      (ap first_refusal (answers_same.checks_same p other client server x side h m) ∙ c) (asks_same.refusal_same other h _ _ items r)
  payload_turn side h b items (spends {items = l} c m w t s n) =
      spends c m (welcome side h m b w) (answers_same.answer p other client server x side h c m l t) s
      (λ e. n (same.numbered_before other l (Took c m b ∷ h) e))

  outcome_turn : (side : Side) (h : List Item) (o : Outcome) (items : List Item) → OnOutcome p side h o items → OnOutcome q side (v h) o items
  outcome_turn side h o items (other_line l) = other_line l
  outcome_turn side h o items (version_line l) = version_line l
  outcome_turn side h o items (refused_line k r) = refused_line k (asks_same.refusal_same other h k None items r)
  outcome_turn side h o items (opened b t) = opened b (payload_turn side h b items t)
  outcome_turn side h o items (refused_packet k r) = refused_packet k (asks_same.refusal_same other h k None items r)

  unit_turn : (side : Side) (h : List Item) (unit : List ℕ) (items : List Item) → OnUnit p side h unit items → OnUnit q side (v h) unit items
  unit_turn side h unit items (reads o u t) = reads o (rw (other_secrets.stage_same p other client server x side h) u) (outcome_turn side h o items t)
  unit_turn side h unit items (dies {items = l} o u t m) =
      dies o (rw (other_secrets.stage_same p other client server x side h) u) (outcome_turn side h o l t) m

  -- ---- asks

  transport_asks_same : (side : Side) (h : List Item) (ask : Ask) → transport_ask_checks q side (v h) ask ≡ transport_ask_checks p side h ask
  transport_asks_same side h AskService = rw (same.took_same other h, same.asked_service_same other h) refl
  transport_asks_same side h AskRekey =
      rw (asks_same.authenticated_same other side h, same.blocked_same other h, phase_is side h, answers_same.material_same p other client server x h) refl
  transport_asks_same side h (AskDisconnect d) = refl
  transport_asks_same side h ask = refl

  due_same : (side : Side) (h : List Item) → is_rekey_due q side (v h) ≡ is_rekey_due p side h
  due_same Client h = rw (same.sent_same other h) refl
  due_same Server h = rw (same.sent_same other h) refl

  connection_asks_same : (side : Side) (h : List Item) (ask : Ask) → connection_ask_checks q side (v h) ask ≡ connection_ask_checks p side h ask
  connection_asks_same side h ask =
      ap (λ (b : Bool). after_authentication b (channel_ask_checks (blocked (v h)) (is_rekey_due q side (v h)) side (v h) ask)) (asks_same.authenticated_same other side h)
      ∙ ap (λ (b : Bool). after_authentication (authenticated side h) (channel_ask_checks b (is_rekey_due q side (v h)) side (v h) ask)) (same.blocked_same other h)
      ∙ ap (λ (b : Bool). after_authentication (authenticated side h) (channel_ask_checks (blocked h) b side (v h) ask)) (due_same side h)
      ∙ ap (after_authentication (authenticated side h)) (asks_same.channel_asks_same other (blocked h) (is_rekey_due p side h) side h ask)

  ask_checks_same : (side : Side) (h : List Item) (ask : Ask) → ask_checks q side (v h) ask ≡ ask_checks p side h ask
  ask_checks_same side h ask = rw (transport_asks_same side h ask, asks_same.user_asks_same other side h ask, connection_asks_same side h ask) refl

  transport_ask : (side : Side) (h : List Item) (ask : Ask) (items : List Item) → TransportAsk p side h ask items → TransportAsk q side (v h) ask items
  transport_ask side h ask items (asks_service b) = asks_service b
  transport_ask Client h ask items (rekey b) =
      subst (λ (cookie : List ℕ). TransportAsk q Client (v h) AskRekey (Sent None (KexInit (offer p Client false cookie)) b ∷ []))
      (other_secrets.cookie_same p other client server x h) (rekey b)
  transport_ask Server h ask items (rekey b) =
      subst (λ (cookie : List ℕ). TransportAsk q Server (v h) AskRekey (Sent None (KexInit (offer p Server false cookie)) b ∷ []))
      (other_secrets.cookie_same p other client server x h) (rekey b)
  transport_ask side h ask items (disconnecting d b) = disconnecting d b

  signature_same : (h : List Item) (u n k : List ℕ) → user_signature_now q (v h) u n k ≡ user_signature_now p h u n k
  signature_same h u n k = rw (other_secrets.exchanges_same p other client server x Client h) refl

  user_ask : (side : Side) (h : List Item) (ask : Ask) (items : List Item) → AuthenticationAsk p side h ask items → AuthenticationAsk q side (v h) ask items
  user_ask side h ask items (none u b) = none u b
  user_ask side h ask items (password u w b) = password u w b
  user_ask side h ask items (probe u n k b) = probe u n k b
  user_ask side h ask items (sign u n k b) =
      subst (λ (signature : List ℕ). AuthenticationAsk q side (v h) (AskSign u n k)
      (Sent None (UserauthRequest u (codes "ssh-connection") (Publickey n k (Some signature))) b ∷ [])) (signature_same h u n k) (sign u n k b)

  on_ask : (side : Side) (h : List Item) (ask : Ask) (items : List Item) → OnAsk p side h ask items → OnAsk q side (v h) ask items
  on_ask side h ask items (asks_transport t) = asks_transport (transport_ask side h ask items t)
  on_ask side h ask items (asks_authentication t) = asks_authentication (user_ask side h ask items t)
  on_ask side h ask items (asks_connection t) = asks_connection (asks_same.connection_ask other side h ask items t)

  alive_same : (h : List Item) (b : Bool) → has_died h ≡ b → has_died (v h) ≡ b
  alive_same h b e = same.died other h ∙ e

  asks_turn : (side : Side) (h : List Item) (ask : Ask) (items : List Item) → AsksTurn p side h ask items → AsksTurn q side (v h) ask items
  asks_turn side h ask items (refuses_ask k alive c) = refuses_ask k (alive_same h false alive) (ap first_refusal (ask_checks_same side h ask) ∙ c)
  asks_turn side h ask items (answers {items = l} alive c o s n) =
      answers (alive_same h false alive) (ap first_refusal (ask_checks_same side h ask) ∙ c) (on_ask side h ask l o) s (same.numbered other l (Asked ask ∷ h) n)
  asks_turn side h ask items (spends_ask {items = l} alive c o s n) =
      spends_ask (alive_same h false alive) (ap first_refusal (ask_checks_same side h ask) ∙ c) (on_ask side h ask l o) s
      (λ e. n (same.numbered_before other l (Asked ask ∷ h) e))
  asks_turn side h ask items (dies_asked {items = l} alive c o s n) =
      dies_asked (alive_same h false alive) (ap first_refusal (ask_checks_same side h ask) ∙ c) (on_ask side h ask l o) s (same.numbered other l (Asked ask ∷ h) n)
  asks_turn side h ask items (is_dead f) = is_dead (alive_same h true f)

  -- ---- runs

  can_feed_same : (h : List Item) → can_feed (v h) ≡ can_feed h
  can_feed_same h = rw (same.died other h, answers_same.material_same p other client server x h, same.fed_length other h) refl

  material : (cookie secret : List ℕ) → IsMaterial cookie secret → IsMaterial cookie (other secret)
  material cookie secret m = record {
    cookie_bytes = m.cookie_bytes;
    cookie_size = m.cookie_size;
    secret_bytes = x.secrets.bytes secret m.secret_bytes;
    secret_size = x.secrets.size secret ∙ m.secret_size;
  }

  feeds_turn : (side : Side) (h : List Item) (cookie secret : List ℕ) (items : List Item) → FeedsTurn side h cookie secret items →
      FeedsTurn side (v h) cookie (other secret) (v items)
  feeds_turn side h cookie secret items (feeds_pair e m) = feeds_pair (can_feed_same h ∙ e) (material cookie secret m)
  feeds_turn side h cookie secret items (answers_false e) = answers_false (can_feed_same h ∙ e)

  turn : (side : Side) (h items : List Item) → Turn p side h items → Turn q side (v h) (v items)
  turn side h items (feeds cookie secret t) = feeds cookie (other secret) (feeds_turn side h cookie secret items t)
  turn side h items (asks ask t) =
      subst (λ (l : List Item). Turn q side (v h) l) (sym (same.unfed other items (asks_unfed p side h ask items t))) (asks ask (asks_turn side h ask items t))
  turn side h items (reads_unit unit alive t) =
      subst (λ (l : List Item). Turn q side (v h) l) (sym (same.unfed other items (unit_unfed p side h unit items t)))
      (reads_unit unit (alive_same h false alive) (unit_turn side h unit items t))

  opening : (side : Side) (items : List Item) → IsOpening p side items → IsOpening q side (v items)
  opening Client items o = record {
    cookie = o.cookie;
    secret = other o.secret;
    payload = o.payload;
    is_material = material o.cookie o.secret o.is_material;
    is_encoded = o.is_encoded;
    items_are = ap v o.items_are;
  }
  opening Server items o = record {
    cookie = o.cookie;
    secret = other o.secret;
    payload = o.payload;
    is_material = material o.cookie o.secret o.is_material;
    is_encoded = o.is_encoded;
    items_are = ap v o.items_are;
  }

  pub runs : (side : Side) (h : List Item) → EndRun p side h → EndRun q side (v h)
  runs side h (start o) = start (opening side h o)
  runs side h (then_turn {h = b} {items = items} before t) =
      subst (λ (l : List Item). EndRun q side l) (sym (same.joined other items b)) (then_turn (runs side b before) (turn side b items t))

  pub puts_out : (side : Side) (h : List Item) (bytes : List ℕ) → PutsOut p side h bytes → PutsOut q side (v h) bytes
  puts_out side h bytes put_nothing = put_nothing
  puts_out side h bytes (version {h = b} {bytes = l} line t) = version line (puts_out side b l t)
  puts_out side h bytes (packet {h = b} {bytes = l} c m payload wire s t) =
      packet c m payload wire
      (rw (other_secrets.sending_key_same p other client server x side b, other_secrets.sending_number_same p other client server x side b) s)
      (puts_out side b l t)
  puts_out side h bytes (put_other {h = b} {bytes = l} (Fed cookie secret) n t) = put_other (Fed cookie (other secret)) n (puts_out side b l t)
  puts_out side h bytes (put_other {h = b} {bytes = l} (Sent c m payload) n t) = absurd n
  puts_out side h bytes (put_other {h = b} {bytes = l} (SentLine line) n t) = absurd n
  puts_out side h bytes (put_other {h = b} {bytes = l} item n t) = put_other item n (puts_out side b l t)

-- ---- there are such agreements

through : (other back : List ℕ → List ℕ) → ((secret : List ℕ) → back (other secret) ≡ secret) → (agreement : Agreement) →
    MakesTheSame other agreement (behind back agreement)
through other back e agreement = record {
  point = λ secret. ap agreement.point (e secret);
  shared = λ secret theirs. ap (λ (s : List ℕ). agreement.shared s theirs) (e secret);
}

pub exchanged : {K : Type 0} (p : Parties K) (other back : List ℕ → List ℕ) → AreSecrets other → ((secret : List ℕ) → back (other secret) ≡ secret) →
    AreExchanged p other (behind back p.client_agreement) (behind back p.server_agreement)
exchanged p other back s e = record {
  secrets = s;
  client_same = through other back e p.client_agreement;
  server_same = through other back e p.server_agreement;
}
