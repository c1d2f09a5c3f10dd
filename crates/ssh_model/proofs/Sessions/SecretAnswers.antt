-- How an end answers a message is the same with other secrets, where the agreements make the same of them.
use Rattle.std.proofs.Common.{◌≡◌, ◌&&◌, not, ℕ, suc, Bool, false, List, [], ◌∷◌, ◌++◌, Option, Some, None, length, nat_lt, refl, ap, ◌∙◌, subst}
use Rattle.ssh_model.specs.Protocol.Channels.History as channel
use Rattle.ssh_model.specs.Protocol.Channels.Message.{Message, Message.Open, Message.Close}
use Rattle.ssh_model.specs.Protocol.Channels.Connection.{AreDue, AreReplies, AreReplies.none as no_replies, AreReplies.reply as one_reply}
use Rattle.ssh_model.specs.Protocol.Channels.Connection.{ConnectionAnswer, connection_checks}
use Rattle.ssh_model.specs.Protocol.Channels.Connection.{ConnectionAnswer.global as row_global, ConnectionAnswer.global_success as row_global_success, ConnectionAnswer.global_failure as row_global_failure}
use Rattle.ssh_model.specs.Protocol.Channels.Connection.{ConnectionAnswer.opened as row_opened, ConnectionAnswer.not_opened as row_not_opened, ConnectionAnswer.confirmation as row_confirmation}
use Rattle.ssh_model.specs.Protocol.Channels.Connection.{ConnectionAnswer.failure as row_failure, ConnectionAnswer.adjust as row_adjust, ConnectionAnswer.got_data as row_got_data}
use Rattle.ssh_model.specs.Protocol.Channels.Connection.{ConnectionAnswer.got_extended as row_got_extended, ConnectionAnswer.eof as row_eof, ConnectionAnswer.close as row_close}
use Rattle.ssh_model.specs.Protocol.Channels.Connection.{ConnectionAnswer.request as row_request, ConnectionAnswer.success as row_success, ConnectionAnswer.no_success as row_no_success}
use Rattle.ssh_model.specs.Protocol.Wire.Message.{Msg.GlobalRequest, Msg.RequestSuccess, Msg.RequestFailure, Msg.ChannelOpen}
use Rattle.ssh_model.specs.Protocol.Wire.Message.{Msg.ChannelOpenConfirmation, Msg.ChannelOpenFailure, Msg.ChannelWindowAdjust}
use Rattle.ssh_model.specs.Protocol.Wire.Message.{Msg.ChannelData, Msg.ChannelExtendedData, Msg.ChannelEof, Msg.ChannelClose}
use Rattle.ssh_model.specs.Protocol.Wire.Message.{Msg.ChannelRequest, Msg.ChannelSuccess, Msg.ChannelFailure, Msg.NewKeys, Msg.Unimplemented, Proposal}
use Rattle.ssh_model.specs.Protocol.Sessions.Items.{Item.Fed, Item.Told, Fact.Completed, Payload}
use Rattle.ssh_model.specs.Protocol.Sessions.Parties.{Agreement, offer}
use Rattle.ssh_model.specs.Protocol.Sessions.Transport.{announces, comes_too_late, kexinit_checks, next_cookie, point_now, reply_now, is_trusted}
use Rattle.ssh_model.specs.Protocol.KeyExchange.Exchanges.{fed}
use Rattle.ssh_model.specs.Laws.Secrets.{AreExchanged, agreeing_by, with_secrets}
use Rattle.ssh_model.proofs.Sessions.WithSecrets as same
use Rattle.ssh_model.proofs.Sessions.OtherSecrets as other_secrets
use Rattle.ssh_model.specs.Protocol.Authentication.Requests.{is_accepted}
use Rattle.ssh_model.specs.Protocol.KeyExchange.Exchanges.{first_sent, has_marker, offers}
use Rattle.ssh_model.specs.Protocol.Sessions.Items.{Encoded, messages_sent, took}
use Rattle.ssh_model.specs.Protocol.Sessions.Parties.{marker_of}
use Rattle.ssh_model.specs.Protocol.Sessions.Phases.{has_material}
use Rattle.ssh_model.specs.Protocol.Sessions.Transport.{is_marked}
use Rattle.ssh_model.specs.declared.side.Side.{Side}
use Rattle.ssh_model.specs.declared.side.Side.TheVariants.{Client, Server}
use Rattle.ssh_model.specs.Protocol.Wire.Message.{Msg.KexInit, Msg.KexEcdhInit, Msg.KexEcdhReply, Msg.ServiceRequest, Msg.ServiceAccept}
use Rattle.ssh_model.specs.Protocol.Wire.Message.{Msg, Msg.UserauthRequest, Method}
use Rattle.ssh_model.specs.Protocol.Sessions.Refusals.{Check.RefusedWhere}
use Rattle.ssh_model.specs.declared.refusal.Refusal.TheVariants.{BadHost, BadPoint}
use Rattle.ssh_model.specs.Protocol.Sessions.Items.{Item, Item.Sent, sent}
use Rattle.ssh_model.specs.Protocol.Sessions.Epochs.{epoch}
use Rattle.ssh_model.specs.Protocol.Sessions.Transport.{is_point, transport_checks}
use Rattle.ssh_model.specs.Protocol.Authentication.Requests.{is_failing}
use Rattle.ssh_model.specs.Protocol.Authentication.Rows.{AuthenticationAnswer, AuthenticationAnswer.request_too_late}
use Rattle.ssh_model.specs.Protocol.Authentication.Rows.{AuthenticationAnswer.request_accepted, AuthenticationAnswer.request_probed}
use Rattle.ssh_model.specs.Protocol.Authentication.Rows.{AuthenticationAnswer.request_failed, AuthenticationAnswer.failure}
use Rattle.ssh_model.specs.Protocol.Authentication.Rows.{AuthenticationAnswer.success, AuthenticationAnswer.banner}
use Rattle.ssh_model.specs.Protocol.Authentication.Rows.{AuthenticationAnswer.key_ok}
use Rattle.ssh_model.specs.Protocol.Authentication.Rows.{authentication_checks}
use Rattle.ssh_model.specs.Protocol.Sessions.Transport.{IsAnnounced, IsAnnounced.extensions, IsAnnounced.nothing, TransportAnswer}
use Rattle.ssh_model.specs.Protocol.Sessions.Transport.{TransportAnswer.disconnect, TransportAnswer.ignore, TransportAnswer.unimplemented}
use Rattle.ssh_model.specs.Protocol.Sessions.Transport.{TransportAnswer.debug, TransportAnswer.unknown, TransportAnswer.service_request}
use Rattle.ssh_model.specs.Protocol.Sessions.Transport.{TransportAnswer.service_accept, TransportAnswer.extensions as got_extensions}
use Rattle.ssh_model.specs.Protocol.Sessions.Transport.{TransportAnswer.kexinit_at_server, TransportAnswer.kexinit_at_client}
use Rattle.ssh_model.specs.Protocol.Sessions.Transport.{TransportAnswer.answered_at_server, TransportAnswer.answered_at_client}
use Rattle.ssh_model.specs.Protocol.Sessions.Transport.{TransportAnswer.newkeys, CompletingAnswer, CompletingAnswer.init}
use Rattle.ssh_model.specs.Protocol.Sessions.Transport.{CompletingAnswer.reply}
use Rattle.ssh_model.specs.Protocol.Sessions.Turns.{Answer, Answer.of_transport, Answer.of_completion, Answer.of_authentication}
use Rattle.ssh_model.specs.Protocol.Sessions.Turns.{Answer.of_connection}
use Rattle.ssh_model.specs.Protocol.Sessions.Turns.{answer_checks}
use Rattle.ssh_model.specs.Protocol.Sessions.Parties.{Parties}

-- ---- nothing is fed

pub none_joined : (a b : List Item) → fed a ≡ [] → fed b ≡ [] → fed (a ++ b) ≡ []
none_joined [] b e f = f
none_joined (Fed c s ∷ a) b e f = absurd (cc e)
none_joined (i ∷ a) b e f = none_joined a b e f

pub replies_unfed : (l : List channel.Item) (items : List Item) → AreReplies l items → fed items ≡ []
replies_unfed l items no_replies = refl
replies_unfed l items (one_reply at m b r) = replies_unfed _ _ r

module _ {K : Type 0} (p : Parties K) where
  announced_unfed : (side : Side) (h items : List Item) → IsAnnounced p side h items → fed items ≡ []
  announced_unfed side h items (extensions b e) = refl
  announced_unfed side h items (nothing e) = refl

  transport_unfed : (side : Side) (h : List Item) (m : Msg) (items : List Item) → TransportAnswer p side h m items → fed items ≡ []
  transport_unfed side h m items (disconnect r d l) = refl
  transport_unfed side h m items (ignore b) = refl
  transport_unfed side h m items (unimplemented n) = refl
  transport_unfed side h m items (debug d t l) = refl
  transport_unfed side h m items (unknown n b) = refl
  transport_unfed side h m items (service_request s b) = refl
  transport_unfed side h m items (service_accept s) = refl
  transport_unfed side h m items (got_extensions a) = refl
  transport_unfed side h m items (kexinit_at_server t e) = refl
  transport_unfed side h m items (kexinit_at_client t b e) = refl
  transport_unfed side h m items (answered_at_server t b e) = refl
  transport_unfed side h m items (answered_at_client t o b e) = refl
  transport_unfed side h m items newkeys = refl

  completion_unfed : (owed : List Item) (side : Side) (h : List Item) (m : Msg) (items : List Item) → fed owed ≡ [] →
      CompletingAnswer p owed side h m items → fed items ≡ []
  completion_unfed owed side h m items e (init {announced = l} q r n a) =
      let rest : List Item = Sent None NewKeys n ∷ Sent None (reply_now p h q) r ∷ [] in
      none_joined owed (l ++ rest) e (none_joined l rest (announced_unfed Server h l a) refl)
  completion_unfed owed side h m items e (reply {announced = l} k q s n a) =
      let rest : List Item = Sent None NewKeys n ∷ [] in none_joined owed (l ++ rest) e (none_joined l rest (announced_unfed Client h l a) refl)

  authentication_unfed : (side : Side) (h : List Item) (m : Msg) (items : List Item) → AuthenticationAnswer p side h m items → fed items ≡ []
  authentication_unfed side h m items (request_too_late u s how e) = refl
  authentication_unfed side h m items (request_accepted u s how b e f) = refl
  authentication_unfed side h m items (request_probed u s n k b e f) = refl
  authentication_unfed side h m items (request_failed u s how b e f) = refl
  authentication_unfed side h m items (failure l b) = refl
  authentication_unfed side h m items (success way e) = refl
  authentication_unfed side h m items (banner t l) = refl
  authentication_unfed side h m items (key_ok n k) = refl

connection_unfed : (side : Side) (h : List Item) (c : Option ℕ) (m : Msg) (items : List Item) → ConnectionAnswer side h c m items → fed items ≡ []
connection_unfed side h c m items (row_global n w r) = refl
connection_unfed side h c m items (row_global_success r) = refl
connection_unfed side h c m items row_global_failure = refl
connection_unfed side h c m items (row_opened x k s w d r e) = refl
connection_unfed side h c m items (row_not_opened k s w d r e a) = replies_unfed _ items a
connection_unfed side h c m items (row_confirmation t s w d r) = refl
connection_unfed side h c m items (row_failure t r d l) = refl
connection_unfed side h c m items (row_adjust t b) = refl
connection_unfed side h c m items (row_got_data t b) = refl
connection_unfed side h c m items (row_got_extended t k b) = refl
connection_unfed side h c m items (row_eof t) = refl
connection_unfed side h c m items (row_close t a) = replies_unfed _ _ a
connection_unfed side h c m items (row_request t n w r) = refl
connection_unfed side h c m items (row_success t) = refl
connection_unfed side h c m items (row_no_success t) = refl

pub answer_unfed : {K : Type 0} (p : Parties K) (side : Side) (h : List Item) (c : Option ℕ) (m : Msg) (items : List Item) →
    Answer p side h c m items → fed items ≡ []
answer_unfed p side h c m items (of_transport t) = transport_unfed p side h m items t
answer_unfed p side h c m items (of_completion r t) = completion_unfed p _ side h m items (replies_unfed _ _ r) t
answer_unfed p side h c m items (of_authentication t) = authentication_unfed p side h m items t
answer_unfed p side h c m items (of_connection t) = connection_unfed side h c m items t

-- ---- channels

module _ (other : List ℕ → List ℕ) where
  connection_checks_same : (side : Side) (h : List Item) (m : Msg) → connection_checks side (with_secrets other h) m ≡ connection_checks side h m
  connection_checks_same side h (GlobalRequest n w r) = rw (same.globals_here_same other h) refl
  connection_checks_same side h (RequestSuccess r) = rw (same.globals_there_same other h) refl
  connection_checks_same side h RequestFailure = rw (same.globals_there_same other h) refl
  connection_checks_same side h (ChannelOpen k s w d r) = rw (same.channels_same other h, same.blocked_same other h) refl
  connection_checks_same side h (ChannelOpenConfirmation t s w d r) = rw (same.channels_same other h) refl
  connection_checks_same side h (ChannelOpenFailure t r d l) = rw (same.channels_same other h) refl
  connection_checks_same side h (ChannelWindowAdjust t b) = rw (same.channels_same other h) refl
  connection_checks_same side h (ChannelData t b) = rw (same.channels_same other h) refl
  connection_checks_same side h (ChannelExtendedData t k b) = rw (same.channels_same other h) refl
  connection_checks_same side h (ChannelEof t) = rw (same.channels_same other h) refl
  connection_checks_same side h (ChannelClose t) = rw (same.channels_same other h, same.blocked_same other h) refl
  connection_checks_same side h (ChannelRequest t n w r) = rw (same.channels_same other h) refl
  connection_checks_same side h (ChannelSuccess t) = rw (same.channels_same other h) refl
  connection_checks_same side h (ChannelFailure t) = rw (same.channels_same other h) refl
  connection_checks_same side h m = refl

  due_same : (side : Side) (h : List Item) (c : Option ℕ) (m : Message) (replies : List Item) → AreDue side h c m replies →
      AreDue side (with_secrets other h) c m replies
  due_same side h c m replies a = rw (same.blocked_same other h, same.channels_same other h) a

  connection_answer : (side : Side) (h : List Item) (c : Option ℕ) (m : Msg) (items : List Item) → ConnectionAnswer side h c m items →
      ConnectionAnswer side (with_secrets other h) c m items
  connection_answer side h c m items (row_global n w r) = row_global n w r
  connection_answer side h c m items (row_global_success r) = row_global_success r
  connection_answer side h c m items row_global_failure = row_global_failure
  connection_answer side h c m items (row_opened x k s w d r e) = row_opened x k s w d r (rw (same.channels_same other h) e)
  connection_answer side h c m items (row_not_opened k s w d r e a) =
      row_not_opened k s w d r (rw (same.channels_same other h) e) (due_same side h None (Open s w d) items a)
  connection_answer side h c m items (row_confirmation t s w d r) = row_confirmation t s w d r
  connection_answer side h c m items (row_failure t r d l) = row_failure t r d l
  connection_answer side h c m items (row_adjust t b) = row_adjust t b
  connection_answer side h c m items (row_got_data t b) = row_got_data t b
  connection_answer side h c m items (row_got_extended t k b) = row_got_extended t k b
  connection_answer side h c m items (row_eof t) = row_eof t
  connection_answer side h c m items (row_close {replies = l} t a) = row_close t (due_same side h (Some t) (Close t) l a)
  connection_answer side h c m items (row_request t n w r) = row_request t n w r
  connection_answer side h c m items (row_success t) = row_success t
  connection_answer side h c m items (row_no_success t) = row_no_success t

-- ---- checks and answers

module _ {K : Type 0} (p : Parties K) (other : List ℕ → List ℕ) (client server : Agreement) (x : AreExchanged p other client server) where
  abbrev q : Parties K
  q = agreeing_by client server p

  abbrev v : List Item → List Item
  v h = with_secrets other h

  too_late_same : (side : Side) (h : List Item) (theirs : Proposal) → comes_too_late side (v h) theirs ≡ comes_too_late side h theirs
  too_late_same side h theirs =
      ap (λ (o : Proposal). has_marker (marker_of side) o.kex && is_marked side theirs && nat_lt 0 (length (took (v h)))) (other_secrets.first_sent_same p other client server x h)
      ∙ ap (λ (l : List Payload). has_marker (marker_of side) (first_sent h).kex && is_marked side theirs && nat_lt 0 (length l)) (same.took_same other h)

  pub material_same : (h : List Item) → has_material (v h) ≡ has_material h
  material_same h =
      ap (λ (l : List Encoded). nat_lt (length (offers l)) (length (fed (v h)))) (same.messages_sent_same other h)
      ∙ ap (nat_lt (length (offers (messages_sent h)))) (same.fed_length other h)

  kexinit_checks_same : (side : Side) (h : List Item) (theirs : Proposal) → kexinit_checks q side (v h) theirs ≡ kexinit_checks p side h theirs
  kexinit_checks_same Client h theirs = rw (too_late_same Client h theirs, same.took_same other h, same.blocked_same other h, material_same h) refl
  kexinit_checks_same Server h theirs = rw (too_late_same Server h theirs, same.took_same other h, same.blocked_same other h, material_same h) refl

  transport_checks_same : (side : Side) (h : List Item) (m : Msg) → transport_checks q side (v h) m ≡ transport_checks p side h m
  transport_checks_same side h (KexInit theirs) = kexinit_checks_same side h theirs
  transport_checks_same side h (KexEcdhInit t) =
      ap (λ (good : Bool). RefusedWhere (not good) BadPoint ∷ []) (other_secrets.is_point_same p other client server x Server h t)
  transport_checks_same side h (KexEcdhReply k t g) =
      ap (λ (good : Bool). RefusedWhere (not good) BadPoint ∷ RefusedWhere (not (is_trusted q (v h) k t g)) BadHost ∷ [])
      (other_secrets.is_point_same p other client server x Client h t)
      ∙ ap (λ (trusted : Bool). RefusedWhere (not (is_point p Client h t)) BadPoint ∷ RefusedWhere (not trusted) BadHost ∷ [])
      (other_secrets.trusted_same p other client server x h k t g)
  transport_checks_same side h (ServiceRequest service) = refl
  transport_checks_same side h (ServiceAccept service) = refl
  transport_checks_same side h m = refl

  accepted_same : (h : List Item) (user service : List ℕ) (method : Method) → is_accepted q (v h) user service method ≡ is_accepted p h user service method
  accepted_same h user service how = rw (other_secrets.exchanges_same p other client server x Server h) refl

  failing_same : (h : List Item) (user service : List ℕ) (method : Method) → is_failing q (v h) user service method ≡ is_failing p h user service method
  failing_same h user service how = rw (other_secrets.exchanges_same p other client server x Server h) refl

  authentication_checks_same : (side : Side) (h : List Item) (m : Msg) → authentication_checks q side (v h) m ≡ authentication_checks p side h m
  authentication_checks_same side h (UserauthRequest user service method) =
      rw (same.sent_success_same other h, failing_same h user service method, same.failures_same other h) refl
  authentication_checks_same side h m = refl

  pub checks_same : (side : Side) (h : List Item) (m : Msg) → answer_checks q side (v h) m ≡ answer_checks p side h m
  checks_same side h m = rw (transport_checks_same side h m, authentication_checks_same side h m, connection_checks_same other side h m) refl

  announces_same : (side : Side) (h : List Item) → announces q side (v h) ≡ announces p side h
  announces_same Client h = rw (same.sent_same other h, other_secrets.announced_to_same p other client server x Client h) refl
  announces_same Server h = rw (same.sent_same other h, other_secrets.announced_to_same p other client server x Server h) refl

  announced : (side : Side) (h items : List Item) → IsAnnounced p side h items → IsAnnounced q side (v h) items
  announced Client h items (extensions b e) = extensions b (announces_same Client h ∙ e)
  announced Server h items (extensions b e) = extensions b (announces_same Server h ∙ e)
  announced Client h items (nothing e) = nothing (announces_same Client h ∙ e)
  announced Server h items (nothing e) = nothing (announces_same Server h ∙ e)

  transport_answer : (side : Side) (h : List Item) (m : Msg) (items : List Item) → TransportAnswer p side h m items → TransportAnswer q side (v h) m items
  transport_answer side h m items (disconnect r d l) = disconnect r d l
  transport_answer side h m items (ignore b) = ignore b
  transport_answer side h m items (unimplemented n) = unimplemented n
  transport_answer side h m items (debug d t l) = debug d t l
  transport_answer side h m items (unknown n b) =
      subst (λ (number : ℕ). TransportAnswer q side (v h) m (Sent None (Unimplemented number) b ∷ []))
      (other_secrets.taking_number_same p other client server x side h) (unknown n b)
  transport_answer side h m items (service_request s b) = service_request s b
  transport_answer side h m items (service_accept s) = service_accept s
  transport_answer side h m items (got_extensions a) = got_extensions a
  transport_answer side h m items (kexinit_at_server t e) = kexinit_at_server t (same.blocked_same other h ∙ e)
  transport_answer side h m items (kexinit_at_client t b e) =
      subst (λ (point : List ℕ). TransportAnswer q Client (v h) (KexInit t) (Sent None (KexEcdhInit point) b ∷ []))
      (other_secrets.point_now_same p other client server x Client h) (kexinit_at_client t b (same.blocked_same other h ∙ e))
  transport_answer side h m items (answered_at_server t b e) =
      subst (λ (cookie : List ℕ). TransportAnswer q Server (v h) (KexInit t) (Sent None (KexInit (offer p Server false cookie)) b ∷ []))
      (other_secrets.cookie_same p other client server x h) (answered_at_server t b (same.blocked_same other h ∙ e))
  transport_answer side h m items (answered_at_client t o b e) =
      subst (λ (cookie : List ℕ). TransportAnswer q Client (v h) (KexInit t)
      (Sent None (KexEcdhInit (point_now p Client h)) b ∷ Sent None (KexInit (offer p Client false cookie)) o ∷ []))
      (other_secrets.cookie_same p other client server x h)
      (subst (λ (point : List ℕ). TransportAnswer q Client (v h) (KexInit t)
      (Sent None (KexEcdhInit point) b ∷ Sent None (KexInit (offer p Client false (next_cookie (v h)))) o ∷ []))
      (other_secrets.point_now_same p other client server x Client h) (answered_at_client t o b (same.blocked_same other h ∙ e)))
  transport_answer side h m items newkeys = newkeys

  pub completion : (owed : List Item) (side : Side) (h : List Item) (m : Msg) (items : List Item) → CompletingAnswer p owed side h m items →
      CompletingAnswer q owed side (v h) m items
  completion owed side h m items (init {announced = l} t r n a) =
      subst (λ (e : ℕ). CompletingAnswer q owed Server (v h) (KexEcdhInit t)
      (Told (Completed (suc e)) ∷ (owed ++ (l ++ (Sent None NewKeys n ∷ Sent None (reply_now p h t) r ∷ []))))) (ap epoch (same.sent_same other h))
      (subst (λ (replied : Msg). CompletingAnswer q owed Server (v h) (KexEcdhInit t)
      (Told (Completed (suc (epoch (sent (v h))))) ∷ (owed ++ (l ++ (Sent None NewKeys n ∷ Sent None replied r ∷ [])))))
      (other_secrets.reply_same p other client server x h t) (init t r n (announced Server h l a)))
  completion owed side h m items (reply {announced = l} k t g n a) =
      subst (λ (e : ℕ). CompletingAnswer q owed Client (v h) (KexEcdhReply k t g)
      (Told (Completed (suc e)) ∷ (owed ++ (l ++ (Sent None NewKeys n ∷ []))))) (ap epoch (same.sent_same other h))
      (reply k t g n (announced Client h l a))

  authentication_answer : (side : Side) (h : List Item) (m : Msg) (items : List Item) → AuthenticationAnswer p side h m items →
      AuthenticationAnswer q side (v h) m items
  authentication_answer side h m items (request_too_late u s how e) = request_too_late u s how (same.sent_success_same other h ∙ e)
  authentication_answer side h m items (request_accepted u s how b e f) =
      request_accepted u s how b (same.sent_success_same other h ∙ e) (accepted_same h u s how ∙ f)
  authentication_answer side h m items (request_probed u s n k b e f) = request_probed u s n k b (same.sent_success_same other h ∙ e) f
  authentication_answer side h m items (request_failed u s how b e f) =
      request_failed u s how b (same.sent_success_same other h ∙ e) (failing_same h u s how ∙ f)
  authentication_answer side h m items (failure l b) = failure l b
  authentication_answer side h m items (success way e) = success way (same.outstanding_same other h ∙ e)
  authentication_answer side h m items (banner t l) = banner t l
  authentication_answer side h m items (key_ok n k) = key_ok n k

  pub answer : (side : Side) (h : List Item) (c : Option ℕ) (m : Msg) (items : List Item) → Answer p side h c m items → Answer q side (v h) c m items
  answer side h c m items (of_transport t) = of_transport (transport_answer side h m items t)
  answer side h c m items (of_completion r t) = of_completion (rw (same.channels_same other h) r) (completion _ side h m items t)
  answer side h c m items (of_authentication t) = of_authentication (authentication_answer side h m items t)
  answer side h c m items (of_connection t) = of_connection (connection_answer other side h c m items t)
