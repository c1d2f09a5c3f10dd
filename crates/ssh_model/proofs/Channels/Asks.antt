-- The turns of an end on its channels: asks, exchanges, and whole turns.
use Rattle.std.proofs.Common.{◌≡◌, ℕ, ◌≤◌, ◌^◌, List, [], ◌∷◌, ◌++◌, length, refl, ap, sym, ◌∙◌, arith, subst, append_assoc, Bool, true, false, not, nat_lt, ltb-false, ◌&&◌, ◌||◌, Option, Some, None}
use Rattle.ssh_model.specs.Protocol.Bounds.{largest_data, largest_window, most_waiting_requests}
use Rattle.ssh_model.specs.declared.side.Side.{Side}
use Rattle.ssh_model.specs.declared.side.Side.TheVariants.{Client, Server}
use Rattle.ssh_model.specs.Protocol.Wire.DataTypes.{IsUint32}
use Rattle.ssh_model.specs.Protocol.Wire.Message.{Msg, Msg.KexEcdhInit, Msg.KexEcdhReply}
use Rattle.ssh_model.specs.declared.refusal.Refusal.{Refusal}
use Rattle.ssh_model.specs.declared.refusal.Refusal.TheVariants.{BadMessage, Unexpected}
use Rattle.ssh_model.specs.Protocol.Sessions.Refusals.{first_refusal}
use Rattle.ssh_model.specs.Protocol.Sessions.Parties.{Parties}
use Rattle.ssh_model.specs.Protocol.Sessions.Items.{Ask, Ask.AskRekey, Ask.AskOpen, Ask.AskConfirm, Ask.AskRefuse, Ask.AskData, Ask.AskAdjust, Ask.AskEof, Ask.AskClose, Ask.AskRequest, Ask.AskReply, Item, Item.Asked, Item.Took}
use Rattle.ssh_model.specs.Protocol.Sessions.Phases.{blocked, phase, is_normal}
use Rattle.ssh_model.specs.Protocol.Channels.Numbers.{is_held, max_packet_there, waiting_there}
use Rattle.ssh_model.specs.Protocol.Channels.History as channel
use Rattle.ssh_model.specs.ChannelLayer.Rows as row
use Rattle.ssh_model.specs.Protocol.Channels.Connection.{channel_items, notes, owed_replies, AreReplies, ConnectionAsk.opens, ConnectionAsk.confirm, ConnectionAsk.refuse, ConnectionAsk.sends, ConnectionAsk.sends_extended, ConnectionAsk.adjust, ConnectionAsk.eof, ConnectionAsk.close, ConnectionAsk.request, ConnectionAsk.reply_yes, ConnectionAsk.reply_no, ConnectionAsk.global, ConnectionAsk.global_yes, ConnectionAsk.global_no, is_limit_reached}
use Rattle.ssh_model.specs.Protocol.Sessions.Transport.{TransportAnswer, TransportAnswer.disconnect, TransportAnswer.ignore, TransportAnswer.unimplemented, TransportAnswer.debug, TransportAnswer.unknown, TransportAnswer.service_request, TransportAnswer.service_accept, TransportAnswer.extensions, IsAnnounced, TransportAnswer.kexinit_at_server, TransportAnswer.kexinit_at_client, TransportAnswer.answered_at_server, TransportAnswer.answered_at_client, CompletingAnswer.init, CompletingAnswer.reply, TransportAnswer.newkeys, TransportAsk.service, TransportAsk.rekey, TransportAsk.disconnect, CompletingAnswer}
use Rattle.ssh_model.specs.Protocol.Authentication.Rows.{AuthenticationAnswer.request_too_late, AuthenticationAnswer.request_accepted, AuthenticationAnswer.request_probed, AuthenticationAnswer.request_failed, AuthenticationAnswer.failure, AuthenticationAnswer.success, AuthenticationAnswer.banner, AuthenticationAnswer.key_ok, AuthenticationAsk.none, AuthenticationAsk.password, AuthenticationAsk.probe, AuthenticationAsk.sign, AuthenticationAnswer}
use Rattle.ssh_model.specs.Protocol.Sessions.Turns.{AreEncoded, Refuses, Refuses.silently, Refuses.spent, Refuses.said, IsAcceptable, Answer, Answer.of_transport, Answer.of_completion, Answer.of_authentication, Answer.of_connection, OnAsk.of_authentication, OnPayload, OnPayload.takes, OnPayload.skips, OnPayload.unexpected, OnPayload.bad_message, OnPayload.refuses, OnPayload.spends, OnOutcome.other_line, OnOutcome.version_line, OnOutcome.refused_line, OnOutcome.opened, OnOutcome.refused_packet, ask_checks, OnAsk, OnAsk.of_transport, OnAsk.of_connection, FeedsTurn, AsksTurn, AsksTurn.refuses, AsksTurn.spends, OnUnit, OnUnit.reads, Turn, Turn.asks, Turn.reads}
use Rattle.ssh_model.specs.Laws.Checks.{all_passed}
use Rattle.ssh_model.proofs.Sessions.Stages.{or_false, not_false, level_at_30, level_at_31}
use Rattle.ssh_model.proofs.Sessions.EndKeeps.{End}
use Rattle.ssh_model.proofs.Sessions.EndAnswers.{may_be}
use Rattle.ssh_model.proofs.KeyExchange.Texts.{number_below}
use Rattle.ssh_model.proofs.Channels.View.{items_following, blocked_same, replies_seen}
use Rattle.ssh_model.proofs.Channels.Turns.{Seen, Seen.nothing, Seen.turn, owed_are, connection_seen}

uint32_small : (n : ℕ) (bytes : List ℕ) → IsUint32 n bytes → n ≤ largest_window
uint32_small n bytes u =
    let below = number_below bytes u.are_bytes in
    let room : 256 ^ length bytes ≡ 256 ^ 4 = ap (λ (k : ℕ). 256 ^ k) u.count in
    omega (arith, u.value)

module _ {K : Type 0} (p : Parties K) where
  free_of_exchange : (side : Side) (h : List Item) → blocked h ≡ false → channel.blocked (channel_items h) ≡ false
  free_of_exchange side h e = blocked_same h ∙ e

  transport_seen : (side : Side) (h items : List Item) (m : Msg) (b : List ℕ) → TransportAnswer p side h m items → IsAcceptable p side h m b → End p side h → Seen side h (items ++ (Took None m b ∷ []))
  transport_seen side h items m b (disconnect r d l) w v = nothing refl
  transport_seen side h items m b (ignore x) w v = nothing refl
  transport_seen side h items m b (unimplemented x) w v = nothing refl
  transport_seen side h items m b (debug x y z) w v = nothing refl
  transport_seen side h items m b (unknown x y) w v = nothing refl
  transport_seen side h items m b (service_request x y) w v = nothing refl
  transport_seen side h items m b (service_accept x) w v = nothing refl
  transport_seen side h items m b (kexinit_at_server theirs e) w v = nothing refl
  transport_seen side h items m b (kexinit_at_client theirs y e) w v = nothing refl
  transport_seen side h items m b (answered_at_server theirs own e) w v = turn (row.Turn.rekeys (free_of_exchange side h e))
  transport_seen side h items m b (answered_at_client theirs own y e) w v = turn (row.Turn.rekeys (free_of_exchange side h e))
  transport_seen side h items m b (extensions a) w v = nothing refl
  transport_seen side h items m b newkeys w v = nothing refl

  completion_seen : (side : Side) (h owed items : List Item) (m : Msg) (b : List ℕ) → CompletingAnswer p owed side h m items → AreReplies (owed_replies side h) owed
      → IsAcceptable p side h m b → End p side h → Seen side h (items ++ (Took None m b ∷ []))
  completion_seen side h owed items m b (init q rb nb (IsAnnounced.extensions xb f)) o w v =
      let st = level_at_30 (phase p Server h) _ h _ _ _ (may_be p Server h m b w) v.in_step in
      turn (subst (λ l. row.Turn Server (channel_items h) l)
      (sym (ap channel_items (append_assoc owed _ (Took None (KexEcdhInit q) b ∷ []))
      ∙ (items_following owed _ ∙ ap (λ l. l ++ (channel.Item.NewkeysSent ∷ [])) (replies_seen _ owed o (owed_are Server (channel_items h))))))
      (row.Turn.completes (blocked_same h ∙ st.0)))
  completion_seen side h owed items m b (init q rb nb (IsAnnounced.nothing f)) o w v =
      let st = level_at_30 (phase p Server h) _ h _ _ _ (may_be p Server h m b w) v.in_step in
      turn (subst (λ l. row.Turn Server (channel_items h) l)
      (sym (ap channel_items (append_assoc owed _ (Took None (KexEcdhInit q) b ∷ []))
      ∙ (items_following owed _ ∙ ap (λ l. l ++ (channel.Item.NewkeysSent ∷ [])) (replies_seen _ owed o (owed_are Server (channel_items h))))))
      (row.Turn.completes (blocked_same h ∙ st.0)))
  completion_seen side h owed items m b (reply k_s q_s g nb (IsAnnounced.extensions xb f)) o w v =
      let st = level_at_31 (phase p Client h) _ h _ _ _ (may_be p Client h m b w) v.in_step in
      turn (subst (λ l. row.Turn Client (channel_items h) l)
      (sym (ap channel_items (append_assoc owed _ (Took None (KexEcdhReply k_s q_s g) b ∷ []))
      ∙ (items_following owed _ ∙ ap (λ l. l ++ (channel.Item.NewkeysSent ∷ [])) (replies_seen _ owed o (owed_are Client (channel_items h))))))
      (row.Turn.completes (blocked_same h ∙ st.0)))
  completion_seen side h owed items m b (reply k_s q_s g nb (IsAnnounced.nothing f)) o w v =
      let st = level_at_31 (phase p Client h) _ h _ _ _ (may_be p Client h m b w) v.in_step in
      turn (subst (λ l. row.Turn Client (channel_items h) l)
      (sym (ap channel_items (append_assoc owed _ (Took None (KexEcdhReply k_s q_s g) b ∷ []))
      ∙ (items_following owed _ ∙ ap (λ l. l ++ (channel.Item.NewkeysSent ∷ [])) (replies_seen _ owed o (owed_are Client (channel_items h))))))
      (row.Turn.completes (blocked_same h ∙ st.0)))

  authentication_seen : (side : Side) (h items : List Item) (m : Msg) (b : List ℕ) → AuthenticationAnswer p side h m items → IsAcceptable p side h m b → End p side h → Seen side h (items ++ (Took None m b ∷ []))
  authentication_seen side h items m b (request_too_late x y z e) w v = nothing refl
  authentication_seen side h items m b (request_accepted x y z c e f) w v = nothing refl
  authentication_seen side h items m b (request_probed x y a k c e f) w v = nothing refl
  authentication_seen side h items m b (request_failed x y z c e f) w v = nothing refl
  authentication_seen side h items m b (failure x y) w v = nothing refl
  authentication_seen side h items m b (success way e) w v = nothing refl
  authentication_seen side h items m b (banner x y) w v = nothing refl
  authentication_seen side h items m b (key_ok x y) w v = nothing refl

  answer_seen : (side : Side) (h items : List Item) (c : Option ℕ) (m : Msg) (b : List ℕ) → Answer p side h c m items → IsAcceptable p side h m b → End p side h
      → Seen side h (items ++ (Took c m b ∷ []))
  answer_seen side h items c m b (of_transport a) w v = transport_seen side h items m b a w v
  answer_seen side h items c m b (of_completion r a) w v = completion_seen side h _ items m b a r w v
  answer_seen side h items c m b (of_authentication a) w v = authentication_seen side h items m b a w v
  answer_seen side h items c m b (of_connection a) w v = connection_seen p side h items c m b a w.not_refused

  -- an ask of the connection is made while the end is not blocked
  unblocked : (side : Side) (h : List Item) (busy : Bool) → (blocked h || busy) ≡ false → channel.blocked (channel_items h) ≡ false
  unblocked side h busy e = free_of_exchange side h (or_false (blocked h) busy e).0

  ask_seen : (side : Side) (h items : List Item) (a : Ask) → OnAsk p side h a items → first_refusal (ask_checks p side h a) ≡ None → AreEncoded items
      → Seen side h (items ++ (Asked a ∷ []))
  ask_seen side h items a (of_transport (service x)) c s = nothing refl
  ask_seen side h items a (OnAsk.of_authentication (none x y)) c s = nothing refl
  ask_seen side h items a (OnAsk.of_authentication (password x y z)) c s = nothing refl
  ask_seen side h items a (OnAsk.of_authentication (probe x y z b)) c s = nothing refl
  ask_seen side h items a (OnAsk.of_authentication (sign x y z b)) c s = nothing refl
  ask_seen side h items a (of_transport (rekey b)) c s =
      let q = all_passed (ask_checks p side h AskRekey) c in
      turn (row.Turn.rekeys (unblocked side h (not (is_normal (phase p side h))) q.1.0))
  ask_seen side h items a (of_transport (disconnect x b)) c s = nothing refl
  ask_seen side h items a (of_connection (opens x k w d r b free)) c s =
      let q = all_passed (ask_checks p side h (AskOpen k w d r)) c in
      turn (row.Turn.opens x w d (unblocked side h false q.1.0) free (uint32_small w _ s.0.row.second.second.second.first))
  ask_seen side h items a (of_connection (confirm x w d r b)) c s =
      let q = all_passed (ask_checks p side h (AskConfirm x w d r)) c in
      turn (row.Turn.asks x _ (unblocked side h false q.1.0) (row.Ask.confirm w d (not_false _ q.1.1.1.0) (uint32_small w _ s.0.row.second.second.second.first)))
  ask_seen side h items a (of_connection (refuse x r b)) c s =
      let q = all_passed (ask_checks p side h (AskRefuse x r)) c in
      turn (row.Turn.asks x _ (unblocked side h false q.1.0) (row.Ask.refuse (not_false _ q.1.1.1.0)))
  ask_seen side h items a (of_connection (sends x y b)) c s =
      let q = all_passed (ask_checks p side h (AskData x None y)) c in
      let long = or_false (nat_lt largest_data (length y)) (nat_lt (max_packet_there x (notes side h)) (length y)) q.1.1.1.1.1.0 in
      turn (row.Turn.asks x _ (unblocked side h false q.1.0)
      (row.Ask.give_data None y (not_false _ q.1.1.1.0) q.1.1.1.1.0 (ltb-false largest_data (length y) long.0) (ltb-false _ (length y) long.1) (ltb-false _ (length y) q.1.1.1.1.1.1.0)))
  ask_seen side h items a (of_connection (sends_extended x k y b)) c s =
      let q = all_passed (ask_checks p side h (AskData x (Some k) y)) c in
      let long = or_false (nat_lt largest_data (length y)) (nat_lt (max_packet_there x (notes side h)) (length y)) q.1.1.1.1.1.0 in
      turn (row.Turn.asks x _ (unblocked side h false q.1.0)
      (row.Ask.give_data (Some k) y (not_false _ q.1.1.1.0) q.1.1.1.1.0 (ltb-false largest_data (length y) long.0) (ltb-false _ (length y) long.1) (ltb-false _ (length y) q.1.1.1.1.1.1.0)))
  ask_seen side h items a (of_connection (adjust x n b)) c s =
      let q = all_passed (ask_checks p side h (AskAdjust x n)) c in
      turn (row.Turn.asks x _ (unblocked side h false q.1.0) (row.Ask.adjust n (not_false _ q.1.1.1.0) q.1.1.1.1.0 (ltb-false _ _ q.1.1.1.1.1.0)))
  ask_seen side h items a (of_connection (eof x b)) c s =
      let q = all_passed (ask_checks p side h (AskEof x)) c in
      turn (row.Turn.asks x _ (unblocked side h false q.1.0) (row.Ask.eof (not_false _ q.1.1.1.0) q.1.1.1.1.0))
  ask_seen side h items a (of_connection (close x b)) c s =
      let q = all_passed (ask_checks p side h (AskClose x)) c in
      turn (row.Turn.asks x _ (unblocked side h false q.1.0) (row.Ask.close (not_false _ q.1.1.1.0) q.1.1.1.1.0))
  ask_seen side h items a (of_connection (request x n want r b)) c s =
      let q = all_passed (ask_checks p side h (AskRequest x n want r)) c in
      turn (row.Turn.asks x _ (unblocked side h (want && is_held x (notes side h) && is_limit_reached most_waiting_requests (waiting_there x (notes side h))) q.1.0) (row.Ask.request want (not_false _ q.1.1.1.0) q.1.1.1.1.0))
  ask_seen side h items a (of_connection (reply_yes x b)) c s =
      let q = all_passed (ask_checks p side h (AskReply x true)) c in
      turn (row.Turn.asks x _ (unblocked side h false q.1.0) (row.Ask.reply true (not_false _ q.1.1.1.0) q.1.1.1.1.0))
  ask_seen side h items a (of_connection (reply_no x b)) c s =
      let q = all_passed (ask_checks p side h (AskReply x false)) c in
      turn (row.Turn.asks x _ (unblocked side h false q.1.0) (row.Ask.reply false (not_false _ q.1.1.1.0) q.1.1.1.1.0))
  ask_seen side h items a (of_connection (global n w r b)) c s = nothing refl
  ask_seen side h items a (of_connection (global_yes r b)) c s = nothing refl
  ask_seen side h items a (of_connection (global_no r b)) c s = nothing refl

  refuses_seen : (side : Side) (h items : List Item) (why : Refusal) (b : Option (List ℕ)) → Refuses h why b items → Seen side h items
  refuses_seen side h items n b (silently e) = nothing refl
  refuses_seen side h items n b (spent e) = nothing refl
  refuses_seen side h items n b (said r x e f s) = nothing refl

  payload_seen : (side : Side) (h items : List Item) (b : List ℕ) → OnPayload p side h b items → End p side h → Seen side h items
  payload_seen side h items b (takes {items = l} c m w a s k) v = answer_seen side h l c m b a w v
  payload_seen side h items b (skips e m) v = nothing refl
  payload_seen side h items b (unexpected m r) v = refuses_seen side h items Unexpected _ r
  payload_seen side h items b (bad_message m e f r) v = refuses_seen side h items BadMessage _ r
  payload_seen side h items b (refuses m k a e f c r) v = refuses_seen side h items k _ r
  payload_seen side h items b (spends c m w a s k) v = nothing refl

  pub turn_seen : (side : Side) (h items : List Item) → Turn p side h items → End p side h → Seen side h items
  turn_seen side h items (Turn.feeds c s (FeedsTurn.feeds k m)) v = nothing refl
  turn_seen side h items (asks a (AsksTurn.refuses k alive e)) v = nothing refl
  turn_seen side h items (asks a (AsksTurn.answers {items = l} alive c o s k)) v = ask_seen side h l a o c s
  turn_seen side h items (asks a (AsksTurn.spends alive c o s k)) v = nothing refl
  turn_seen side h items (reads unit alive (OnUnit.reads o u (other_line text))) v = nothing refl
  turn_seen side h items (reads unit alive (OnUnit.reads o u (version_line text))) v = nothing refl
  turn_seen side h items (reads unit alive (OnUnit.reads o u (refused_line k r))) v = refuses_seen side h items k _ r
  turn_seen side h items (reads unit alive (OnUnit.reads o u (opened b x))) v = payload_seen side h items b x v
  turn_seen side h items (reads unit alive (OnUnit.reads o u (refused_packet k r))) v = refuses_seen side h items k _ r
  turn_seen side h items (reads unit alive (OnUnit.dies o u x k)) v = nothing refl
  turn_seen side h items (asks a (AsksTurn.dies alive c o s k)) v = nothing refl
  turn_seen side h items (asks a (AsksTurn.is_dead e)) v = nothing refl
  turn_seen side h items (Turn.feeds c s (FeedsTurn.answers_false e)) v = nothing refl
