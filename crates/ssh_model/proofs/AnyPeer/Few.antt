-- How many messages an end sends, by what it was asked and what it took, and how many bytes it puts out.
use Rattle.std.proofs.Common.{◌≡◌, ℕ, suc, ◌+◌, ◌*◌, ◌≤◌, List, [], ◌∷◌, ◌++◌, length, length-append, refl, ap, sym, arith, subst, append_assoc, Bool, true, false, cond, Option, Some, None}
use Rattle.ssh_model.specs.declared.side.Side.{Side}
use Rattle.ssh_model.specs.declared.side.Side.TheVariants.{Client, Server}
use Rattle.ssh_model.specs.Protocol.Wire.Message.{Msg, Msg.NewKeys, Msg.KexInit, Msg.KexEcdhInit, Msg.KexEcdhReply}
use Rattle.ssh_model.specs.Protocol.Sessions.Parties.{AreLawful, Parties, settings_of}
use Rattle.ssh_model.specs.Protocol.Sessions.Items.{Ask, Item, Item.Asked, Item.Sent, Item.SentLine, Item.Took, Item.TookGuess, Item.Died, has_died, took, messages_sent}
use Rattle.ssh_model.specs.Protocol.Channels.Message.{Message, Message.Open, Message.Close}
use Rattle.ssh_model.specs.Protocol.Channels.Notes.{Note}
use Rattle.ssh_model.specs.Protocol.Channels.Numbers.{has_closed}
use Rattle.ssh_model.specs.Protocol.Channels.History as channel
use Rattle.ssh_model.specs.Protocol.Channels.History.{owed, blocked, noted, due, at_once}
use Rattle.ssh_model.specs.Protocol.Channels.Connection.{received_on, on_channel}
use Rattle.ssh_model.specs.Protocol.Sessions.Bounded.{asked, AnswersFew}
use Rattle.ssh_model.specs.Protocol.Sessions.Phases.{blocked as blocked_now}
use Rattle.ssh_model.specs.Protocol.Sessions.Transport.{TransportAnswer, TransportAnswer.disconnect, TransportAnswer.ignore, TransportAnswer.unimplemented, TransportAnswer.debug, TransportAnswer.unknown, TransportAnswer.service_request, TransportAnswer.service_accept, TransportAnswer.extensions, IsAnnounced, TransportAnswer.kexinit_at_server, TransportAnswer.kexinit_at_client, TransportAnswer.answered_at_server, TransportAnswer.answered_at_client, CompletingAnswer.init, CompletingAnswer.reply, TransportAnswer.newkeys, TransportAsk.service, TransportAsk.rekey, TransportAsk.disconnect, CompletingAnswer}
use Rattle.ssh_model.specs.Protocol.Authentication.Rows.{AuthenticationAnswer.request_too_late, AuthenticationAnswer.request_accepted, AuthenticationAnswer.request_probed, AuthenticationAnswer.request_failed, AuthenticationAnswer.failure, AuthenticationAnswer.success, AuthenticationAnswer.banner, AuthenticationAnswer.key_ok, AuthenticationAsk.none, AuthenticationAsk.password, AuthenticationAsk.probe, AuthenticationAsk.sign, AuthenticationAnswer}
use Rattle.ssh_model.specs.Protocol.Channels.Connection.{notes, channel_items, owed_replies, AreReplies, AreReplies.none, AreReplies.reply, ConnectionAnswer, ConnectionAnswer.global, ConnectionAnswer.global_success, ConnectionAnswer.global_failure, ConnectionAnswer.opened, ConnectionAnswer.not_opened, ConnectionAnswer.confirmation, ConnectionAnswer.failure, ConnectionAnswer.adjust, ConnectionAnswer.got_data, ConnectionAnswer.got_extended, ConnectionAnswer.eof, ConnectionAnswer.close, ConnectionAnswer.request, ConnectionAnswer.success, ConnectionAnswer.no_success, ConnectionAsk.opens, ConnectionAsk.confirm, ConnectionAsk.refuse, ConnectionAsk.sends, ConnectionAsk.sends_extended, ConnectionAsk.adjust, ConnectionAsk.eof, ConnectionAsk.close, ConnectionAsk.request, ConnectionAsk.reply_yes, ConnectionAsk.reply_no, ConnectionAsk.global, ConnectionAsk.global_yes, ConnectionAsk.global_no}
use Rattle.ssh_model.specs.Protocol.Sessions.Turns.{Refuses, Refuses.silently, Refuses.spent, Refuses.said, Answer, Answer.of_transport, Answer.of_completion, Answer.of_authentication, Answer.of_connection, OnAsk.of_authentication, OnPayload, OnPayload.takes, OnPayload.skips, OnPayload.unexpected, OnPayload.bad_message, OnOutcome, OnOutcome.other_line, OnOutcome.version_line, OnOutcome.refused_line, OnOutcome.opened, OnOutcome.refused_packet, OnAsk, OnAsk.of_transport, OnAsk.of_connection, FeedsTurn, AsksTurn, OnUnit, OnUnit.reads, Turn, Turn.asks, Turn.reads, EndRun}
use Rattle.ssh_model.specs.Protocol.Wire.Outcome.{Outcome}
use Rattle.ssh_model.specs.declared.refusal.Refusal.{Refusal}
use Rattle.ssh_model.specs.declared.refusal.Refusal.TheVariants.{BadMessage, Unexpected}

-- ---- what is counted

-- 1 while the end lives
abbrev pub life : List Item → ℕ
life h = cond (has_died h) 0 1

-- the bytes of the version lines that the end sent
abbrev pub line_bytes : List Item → ℕ
line_bytes [] = 0
line_bytes (SentLine line ∷ h) = length line + 2 + line_bytes h
line_bytes (_ ∷ h) = line_bytes h

pub record Few (side : Side) (h : List Item) : Type 0 where
  pub answers : length (messages_sent h) + length (owed_replies side h) + life h ≤ 2 + asked h + 3 * length (took h)
  pub lines : line_bytes h ≤ 255

-- ---- items that are neither taken nor a line

abbrev IsLight : Item → Type 0
IsLight (Took c m b) = ⊥
IsLight (TookGuess b) = ⊥
IsLight (SentLine line) = ⊥
IsLight _ = Unit {0}

abbrev AreLight : List Item → Type 0
AreLight [] = Unit {0}
AreLight (i ∷ l) = IsLight i × AreLight l

sent_over : (items h : List Item) → length (messages_sent (items ++ h)) ≡ length (messages_sent items) + length (messages_sent h)
sent_over [] h = omega arith
sent_over (Sent c m b ∷ l) h = omega (arith, sent_over l h)
sent_over (i ∷ l) h = sent_over l h

asked_over : (items h : List Item) → asked h ≤ asked (items ++ h)
asked_over [] h = omega arith
asked_over (Asked a ∷ l) h = omega (arith, asked_over l h)
asked_over (i ∷ l) h = asked_over l h

took_more : (c : Option ℕ) (m : Msg) (b : List ℕ) (h : List Item) → length (took (Took c m b ∷ h)) ≡ suc (length (took h))
took_more c NewKeys b h = refl
took_more c m b h = refl

took_over : (items h : List Item) → length (took h) ≤ length (took (items ++ h))
took_over [] h = omega arith
took_over (Took c m b ∷ l) h = omega (arith, took_over l h, took_more c m b (l ++ h))
took_over (TookGuess b ∷ l) h = omega (arith, took_over l h)
took_over (i ∷ l) h = took_over l h

life_over : (items h : List Item) → life (items ++ h) ≤ life h
life_over [] h = omega arith
life_over (Died ∷ l) h = omega arith
life_over (i ∷ l) h = life_over l h

lines_over : (items h : List Item) → AreLight items → line_bytes (items ++ h) ≡ line_bytes h
lines_over [] h q = refl
lines_over (SentLine line ∷ l) h q = elim (q.0) [ ]
lines_over (i ∷ l) h q = lines_over l h q.1

pub owed_sent : (side : Side) (c : Option ℕ) (m : Msg) (b : List ℕ) (h : List Item) → length (owed_replies side (Sent c m b ∷ h)) ≤ length (owed_replies side h)
owed_sent side c NewKeys b h = omega arith
owed_sent side c (KexInit o) b h = omega arith
owed_sent side c m b h = omega arith

owed_over : (side : Side) (items h : List Item) → AreLight items → length (owed_replies side (items ++ h)) ≤ length (owed_replies side h)
owed_over side [] h q = omega arith
owed_over side (Sent c m b ∷ l) h q = omega (arith, owed_over side l h q.1, owed_sent side c m b (l ++ h))
owed_over side (Took c m b ∷ l) h q = elim (q.0) [ ]
owed_over side (TookGuess b ∷ l) h q = elim (q.0) [ ]
owed_over side (i ∷ l) h q = owed_over side l h q.1

-- ---- what is owed after a message was taken

closes : (t : Bool) (l : List channel.Item) → length l ≤ 1 → length (cond t [] l) ≤ 1
closes true l n = omega arith
closes false l n = n

pub due_one : (at : Option ℕ) (m : Message) (notes : List Note) → length (due at m notes) ≤ 1
due_one None (Open from w k) notes = omega arith
due_one (Some x) (Close to) notes = closes (has_closed x notes) _ (omega arith)
due_one at m notes = omega arith

if_blocked : (t : Bool) (l o : List channel.Item) → length l ≤ 1 → length (cond t (l ++ o) o) ≤ suc (length o)
if_blocked true l o n = omega (arith, n, length-append l o)
if_blocked false l o n = omega arith

owed_received : (side : Side) (at : Option ℕ) (o : Option Message) (l : List channel.Item) → length (owed side (received_on at o l)) ≤ suc (length (owed side l))
owed_received side at None l = omega arith
owed_received side at (Some m) l = if_blocked (blocked l) (due at m (noted side l)) (owed side l) (due_one at m (noted side l))

owed_taken : (side : Side) (c : Option ℕ) (m : Msg) (b : List ℕ) (h : List Item) → length (owed_replies side (Took c m b ∷ h)) ≤ suc (length (owed_replies side h))
owed_taken side c m b h = owed_received side c (on_channel m) (channel_items h)

-- ---- replies

replies_light : (l : List channel.Item) (items : List Item) → AreReplies l items → AreLight items
replies_light l items none = tt
replies_light l items (reply at m b r) = (tt, replies_light _ _ r)

replies_count : (l : List channel.Item) (items : List Item) → AreReplies l items → length (messages_sent items) ≡ length l
replies_count l items none = refl
replies_count l items (reply at m b r) = ap suc (replies_count _ _ r)

at_once_one : (t : Bool) (l : List channel.Item) → length l ≤ 1 → length (at_once t l) ≤ 1
at_once_one true l n = omega arith
at_once_one false l n = n

-- ---- steps

module _ (side : Side) where
  took_step : (h items : List Item) (c : Option ℕ) (m : Msg) (b : List ℕ) → AreLight items → length (messages_sent items) ≤ 2 → Few side h → Few side (items ++ (Took c m b ∷ h))
  took_step h items c m b q n v = record {
    answers = omega (arith, n, v.answers, sent_over items (Took c m b ∷ h), owed_over side items (Took c m b ∷ h) q, owed_taken side c m b h, asked_over items (Took c m b ∷ h), took_over items (Took c m b ∷ h), took_more c m b h, life_over items (Took c m b ∷ h));
    lines = omega (arith, v.lines, lines_over items (Took c m b ∷ h) q);
  }

  asked_step : (h items : List Item) (a : Ask) → AreLight items → length (messages_sent items) ≤ 1 → Few side h → Few side (items ++ (Asked a ∷ h))
  asked_step h items a q n v = record {
    answers = omega (arith, n, v.answers, sent_over items (Asked a ∷ h), owed_over side items (Asked a ∷ h) q, asked_over items (Asked a ∷ h), took_over items (Asked a ∷ h), life_over items (Asked a ∷ h));
    lines = omega (arith, v.lines, lines_over items (Asked a ∷ h) q);
  }

  idle_step : (h items : List Item) → AreLight items → length (messages_sent items) ≡ 0 → Few side h → Few side (items ++ h)
  idle_step h items q n v = record {
    answers = omega (arith, n, v.answers, sent_over items h, owed_over side items h q, asked_over items h, took_over items h, life_over items h);
    lines = omega (arith, v.lines, lines_over items h q);
  }

  last_step : (h items : List Item) → has_died h ≡ false → AreLight items → length (messages_sent items) ≤ 1 → Few side h → Few side (Died ∷ items ++ h)
  last_step h items d q n v =
      let alive : life h ≡ 1 = ap (λ t. cond t 0 1) d in
      record {
        answers = omega (arith, n, alive, v.answers, sent_over items h, owed_over side items h q, asked_over items h, took_over items h);
        lines = omega (arith, v.lines, lines_over items h q);
      }

  -- an exchange is completed: what was owed is sent, and nothing is owed
  completing_step : (h owed more before : List Item) (c : Option ℕ) (m : Msg) (b nb : List ℕ) → AreReplies (owed_replies side h) owed → AreLight more → AreLight before
      → length (messages_sent more) + length (messages_sent before) ≤ 2 → Few side h → Few side (owed ++ (more ++ (Sent None NewKeys nb ∷ (before ++ (Took c m b ∷ h)))))
  completing_step h owed more before c m b nb r q s n v =
      let t : List Item = Took c m b ∷ h in
      let g : List Item = Sent None NewKeys nb ∷ (before ++ t) in
      let k : List Item = more ++ g in
      record {
        answers = omega (arith, n, v.answers, replies_count _ owed r, sent_over owed k, sent_over more g, sent_over before t, owed_over side owed k (replies_light _ owed r), owed_over side more g q, asked_over owed k, asked_over more g, asked_over before t, took_over owed k, took_over more g, took_over before t, took_more c m b h, life_over owed k, life_over more g, life_over before t);
        lines = omega (arith, v.lines, lines_over owed k (replies_light _ owed r), lines_over more g q, lines_over before t s);
      }

-- ---- the rows

module _ {K : Type 0} (p : Parties K) where
  transport_few : (side : Side) (h items : List Item) (m : Msg) (b : List ℕ) → TransportAnswer p side h m items → Few side h → Few side (items ++ (Took None m b ∷ h))
  transport_few side h items m b (disconnect r d l) v = took_step side h items None m b (tt, (tt, tt)) (omega arith) v
  transport_few side h items m b (ignore x) v = took_step side h items None m b (tt, tt) (omega arith) v
  transport_few side h items m b (unimplemented x) v = took_step side h items None m b (tt, tt) (omega arith) v
  transport_few side h items m b (debug x y z) v = took_step side h items None m b (tt, tt) (omega arith) v
  transport_few side h items m b (unknown x y) v = took_step side h items None m b (tt, tt) (omega arith) v
  transport_few side h items m b (service_request x y) v = took_step side h items None m b (tt, tt) (omega arith) v
  transport_few side h items m b (service_accept x) v = took_step side h items None m b (tt, tt) (omega arith) v
  transport_few side h items m b (kexinit_at_server theirs e) v = took_step side h items None m b tt (omega arith) v
  transport_few side h items m b (kexinit_at_client theirs y e) v = took_step side h items None m b (tt, tt) (omega arith) v
  transport_few side h items m b (answered_at_server theirs own e) v = took_step side h items None m b (tt, tt) (omega arith) v
  transport_few side h items m b (answered_at_client theirs own y e) v = took_step side h items None m b (tt, (tt, tt)) (omega arith) v
  transport_few side h items m b (extensions a) v = took_step side h items None m b (tt, tt) (omega arith) v
  transport_few side h items m b newkeys v = took_step side h items None m b tt (omega arith) v

  completion_few : (side : Side) (h owed items : List Item) (m : Msg) (b : List ℕ) → CompletingAnswer p owed side h m items → AreReplies (owed_replies side h) owed → Few side h → Few side (items ++ (Took None m b ∷ h))
  completion_few side h owed items m b (init q rb nb (IsAnnounced.extensions xb f)) o v =
      let e = completing_step Server h owed (Sent None _ xb ∷ []) (Sent None _ rb ∷ []) None (KexEcdhInit q) b nb o (tt, tt) (tt, tt) (omega arith) v in
      idle_step Server _ (_ ∷ []) (tt, tt) refl (rw (append_assoc owed (Sent None _ xb ∷ Sent None NewKeys nb ∷ Sent None _ rb ∷ []) (Took None (KexEcdhInit q) b ∷ h)) e)
  completion_few side h owed items m b (init q rb nb (IsAnnounced.nothing f)) o v =
      let e = completing_step Server h owed [] (Sent None _ rb ∷ []) None (KexEcdhInit q) b nb o tt (tt, tt) (omega arith) v in
      idle_step Server _ (_ ∷ []) (tt, tt) refl (rw (append_assoc owed (Sent None NewKeys nb ∷ Sent None _ rb ∷ []) (Took None (KexEcdhInit q) b ∷ h)) e)
  completion_few side h owed items m b (reply k_s q_s g nb (IsAnnounced.extensions xb f)) o v =
      let e = completing_step Client h owed (Sent None _ xb ∷ []) [] None (KexEcdhReply k_s q_s g) b nb o (tt, tt) tt (omega arith) v in
      idle_step Client _ (_ ∷ []) (tt, tt) refl (rw (append_assoc owed (Sent None _ xb ∷ Sent None NewKeys nb ∷ []) (Took None (KexEcdhReply k_s q_s g) b ∷ h)) e)
  completion_few side h owed items m b (reply k_s q_s g nb (IsAnnounced.nothing f)) o v =
      let e = completing_step Client h owed [] [] None (KexEcdhReply k_s q_s g) b nb o tt tt (omega arith) v in
      idle_step Client _ (_ ∷ []) (tt, tt) refl (rw (append_assoc owed (Sent None NewKeys nb ∷ []) (Took None (KexEcdhReply k_s q_s g) b ∷ h)) e)

  authentication_few : (side : Side) (h items : List Item) (m : Msg) (b : List ℕ) → AuthenticationAnswer p side h m items → Few side h → Few side (items ++ (Took None m b ∷ h))
  authentication_few side h items m b (request_too_late x y z e) v = took_step side h items None m b (tt, tt) (omega arith) v
  authentication_few side h items m b (request_accepted x y z c e f) v = took_step side h items None m b (tt, (tt, tt)) (omega arith) v
  authentication_few side h items m b (request_probed x y a k c e f) v = took_step side h items None m b (tt, tt) (omega arith) v
  authentication_few side h items m b (request_failed x y z c e f) v = took_step side h items None m b (tt, tt) (omega arith) v
  authentication_few side h items m b (failure x y) v = took_step side h items None m b (tt, tt) (omega arith) v
  authentication_few side h items m b (success way e) v = took_step side h items None m b (tt, tt) (omega arith) v
  authentication_few side h items m b (banner x y) v = took_step side h items None m b (tt, tt) (omega arith) v
  authentication_few side h items m b (key_ok x y) v = took_step side h items None m b (tt, tt) (omega arith) v

  connection_few : (side : Side) (h items : List Item) (c : Option ℕ) (m : Msg) (b : List ℕ) → ConnectionAnswer side h c m items → Few side h → Few side (items ++ (Took c m b ∷ h))
  connection_few side h items c m b (global x y z) v = took_step side h items c m b (tt, tt) (omega arith) v
  connection_few side h items c m b (global_success z) v = took_step side h items c m b (tt, tt) (omega arith) v
  connection_few side h items c m b global_failure v = took_step side h items c m b (tt, tt) (omega arith) v
  connection_few side h items c m b (opened x k a d e f g) v = took_step side h items c m b (tt, tt) (omega arith) v
  connection_few side h items c m b (not_opened k a d e f g r) v =
      took_step side h items c m b (replies_light _ items r) (omega (arith, replies_count _ items r, at_once_one (blocked_now h) (due None (Open a d e) (notes side h)) (due_one None (Open a d e) (notes side h)))) v
  connection_few side h items c m b (confirmation a d e f g) v = took_step side h items c m b (tt, tt) (omega arith) v
  connection_few side h items c m b (failure a d e f) v = took_step side h items c m b (tt, tt) (omega arith) v
  connection_few side h items c m b (adjust a d) v = took_step side h items c m b (tt, tt) (omega arith) v
  connection_few side h items c m b (got_data a d) v = took_step side h items c m b (tt, tt) (omega arith) v
  connection_few side h items c m b (got_extended a d e) v = took_step side h items c m b (tt, tt) (omega arith) v
  connection_few side h items c m b (eof a) v = took_step side h items c m b (tt, tt) (omega arith) v
  connection_few side h items c m b (close {replies = l} a r) v =
      took_step side h items c m b (tt, replies_light _ l r) (omega (arith, replies_count _ l r, at_once_one (blocked_now h) (due (Some a) (Close a) (notes side h)) (due_one (Some a) (Close a) (notes side h)))) v
  connection_few side h items c m b (request a d e f) v = took_step side h items c m b (tt, tt) (omega arith) v
  connection_few side h items c m b (success a) v = took_step side h items c m b (tt, tt) (omega arith) v
  connection_few side h items c m b (no_success a) v = took_step side h items c m b (tt, tt) (omega arith) v

  -- ---- asks

  ask_few : (side : Side) (h items : List Item) (a : Ask) → OnAsk p side h a items → Few side h → Few side (items ++ (Asked a ∷ h))
  ask_few side h items a (OnAsk.of_transport (service x)) v = asked_step side h items a (tt, tt) (omega arith) v
  ask_few side h items a (OnAsk.of_transport (rekey b)) v = asked_step side h items a (tt, tt) (omega arith) v
  ask_few side h items a (OnAsk.of_transport (disconnect x b)) v = asked_step side h items a (tt, (tt, tt)) (omega arith) v
  ask_few side h items a (OnAsk.of_authentication (none x y)) v = asked_step side h items a (tt, tt) (omega arith) v
  ask_few side h items a (OnAsk.of_authentication (password x y z)) v = asked_step side h items a (tt, tt) (omega arith) v
  ask_few side h items a (OnAsk.of_authentication (probe x y z b)) v = asked_step side h items a (tt, tt) (omega arith) v
  ask_few side h items a (OnAsk.of_authentication (sign x y z b)) v = asked_step side h items a (tt, tt) (omega arith) v
  ask_few side h items a (OnAsk.of_connection (opens x k d m r b f)) v = asked_step side h items a (tt, (tt, tt)) (omega arith) v
  ask_few side h items a (OnAsk.of_connection (confirm x d m r b)) v = asked_step side h items a (tt, tt) (omega arith) v
  ask_few side h items a (OnAsk.of_connection (refuse x r b)) v = asked_step side h items a (tt, tt) (omega arith) v
  ask_few side h items a (OnAsk.of_connection (sends x y b)) v = asked_step side h items a (tt, tt) (omega arith) v
  ask_few side h items a (OnAsk.of_connection (sends_extended x k y b)) v = asked_step side h items a (tt, tt) (omega arith) v
  ask_few side h items a (OnAsk.of_connection (adjust x k b)) v = asked_step side h items a (tt, tt) (omega arith) v
  ask_few side h items a (OnAsk.of_connection (eof x b)) v = asked_step side h items a (tt, tt) (omega arith) v
  ask_few side h items a (OnAsk.of_connection (close x b)) v = asked_step side h items a (tt, tt) (omega arith) v
  ask_few side h items a (OnAsk.of_connection (request x k d r b)) v = asked_step side h items a (tt, tt) (omega arith) v
  ask_few side h items a (OnAsk.of_connection (reply_yes x b)) v = asked_step side h items a (tt, tt) (omega arith) v
  ask_few side h items a (OnAsk.of_connection (reply_no x b)) v = asked_step side h items a (tt, tt) (omega arith) v
  ask_few side h items a (OnAsk.of_connection (global k d r b)) v = asked_step side h items a (tt, tt) (omega arith) v
  ask_few side h items a (OnAsk.of_connection (global_yes r b)) v = asked_step side h items a (tt, tt) (omega arith) v
  ask_few side h items a (OnAsk.of_connection (global_no r b)) v = asked_step side h items a (tt, tt) (omega arith) v

  -- ---- turns

  refuses_few : (side : Side) (h items : List Item) (why : Refusal) (b : Option (List ℕ)) → Refuses h why b items → has_died h ≡ false → Few side h → Few side (items ++ h)
  refuses_few side h items n b (silently e) d v = idle_step side h items (tt, (tt, tt)) refl v
  refuses_few side h items n b (spent e) d v = idle_step side h items (tt, (tt, tt)) refl v
  refuses_few side h items n b (said r x e f s) d v = last_step side h (Sent None _ x ∷ _ ∷ []) d (tt, (tt, tt)) (omega arith) v

  answer_few : (side : Side) (h items : List Item) (c : Option ℕ) (m : Msg) (b : List ℕ) → Answer p side h c m items → Few side h → Few side (items ++ (Took c m b ∷ h))
  answer_few side h items c m b (of_transport a) v = transport_few side h items m b a v
  answer_few side h items c m b (of_completion r a) v = completion_few side h _ items m b a r v
  answer_few side h items c m b (of_authentication a) v = authentication_few side h items m b a v
  answer_few side h items c m b (of_connection a) v = connection_few side h items c m b a v

  guess_step : (side : Side) (h : List Item) (b : List ℕ) → Few side h → Few side (TookGuess b ∷ h)
  guess_step side h b v = record { answers = omega (arith, v.answers); lines = v.lines }

  payload_few : (side : Side) (h items : List Item) (b : List ℕ) → OnPayload p side h b items → has_died h ≡ false → Few side h → Few side (items ++ h)
  payload_few side h items b (takes {items = l} c m w a s k) d v = rw append_assoc (answer_few side h l c m b a v)
  payload_few side h items b (skips e m) d v = idle_step side _ (_ ∷ []) (tt, tt) refl (guess_step side h b v)
  payload_few side h items b (unexpected m r) d v = refuses_few side h items Unexpected _ r d v
  payload_few side h items b (bad_message m e f r) d v = refuses_few side h items BadMessage _ r d v
  payload_few side h items b (OnPayload.refuses m k a e f c r) d v = refuses_few side h items k _ r d v
  payload_few side h items b (OnPayload.spends c m w a s k) d v = idle_step side h items (tt, (tt, tt)) refl v

  outcome_few : (side : Side) (h items : List Item) (o : Outcome) → OnOutcome p side h o items → has_died h ≡ false → Few side h → Few side (items ++ h)
  outcome_few side h items o (other_line text) d v = idle_step side h items (tt, tt) refl v
  outcome_few side h items o (version_line text) d v = idle_step side h items (tt, tt) refl v
  outcome_few side h items o (refused_line k r) d v = refuses_few side h items k _ r d v
  outcome_few side h items o (OnOutcome.opened b x) d v = payload_few side h items b x d v
  outcome_few side h items o (refused_packet k r) d v = refuses_few side h items k _ r d v

  turn_few : (side : Side) (h items : List Item) → Turn p side h items → Few side h → Few side (items ++ h)
  turn_few side h items (Turn.feeds c s (FeedsTurn.feeds k m)) v = idle_step side h items (tt, tt) refl v
  turn_few side h items (asks a (AsksTurn.refuses k alive e)) v = asked_step side h (_ ∷ []) a (tt, tt) (omega arith) v
  turn_few side h items (asks a (AsksTurn.answers {items = l} alive c o s k)) v = rw append_assoc (ask_few side h l a o v)
  turn_few side h items (asks a (AsksTurn.spends alive c o s k)) v = asked_step side h (_ ∷ _ ∷ []) a (tt, (tt, tt)) (omega arith) v
  turn_few side h items (reads unit alive (OnUnit.reads o u x)) v = outcome_few side h items o x alive v
  turn_few side h items (reads unit alive (OnUnit.dies o u x k)) v = idle_step side h items (tt, tt) refl v
  turn_few side h items (asks a (AsksTurn.dies alive c o s k)) v = idle_step side h items (tt, tt) refl v
  turn_few side h items (asks a (AsksTurn.is_dead e)) v = v
  turn_few side h items (Turn.feeds c s (FeedsTurn.answers_false e)) v = v

module _ {K : Type 0} (p : Parties K) (laws : AreLawful p) where
  own_line : (side : Side) → length (settings_of p side).line ≤ 253
  own_line Client = laws.client_line
  own_line Server = laws.server_line

  pub end_few : (side : Side) (h : List Item) → EndRun p side h → Few side h
  end_few side h (EndRun.start o) = subst (λ l. Few side l) (sym o.items_are) (record { answers = omega arith; lines = omega (arith, own_line side) })
  end_few side h (EndRun.then_turn {h = b} {items = items} before turn) = turn_few p side b items turn (end_few side b before)

  pub answers_few : (side : Side) (h : List Item) → EndRun p side h → AnswersFew side h
  answers_few side h r = omega (arith, (end_few side h r).answers)
