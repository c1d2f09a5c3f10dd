-- How many requests on a channel wait for a reply.
use Rattle.std.proofs.Common.{◌≡◌, ℕ, suc, ◌-◌, ◌≤◌, List, [], ◌∷◌, ◌++◌, refl, ap, sym, ◌∙◌, arith, subst, append_assoc, Bool, true, false, cond, not, nat_le, ◌&&◌, Option, Some, None}
use Rattle.std.proofs.lemmas.Bool.{leb-false}
use Rattle.ssh_model.specs.Protocol.Bounds.{most_waiting_requests}
use Rattle.ssh_model.specs.declared.side.Side.{Side}
use Rattle.ssh_model.specs.declared.side.Side.TheVariants.{Client, Server}
use Rattle.ssh_model.specs.Protocol.Wire.Message.{Msg, Msg.NewKeys, Msg.KexInit, Msg.KexEcdhInit, Msg.KexEcdhReply, Msg.ChannelRequest}
use Rattle.ssh_model.specs.Protocol.Sessions.Refusals.{first_refusal}
use Rattle.ssh_model.specs.Protocol.Sessions.Parties.{Parties}
use Rattle.ssh_model.specs.Protocol.Sessions.Items.{Ask, Ask.AskRequest, Item, Item.Asked, Item.Sent, Item.Took}
use Rattle.ssh_model.specs.Protocol.Sessions.Phases.{blocked as blocked_now}
use Rattle.ssh_model.specs.Protocol.Channels.Message.{Channel, same, Message, Message.Open, Message.OpenFailure, Message.Close, Message.Request, Message.Reply, closed, stage}
use Rattle.ssh_model.specs.Protocol.Channels.Notes.{Note, said as said_on, channel_at, waits_here, waits_there}
use Rattle.ssh_model.specs.Protocol.Channels.Numbers.{has_closed, is_held, is_confirmed, waiting_here, waiting_there, peer_number}
use Rattle.ssh_model.specs.Protocol.Channels.History as channel
use Rattle.ssh_model.specs.Protocol.Channels.History.{noted, note_sent, note_received}
use Rattle.ssh_model.specs.Protocol.Channels.Connection.{sent_on, received_on, on_channel}
use Rattle.ssh_model.specs.Laws.Checks.{all_passed}
use Rattle.ssh_model.proofs.Sessions.Stages.{or_false, not_false, and_left}
use Rattle.ssh_model.proofs.Channels.Lines.{same_true}
use Rattle.ssh_model.specs.Protocol.Sessions.Transport.{TransportAnswer, TransportAnswer.disconnect, TransportAnswer.ignore, TransportAnswer.unimplemented, TransportAnswer.debug, TransportAnswer.unknown, TransportAnswer.service_request, TransportAnswer.service_accept, TransportAnswer.extensions, IsAnnounced, TransportAnswer.kexinit_at_server, TransportAnswer.kexinit_at_client, TransportAnswer.answered_at_server, TransportAnswer.answered_at_client, CompletingAnswer.init, CompletingAnswer.reply, TransportAnswer.newkeys, TransportAsk.service, TransportAsk.rekey, TransportAsk.disconnect, CompletingAnswer}
use Rattle.ssh_model.specs.Protocol.Authentication.Rows.{AuthenticationAnswer.request_too_late, AuthenticationAnswer.request_accepted, AuthenticationAnswer.request_probed, AuthenticationAnswer.request_failed, AuthenticationAnswer.failure, AuthenticationAnswer.success, AuthenticationAnswer.banner, AuthenticationAnswer.key_ok, AuthenticationAsk.none, AuthenticationAsk.password, AuthenticationAsk.probe, AuthenticationAsk.sign, AuthenticationAnswer}
use Rattle.ssh_model.specs.Protocol.Channels.Connection.{notes, channel_items, AreReplies, AreReplies.none, AreReplies.reply, ConnectionAnswer, ConnectionAnswer.global, ConnectionAnswer.global_success, ConnectionAnswer.global_failure, ConnectionAnswer.opened, ConnectionAnswer.not_opened, ConnectionAnswer.confirmation, ConnectionAnswer.failure, ConnectionAnswer.adjust, ConnectionAnswer.got_data, ConnectionAnswer.got_extended, ConnectionAnswer.eof, ConnectionAnswer.close, ConnectionAnswer.request, ConnectionAnswer.success, ConnectionAnswer.no_success, ConnectionAsk.opens, ConnectionAsk.confirm, ConnectionAsk.refuse, ConnectionAsk.sends, ConnectionAsk.sends_extended, ConnectionAsk.adjust, ConnectionAsk.eof, ConnectionAsk.close, ConnectionAsk.request, ConnectionAsk.reply_yes, ConnectionAsk.reply_no, ConnectionAsk.global, ConnectionAsk.global_yes, ConnectionAsk.global_no}
use Rattle.ssh_model.specs.Protocol.Sessions.Turns.{answer_checks, Refuses, Refuses.silently, Refuses.spent, Refuses.said, IsAcceptable, Answer, Answer.of_transport, Answer.of_completion, Answer.of_authentication, Answer.of_connection, OnAsk.of_authentication, OnPayload, OnPayload.takes, OnPayload.skips, OnPayload.unexpected, OnPayload.bad_message, OnOutcome, OnOutcome.other_line, OnOutcome.version_line, OnOutcome.refused_line, OnOutcome.opened, OnOutcome.refused_packet, ask_checks, OnAsk, OnAsk.of_transport, OnAsk.of_connection, FeedsTurn, AsksTurn, OnUnit, OnUnit.reads, Turn, Turn.asks, Turn.reads, EndRun}
use Rattle.ssh_model.specs.Protocol.Wire.Outcome.{Outcome}
use Rattle.ssh_model.specs.declared.refusal.Refusal.{Refusal}
use Rattle.ssh_model.specs.declared.refusal.Refusal.TheVariants.{BadMessage, Unexpected}

pub record Waits (side : Side) (h : List Item) : Type 0 where
  pub here : (ch : Channel) → waits_here ch (notes side h) ≤ most_waiting_requests
  pub there : (ch : Channel) → waits_there ch (notes side h) ≤ most_waiting_requests

-- ---- other messages than a request that wants a reply

abbrev IsDullOn : Option Message → Type 0
IsDullOn (Some (Request to true)) = ⊥
IsDullOn _ = Unit {0}

less : (t : Bool) (n : ℕ) → cond t (n - 1) n ≤ n
less true n = omega arith
less false n = omega arith

if_both : (t : Bool) (f : List Note → ℕ) (a b : List Note) (n : ℕ) → f a ≤ n → f b ≤ n → f (cond t a b) ≤ n
if_both true f a b n x y = x
if_both false f a b n x y = y

note_sent_here : (ch : Channel) (side : Side) (at : Option ℕ) (m : Message) (l : List Note) → waits_here ch (note_sent side at m l) ≤ waits_here ch l
note_sent_here ch side None m l = omega arith
note_sent_here ch side (Some n) (Close to) l = if_both (has_closed n l) (λ w. waits_here ch w) l _ _ (omega arith) (omega arith)
note_sent_here ch side (Some n) (Reply s t) l = less (same ch (channel_at n l)) (waits_here ch l)
note_sent_here ch side (Some n) m l = omega arith

note_sent_there : (ch : Channel) (side : Side) (at : Option ℕ) (m : Message) (l : List Note) → IsDullOn (Some m) → waits_there ch (note_sent side at m l) ≤ waits_there ch l
note_sent_there ch side None m l q = omega arith
note_sent_there ch side (Some n) (Close to) l q = if_both (has_closed n l) (λ w. waits_there ch w) l _ _ (omega arith) (omega arith)
note_sent_there ch side (Some n) (Request to true) l q = elim q [ ]
note_sent_there ch side (Some n) (Request to false) l q = omega arith
note_sent_there ch side (Some n) m l q = omega arith

note_taken_here : (ch : Channel) (side : Side) (at : Option ℕ) (m : Message) (l : List Note) → IsDullOn (Some m) → waits_here ch (note_received side at m l) ≤ waits_here ch l
note_taken_here ch side None (Open f w k) l q = omega arith
note_taken_here ch side None m l q = omega arith
note_taken_here ch side (Some n) (Close to) l q = if_both (has_closed n l) (λ w. waits_here ch w) _ _ _ (omega arith) (omega arith)
note_taken_here ch side (Some n) (Request to true) l q = elim q [ ]
note_taken_here ch side (Some n) (Request to false) l q = omega arith
note_taken_here ch side (Some n) m l q = omega arith

note_taken_there : (ch : Channel) (side : Side) (at : Option ℕ) (m : Message) (l : List Note) → waits_there ch (note_received side at m l) ≤ waits_there ch l
note_taken_there ch side None (Open f w k) l = omega arith
note_taken_there ch side None m l = omega arith
note_taken_there ch side (Some n) (Close to) l = if_both (has_closed n l) (λ w. waits_there ch w) _ _ _ (omega arith) (omega arith)
note_taken_there ch side (Some n) (Reply s t) l = less (same ch (channel_at n l)) (waits_there ch l)
note_taken_there ch side (Some n) m l = omega arith

sent_here : (ch : Channel) (side : Side) (at : Option ℕ) (o : Option Message) (l : List channel.Item) → waits_here ch (noted side (sent_on at o l)) ≤ waits_here ch (noted side l)
sent_here ch side at None l = omega arith
sent_here ch side at (Some m) l = note_sent_here ch side at m (noted side l)

sent_there : (ch : Channel) (side : Side) (at : Option ℕ) (o : Option Message) (l : List channel.Item) → IsDullOn o → waits_there ch (noted side (sent_on at o l)) ≤ waits_there ch (noted side l)
sent_there ch side at None l q = omega arith
sent_there ch side at (Some m) l q = note_sent_there ch side at m (noted side l) q

taken_here : (ch : Channel) (side : Side) (at : Option ℕ) (o : Option Message) (l : List channel.Item) → IsDullOn o → waits_here ch (noted side (received_on at o l)) ≤ waits_here ch (noted side l)
taken_here ch side at None l q = omega arith
taken_here ch side at (Some m) l q = note_taken_here ch side at m (noted side l) q

taken_there : (ch : Channel) (side : Side) (at : Option ℕ) (o : Option Message) (l : List channel.Item) → waits_there ch (noted side (received_on at o l)) ≤ waits_there ch (noted side l)
taken_there ch side at None l = omega arith
taken_there ch side at (Some m) l = note_taken_there ch side at m (noted side l)

item_here : (ch : Channel) (side : Side) (c : Option ℕ) (m : Msg) (b : List ℕ) (h : List Item) → waits_here ch (notes side (Sent c m b ∷ h)) ≤ waits_here ch (notes side h)
item_here ch side c (KexInit o) b h = omega arith
item_here ch side c NewKeys b h = omega arith
item_here ch side c m b h = sent_here ch side c (on_channel m) (channel_items h)

item_there : (ch : Channel) (side : Side) (c : Option ℕ) (m : Msg) (b : List ℕ) (h : List Item) → IsDullOn (on_channel m) → waits_there ch (notes side (Sent c m b ∷ h)) ≤ waits_there ch (notes side h)
item_there ch side c (KexInit o) b h q = omega arith
item_there ch side c NewKeys b h q = omega arith
item_there ch side c m b h q = sent_there ch side c (on_channel m) (channel_items h) q

-- ---- items

abbrev IsDull : Item → Type 0
IsDull (Sent c m b) = IsDullOn (on_channel m)
IsDull (Took c m b) = ⊥
IsDull _ = Unit {0}

abbrev AreDull : List Item → Type 0
AreDull [] = Unit {0}
AreDull (i ∷ l) = IsDull i × AreDull l

replies_dull : (l : List channel.Item) (items : List Item) → AreReplies l items → AreDull items
replies_dull l items none = tt
replies_dull l items (reply at (OpenFailure t) b r) = (tt, replies_dull _ _ r)
replies_dull l items (reply at (Close t) b r) = (tt, replies_dull _ _ r)
replies_dull l items (reply at m b r) = (tt, replies_dull _ _ r)

module _ (side : Side) where
  dull_item : (i : Item) (h : List Item) → IsDull i → Waits side h → Waits side (i ∷ h)
  dull_item (Sent c m b) h q v = record {
    here = λ ch. omega (arith, v.here ch, item_here ch side c m b h);
    there = λ ch. omega (arith, v.there ch, item_there ch side c m b h q);
  }
  dull_item (Took c m b) h q v = elim q [ ]
  dull_item i h q v = record { here = v.here; there = v.there }

  dulls : (items h : List Item) → AreDull items → Waits side h → Waits side (items ++ h)
  dulls [] h q v = v
  dulls (i ∷ l) h q v = dull_item i (l ++ h) q.0 (dulls l h q.1 v)

  dull_step : (h items : List Item) (c : Option ℕ) (m : Msg) (b : List ℕ) → IsDullOn (on_channel m) → AreDull items → Waits side h → Waits side (items ++ (Took c m b ∷ h))
  dull_step h items c m b t q v = dulls items (Took c m b ∷ h) q (record {
    here = λ ch. omega (arith, v.here ch, taken_here ch side c (on_channel m) (channel_items h) t);
    there = λ ch. omega (arith, v.there ch, taken_there ch side c (on_channel m) (channel_items h));
  })

  -- ---- a request that wants a reply

  more_here : (ch : Channel) (n : ℕ) (l : List Note) → (not (has_closed n l) && nat_le most_waiting_requests (waiting_here n l)) ≡ false → waits_here ch l ≤ most_waiting_requests
      → cond (same ch (channel_at n l)) (cond (closed (stage (said_on ch l))) (waits_here ch l) (suc (waits_here ch l))) (waits_here ch l) ≤ most_waiting_requests
  more_here ch n l e k = go (same ch (channel_at n l)) refl
    where
      at : ch ≡ channel_at n l → (c : Bool) → closed (stage (said_on ch l)) ≡ c → cond c (waits_here ch l) (suc (waits_here ch l)) ≤ most_waiting_requests
      at f true g = k
      at f false g =
          let here : has_closed n l ≡ false = sym (ap (λ x. closed (stage (said_on x l))) f) ∙ g in
          let few : nat_le most_waiting_requests (waiting_here n l) ≡ false = sym (ap (λ t. not t && nat_le most_waiting_requests (waiting_here n l)) here) ∙ e in
          omega (arith, leb-false most_waiting_requests (waiting_here n l) few, ap (λ x. waits_here x l) f)

      go : (t : Bool) → same ch (channel_at n l) ≡ t → cond t (cond (closed (stage (said_on ch l))) (waits_here ch l) (suc (waits_here ch l))) (waits_here ch l) ≤ most_waiting_requests
      go false f = k
      go true f = at (same_true ch (channel_at n l) f) (closed (stage (said_on ch l))) refl

  more_there : (ch : Channel) (n : ℕ) (l : List Note) → nat_le most_waiting_requests (waiting_there n l) ≡ false → waits_there ch l ≤ most_waiting_requests
      → cond (same ch (channel_at n l)) (suc (waits_there ch l)) (waits_there ch l) ≤ most_waiting_requests
  more_there ch n l e k = go (same ch (channel_at n l)) refl
    where
      go : (t : Bool) → same ch (channel_at n l) ≡ t → cond t (suc (waits_there ch l)) (waits_there ch l) ≤ most_waiting_requests
      go false f = k
      go true f = omega (arith, leb-false most_waiting_requests (waiting_there n l) e, ap (λ x. waits_there x l) (same_true ch (channel_at n l) f))

  request_taken : (h : List Item) (n : ℕ) (name : List ℕ) (want : Bool) (rest b : List ℕ) → ((want && not (has_closed n (notes side h))) && nat_le most_waiting_requests (waiting_here n (notes side h))) ≡ false → Waits side h
      → Waits side (Took (Some n) (ChannelRequest n name want rest) b ∷ h)
  request_taken h n name true rest b e v = record { here = λ ch. more_here ch n (notes side h) e (v.here ch); there = v.there }
  request_taken h n name false rest b e v = record { here = v.here; there = v.there }

  request_sent : (h : List Item) (a : Ask) (n : ℕ) (name : List ℕ) (want : Bool) (rest b : List ℕ) → ((want && is_held n (notes side h)) && nat_le most_waiting_requests (waiting_there n (notes side h))) ≡ false → is_held n (notes side h) ≡ true → Waits side h
      → Waits side (Sent (Some n) (ChannelRequest (peer_number n (notes side h)) name want rest) b ∷ Asked a ∷ h)
  request_sent h a n name true rest b e k v =
      let few : nat_le most_waiting_requests (waiting_there n (notes side h)) ≡ false = sym (ap (λ t. t && nat_le most_waiting_requests (waiting_there n (notes side h))) k) ∙ e in
      record { here = v.here; there = λ ch. more_there ch n (notes side h) few (v.there ch) }
  request_sent h a n name false rest b e k v = record { here = v.here; there = v.there }

-- ---- the rows

module _ {K : Type 0} (p : Parties K) where
  transport_waits : (side : Side) (h items : List Item) (m : Msg) (b : List ℕ) → TransportAnswer p side h m items → Waits side h → Waits side (items ++ (Took None m b ∷ h))
  transport_waits side h items m b (disconnect r d l) v = dull_step side h items None m b tt (tt, (tt, tt)) v
  transport_waits side h items m b (ignore x) v = dull_step side h items None m b tt (tt, tt) v
  transport_waits side h items m b (unimplemented x) v = dull_step side h items None m b tt (tt, tt) v
  transport_waits side h items m b (debug x y z) v = dull_step side h items None m b tt (tt, tt) v
  transport_waits side h items m b (unknown x y) v = dull_step side h items None m b tt (tt, tt) v
  transport_waits side h items m b (service_request x y) v = dull_step side h items None m b tt (tt, tt) v
  transport_waits side h items m b (service_accept x) v = dull_step side h items None m b tt (tt, tt) v
  transport_waits side h items m b (kexinit_at_server theirs e) v = dull_step side h items None m b tt tt v
  transport_waits side h items m b (kexinit_at_client theirs y e) v = dull_step side h items None m b tt (tt, tt) v
  transport_waits side h items m b (answered_at_server theirs own e) v = dull_step side h items None m b tt (tt, tt) v
  transport_waits side h items m b (answered_at_client theirs own y e) v = dull_step side h items None m b tt (tt, (tt, tt)) v
  transport_waits side h items m b (extensions a) v = dull_step side h items None m b tt (tt, tt) v
  transport_waits side h items m b newkeys v = dull_step side h items None m b tt tt v

  completion_waits : (side : Side) (h owed items : List Item) (m : Msg) (b : List ℕ) → CompletingAnswer p owed side h m items → AreDull owed → Waits side h → Waits side (items ++ (Took None m b ∷ h))
  completion_waits side h owed items m b (init q rb nb (IsAnnounced.extensions xb f)) o v =
      let e = dull_step Server h (Sent None _ xb ∷ Sent None NewKeys nb ∷ Sent None _ rb ∷ []) None (KexEcdhInit q) b tt (tt, (tt, (tt, tt))) v in
      dull_item Server _ _ tt (rw (append_assoc owed (Sent None _ xb ∷ Sent None NewKeys nb ∷ Sent None _ rb ∷ []) (Took None (KexEcdhInit q) b ∷ h)) (dulls Server owed _ o e))
  completion_waits side h owed items m b (init q rb nb (IsAnnounced.nothing f)) o v =
      let e = dull_step Server h (Sent None NewKeys nb ∷ Sent None _ rb ∷ []) None (KexEcdhInit q) b tt (tt, (tt, tt)) v in
      dull_item Server _ _ tt (rw (append_assoc owed (Sent None NewKeys nb ∷ Sent None _ rb ∷ []) (Took None (KexEcdhInit q) b ∷ h)) (dulls Server owed _ o e))
  completion_waits side h owed items m b (reply k_s q_s g nb (IsAnnounced.extensions xb f)) o v =
      let e = dull_step Client h (Sent None _ xb ∷ Sent None NewKeys nb ∷ []) None (KexEcdhReply k_s q_s g) b tt (tt, (tt, tt)) v in
      dull_item Client _ _ tt (rw (append_assoc owed (Sent None _ xb ∷ Sent None NewKeys nb ∷ []) (Took None (KexEcdhReply k_s q_s g) b ∷ h)) (dulls Client owed _ o e))
  completion_waits side h owed items m b (reply k_s q_s g nb (IsAnnounced.nothing f)) o v =
      let e = dull_step Client h (Sent None NewKeys nb ∷ []) None (KexEcdhReply k_s q_s g) b tt (tt, tt) v in
      dull_item Client _ _ tt (rw (append_assoc owed (Sent None NewKeys nb ∷ []) (Took None (KexEcdhReply k_s q_s g) b ∷ h)) (dulls Client owed _ o e))

  authentication_waits : (side : Side) (h items : List Item) (m : Msg) (b : List ℕ) → AuthenticationAnswer p side h m items → IsAcceptable p side h m b → Waits side h → Waits side (items ++ (Took None m b ∷ h))
  authentication_waits side h items m b (request_too_late x y z e) w v = dull_step side h items None m b tt (tt, tt) v
  authentication_waits side h items m b (request_accepted x y z c e f) w v = dull_step side h items None m b tt (tt, (tt, tt)) v
  authentication_waits side h items m b (request_probed x y a k c e f) w v = dull_step side h items None m b tt (tt, tt) v
  authentication_waits side h items m b (request_failed x y z c e f) w v = dull_step side h items None m b tt (tt, tt) v
  authentication_waits side h items m b (failure x y) w v = dull_step side h items None m b tt (tt, tt) v
  authentication_waits side h items m b (success way e) w v = dull_step side h items None m b tt (tt, tt) v
  authentication_waits side h items m b (banner x y) w v = dull_step side h items None m b tt (tt, tt) v
  authentication_waits side h items m b (key_ok x y) w v = dull_step side h items None m b tt (tt, tt) v

  connection_waits : (side : Side) (h items : List Item) (c : Option ℕ) (m : Msg) (b : List ℕ) → ConnectionAnswer side h c m items → IsAcceptable p side h m b → Waits side h → Waits side (items ++ (Took c m b ∷ h))
  connection_waits side h items c m b (global x y z) w v = dull_step side h items c m b tt (tt, tt) v
  connection_waits side h items c m b (not_opened k a d e f g r) w v = dull_step side h items c m b tt (replies_dull _ items r) v
  connection_waits side h items c m b (close {replies = l} a r) w v = dull_step side h items c m b tt (tt, replies_dull _ l r) v
  connection_waits side h items c m b (request a d e f) w v =
      let checks = all_passed (answer_checks p side h (ChannelRequest a d e f)) w.not_refused in
      dull_item side _ _ tt (request_taken side h a d e f b checks.1.0 v)
  connection_waits side h items c m b (global_success z) w v = dull_step side h items c m b tt (tt, tt) v
  connection_waits side h items c m b global_failure w v = dull_step side h items c m b tt (tt, tt) v
  connection_waits side h items c m b (opened x k a d e f g) w v = dull_step side h items c m b tt (tt, tt) v
  connection_waits side h items c m b (confirmation a d e f g) w v = dull_step side h items c m b tt (tt, tt) v
  connection_waits side h items c m b (failure a d e f) w v = dull_step side h items c m b tt (tt, tt) v
  connection_waits side h items c m b (adjust a d) w v = dull_step side h items c m b tt (tt, tt) v
  connection_waits side h items c m b (got_data a d) w v = dull_step side h items c m b tt (tt, tt) v
  connection_waits side h items c m b (got_extended a d e) w v = dull_step side h items c m b tt (tt, tt) v
  connection_waits side h items c m b (eof a) w v = dull_step side h items c m b tt (tt, tt) v
  connection_waits side h items c m b (success a) w v = dull_step side h items c m b tt (tt, tt) v
  connection_waits side h items c m b (no_success a) w v = dull_step side h items c m b tt (tt, tt) v

  -- ---- asks

  plain_ask : (side : Side) (h items : List Item) (a : Ask) → AreDull items → Waits side h → Waits side (items ++ (Asked a ∷ h))
  plain_ask side h items a q v = dulls side items (Asked a ∷ h) q (dull_item side (Asked a) h tt v)

  ask_waits : (side : Side) (h items : List Item) (a : Ask) → OnAsk p side h a items → first_refusal (ask_checks p side h a) ≡ None → Waits side h → Waits side (items ++ (Asked a ∷ h))
  ask_waits side h items a (OnAsk.of_connection (global k d r b)) c v = plain_ask side h items a (tt, tt) v
  ask_waits side h items a (OnAsk.of_connection (request x k d r b)) c v =
      let checks = all_passed (ask_checks p side h (AskRequest x k d r)) c in
      request_sent side h a x k d r b (or_false (blocked_now h) _ checks.1.0).1 (and_left (is_held x (notes side h)) _ (not_false (is_confirmed x (notes side h)) checks.1.1.1.0)) v
  ask_waits side h items a (OnAsk.of_transport (service x)) c v = plain_ask side h items a (tt, tt) v
  ask_waits side h items a (OnAsk.of_transport (rekey b)) c v = plain_ask side h items a (tt, tt) v
  ask_waits side h items a (OnAsk.of_transport (disconnect x b)) c v = plain_ask side h items a (tt, (tt, tt)) v
  ask_waits side h items a (OnAsk.of_authentication (none x y)) c v = plain_ask side h items a (tt, tt) v
  ask_waits side h items a (OnAsk.of_authentication (password x y z)) c v = plain_ask side h items a (tt, tt) v
  ask_waits side h items a (OnAsk.of_authentication (probe x y z b)) c v = plain_ask side h items a (tt, tt) v
  ask_waits side h items a (OnAsk.of_authentication (sign x y z b)) c v = plain_ask side h items a (tt, tt) v
  ask_waits side h items a (OnAsk.of_connection (opens x k d m r b f)) c v = plain_ask side h items a (tt, (tt, tt)) v
  ask_waits side h items a (OnAsk.of_connection (confirm x d m r b)) c v = plain_ask side h items a (tt, tt) v
  ask_waits side h items a (OnAsk.of_connection (refuse x r b)) c v = plain_ask side h items a (tt, tt) v
  ask_waits side h items a (OnAsk.of_connection (sends x y b)) c v = plain_ask side h items a (tt, tt) v
  ask_waits side h items a (OnAsk.of_connection (sends_extended x k y b)) c v = plain_ask side h items a (tt, tt) v
  ask_waits side h items a (OnAsk.of_connection (adjust x k b)) c v = plain_ask side h items a (tt, tt) v
  ask_waits side h items a (OnAsk.of_connection (eof x b)) c v = plain_ask side h items a (tt, tt) v
  ask_waits side h items a (OnAsk.of_connection (close x b)) c v = plain_ask side h items a (tt, tt) v
  ask_waits side h items a (OnAsk.of_connection (reply_yes x b)) c v = plain_ask side h items a (tt, tt) v
  ask_waits side h items a (OnAsk.of_connection (reply_no x b)) c v = plain_ask side h items a (tt, tt) v
  ask_waits side h items a (OnAsk.of_connection (global_yes r b)) c v = plain_ask side h items a (tt, tt) v
  ask_waits side h items a (OnAsk.of_connection (global_no r b)) c v = plain_ask side h items a (tt, tt) v

  -- ---- turns

  refuses_waits : (side : Side) (h items : List Item) (why : Refusal) (b : Option (List ℕ)) → Refuses h why b items → Waits side h → Waits side (items ++ h)
  refuses_waits side h items n b (silently e) v = dulls side items h (tt, (tt, tt)) v
  refuses_waits side h items n b (spent e) v = dulls side items h (tt, (tt, tt)) v
  refuses_waits side h items n b (said r x e f s) v = dulls side items h (tt, (tt, (tt, tt))) v

  answer_waits : (side : Side) (h items : List Item) (c : Option ℕ) (m : Msg) (b : List ℕ) → Answer p side h c m items → IsAcceptable p side h m b → Waits side h → Waits side (items ++ (Took c m b ∷ h))
  answer_waits side h items c m b (of_transport a) w v = transport_waits side h items m b a v
  answer_waits side h items c m b (of_completion r a) w v = completion_waits side h _ items m b a (replies_dull _ _ r) v
  answer_waits side h items c m b (of_authentication a) w v = authentication_waits side h items m b a w v
  answer_waits side h items c m b (of_connection a) w v = connection_waits side h items c m b a w v

  payload_waits : (side : Side) (h items : List Item) (b : List ℕ) → OnPayload p side h b items → Waits side h → Waits side (items ++ h)
  payload_waits side h items b (takes {items = l} c m w a s k) v = rw append_assoc (answer_waits side h l c m b a w v)
  payload_waits side h items b (skips e m) v = dulls side items h (tt, (tt, tt)) v
  payload_waits side h items b (unexpected m r) v = refuses_waits side h items Unexpected _ r v
  payload_waits side h items b (bad_message m e f r) v = refuses_waits side h items BadMessage _ r v
  payload_waits side h items b (OnPayload.refuses m k a e f c r) v = refuses_waits side h items k _ r v
  payload_waits side h items b (OnPayload.spends c m w a s k) v = dulls side items h (tt, (tt, tt)) v

  outcome_waits : (side : Side) (h items : List Item) (o : Outcome) → OnOutcome p side h o items → Waits side h → Waits side (items ++ h)
  outcome_waits side h items o (other_line text) v = dulls side items h (tt, tt) v
  outcome_waits side h items o (version_line text) v = dulls side items h (tt, tt) v
  outcome_waits side h items o (refused_line k r) v = refuses_waits side h items k _ r v
  outcome_waits side h items o (OnOutcome.opened b x) v = payload_waits side h items b x v
  outcome_waits side h items o (refused_packet k r) v = refuses_waits side h items k _ r v

  turn_waits : (side : Side) (h items : List Item) → Turn p side h items → Waits side h → Waits side (items ++ h)
  turn_waits side h items (Turn.feeds c s (FeedsTurn.feeds k m)) v = dulls side items h (tt, tt) v
  turn_waits side h items (asks a (AsksTurn.refuses k alive e)) v = dulls side items h (tt, (tt, tt)) v
  turn_waits side h items (asks a (AsksTurn.answers {items = l} alive c o s k)) v = rw append_assoc (ask_waits side h l a o c v)
  turn_waits side h items (asks a (AsksTurn.spends alive c o s k)) v = dulls side items h (tt, (tt, (tt, tt))) v
  turn_waits side h items (reads unit alive (OnUnit.reads o u x)) v = outcome_waits side h items o x v
  turn_waits side h items (reads unit alive (OnUnit.dies o u x k)) v = dulls side items h (tt, tt) v
  turn_waits side h items (asks a (AsksTurn.dies alive c o s k)) v = dulls side items h (tt, tt) v
  turn_waits side h items (asks a (AsksTurn.is_dead e)) v = v
  turn_waits side h items (Turn.feeds c s (FeedsTurn.answers_false e)) v = v

  begins : (side : Side) → Waits side []
  begins side = record { here = λ ch. omega arith; there = λ ch. omega arith }

  pub end_waits : (side : Side) (h : List Item) → EndRun p side h → Waits side h
  end_waits side h (EndRun.start o) = subst (λ l. Waits side l) (sym o.items_are) (dulls side (_ ∷ _ ∷ _ ∷ []) [] (tt, (tt, (tt, tt))) (begins side))
  end_waits side h (EndRun.then_turn {h = b} {items = items} before turn) = turn_waits side b items turn (end_waits side b before)
