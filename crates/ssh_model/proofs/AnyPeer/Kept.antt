-- The bounds of what an end keeps: replies owed, global requests that wait, failed requests for a user, and numbers of channels.
use Rattle.std.proofs.Common.{◌≡◌, ℕ, ◌<◌, ◌≤◌, List, [], ◌∷◌, ◌++◌, ◌⊎◌, inl, inr, length, length-append, refl, ap, sym, ◌∙◌, arith, subst, append_assoc, Bool, true, false, cond, not, nat_le, ◌&&◌, Option, Some, None}
use Rattle.std.proofs.lemmas.Bool.{leb-false}
use Rattle.ssh_model.specs.Protocol.Bounds.{most_owed_replies, most_waiting_globals}
use Rattle.ssh_model.specs.declared.side.Side.{Side}
use Rattle.ssh_model.specs.declared.side.Side.TheVariants.{Client, Server}
use Rattle.ssh_model.specs.Protocol.Wire.Message.{Msg, Msg.NewKeys, Msg.KexEcdhInit, Msg.KexEcdhReply, Msg.UserauthRequest, Msg.UserauthFailure, Msg.GlobalRequest, Msg.RequestSuccess, Msg.RequestFailure, Msg.ChannelOpen, Msg.ChannelClose, Method}
use Rattle.ssh_model.specs.Protocol.Sessions.Refusals.{first_refusal}
use Rattle.ssh_model.specs.Protocol.Sessions.Parties.{Parties}
use Rattle.ssh_model.specs.Protocol.Sessions.Items.{Ask, Ask.AskGlobal, Item, Item.Asked, Item.Sent, Item.Took}
use Rattle.ssh_model.specs.Protocol.Sessions.Phases.{authenticated, failures}
use Rattle.ssh_model.specs.Protocol.Sessions.Phases.{blocked as blocked_now}
use Rattle.ssh_model.specs.Protocol.Authentication.Requests.{is_failing}
use Rattle.ssh_model.specs.Protocol.Channels.Message.{Message, Message.Open, Message.OpenFailure, Message.Close}
use Rattle.ssh_model.specs.Protocol.Channels.Notes.{Note}
use Rattle.ssh_model.specs.Protocol.Channels.Numbers.{has_closed}
use Rattle.ssh_model.specs.Protocol.Channels.History as channel
use Rattle.ssh_model.specs.Protocol.Channels.History.{owed, blocked, noted, due}
use Rattle.ssh_model.specs.Protocol.Channels.Connection.{received_on, on_channel, globals_here, globals_there, is_full}
use Rattle.ssh_model.specs.Laws.Checks.{all_passed}
use Rattle.ssh_model.proofs.Sessions.Stages.{or_false, second_false}
use Rattle.ssh_model.proofs.Channels.View.{blocked_same}
use Rattle.ssh_model.proofs.AnyPeer.Few.{due_one, owed_sent}
use Rattle.ssh_model.specs.Protocol.Sessions.Transport.{TransportAnswer, TransportAnswer.disconnect, TransportAnswer.ignore, TransportAnswer.unimplemented, TransportAnswer.debug, TransportAnswer.unknown, TransportAnswer.service_request, TransportAnswer.service_accept, TransportAnswer.extensions, IsAnnounced, TransportAnswer.kexinit_at_server, TransportAnswer.kexinit_at_client, TransportAnswer.answered_at_server, TransportAnswer.answered_at_client, CompletingAnswer.init, CompletingAnswer.reply, TransportAnswer.newkeys, TransportAsk.service, TransportAsk.rekey, TransportAsk.disconnect, CompletingAnswer}
use Rattle.ssh_model.specs.Protocol.Authentication.Rows.{AuthenticationAnswer.request_too_late, AuthenticationAnswer.request_accepted, AuthenticationAnswer.request_probed, AuthenticationAnswer.request_failed, AuthenticationAnswer.failure, AuthenticationAnswer.success, AuthenticationAnswer.banner, AuthenticationAnswer.key_ok, AuthenticationAsk.none, AuthenticationAsk.password, AuthenticationAsk.probe, AuthenticationAsk.sign, AuthenticationAnswer}
use Rattle.ssh_model.specs.Protocol.Channels.Connection.{notes, channel_items, owed_replies, AreReplies, AreReplies.none, AreReplies.reply, ConnectionAnswer, ConnectionAnswer.global, ConnectionAnswer.global_success, ConnectionAnswer.global_failure, ConnectionAnswer.opened, ConnectionAnswer.not_opened, ConnectionAnswer.confirmation, ConnectionAnswer.failure, ConnectionAnswer.adjust, ConnectionAnswer.got_data, ConnectionAnswer.got_extended, ConnectionAnswer.eof, ConnectionAnswer.close, ConnectionAnswer.request, ConnectionAnswer.success, ConnectionAnswer.no_success, ConnectionAsk.opens, ConnectionAsk.confirm, ConnectionAsk.refuse, ConnectionAsk.sends, ConnectionAsk.sends_extended, ConnectionAsk.adjust, ConnectionAsk.eof, ConnectionAsk.close, ConnectionAsk.request, ConnectionAsk.reply_yes, ConnectionAsk.reply_no, ConnectionAsk.global, ConnectionAsk.global_yes, ConnectionAsk.global_no}
use Rattle.ssh_model.specs.Protocol.Sessions.Turns.{answer_checks, Refuses, Refuses.silently, Refuses.spent, Refuses.said, IsAcceptable, Answer, Answer.of_transport, Answer.of_completion, Answer.of_authentication, Answer.of_connection, OnAsk.of_authentication, OnPayload, OnPayload.takes, OnPayload.skips, OnPayload.unexpected, OnPayload.bad_message, OnOutcome, OnOutcome.other_line, OnOutcome.version_line, OnOutcome.refused_line, OnOutcome.opened, OnOutcome.refused_packet, ask_checks, OnAsk, OnAsk.of_transport, OnAsk.of_connection, FeedsTurn, AsksTurn, OnUnit, OnUnit.reads, Turn, Turn.asks, Turn.reads, EndRun}
use Rattle.ssh_model.specs.Protocol.Wire.Outcome.{Outcome}
use Rattle.ssh_model.specs.declared.refusal.Refusal.{Refusal}
use Rattle.ssh_model.specs.declared.refusal.Refusal.TheVariants.{BadMessage, Unexpected}

-- ---- what is kept, by its bound

pub record Bounds {K : Type 0} (p : Parties K) (side : Side) (h : List Item) : Type 0 where
  pub owes : length (owed_replies side h) ≤ most_owed_replies
  pub here : globals_here h ≤ most_waiting_globals
  pub there : globals_there h ≤ most_waiting_globals
  pub tries : side ≡ Server → failures h ≤ p.server.tries

-- ---- items that raise nothing

abbrev IsDullSent : Msg → Type 0
IsDullSent (GlobalRequest name want rest) = ⊥
IsDullSent (UserauthFailure a d) = ⊥
IsDullSent _ = Unit {0}

abbrev IsDullTaken : Msg → Type 0
IsDullTaken (GlobalRequest name want rest) = ⊥
IsDullTaken _ = Unit {0}

abbrev IsDull : Item → Type 0
IsDull (Sent c m b) = IsDullSent m
IsDull (Took c m b) = ⊥
IsDull _ = Unit {0}

abbrev AreDull : List Item → Type 0
AreDull [] = Unit {0}
AreDull (i ∷ l) = IsDull i × AreDull l

here_sent : (c : Option ℕ) (m : Msg) (b : List ℕ) (h : List Item) → globals_here (Sent c m b ∷ h) ≤ globals_here h
here_sent c (RequestSuccess rest) b h = omega arith
here_sent c RequestFailure b h = omega arith
here_sent c m b h = omega arith

there_sent : (c : Option ℕ) (m : Msg) (b : List ℕ) (h : List Item) → IsDullSent m → globals_there (Sent c m b ∷ h) ≤ globals_there h
there_sent c (GlobalRequest name want rest) b h q = elim q [ ]
there_sent c m b h q = omega arith

failures_sent : (c : Option ℕ) (m : Msg) (b : List ℕ) (h : List Item) → IsDullSent m → failures (Sent c m b ∷ h) ≡ failures h
failures_sent c (UserauthFailure a d) b h q = elim q [ ]
failures_sent c m b h q = refl

here_taken : (c : Option ℕ) (m : Msg) (b : List ℕ) (h : List Item) → IsDullTaken m → globals_here (Took c m b ∷ h) ≤ globals_here h
here_taken c (GlobalRequest name want rest) b h q = elim q [ ]
here_taken c m b h q = omega arith

there_taken : (c : Option ℕ) (m : Msg) (b : List ℕ) (h : List Item) → globals_there (Took c m b ∷ h) ≤ globals_there h
there_taken c (RequestSuccess rest) b h = omega arith
there_taken c RequestFailure b h = omega arith
there_taken c m b h = omega arith

-- the message makes no reply due
abbrev IsQuietOn : Option ℕ → Option Message → Type 0
IsQuietOn None (Some (Open from w k)) = ⊥
IsQuietOn (Some x) (Some (Close to)) = ⊥
IsQuietOn at o = Unit {0}

due_none : (at : Option ℕ) (m : Message) (notes : List Note) → IsQuietOn at (Some m) → due at m notes ≡ []
due_none None (Open from w k) notes q = elim q [ ]
due_none (Some x) (Close to) notes q = elim q [ ]
due_none None m notes q = refl
due_none (Some x) m notes q = refl

same_owed : (t : Bool) (d o : List channel.Item) → d ≡ [] → length (cond t (d ++ o) o) ≤ length o
same_owed true d o e = omega (arith, length-append d o, ap length e)
same_owed false d o e = omega arith

owed_quiet : (side : Side) (at : Option ℕ) (o : Option Message) (l : List channel.Item) → IsQuietOn at o → length (owed side (received_on at o l)) ≤ length (owed side l)
owed_quiet side at None l q = omega arith
owed_quiet side at (Some m) l q = same_owed (blocked l) (due at m (noted side l)) (owed side l) (due_none at m (noted side l) q)

-- it does, and there is room
owed_room : (t : Bool) (d o : List channel.Item) → length d ≤ 1 → (t ≡ true → length d ≡ 0 ⊎ length o < most_owed_replies) → length o ≤ most_owed_replies → length (cond t (d ++ o) o) ≤ most_owed_replies
owed_room false d o n f k = k
owed_room true d o n f k = go (f refl)
  where
    go : length d ≡ 0 ⊎ length o < most_owed_replies → length (d ++ o) ≤ most_owed_replies
    go (inl e) = omega (arith, length-append d o, e, k)
    go (inr e) = omega (arith, length-append d o, n, e)

replies_dull : (l : List channel.Item) (items : List Item) → AreReplies l items → AreDull items
replies_dull l items none = tt
replies_dull l items (reply at (OpenFailure t) b r) = (tt, replies_dull _ _ r)
replies_dull l items (reply at (Close t) b r) = (tt, replies_dull _ _ r)
replies_dull l items (reply at m b r) = (tt, replies_dull _ _ r)

module _ {K : Type 0} (p : Parties K) (side : Side) where
  dull_item : (i : Item) (h : List Item) → IsDull i → Bounds p side h → Bounds p side (i ∷ h)
  dull_item (Sent c m b) h q v = record {
    owes = omega (arith, v.owes, owed_sent side c m b h);
    here = omega (arith, v.here, here_sent c m b h);
    there = omega (arith, v.there, there_sent c m b h q);
    tries = λ e. omega (arith, v.tries e, failures_sent c m b h q);
  }
  dull_item (Took c m b) h q v = elim q [ ]
  dull_item i h q v = record { owes = v.owes; here = v.here; there = v.there; tries = v.tries }

  dulls : (items h : List Item) → AreDull items → Bounds p side h → Bounds p side (items ++ h)
  dulls [] h q v = v
  dulls (i ∷ l) h q v = dull_item i (l ++ h) q.0 (dulls l h q.1 v)

  dull_step : (h items : List Item) (c : Option ℕ) (m : Msg) (b : List ℕ) → IsDullTaken m → IsQuietOn c (on_channel m) → AreDull items → Bounds p side h → Bounds p side (items ++ (Took c m b ∷ h))
  dull_step h items c m b t o q v = dulls items (Took c m b ∷ h) q (record {
    owes = omega (arith, v.owes, owed_quiet side c (on_channel m) (channel_items h) o);
    here = omega (arith, v.here, here_taken c m b h t);
    there = omega (arith, v.there, there_taken c m b h);
    tries = v.tries;
  })

  -- a message that makes a reply due
  due_step : (h items : List Item) (c : Option ℕ) (m : Msg) (on : Message) (b : List ℕ) → IsDullTaken m → on_channel m ≡ Some on
      → (blocked_now h ≡ true → length (due c on (notes side h)) ≡ 0 ⊎ length (owed_replies side h) < most_owed_replies) → AreDull items → Bounds p side h → Bounds p side (items ++ (Took c m b ∷ h))
  due_step h items c m on b t o f q v = dulls items (Took c m b ∷ h) q (record {
    owes = subst (λ x. length (owed side (received_on c x (channel_items h))) ≤ most_owed_replies) (sym o)
        (owed_room (blocked (channel_items h)) (due c on (notes side h)) (owed_replies side h) (due_one c on (notes side h)) (λ e. f (sym (blocked_same h) ∙ e)) v.owes);
    here = omega (arith, v.here, here_taken c m b h t);
    there = omega (arith, v.there, there_taken c m b h);
    tries = v.tries;
  })

-- ---- what the checks leave

not_limited : (t : Bool) (n : ℕ) → (t && nat_le most_owed_replies n) ≡ false → t ≡ true → n < most_owed_replies
not_limited true n e f = leb-false most_owed_replies n e
not_limited false n e f = absurd (cc f)

close_room : (t : Bool) (l : List channel.Item) (b : Bool) (n : ℕ) → (not t && (b && nat_le most_owed_replies n)) ≡ false → b ≡ true → length (cond t [] l) ≡ 0 ⊎ n < most_owed_replies
close_room true l b n e f = inl refl
close_room false l b n e f = inr (not_limited b n e f)

both : (a b : Bool) → a ≡ true → b ≡ true → (a && b) ≡ true
both true b e f = f
both false b e f = absurd (cc e)

-- ---- the rows

module _ {K : Type 0} (p : Parties K) where
  transport_bounds : (side : Side) (h items : List Item) (m : Msg) (b : List ℕ) → TransportAnswer p side h m items → Bounds p side h → Bounds p side (items ++ (Took None m b ∷ h))
  transport_bounds side h items m b (disconnect r d l) v = dull_step p side h items None m b tt tt (tt, (tt, tt)) v
  transport_bounds side h items m b (ignore x) v = dull_step p side h items None m b tt tt (tt, tt) v
  transport_bounds side h items m b (unimplemented x) v = dull_step p side h items None m b tt tt (tt, tt) v
  transport_bounds side h items m b (debug x y z) v = dull_step p side h items None m b tt tt (tt, tt) v
  transport_bounds side h items m b (unknown x y) v = dull_step p side h items None m b tt tt (tt, tt) v
  transport_bounds side h items m b (service_request x y) v = dull_step p side h items None m b tt tt (tt, tt) v
  transport_bounds side h items m b (service_accept x) v = dull_step p side h items None m b tt tt (tt, tt) v
  transport_bounds side h items m b (kexinit_at_server theirs e) v = dull_step p side h items None m b tt tt tt v
  transport_bounds side h items m b (kexinit_at_client theirs y e) v = dull_step p side h items None m b tt tt (tt, tt) v
  transport_bounds side h items m b (answered_at_server theirs own e) v = dull_step p side h items None m b tt tt (tt, tt) v
  transport_bounds side h items m b (answered_at_client theirs own y e) v = dull_step p side h items None m b tt tt (tt, (tt, tt)) v
  transport_bounds side h items m b (extensions a) v = dull_step p side h items None m b tt tt (tt, tt) v
  transport_bounds side h items m b newkeys v = dull_step p side h items None m b tt tt tt v

  completion_bounds : (side : Side) (h owed items : List Item) (m : Msg) (b : List ℕ) → CompletingAnswer p owed side h m items → AreDull owed → Bounds p side h → Bounds p side (items ++ (Took None m b ∷ h))
  completion_bounds side h owed items m b (init q rb nb (IsAnnounced.extensions xb f)) o v =
      let e = dull_step p Server h (Sent None _ xb ∷ Sent None NewKeys nb ∷ Sent None _ rb ∷ []) None (KexEcdhInit q) b tt tt (tt, (tt, (tt, tt))) v in
      dull_item p Server _ _ tt (rw (append_assoc owed (Sent None _ xb ∷ Sent None NewKeys nb ∷ Sent None _ rb ∷ []) (Took None (KexEcdhInit q) b ∷ h)) (dulls p Server owed _ o e))
  completion_bounds side h owed items m b (init q rb nb (IsAnnounced.nothing f)) o v =
      let e = dull_step p Server h (Sent None NewKeys nb ∷ Sent None _ rb ∷ []) None (KexEcdhInit q) b tt tt (tt, (tt, tt)) v in
      dull_item p Server _ _ tt (rw (append_assoc owed (Sent None NewKeys nb ∷ Sent None _ rb ∷ []) (Took None (KexEcdhInit q) b ∷ h)) (dulls p Server owed _ o e))
  completion_bounds side h owed items m b (reply k_s q_s g nb (IsAnnounced.extensions xb f)) o v =
      let e = dull_step p Client h (Sent None _ xb ∷ Sent None NewKeys nb ∷ []) None (KexEcdhReply k_s q_s g) b tt tt (tt, (tt, tt)) v in
      dull_item p Client _ _ tt (rw (append_assoc owed (Sent None _ xb ∷ Sent None NewKeys nb ∷ []) (Took None (KexEcdhReply k_s q_s g) b ∷ h)) (dulls p Client owed _ o e))
  completion_bounds side h owed items m b (reply k_s q_s g nb (IsAnnounced.nothing f)) o v =
      let e = dull_step p Client h (Sent None NewKeys nb ∷ []) None (KexEcdhReply k_s q_s g) b tt tt (tt, tt) v in
      dull_item p Client _ _ tt (rw (append_assoc owed (Sent None NewKeys nb ∷ []) (Took None (KexEcdhReply k_s q_s g) b ∷ h)) (dulls p Client owed _ o e))

  failed_request : (h : List Item) (u s : List ℕ) (m : Method) (l : List (List ℕ)) (d : Bool) (b fb : List ℕ) → failures h < p.server.tries → Bounds p Server h
      → Bounds p Server (Sent None (UserauthFailure l d) fb ∷ Took None (UserauthRequest u s m) b ∷ h)
  failed_request h u s m l d b fb n v = record { owes = v.owes; here = v.here; there = v.there; tries = λ e. omega (arith, n) }

  authentication_bounds : (side : Side) (h items : List Item) (m : Msg) (b : List ℕ) → AuthenticationAnswer p side h m items → IsAcceptable p side h m b → Bounds p side h → Bounds p side (items ++ (Took None m b ∷ h))
  authentication_bounds side h items m b (request_too_late x y z e) w v = dull_step p side h items None m b tt tt (tt, tt) v
  authentication_bounds side h items m b (request_accepted x y z c e f) w v = dull_step p side h items None m b tt tt (tt, (tt, tt)) v
  authentication_bounds side h items m b (request_probed x y a k c e f) w v = dull_step p side h items None m b tt tt (tt, tt) v
  authentication_bounds side h items m b (request_failed x y z c e f) w v =
      let checks = all_passed (answer_checks p Server h (UserauthRequest x y z)) w.not_refused in
      let left = second_false (not (authenticated Server h) && is_failing p h x y z) (nat_le p.server.tries (failures h)) (both (not (authenticated Server h)) (is_failing p h x y z) (ap not e) f) checks.0 in
      failed_request h x y z _ _ b c (leb-false p.server.tries (failures h) left) v
  authentication_bounds side h items m b (failure x y) w v = dull_step p side h items None m b tt tt (tt, tt) v
  authentication_bounds side h items m b (success way e) w v = dull_step p side h items None m b tt tt (tt, tt) v
  authentication_bounds side h items m b (banner x y) w v = dull_step p side h items None m b tt tt (tt, tt) v
  authentication_bounds side h items m b (key_ok x y) w v = dull_step p side h items None m b tt tt (tt, tt) v

  global_taken : (side : Side) (h : List Item) (name : List ℕ) (want : Bool) (rest b : List ℕ) → (want && nat_le most_waiting_globals (globals_here h)) ≡ false → Bounds p side h
      → Bounds p side (Took None (GlobalRequest name want rest) b ∷ h)
  global_taken side h name true rest b e v = record { owes = v.owes; here = leb-false most_waiting_globals (globals_here h) e; there = v.there; tries = v.tries }
  global_taken side h name false rest b e v = record { owes = v.owes; here = v.here; there = v.there; tries = v.tries }

  global_sent : (side : Side) (h : List Item) (a : Ask) (name : List ℕ) (want : Bool) (rest b : List ℕ) → (want && nat_le most_waiting_globals (globals_there h)) ≡ false → Bounds p side h
      → Bounds p side (Sent None (GlobalRequest name want rest) b ∷ Asked a ∷ h)
  global_sent side h a name true rest b e v = record { owes = v.owes; here = v.here; there = leb-false most_waiting_globals (globals_there h) e; tries = v.tries }
  global_sent side h a name false rest b e v = record { owes = v.owes; here = v.here; there = v.there; tries = v.tries }

  connection_bounds : (side : Side) (h items : List Item) (c : Option ℕ) (m : Msg) (b : List ℕ) → ConnectionAnswer side h c m items → IsAcceptable p side h m b → Bounds p side h → Bounds p side (items ++ (Took c m b ∷ h))
  connection_bounds side h items c m b (global x y z) w v =
      dull_item p side _ _ tt (global_taken side h x y z b (all_passed (answer_checks p side h (GlobalRequest x y z)) w.not_refused).0 v)
  connection_bounds side h items c m b (not_opened k a d e f g r) w v =
      let checks = all_passed (answer_checks p side h (ChannelOpen k a d e f)) w.not_refused in
      let room = second_false (is_full side h) _ g checks.0 in
      due_step p side h items None (ChannelOpen k a d e f) (Open a d e) b tt refl (λ t. inr (not_limited (blocked_now h) (length (owed_replies side h)) room t)) (replies_dull _ items r) v
  connection_bounds side h items c m b (close {replies = l} a r) w v =
      let checks = all_passed (answer_checks p side h (ChannelClose a)) w.not_refused in
      due_step p side h items (Some a) (ChannelClose a) (Close a) b tt refl (λ t. close_room (has_closed a (notes side h)) _ (blocked_now h) (length (owed_replies side h)) checks.1.0 t) (tt, replies_dull _ l r) v
  connection_bounds side h items c m b (global_success z) w v = dull_step p side h items c m b tt tt (tt, tt) v
  connection_bounds side h items c m b global_failure w v = dull_step p side h items c m b tt tt (tt, tt) v
  connection_bounds side h items c m b (opened x k a d e f g) w v = dull_step p side h items c m b tt tt (tt, tt) v
  connection_bounds side h items c m b (confirmation a d e f g) w v = dull_step p side h items c m b tt tt (tt, tt) v
  connection_bounds side h items c m b (failure a d e f) w v = dull_step p side h items c m b tt tt (tt, tt) v
  connection_bounds side h items c m b (adjust a d) w v = dull_step p side h items c m b tt tt (tt, tt) v
  connection_bounds side h items c m b (got_data a d) w v = dull_step p side h items c m b tt tt (tt, tt) v
  connection_bounds side h items c m b (got_extended a d e) w v = dull_step p side h items c m b tt tt (tt, tt) v
  connection_bounds side h items c m b (eof a) w v = dull_step p side h items c m b tt tt (tt, tt) v
  connection_bounds side h items c m b (request a d e f) w v = dull_step p side h items c m b tt tt (tt, tt) v
  connection_bounds side h items c m b (success a) w v = dull_step p side h items c m b tt tt (tt, tt) v
  connection_bounds side h items c m b (no_success a) w v = dull_step p side h items c m b tt tt (tt, tt) v

  -- ---- asks

  plain_ask : (side : Side) (h items : List Item) (a : Ask) → AreDull items → Bounds p side h → Bounds p side (items ++ (Asked a ∷ h))
  plain_ask side h items a q v = dulls p side items (Asked a ∷ h) q (dull_item p side (Asked a) h tt v)

  ask_bounds : (side : Side) (h items : List Item) (a : Ask) → OnAsk p side h a items → first_refusal (ask_checks p side h a) ≡ None → Bounds p side h → Bounds p side (items ++ (Asked a ∷ h))
  ask_bounds side h items a (OnAsk.of_connection (global k d r b)) c v =
      let checks = all_passed (ask_checks p side h (AskGlobal k d r)) c in
      global_sent side h a k d r b (or_false (blocked_now h) _ checks.1.0).1 v
  ask_bounds side h items a (OnAsk.of_transport (service x)) c v = plain_ask side h items a (tt, tt) v
  ask_bounds side h items a (OnAsk.of_transport (rekey b)) c v = plain_ask side h items a (tt, tt) v
  ask_bounds side h items a (OnAsk.of_transport (disconnect x b)) c v = plain_ask side h items a (tt, (tt, tt)) v
  ask_bounds side h items a (OnAsk.of_authentication (none x y)) c v = plain_ask side h items a (tt, tt) v
  ask_bounds side h items a (OnAsk.of_authentication (password x y z)) c v = plain_ask side h items a (tt, tt) v
  ask_bounds side h items a (OnAsk.of_authentication (probe x y z b)) c v = plain_ask side h items a (tt, tt) v
  ask_bounds side h items a (OnAsk.of_authentication (sign x y z b)) c v = plain_ask side h items a (tt, tt) v
  ask_bounds side h items a (OnAsk.of_connection (opens x k d m r b f)) c v = plain_ask side h items a (tt, (tt, tt)) v
  ask_bounds side h items a (OnAsk.of_connection (confirm x d m r b)) c v = plain_ask side h items a (tt, tt) v
  ask_bounds side h items a (OnAsk.of_connection (refuse x r b)) c v = plain_ask side h items a (tt, tt) v
  ask_bounds side h items a (OnAsk.of_connection (sends x y b)) c v = plain_ask side h items a (tt, tt) v
  ask_bounds side h items a (OnAsk.of_connection (sends_extended x k y b)) c v = plain_ask side h items a (tt, tt) v
  ask_bounds side h items a (OnAsk.of_connection (adjust x k b)) c v = plain_ask side h items a (tt, tt) v
  ask_bounds side h items a (OnAsk.of_connection (eof x b)) c v = plain_ask side h items a (tt, tt) v
  ask_bounds side h items a (OnAsk.of_connection (close x b)) c v = plain_ask side h items a (tt, tt) v
  ask_bounds side h items a (OnAsk.of_connection (request x k d r b)) c v = plain_ask side h items a (tt, tt) v
  ask_bounds side h items a (OnAsk.of_connection (reply_yes x b)) c v = plain_ask side h items a (tt, tt) v
  ask_bounds side h items a (OnAsk.of_connection (reply_no x b)) c v = plain_ask side h items a (tt, tt) v
  ask_bounds side h items a (OnAsk.of_connection (global_yes r b)) c v = plain_ask side h items a (tt, tt) v
  ask_bounds side h items a (OnAsk.of_connection (global_no r b)) c v = plain_ask side h items a (tt, tt) v

  -- ---- turns

  refuses_bounds : (side : Side) (h items : List Item) (why : Refusal) (b : Option (List ℕ)) → Refuses h why b items → Bounds p side h → Bounds p side (items ++ h)
  refuses_bounds side h items n b (silently e) v = dulls p side items h (tt, (tt, tt)) v
  refuses_bounds side h items n b (spent e) v = dulls p side items h (tt, (tt, tt)) v
  refuses_bounds side h items n b (said r x e f s) v = dulls p side items h (tt, (tt, (tt, tt))) v

  answer_bounds : (side : Side) (h items : List Item) (c : Option ℕ) (m : Msg) (b : List ℕ) → Answer p side h c m items → IsAcceptable p side h m b → Bounds p side h → Bounds p side (items ++ (Took c m b ∷ h))
  answer_bounds side h items c m b (of_transport a) w v = transport_bounds side h items m b a v
  answer_bounds side h items c m b (of_completion r a) w v = completion_bounds side h _ items m b a (replies_dull _ _ r) v
  answer_bounds side h items c m b (of_authentication a) w v = authentication_bounds side h items m b a w v
  answer_bounds side h items c m b (of_connection a) w v = connection_bounds side h items c m b a w v

  payload_bounds : (side : Side) (h items : List Item) (b : List ℕ) → OnPayload p side h b items → Bounds p side h → Bounds p side (items ++ h)
  payload_bounds side h items b (takes {items = l} c m w a s k) v = rw append_assoc (answer_bounds side h l c m b a w v)
  payload_bounds side h items b (skips e m) v = dulls p side items h (tt, (tt, tt)) v
  payload_bounds side h items b (unexpected m r) v = refuses_bounds side h items Unexpected _ r v
  payload_bounds side h items b (bad_message m e f r) v = refuses_bounds side h items BadMessage _ r v
  payload_bounds side h items b (OnPayload.refuses m k a e f c r) v = refuses_bounds side h items k _ r v
  payload_bounds side h items b (OnPayload.spends c m w a s k) v = dulls p side items h (tt, (tt, tt)) v

  outcome_bounds : (side : Side) (h items : List Item) (o : Outcome) → OnOutcome p side h o items → Bounds p side h → Bounds p side (items ++ h)
  outcome_bounds side h items o (other_line text) v = dulls p side items h (tt, tt) v
  outcome_bounds side h items o (version_line text) v = dulls p side items h (tt, tt) v
  outcome_bounds side h items o (refused_line k r) v = refuses_bounds side h items k _ r v
  outcome_bounds side h items o (OnOutcome.opened b x) v = payload_bounds side h items b x v
  outcome_bounds side h items o (refused_packet k r) v = refuses_bounds side h items k _ r v

  turn_bounds : (side : Side) (h items : List Item) → Turn p side h items → Bounds p side h → Bounds p side (items ++ h)
  turn_bounds side h items (Turn.feeds c s (FeedsTurn.feeds k m)) v = dulls p side items h (tt, tt) v
  turn_bounds side h items (asks a (AsksTurn.refuses k alive e)) v = dulls p side items h (tt, (tt, tt)) v
  turn_bounds side h items (asks a (AsksTurn.answers {items = l} alive c o s k)) v = rw append_assoc (ask_bounds side h l a o c v)
  turn_bounds side h items (asks a (AsksTurn.spends alive c o s k)) v = dulls p side items h (tt, (tt, (tt, tt))) v
  turn_bounds side h items (reads unit alive (OnUnit.reads o u x)) v = outcome_bounds side h items o x v
  turn_bounds side h items (reads unit alive (OnUnit.dies o u x k)) v = dulls p side items h (tt, tt) v
  turn_bounds side h items (asks a (AsksTurn.dies alive c o s k)) v = dulls p side items h (tt, tt) v
  turn_bounds side h items (asks a (AsksTurn.is_dead e)) v = v
  turn_bounds side h items (Turn.feeds c s (FeedsTurn.answers_false e)) v = v

  begins : (side : Side) → Bounds p side []
  begins side = record { owes = omega arith; here = omega arith; there = omega arith; tries = λ e. omega arith }

  pub end_bounds : (side : Side) (h : List Item) → EndRun p side h → Bounds p side h
  end_bounds side h (EndRun.start o) = subst (λ l. Bounds p side l) (sym o.items_are) (dulls p side (_ ∷ _ ∷ _ ∷ []) [] (tt, (tt, (tt, tt))) (begins side))
  end_bounds side h (EndRun.then_turn {h = b} {items = items} before turn) = turn_bounds side b items turn (end_bounds side b before)
