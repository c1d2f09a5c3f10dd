-- What a blocked end sends: between its KEXINIT and its NEWKEYS nothing but messages of the exchange, UNIMPLEMENTED and
-- DISCONNECT, whatever the layers above its transport do.
use Rattle.std.proofs.Common.{◌≡◌, ℕ, ◌<◌, ◌≤◌, List, [], ◌∷◌, ◌++◌, ◌⊎◌, inl, inr, refl, sym, ◌∙◌, ap, subst, append_assoc, arith, Bool, true, false, is_some, ◌||◌, Option, None, cond, length}
use Rattle.ssh_model.specs.declared.side.Side.{Side}
use Rattle.ssh_model.specs.declared.side.Side.TheVariants.{Client, Server}
use Rattle.ssh_model.specs.Protocol.Sessions.TurnClaims.{KeepsToExchange, is_sent_while_blocked}
use Rattle.ssh_model.proofs.Sessions.EndKeeps.{End, not_own}
use Rattle.ssh_model.proofs.Sessions.EndAnswers.{may_be}
use Rattle.ssh_model.proofs.Sessions.EndTurns.{run_keeps}
use Rattle.ssh_model.proofs.Sessions.TransportRuns.{transport_run}
use Rattle.ssh_model.specs.Protocol.Sessions.AnyLayers.{SentAbove, TookAbove, TransportTurn, TransportTurn.of_end, TransportTurn.completes, TransportRun}
use Rattle.ssh_model.specs.Laws.Checks.{AllPassed, all_passed}
use Rattle.ssh_model.proofs.Sessions.Stages.{or_false, not_false, ahead_at_21}
use Rattle.ssh_model.specs.Protocol.Sessions.Parties.{Parties}
use Rattle.ssh_model.specs.Protocol.Sessions.Phases.{service_requested, authenticated, blocked, may_take_in, may_take_normally, took_service_accept, Phase.Normal, outstanding, sent_service_accept, sent_service_request, sent_success, took_service_request, took_success, phase, Phase.Guessed, Phase.Exchanging, is_wrong_guess, may_take, own_names}
use Rattle.ssh_model.specs.Protocol.Wire.Message.{Msg, Msg.KexInit, Msg.KexEcdhInit, Msg.ServiceRequest, Msg.KexEcdhReply, Msg.ServiceAccept, message_number, Msg.UserauthFailure, Msg.UserauthRequest, Msg.UserauthPkOk, Msg.NewKeys, Msg.UserauthSuccess, Msg.Disconnect}
use Rattle.ssh_model.specs.Protocol.Sessions.Items.{Item, Item.Sent, Item.TookGuess, Item.Asked, Item.Took, Item.AskRefused, Item.Told, took, Item.Refused, Item.TookOtherLine, Item.TookLine, Item.SentLine, Item.Fed, Item.Died}
use Rattle.ssh_model.specs.Protocol.Sessions.Epochs.{epoch}
use Rattle.std.specs.Prelude.{codes}
use Rattle.ssh_model.specs.Protocol.Sessions.Parties.{AreLawful, settings_of, is_required, offer}
use Rattle.ssh_model.specs.Protocol.Sessions.Items.{Fact, Fact.Service, Ask, Ask.AskService, Ask.AskRekey}
use Rattle.ssh_model.specs.declared.refusal.Refusal.{Refusal}
use Rattle.ssh_model.specs.Protocol.Sessions.Refusals.{first_refusal, refusal_name}
use Rattle.ssh_model.specs.Protocol.Channels.History as channel
use Rattle.ssh_model.specs.Protocol.Channels.History.{at_once, due}
use Rattle.ssh_model.specs.Protocol.Channels.Message.{Message, Message.Open, Message.OpenFailure, Message.Close}
use Rattle.ssh_model.specs.Protocol.Channels.Connection.{AreDue, AreReplies, AreReplies.none as none_owed, AreReplies.reply as one_owed, reply_message, notes, ConnectionAnswer, ConnectionAnswer.global, ConnectionAnswer.global_success, ConnectionAnswer.global_failure, ConnectionAnswer.opened, ConnectionAnswer.not_opened, ConnectionAnswer.confirmation, ConnectionAnswer.failure as channel_failure, ConnectionAnswer.adjust, ConnectionAnswer.got_data, ConnectionAnswer.got_extended, ConnectionAnswer.eof, ConnectionAnswer.close, ConnectionAnswer.request, ConnectionAnswer.success as channel_success, ConnectionAnswer.no_success, ConnectionAsk.opens, ConnectionAsk.confirm, ConnectionAsk.refuse, ConnectionAsk.sends, ConnectionAsk.sends_extended, ConnectionAsk.adjust as asks_adjust, ConnectionAsk.eof as asks_eof, ConnectionAsk.close as asks_close, ConnectionAsk.request as asks_request, ConnectionAsk.reply_yes, ConnectionAsk.reply_no, ConnectionAsk.global as asks_global, ConnectionAsk.global_yes, ConnectionAsk.global_no}
use Rattle.ssh_model.specs.Protocol.Sessions.Transport.{IsAnnounced, TransportAnswer, TransportAnswer.disconnect, TransportAnswer.ignore, TransportAnswer.unimplemented, TransportAnswer.debug, TransportAnswer.unknown, TransportAnswer.extensions, TransportAnswer.service_request, TransportAnswer.service_accept, TransportAnswer.kexinit_at_server, TransportAnswer.kexinit_at_client, TransportAnswer.answered_at_server, TransportAnswer.answered_at_client, CompletingAnswer.init, CompletingAnswer.reply as answers_reply, TransportAnswer.newkeys, TransportAsk.service, TransportAsk.rekey, TransportAsk.disconnect as asked_to_disconnect, reply_now, next_cookie, CompletingAnswer}
use Rattle.ssh_model.specs.Protocol.Authentication.Rows.{AuthenticationAnswer.request_too_late, AuthenticationAnswer.request_accepted, AuthenticationAnswer.request_probed, AuthenticationAnswer.request_failed, AuthenticationAnswer.failure, AuthenticationAnswer.success, AuthenticationAnswer.banner, AuthenticationAnswer.key_ok, AuthenticationAsk.none, AuthenticationAsk.password, AuthenticationAsk.probe, AuthenticationAsk.sign, checks_of_request, AuthenticationAnswer}
use Rattle.ssh_model.specs.Protocol.Sessions.Turns.{number_of, ask_checks, Refuses, Refuses.silently, Refuses.spent, Refuses.said, IsAcceptable, Answer.of_transport, Answer.of_completion, Answer.of_authentication, Answer.of_connection, OnAsk, OnAsk.of_transport as asks_transport, OnAsk.of_authentication as asks_authentication, OnAsk.of_connection as of_channels, OnPayload, OnPayload.takes, OnPayload.skips, OnPayload.unexpected, OnPayload.bad_message, OnOutcome, OnOutcome.other_line, OnOutcome.version_line, OnOutcome.refused_line, OnOutcome.refused_packet, OnUnit, FeedsTurn, AsksTurn, Turn, Turn.asks, IsOpening, EndRun}
use Rattle.ssh_model.specs.Protocol.Wire.Outcome.{Outcome}
use Rattle.ssh_model.specs.Protocol.Wire.Message.{message_number, Proposal, Method}
use Rattle.ssh_model.proofs.Sessions.Stages.{normal_above}
use Rattle.ssh_model.proofs.Sessions.Serving.{is_in, is_in_is, Serves, first_or, second_or, third_or, without_second, left_or, right_or, both_ways, normal_at_5, normal_at_6, new_request_at_5, asked_at_6, accepted_at_50, outstanding_at_52, authenticated_at_20}

-- ---- items that keep it

-- neither fed, sent nor taken
abbrev IsStill : Item → Type 0
IsStill (Sent channel message payload) = ⊥
IsStill (Took channel message payload) = ⊥
IsStill (TookGuess payload) = ⊥
IsStill (Fed cookie secret) = ⊥
IsStill _ = Unit {0}

-- a sent message by which none of this changes
abbrev IsDullSent : Msg → Type 0
IsDullSent (KexInit o) = ⊥
IsDullSent NewKeys = ⊥
IsDullSent (ServiceRequest s) = ⊥
IsDullSent (ServiceAccept s) = ⊥
IsDullSent (UserauthRequest u s m) = ⊥
IsDullSent UserauthSuccess = ⊥
IsDullSent _ = Unit {0}

dull_blocked : (channel : Option ℕ) (m : Msg) (b : List ℕ) (h : List Item) → IsDullSent m → blocked (Sent channel m b ∷ h) ≡ blocked h
dull_blocked channel (KexInit o) b h q = elim q [ ]
dull_blocked channel NewKeys b h q = elim q [ ]
dull_blocked channel (ServiceRequest s) b h q = elim q [ ]
dull_blocked channel (ServiceAccept s) b h q = elim q [ ]
dull_blocked channel (UserauthRequest u s a) b h q = elim q [ ]
dull_blocked channel UserauthSuccess b h q = elim q [ ]
dull_blocked channel m b h q = refl

-- a taken message by which none of this changes
abbrev IsDullTaken : Msg → Type 0
IsDullTaken (KexInit o) = ⊥
IsDullTaken NewKeys = ⊥
IsDullTaken (KexEcdhInit q_c) = ⊥
IsDullTaken (KexEcdhReply k_s q_s signature) = ⊥
IsDullTaken (ServiceRequest s) = ⊥
IsDullTaken (ServiceAccept s) = ⊥
IsDullTaken (UserauthFailure methods partial) = ⊥
IsDullTaken UserauthSuccess = ⊥
IsDullTaken (UserauthPkOk algorithm key) = ⊥
IsDullTaken _ = Unit {0}

-- items that are still, or sent and dull
abbrev AreDull : List Item → Type 0
AreDull [] = Unit {0}
AreDull (Sent channel m b ∷ items) = IsDullSent m × AreDull items
AreDull (i ∷ items) = IsStill i × AreDull items

dull_items : (items h : List Item) → AreDull items → blocked (items ++ h) ≡ blocked h
dull_items [] h q = refl
dull_items (Sent channel m b ∷ items) h q = dull_blocked channel m b (items ++ h) q.0 ∙ dull_items items h q.1
dull_items (Asked a ∷ items) h q = dull_items items h q.1
dull_items (AskRefused r ∷ items) h q = dull_items items h q.1
dull_items (Told f ∷ items) h q = dull_items items h q.1
dull_items (Refused r b ∷ items) h q = dull_items items h q.1
dull_items (Died ∷ items) h q = dull_items items h q.1
dull_items (TookOtherLine x ∷ items) h q = dull_items items h q.1
dull_items (TookLine x ∷ items) h q = dull_items items h q.1
dull_items (SentLine x ∷ items) h q = dull_items items h q.1
dull_items (i ∷ items) h q = elim (q.0) [ ]

not_normal : (t : Bool) → cond t Guessed Exchanging ≡ Normal → ⊥
not_normal true e = cc e
not_normal false e = cc e

reply_dull : (m : Message) → IsDullSent (reply_message m)
reply_dull (OpenFailure to) = tt
reply_dull (Close to) = tt
reply_dull m = tt

replies_dull : (l : List channel.Item) (items : List Item) → AreReplies l items → AreDull items
replies_dull l items none_owed = tt
replies_dull l items (one_owed at m payload r) = (reply_dull m, replies_dull _ _ r)

no_replies : (l : List channel.Item) (items : List Item) → l ≡ [] → AreReplies l items → items ≡ []
no_replies l items e none_owed = refl
no_replies l items e (one_owed at m payload r) = absurd (cc e)

module _ {K : Type 0} (p : Parties K) (side : Side) where
  still : (i : Item) (h : List Item) → IsStill i → Serves p side h → Serves p side (i ∷ h)
  still (Sent channel m b) h q v = elim q [ ]
  still (Took channel m b) h q v = elim q [ ]
  still (TookGuess b) h q v = elim q [ ]
  still (Fed c s) h q v = elim q [ ]
  still i h q v = record { client = v.client; server = v.server; accepted = v.accepted; keyed = v.keyed; held = v.held; keeps = v.keeps; fed_is = v.fed_is }

  fed : (c s : List ℕ) (h : List Item) → length c ≡ 16 → Serves p side h → Serves p side (Fed c s ∷ h)
  fed c s h n v = record { client = v.client; server = v.server; accepted = v.accepted; keyed = v.keyed; held = v.held; keeps = v.keeps; fed_is = (n, v.fed_is) }

  guess : (b : List ℕ) (h : List Item) → Serves p side h → Serves p side (TookGuess b ∷ h)
  guess b h v = record { client = v.client; server = v.server; accepted = v.accepted; keyed = λ e. absurd (cc e); held = v.held; keeps = v.keeps; fed_is = v.fed_is }

  dull : (channel : Option ℕ) (m : Msg) (b : List ℕ) (h : List Item) → IsDullSent m → (blocked h ≡ true → is_sent_while_blocked (message_number m) ≡ true) → Serves p side h
      → Serves p side (Sent channel m b ∷ h)
  dull channel (KexInit o) b h q k v = elim q [ ]
  dull channel NewKeys b h q k v = elim q [ ]
  dull channel (ServiceRequest s) b h q k v = elim q [ ]
  dull channel (ServiceAccept s) b h q k v = elim q [ ]
  dull channel (UserauthRequest u s a) b h q k v = elim q [ ]
  dull channel UserauthSuccess b h q k v = elim q [ ]
  dull channel m b h q k v = record { client = v.client; server = v.server; accepted = v.accepted; keyed = v.keyed; held = v.held; keeps = (k, v.keeps); fed_is = v.fed_is }

  -- dull items of an end that is not blocked
  dulls : (items h : List Item) → AreDull items → (blocked h ≡ true → ⊥) → Serves p side h → Serves p side (items ++ h)
  dulls [] h q n v = v
  dulls (Sent channel m b ∷ items) h q n v = dull channel m b (items ++ h) q.0 (λ e. absurd (n (sym (dull_items items h q.1) ∙ e))) (dulls items h q.1 n v)
  dulls (Asked a ∷ items) h q n v = still (Asked a) (items ++ h) tt (dulls items h q.1 n v)
  dulls (AskRefused r ∷ items) h q n v = still (AskRefused r) (items ++ h) tt (dulls items h q.1 n v)
  dulls (Told f ∷ items) h q n v = still (Told f) (items ++ h) tt (dulls items h q.1 n v)
  dulls (Refused r b ∷ items) h q n v = still (Refused r b) (items ++ h) tt (dulls items h q.1 n v)
  dulls (Died ∷ items) h q n v = still Died (items ++ h) tt (dulls items h q.1 n v)
  dulls (TookOtherLine x ∷ items) h q n v = still (TookOtherLine x) (items ++ h) tt (dulls items h q.1 n v)
  dulls (TookLine x ∷ items) h q n v = still (TookLine x) (items ++ h) tt (dulls items h q.1 n v)
  dulls (SentLine x ∷ items) h q n v = still (SentLine x) (items ++ h) tt (dulls items h q.1 n v)
  dulls (i ∷ items) h q n v = elim (q.0) [ ]

  -- ---- messages that are taken

  dull_taken : (channel : Option ℕ) (m : Msg) (b : List ℕ) (h : List Item) → IsDullTaken m → Serves p side h → Serves p side (Took channel m b ∷ h)
  dull_taken channel (KexInit o) b h q v = elim q [ ]
  dull_taken channel NewKeys b h q v = elim q [ ]
  dull_taken channel (KexEcdhInit q_c) b h q v = elim q [ ]
  dull_taken channel (KexEcdhReply k_s q_s s) b h q v = elim q [ ]
  dull_taken channel (ServiceRequest s) b h q v = elim q [ ]
  dull_taken channel (ServiceAccept s) b h q v = elim q [ ]
  dull_taken channel (UserauthFailure l t) b h q v = elim q [ ]
  dull_taken channel UserauthSuccess b h q v = elim q [ ]
  dull_taken channel (UserauthPkOk a k) b h q v = elim q [ ]
  dull_taken channel m b h q v = record { client = v.client; server = v.server; accepted = v.accepted; keyed = v.keyed; held = v.held; keeps = v.keeps; fed_is = v.fed_is }

  took_kexinit : (theirs : Proposal) (b : List ℕ) (h : List Item) → Serves p side h → Serves p side (Took None (KexInit theirs) b ∷ h)
  took_kexinit theirs b h v = record { client = v.client; server = v.server; accepted = v.accepted; keyed = λ e. absurd (not_normal (is_wrong_guess theirs (own_names p side)) e); held = v.held; keeps = v.keeps; fed_is = v.fed_is }

  took_point : (q_c b : List ℕ) (h : List Item) → Serves p side h → Serves p side (Took None (KexEcdhInit q_c) b ∷ h)
  took_point q_c b h v = record { client = v.client; server = v.server; accepted = v.accepted; keyed = λ e. absurd (cc e); held = v.held; keeps = v.keeps; fed_is = v.fed_is }

  took_reply : (k_s q_s s b : List ℕ) (h : List Item) → Serves p side h → Serves p side (Took None (KexEcdhReply k_s q_s s) b ∷ h)
  took_reply k_s q_s s b h v = record { client = v.client; server = v.server; accepted = v.accepted; keyed = λ e. absurd (cc e); held = v.held; keeps = v.keeps; fed_is = v.fed_is }

  took_newkeys : (b : List ℕ) (h : List Item) → blocked h ≡ false → Serves p side h → Serves p side (Took None NewKeys b ∷ h)
  took_newkeys b h f v = record { client = v.client; server = v.server; accepted = λ e. omega arith; keyed = λ e. omega arith; held = λ e. absurd (both_ways (blocked h) e f); keeps = v.keeps; fed_is = v.fed_is }

  took_request : (s b : List ℕ) (h : List Item) → Serves p side h → Serves p side (Took None (ServiceRequest s) b ∷ h)
  took_request s b h v = record { client = v.client; server = λ e o. refl; accepted = v.accepted; keyed = v.keyed; held = v.held; keeps = v.keeps; fed_is = v.fed_is }

  took_accept : (s b : List ℕ) (h : List Item) → sent_service_request h ≡ true → 0 < epoch (took h) → Serves p side h → Serves p side (Took None (ServiceAccept s) b ∷ h)
  took_accept s b h f n v = record { client = λ e o. f; server = v.server; accepted = λ e. n; keyed = v.keyed; held = v.held; keeps = v.keeps; fed_is = v.fed_is }

  took_failure : (channel : Option ℕ) (l : List (List ℕ)) (t : Bool) (b : List ℕ) (h : List Item) → Serves p side h → Serves p side (Took channel (UserauthFailure l t) b ∷ h)
  took_failure channel l t b h v = record { client = λ e o. v.client e (without_second (took_service_accept h) (is_some (outstanding h)) (took_success h) o); server = v.server; accepted = v.accepted; keyed = v.keyed; held = v.held; keeps = v.keeps; fed_is = v.fed_is }

  took_pk_ok : (channel : Option ℕ) (a k b : List ℕ) (h : List Item) → Serves p side h → Serves p side (Took channel (UserauthPkOk a k) b ∷ h)
  took_pk_ok channel a k b h v = record { client = λ e o. v.client e (without_second (took_service_accept h) (is_some (outstanding h)) (took_success h) o); server = v.server; accepted = v.accepted; keyed = v.keyed; held = v.held; keeps = v.keeps; fed_is = v.fed_is }

  -- ---- messages that are sent

  sent_kexinit : (o : Proposal) (b : List ℕ) (h : List Item) → is_in side (sent_success h) (took_success h) ≡ true → Serves p side h → Serves p side (Sent None (KexInit o) b ∷ h)
  sent_kexinit o b h f v = record { client = v.client; server = v.server; accepted = v.accepted; keyed = v.keyed; held = λ e. inr f; keeps = (λ e. refl, v.keeps); fed_is = v.fed_is }

  sent_newkeys : (b : List ℕ) (h : List Item) → Serves p side h → Serves p side (Sent None NewKeys b ∷ h)
  sent_newkeys b h v = record { client = v.client; server = v.server; accepted = v.accepted; keyed = v.keyed; held = λ e. absurd (cc e); keeps = (λ e. refl, v.keeps); fed_is = v.fed_is }

  -- an answer that is dull, and sent by an end that is not blocked
  dull_answer : (items h : List Item) (c : Option ℕ) (m : Msg) (b : List ℕ) → IsDullTaken m → AreDull items → (blocked h ≡ true → ⊥) → Serves p side h
      → Serves p side (items ++ Took c m b ∷ h)
  dull_answer items h c m b t q n v = dulls items (Took c m b ∷ h) q n (dull_taken c m b h t v)

  -- or only told
  told_answer : (f : Fact) (h : List Item) (c : Option ℕ) (m : Msg) (b : List ℕ) → IsDullTaken m → Serves p side h → Serves p side (Told f ∷ Took c m b ∷ h)
  told_answer f h c m b t v = still (Told f) (Took c m b ∷ h) tt (dull_taken c m b h t v)

  -- the replies that are due are sent by an end that is not blocked
  due_answer : (h replies : List Item) (at c : Option ℕ) (due_for : Message) (m : Msg) (b : List ℕ) → IsDullTaken m → AreDue side h at due_for replies → Serves p side h
      → Serves p side (replies ++ Took c m b ∷ h)
  due_answer h replies at c due_for m b t r v = go (blocked h) refl
    where
      go : (x : Bool) → blocked h ≡ x → Serves p side (replies ++ Took c m b ∷ h)
      go true e =
          let none_sent : replies ≡ [] = no_replies _ replies (ap (λ y. at_once y (due at due_for (notes side h))) e) r in
          rw none_sent (dull_taken c m b h t v)
      go false e = dull_answer replies h c m b t (replies_dull _ replies r) (λ f. both_ways (blocked h) f e) v

-- ---- what the layers above send and take

in_sent : (side : Side) (s t : Bool) → is_in side s t ≡ true → is_in side true t ≡ true
in_sent Client s t e = e
in_sent Server s t e = refl

in_taken : (side : Side) (s t : Bool) → is_in side s t ≡ true → is_in side s true ≡ true
in_taken Client s t e = refl
in_taken Server s t e = e

module _ {K : Type 0} (p : Parties K) (side : Side) where
  -- the service was asked for
  asked_at : (here : Side) (h : List Item) → service_requested side h ≡ true → side ≡ here → service_requested here h ≡ true
  asked_at here h f e = subst (λ s. service_requested s h ≡ true) e f

  sent_above : (h : List Item) (channel : Option ℕ) (m : Msg) (b : List ℕ) → SentAbove side h m b → Serves p side h → Serves p side (Sent channel m b ∷ h)
  sent_above h channel (KexInit o) b a v = absurd (not_own (number_of b) 20 refl (sym a.number) a.theirs)
  sent_above h channel NewKeys b a v = absurd (not_own (number_of b) 21 refl (sym a.number) a.theirs)
  sent_above h channel (ServiceRequest s) b a v = absurd (not_own (number_of b) 5 refl (sym a.number) a.theirs)
  sent_above h channel (ServiceAccept s) b a v = absurd (not_own (number_of b) 6 refl (sym a.number) a.theirs)
  sent_above h channel (UserauthRequest u s x) b a v =
      record { client = λ e o. asked_at Client h (a.service refl) e; server = v.server; accepted = v.accepted; keyed = v.keyed; held = v.held; keeps = (λ e. ap is_sent_while_blocked (a.number ∙ a.unblocked e), v.keeps); fed_is = v.fed_is }
  sent_above h channel UserauthSuccess b a v =
      record { client = v.client; server = λ e o. asked_at Server h (a.service refl) e; accepted = v.accepted; keyed = v.keyed; held = λ e. still_in (v.held e); keeps = (λ e. ap is_sent_while_blocked (a.number ∙ a.unblocked e), v.keeps); fed_is = v.fed_is }
    where
      still_in : (epoch (took h) ≡ 0) ⊎ (is_in side (sent_success h) (took_success h) ≡ true) → (epoch (took h) ≡ 0) ⊎ (is_in side true (took_success h) ≡ true)
      still_in (inl z) = inl z
      still_in (inr f) = inr (in_sent side _ _ f)
  sent_above h channel m b a v = dull p side channel m b h tt (λ e. ap is_sent_while_blocked (a.number ∙ a.unblocked e)) v

  took_above : (h : List Item) (channel : Option ℕ) (m : Msg) (b : List ℕ) → TookAbove p side h m b → Serves p side h → Serves p side (Took channel m b ∷ h)
  took_above h channel (KexInit o) b a v = absurd (omega (arith, a.number, a.above))
  took_above h channel NewKeys b a v = absurd (omega (arith, a.number, a.above))
  took_above h channel (KexEcdhInit q) b a v = absurd (omega (arith, a.number, a.above))
  took_above h channel (KexEcdhReply k q s) b a v = absurd (omega (arith, a.number, a.above))
  took_above h channel (ServiceRequest s) b a v = absurd (omega (arith, a.number, a.above))
  took_above h channel (ServiceAccept s) b a v = absurd (omega (arith, a.number, a.above))
  took_above h channel (UserauthFailure l t) b a v = took_failure p side channel l t b h v
  took_above h channel (UserauthPkOk x k) b a v = took_pk_ok p side channel x k b h v
  took_above h channel UserauthSuccess b a v =
      record { client = λ e o. asked_at Client h (a.service refl) e; server = v.server; accepted = v.accepted; keyed = v.keyed; held = λ e. still_in (v.held e); keeps = v.keeps; fed_is = v.fed_is }
    where
      still_in : (epoch (took h) ≡ 0) ⊎ (is_in side (sent_success h) (took_success h) ≡ true) → (epoch (took h) ≡ 0) ⊎ (is_in side (sent_success h) true ≡ true)
      still_in (inl z) = inl z
      still_in (inr f) = inr (in_taken side _ _ f)
  took_above h channel m b a v = dull_taken p side channel m b h tt v

-- ---- the turns

module _ {K : Type 0} (p : Parties K) where
  -- an end that the service was granted to is not in its first exchange
  unblocked : (side : Side) (h : List Item) → 0 < epoch (took h) → is_in side (sent_success h) (took_success h) ≡ false → Serves p side h → blocked h ≡ true → ⊥
  unblocked side h n f v e = go (v.held e)
    where
      go : (epoch (took h) ≡ 0) ⊎ (is_in side (sent_success h) (took_success h) ≡ true) → ⊥
      go (inl z) = omega (arith, z, n)
      go (inr s) = both_ways (is_in side (sent_success h) (took_success h)) s f

  refused : (side : Side) (h items : List Item) (why : Refusal) (b : Option (List ℕ)) → Refuses h why b items → Serves p side h → Serves p side (items ++ h)
  refused side h items why b (silently e) v = still p side Died _ tt (still p side (Refused why b) h tt v)
  refused side h items why b (spent e) v = still p side Died _ tt (still p side (Refused why b) h tt v)
  refused side h items why b (said r x e f s) v = still p side Died _ tt (dull p side None (Disconnect r (refusal_name why) []) x _ tt (λ e. refl) (still p side (Refused why b) h tt v))

  -- ---- asks

  asks_service : (side : Side) (h : List Item) (b : List ℕ) → first_refusal (ask_checks p side h AskService) ≡ None → Serves p side h
      → Serves p side (Sent None (ServiceRequest (codes "ssh-userauth")) b ∷ Asked AskService ∷ h)
  asks_service Server h b c v = absurd (cc c)
  asks_service Client h b c v =
      let checks = all_passed (ask_checks p Client h AskService) c in
      record { client = λ e o. refl; server = v.server; accepted = v.accepted; keyed = v.keyed; held = v.held; keeps = (λ e. absurd (go (v.held e)), v.keeps); fed_is = v.fed_is }
    where
      go : (epoch (took h) ≡ 0) ⊎ (took_success h ≡ true) → ⊥
      go (inl z) = let checks = all_passed (ask_checks p Client h AskService) c in absurd (cc (rw z at checks.1.0))
      go (inr s) =
          let checks = all_passed (ask_checks p Client h AskService) c in
          both_ways (sent_service_request h) (v.client refl (third_or (took_service_accept h) (is_some (outstanding h)) (took_success h) s)) checks.1.1.0

  -- a request for authentication passed the checks for one
  requests : (side : Side) (h : List Item) (a : Ask) (user service b : List ℕ) (method : Method) (size : ℕ) → AllPassed (checks_of_request side h size) → Serves p side h
      → Serves p side (Sent None (UserauthRequest user service method) b ∷ Asked a ∷ h)
  requests Server h a u s b m size checks v = absurd (cc checks.0)
  requests Client h a u s b m size checks v =
      let accept = not_false (took_service_accept h) checks.1.0 in
      record { client = λ e o. v.client e (first_or (took_service_accept h) (is_some (outstanding h)) (took_success h) accept); server = v.server; accepted = v.accepted; keyed = v.keyed; held = v.held; keeps = (λ e. absurd (unblocked Client h (v.accepted accept) checks.1.1.1.0 v e), v.keeps); fed_is = v.fed_is }

  asks_rekey : (side : Side) (h : List Item) (b : List ℕ) → first_refusal (ask_checks p side h AskRekey) ≡ None → Serves p side h
      → Serves p side (Sent None (KexInit (offer p side false (next_cookie h))) b ∷ Asked AskRekey ∷ h)
  asks_rekey side h b c v =
      let checks = all_passed (ask_checks p side h AskRekey) c in
      sent_kexinit p side _ b (Asked AskRekey ∷ h) (is_in_is side h (not_false (authenticated side h) checks.0)) (still p side (Asked AskRekey) h tt v)

  -- an ask for a message of the connection is refused while the end is blocked
  asks_connection : (side : Side) (h items : List Item) (a : Ask) (busy : Bool) → (blocked h || busy) ≡ false → AreDull items → Serves p side h → Serves p side (items ++ Asked a ∷ h)
  asks_connection side h items a busy e q v = dulls p side items (Asked a ∷ h) q (λ f. both_ways (blocked h) f (or_false (blocked h) busy e).0) (still p side (Asked a) h tt v)

  asked : (side : Side) (h items : List Item) (a : Ask) → OnAsk p side h a items → first_refusal (ask_checks p side h a) ≡ None → Serves p side h → Serves p side (items ++ Asked a ∷ h)
  asked side h items a (asks_transport (service b)) c v = asks_service side h b c v
  asked side h items a (asks_authentication (none x b)) c v = requests side h a _ _ b _ _ (all_passed (ask_checks p side h a) c) v
  asked side h items a (asks_authentication (password x y b)) c v = requests side h a _ _ b _ _ (all_passed (ask_checks p side h a) c) v
  asked side h items a (asks_authentication (probe x y z b)) c v = requests side h a _ _ b _ _ (all_passed (ask_checks p side h a) c) v
  asked side h items a (asks_authentication (sign x y z b)) c v = requests side h a _ _ b _ _ (all_passed (ask_checks p side h a) c) v
  asked side h items a (asks_transport (rekey b)) c v = asks_rekey side h b c v
  asked side h items a (asks_transport (asked_to_disconnect x b)) c v = still p side Died _ tt (dull p side None (Disconnect 11 x []) b _ tt (λ e. refl) (still p side (Asked a) h tt v))
  asked side h items a (of_channels (opens x k w m r b f)) c v = asks_connection side h items a _ (all_passed (ask_checks p side h a) c).1.0 (tt, (tt, tt)) v
  asked side h items a (of_channels (confirm x w m r b)) c v = asks_connection side h items a _ (all_passed (ask_checks p side h a) c).1.0 (tt, tt) v
  asked side h items a (of_channels (refuse x r b)) c v = asks_connection side h items a _ (all_passed (ask_checks p side h a) c).1.0 (tt, tt) v
  asked side h items a (of_channels (sends x y b)) c v = asks_connection side h items a _ (all_passed (ask_checks p side h a) c).1.0 (tt, tt) v
  asked side h items a (of_channels (sends_extended x k y b)) c v = asks_connection side h items a _ (all_passed (ask_checks p side h a) c).1.0 (tt, tt) v
  asked side h items a (of_channels (asks_adjust x n b)) c v = asks_connection side h items a _ (all_passed (ask_checks p side h a) c).1.0 (tt, tt) v
  asked side h items a (of_channels (asks_eof x b)) c v = asks_connection side h items a _ (all_passed (ask_checks p side h a) c).1.0 (tt, tt) v
  asked side h items a (of_channels (asks_close x b)) c v = asks_connection side h items a _ (all_passed (ask_checks p side h a) c).1.0 (tt, tt) v
  asked side h items a (of_channels (asks_request x n w r b)) c v = asks_connection side h items a _ (all_passed (ask_checks p side h a) c).1.0 (tt, tt) v
  asked side h items a (of_channels (reply_yes x b)) c v = asks_connection side h items a _ (all_passed (ask_checks p side h a) c).1.0 (tt, tt) v
  asked side h items a (of_channels (reply_no x b)) c v = asks_connection side h items a _ (all_passed (ask_checks p side h a) c).1.0 (tt, tt) v
  asked side h items a (of_channels (asks_global n w r b)) c v = asks_connection side h items a _ (all_passed (ask_checks p side h a) c).1.0 (tt, tt) v
  asked side h items a (of_channels (global_yes r b)) c v = asks_connection side h items a _ (all_passed (ask_checks p side h a) c).1.0 (tt, tt) v
  asked side h items a (of_channels (global_no r b)) c v = asks_connection side h items a _ (all_passed (ask_checks p side h a) c).1.0 (tt, tt) v

  -- ---- messages

  pub in_normal : (side : Side) (h : List Item) (n : ℕ) → phase p side h ≡ Normal → may_take p side h n ≡ true → may_take_normally side h n ≡ true
  in_normal side h n e r = sym (ap (λ x. may_take_in x (is_required (settings_of p side).strictness) side h n) e) ∙ r

  authenticated_now : (side : Side) (h : List Item) (theirs : Proposal) (b : List ℕ) → blocked h ≡ false → IsAcceptable p side h (KexInit theirs) b → End p side h
      → is_in side (sent_success h) (took_success h) ≡ true
  authenticated_now side h theirs b e w x = is_in_is side h (authenticated_at_20 (phase p side h) _ side h _ _ _ (may_be p side h (KexInit theirs) b w) x.in_step e)

  -- after NEWKEYS nothing is held back
  after_newkeys : (side : Side) (owed announced h : List Item) (nb : List ℕ) → AreDull owed → AreDull announced → Serves p side h
      → Serves p side (owed ++ (announced ++ Sent None NewKeys nb ∷ h))
  after_newkeys side owed announced h nb o a v =
      let before = Sent None NewKeys nb ∷ h in
      let announces = dulls p side announced before a (λ e. cc e) (sent_newkeys p side nb h v) in
      dulls p side owed (announced ++ before) o (λ e. absurd (cc (sym (dull_items announced before a) ∙ e))) announces

  announced_dull : (side : Side) (h announced : List Item) → IsAnnounced p side h announced → AreDull announced
  announced_dull side h announced (IsAnnounced.extensions b e) = (tt, tt)
  announced_dull side h announced (IsAnnounced.nothing e) = tt

  gives_request : (h : List Item) (b : List ℕ) (number : ℕ) → 50 ≤ number → may_take p Server h number ≡ true → sent_success h ≡ false → Serves p Server h → blocked h ≡ true → ⊥
  gives_request h b number n m f v = unblocked Server h (v.keyed (normal_above (phase p Server h) _ Server h number n m)) f v

  answered : (side : Side) (h items : List Item) (m : Msg) (b : List ℕ) → TransportAnswer p side h m items → IsAcceptable p side h m b
      → End p side h → Serves p side h → Serves p side (items ++ Took None m b ∷ h)
  answered side h items m b (disconnect r d l) w x v = still p side Died _ tt (told_answer p side _ h None m b tt v)
  answered side h items m b (ignore y) w x v = told_answer p side _ h None m b tt v
  answered side h items m b (unimplemented y) w x v = told_answer p side _ h None m b tt v
  answered side h items m b (debug y z l) w x v = told_answer p side _ h None m b tt v
  answered side h items m b (unknown n y) w x v = dull p side None _ y _ tt (λ e. refl) (dull_taken p side None m b h tt v)
  answered side h items m b (extensions a) w x v = told_answer p side _ h None m b tt v
  answered side h items m b (service_request s y) w x v =
      let r = may_be p Server h m b w in
      let normal = normal_at_5 (phase p Server h) _ Server h r in
      let taken = took_request p Server s b h v in
      sent_accept s y (Took None m b ∷ h) refl (λ e. go normal r (v.held e)) taken
    where
      sent_accept : (s y : List ℕ) (h : List Item) → took_service_request h ≡ true → (blocked h ≡ true → ⊥) → Serves p Server h → Serves p Server (Sent None (ServiceAccept s) y ∷ h)
      sent_accept s y h f n v = record { client = v.client; server = λ e o. f; accepted = v.accepted; keyed = v.keyed; held = v.held; keeps = (λ e. absurd (n e), v.keeps); fed_is = v.fed_is }

      go : phase p Server h ≡ Normal → may_take p Server h 5 ≡ true → (epoch (took h) ≡ 0) ⊎ (sent_success h ≡ true) → ⊥
      go n r (inl z) = omega (arith, z, v.keyed n)
      go n r (inr f) = both_ways (took_service_request h) (v.server refl (right_or (sent_service_accept h) (sent_success h) f)) (new_request_at_5 h (in_normal Server h 5 n r))
  answered side h items m b (service_accept s) w x v =
      let r = may_be p Client h m b w in
      let normal = normal_at_6 (phase p Client h) _ Client h r in
      still p Client (Told Service) _ tt (took_accept p Client s b h (asked_at_6 h (in_normal Client h 6 normal r)) (v.keyed normal) v)
  answered side h items m b (kexinit_at_server theirs e) w x v = took_kexinit p Server theirs b h v
  answered side h items m b (kexinit_at_client theirs y e) w x v = dull p Client None _ y _ tt (λ f. refl) (took_kexinit p Client theirs b h v)
  answered side h items m b (answered_at_server theirs own e) w x v =
      sent_kexinit p Server _ own (Took None m b ∷ h) (authenticated_now Server h theirs b e w x) (took_kexinit p Server theirs b h v)
  answered side h items m b (answered_at_client theirs own y e) w x v =
      dull p Client None _ y _ tt (λ f. refl) (sent_kexinit p Client _ own (Took None m b ∷ h) (authenticated_now Client h theirs b e w x) (took_kexinit p Client theirs b h v))
  answered side h items m b newkeys w x v =
      took_newkeys p side b h (ahead_at_21 (phase p side h) _ side h _ _ _ (may_be p side h m b w) x.in_step).0 v

  completed : (side : Side) (h owed items : List Item) (m : Msg) (b : List ℕ) → CompletingAnswer p owed side h m items → AreDull owed → Serves p side h
      → Serves p side (items ++ Took None m b ∷ h)
  completed side h owed items m b (init {announced = announced} q rb nb a) o v =
      let before = Sent None (reply_now p h q) rb ∷ Took None m b ∷ h in
      let sent = dull p Server None (reply_now p h q) rb (Took None m b ∷ h) tt (λ e. refl) (took_point p Server q b h v) in
      let e : (owed ++ (announced ++ (Sent None NewKeys nb ∷ Sent None (reply_now p h q) rb ∷ []))) ++ Took None m b ∷ h ≡ owed ++ (announced ++ Sent None NewKeys nb ∷ before) =
      append_assoc owed (announced ++ (Sent None NewKeys nb ∷ Sent None (reply_now p h q) rb ∷ [])) (Took None m b ∷ h) ∙ ap (λ l. owed ++ l) (append_assoc announced (Sent None NewKeys nb ∷ Sent None (reply_now p h q) rb ∷ []) (Took None m b ∷ h)) in
      still p Server _ _ tt (rw e (after_newkeys Server owed announced before nb o (announced_dull Server h announced a) sent))
  completed side h owed items m b (answers_reply {announced = announced} k_s q_s g nb a) o v =
      let before = Took None m b ∷ h in
      let e : (owed ++ (announced ++ (Sent None NewKeys nb ∷ []))) ++ Took None m b ∷ h ≡ owed ++ (announced ++ Sent None NewKeys nb ∷ before) =
      append_assoc owed (announced ++ (Sent None NewKeys nb ∷ [])) (Took None m b ∷ h) ∙ ap (λ l. owed ++ l) (append_assoc announced (Sent None NewKeys nb ∷ []) (Took None m b ∷ h)) in
      still p Client _ _ tt (rw e (after_newkeys Client owed announced before nb o (announced_dull Client h announced a) (took_reply p Client k_s q_s g b h v)))

  authentication_answered : (side : Side) (h items : List Item) (m : Msg) (b : List ℕ) → AuthenticationAnswer p side h m items → IsAcceptable p side h m b → Serves p side h
      → Serves p side (items ++ Took None m b ∷ h)
  authentication_answered side h items m b (request_too_late y z l e) w v = told_answer p Server _ h None m b tt v
  authentication_answered side h items m b (request_accepted y z l c e f) w v =
      let r = may_be p Server h m b w in
      let normal = normal_above (phase p Server h) _ Server h 50 (omega arith) r in
      let requested = v.server refl (left_or (sent_service_accept h) (sent_success h) (accepted_at_50 h (in_normal Server h 50 normal r))) in
      still p Server _ _ tt (sent_success_after (Took None m b ∷ h) requested (gives_request h b 50 (omega arith) r e v) (dull_taken p Server None m b h tt v))
    where
      sent_success_after : (h : List Item) → took_service_request h ≡ true → (blocked h ≡ true → ⊥) → Serves p Server h → Serves p Server (Sent None UserauthSuccess c ∷ h)
      sent_success_after h f n v = record { client = v.client; server = λ e o. f; accepted = v.accepted; keyed = v.keyed; held = λ e. inr refl; keeps = (λ e. absurd (n e), v.keeps); fed_is = v.fed_is }
  authentication_answered side h items m b (request_probed y z a k c e f) w v =
      dull_answer p Server (Sent None (UserauthPkOk a k) c ∷ []) h None m b tt (tt, tt) (gives_request h b 50 (omega arith) (may_be p Server h m b w) e v) v
  authentication_answered side h items m b (request_failed y z l c e f) w v =
      dull_answer p Server (Sent None (UserauthFailure p.server.methods false) c ∷ []) h None m b tt (tt, tt) (gives_request h b 50 (omega arith) (may_be p Server h m b w) e v) v
  authentication_answered side h items m b (failure y z) w v = still p Client _ _ tt (took_failure p Client None y z b h v)
  authentication_answered side h items m b (success way e) w v =
      let r = may_be p Client h m b w in
      let normal = normal_above (phase p Client h) _ Client h 52 (omega arith) r in
      still p Client _ _ tt (took_success_now (v.client refl (second_or (took_service_accept h) (is_some (outstanding h)) (took_success h) (outstanding_at_52 h (in_normal Client h 52 normal r)))))
    where
      took_success_now : sent_service_request h ≡ true → Serves p Client (Took None UserauthSuccess b ∷ h)
      took_success_now f = record { client = λ e o. f; server = v.server; accepted = v.accepted; keyed = v.keyed; held = λ e. inr refl; keeps = v.keeps; fed_is = v.fed_is }
  authentication_answered side h items m b (banner y z) w v = told_answer p Client _ h None m b tt v
  authentication_answered side h items m b (key_ok a k) w v = still p Client _ _ tt (took_pk_ok p Client None a k b h v)

  on_channel_answered : (side : Side) (h items : List Item) (c : Option ℕ) (m : Msg) (b : List ℕ) → ConnectionAnswer side h c m items → Serves p side h → Serves p side (items ++ Took c m b ∷ h)
  on_channel_answered side h items c m b (global x y z) v = told_answer p side _ h c m b tt v
  on_channel_answered side h items c m b (global_success z) v = told_answer p side _ h c m b tt v
  on_channel_answered side h items c m b global_failure v = told_answer p side _ h c m b tt v
  on_channel_answered side h items c m b (opened x k a d e f g) v = told_answer p side _ h c m b tt v
  on_channel_answered side h items c m b (not_opened k a d e f g r) v = due_answer p side h items None c (Open a d e) m b tt r v
  on_channel_answered side h items c m b (confirmation a d e f g) v = told_answer p side _ h c m b tt v
  on_channel_answered side h items c m b (channel_failure a d e f) v = told_answer p side _ h c m b tt v
  on_channel_answered side h items c m b (adjust a d) v = told_answer p side _ h c m b tt v
  on_channel_answered side h items c m b (got_data a d) v = told_answer p side _ h c m b tt v
  on_channel_answered side h items c m b (got_extended a d e) v = told_answer p side _ h c m b tt v
  on_channel_answered side h items c m b (eof a) v = told_answer p side _ h c m b tt v
  on_channel_answered side h items c m b (close {replies = replies} a r) v = still p side _ _ tt (due_answer p side h replies c c (Close a) m b tt r v)
  on_channel_answered side h items c m b (request a d e f) v = told_answer p side _ h c m b tt v
  on_channel_answered side h items c m b (channel_success a) v = told_answer p side _ h c m b tt v
  on_channel_answered side h items c m b (no_success a) v = told_answer p side _ h c m b tt v

  -- ---- turns

  on_payload : (side : Side) (h items : List Item) (b : List ℕ) → OnPayload p side h b items → End p side h → Serves p side h → Serves p side (items ++ h)
  on_payload side h items b (takes c m w (of_transport a) s k) x v = rw append_assoc (answered side h _ m b a w x v)
  on_payload side h items b (takes c m w (of_completion {owed = owed} r a) s k) x v = rw append_assoc (completed side h owed _ m b a (replies_dull _ _ r) v)
  on_payload side h items b (takes c m w (of_authentication a) s k) x v = rw append_assoc (authentication_answered side h _ m b a w v)
  on_payload side h items b (takes c m w (of_connection a) s k) x v = rw append_assoc (on_channel_answered side h _ c m b a v)
  on_payload side h items b (skips e m) x v = still p side _ _ tt (guess p side b h v)
  on_payload side h items b (unexpected m r) x v = refused side h items _ _ r v
  on_payload side h items b (bad_message m e f r) x v = refused side h items _ _ r v
  on_payload side h items b (OnPayload.refuses m k a e f c r) x v = refused side h items k _ r v
  on_payload side h items b (OnPayload.spends c m w a s k) x v = still p side _ _ tt (still p side _ _ tt v)

  on_outcome : (side : Side) (h items : List Item) (o : Outcome) → OnOutcome p side h o items → End p side h → Serves p side h → Serves p side (items ++ h)
  on_outcome side h items o (other_line text) x v = still p side _ _ tt v
  on_outcome side h items o (version_line text) x v = still p side _ _ tt v
  on_outcome side h items o (refused_line k r) x v = refused side h items k _ r v
  on_outcome side h items o (OnOutcome.opened b a) x v = on_payload side h items b a x v
  on_outcome side h items o (refused_packet k r) x v = refused side h items k _ r v

  on_turn : (side : Side) (h items : List Item) → Turn p side h items → End p side h → Serves p side h → Serves p side (items ++ h)
  on_turn side h items (Turn.feeds c s (FeedsTurn.feeds k m)) x v = fed p side c s h (m.cookie_size) v
  on_turn side h items (Turn.feeds c s (FeedsTurn.answers_false e)) x v = v
  on_turn side h items (asks a (AsksTurn.refuses k alive e)) x v = still p side _ _ tt (still p side _ _ tt v)
  on_turn side h items (asks a (AsksTurn.answers alive c o s k)) x v = rw append_assoc (asked side h _ a o c v)
  on_turn side h items (asks a (AsksTurn.spends alive c o s k)) x v = still p side _ _ tt (still p side _ _ tt (still p side _ _ tt v))
  on_turn side h items (asks a (AsksTurn.dies alive c o s k)) x v = still p side _ _ tt v
  on_turn side h items (asks a (AsksTurn.is_dead e)) x v = v
  on_turn side h items (Turn.reads unit alive (OnUnit.reads o u a)) x v = on_outcome side h items o a x v
  on_turn side h items (Turn.reads unit alive (OnUnit.dies o u a k)) x v = still p side _ _ tt v

  on_opening : (side : Side) (items : List Item) → IsOpening p side items → Serves p side items
  on_opening side items o = subst (λ l. Serves p side l) (sym o.items_are) (record {
    client = λ e f. absurd (cc f);
    server = λ e f. absurd (cc f);
    accepted = λ e. absurd (cc e);
    keyed = λ e. absurd (cc e);
    held = λ e. inl refl;
    keeps = (λ e. refl, tt);
    fed_is = (o.is_material.cookie_size, tt);
  })

  on_transport : (side : Side) (h items : List Item) → TransportTurn p side h items → End p side h → Serves p side h → Serves p side (items ++ h)
  on_transport side h items (of_end turn) x v = on_turn side h items turn x v
  on_transport side h items (TransportTurn.sends c m b a) x v = sent_above p side h c m b a v
  on_transport side h items (TransportTurn.takes c m b a) x v = took_above p side h c m b a v
  on_transport side h items (completes m b alive w a s k) x v = rw append_assoc (completed side h [] _ m b a tt v)
  on_transport side h items (TransportTurn.refuses why b alive r) x v = refused side h items why b r v
  on_transport side h items (TransportTurn.dies alive) x v = still p side Died h tt v

  run_serves : AreLawful p → (side : Side) (h : List Item) → TransportRun p side h → Serves p side h
  run_serves laws side h (TransportRun.start o) = on_opening side h o
  run_serves laws side h (TransportRun.then_turn {h = before} {items = items} run turn) = on_transport side before items turn (run_keeps p laws side before run) (run_serves laws side before run)

  pub serves : AreLawful p → (side : Side) (h : List Item) → EndRun p side h → Serves p side h
  serves laws side h run = run_serves laws side h (transport_run p side h run)

  pub run_keeps_to_exchange : AreLawful p → (side : Side) (h : List Item) → TransportRun p side h → KeepsToExchange h
  run_keeps_to_exchange laws side h run = (run_serves laws side h run).keeps

  pub keeps_to_exchange : AreLawful p → (side : Side) (h : List Item) → EndRun p side h → KeepsToExchange h
  keeps_to_exchange laws side h run = (serves laws side h run).keeps
