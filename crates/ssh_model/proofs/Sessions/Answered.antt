-- Nothing that comes to an end is left without an answer.
use Rattle.std.proofs.Common.{◌≡◌, ℕ, zero, suc, ◌<◌, ◌≤◌, ◌^◌, Bool, true, false, cond, nat_lt, nat_le, ◌==◌, ◌||◌, ◌&&◌, List, [], ◌∷◌, ◌++◌, length, take, is_some, ◌⊎◌, inl, inr, refl, sym, subst, arith, Option, None, Some, eq-eqb, lt-ltb}
use Rattle.std.specs.Prelude.{codes}
use Rattle.std.proofs.lemmas.Bool.{leb-true, ltb-true}
use Rattle.ssh_model.specs.Protocol.Bounds.{longest_algorithm_name, longest_user_key, most_channels}
use Rattle.ssh_model.specs.declared.side.Side.{Side}
use Rattle.ssh_model.specs.declared.side.Side.TheVariants.{Client, Server}
use Rattle.ssh_model.specs.Protocol.Wire.DataTypes.{is_text}
use Rattle.ssh_model.specs.Protocol.Wire.Outcome.{Outcome, Outcome.OtherLine, Outcome.VersionLine, Outcome.RefusedLine, Outcome.Opens, Outcome.RefusedPacket}
use Rattle.ssh_model.specs.Protocol.Wire.Line.{LineUnit.line}
use Rattle.ssh_model.specs.Protocol.Wire.Unit.{IsUnit, PacketUnit.opens}
use Rattle.ssh_model.specs.Protocol.Channels.History as channel
use Rattle.ssh_model.specs.Protocol.Channels.History.{at_once, due, is_free, has_place, some_free}
use Rattle.ssh_model.specs.Protocol.Channels.Message.{Message.Open, Message.OpenFailure, Message.Close}
use Rattle.ssh_model.specs.Protocol.Channels.Connection.{AreReplies, AreReplies.none as none_owed, AreReplies.reply as one_owed, channel_items, is_full, notes, owed_replies, ConnectionAnswer, ConnectionAnswer.global, ConnectionAnswer.global_success, ConnectionAnswer.global_failure, ConnectionAnswer.opened as opened_at, ConnectionAnswer.not_opened, ConnectionAnswer.confirmation, ConnectionAnswer.failure as channel_failure, ConnectionAnswer.adjust, ConnectionAnswer.got_data, ConnectionAnswer.got_extended, ConnectionAnswer.eof, ConnectionAnswer.close, ConnectionAnswer.request, ConnectionAnswer.success as channel_success, ConnectionAnswer.no_success}
use Rattle.ssh_model.specs.Protocol.Sessions.TurnClaims.{HasNumbers}
use Rattle.ssh_model.specs.Laws.Turns.{AreGood}
use Rattle.ssh_model.proofs.KeyExchange.Firsts.{text_same}
use Rattle.ssh_model.proofs.Wire.Decided.{payload_decided}
use Rattle.ssh_model.specs.Laws.Farewells.{reason_encoded}
use Rattle.ssh_model.specs.Laws.Senders.{open_sender_below}
use Rattle.ssh_model.specs.Laws.Written.{unimplemented_encoded, service_accept_encoded, new_keys_encoded, kex_init_encoded, kex_reply_encoded, success_encoded, pk_ok_encoded, open_failure_encoded, close_encoded, unknown_0_encoded}
use Rattle.ssh_model.proofs.Sessions.Blocked.{serves, in_normal}
use Rattle.ssh_model.proofs.Sessions.Serving.{Serves, AllMaterial, normal_at_5, normal_at_6, no_5_at_client, outstanding_at_52}
use Rattle.ssh_model.proofs.Sessions.EndAnswers.{has_kept, may_be}
use Rattle.ssh_model.proofs.Sessions.EndKeeps.{End}
use Rattle.ssh_model.proofs.Sessions.PeerNumbers.{RepliesFit, owed_replies_fit, due_replies_fit}
use Rattle.ssh_model.specs.Protocol.Sessions.Epochs.{count, epoch}
use Rattle.ssh_model.specs.Protocol.KeyExchange.Exchanges.{offers, fed, nth, no_material, choice, taking_number, is_strict}
use Rattle.ssh_model.specs.declared.refusal.Refusal.{Refusal}
use Rattle.ssh_model.specs.declared.refusal.Refusal.TheVariants.{BadMessage, NumberSpent, Unexpected}
use Rattle.ssh_model.specs.Protocol.Sessions.Refusals.{refusal_name, refusal_reason, first_refusal}
use Rattle.ssh_model.specs.Protocol.Sessions.Items.{Item.Refused, Item.Sent, messages_sent, Item, sent, Item.Died, Item.Fed, Fact.Completed, Fact.Ignored, Item.Told, Item.Took, Item.TookGuess, Item.TookLine, Item.TookOtherLine, took}
use Rattle.ssh_model.proofs.Sessions.Sound.{AllFormed}
use Rattle.ssh_model.specs.Laws.Checks.{all_passed}
use Rattle.ssh_model.proofs.Sessions.Stages.{and_left, and_right, not_false, normal_above}
use Rattle.ssh_model.specs.Protocol.Sessions.Phases.{has_material, Phase, Phase.Start, Phase.Guessed, Phase.Exchanging, Phase.Keying, Phase.Normal, phase, has_line, blocked, outstanding, probing, sent_success, may_take, may_take_in, may_take_normally, is_allowed_during_exchange}
use Rattle.ssh_model.specs.Protocol.Sessions.Turns.{AreNumbered, AreEncoded, Refuses, Refuses.silently, Refuses.spent, Refuses.said, Answer, Answer.of_transport, Answer.of_completion, Answer.of_authentication, Answer.of_connection, IsAcceptable, answer_checks, number_of, OnPayload, OnPayload.takes, OnPayload.skips, OnPayload.unexpected, OnPayload.bad_message, OnOutcome, OnOutcome.other_line, OnOutcome.version_line, OnOutcome.refused_line, OnOutcome.opened, OnOutcome.refused_packet, stage, stage_after, EndRun}
use Rattle.ssh_model.specs.Protocol.Wire.Message.{Msg.ChannelOpenFailure, Msg.ChannelClose, Msg.Unknown, Msg.Disconnect, Msg.NewKeys, Msg, Proposal, Method, Method.NoMethod, Method.Password, Method.Publickey, Method.Other, IsPayload, message_number, Msg.Ignore, Msg.Unimplemented, Msg.Debug, Msg.ServiceRequest, Msg.ServiceAccept, Msg.ExtInfo, Msg.KexInit, Msg.KexEcdhInit, Msg.KexEcdhReply, Msg.UserauthRequest, Msg.UserauthFailure, Msg.UserauthSuccess, Msg.UserauthBanner, Msg.UserauthPkOk, Msg.GlobalRequest, Msg.RequestSuccess, Msg.RequestFailure, Msg.ChannelOpen, Msg.ChannelOpenConfirmation, Msg.ChannelWindowAdjust, Msg.ChannelData, Msg.ChannelExtendedData, Msg.ChannelEof, Msg.ChannelRequest, Msg.ChannelSuccess, Msg.ChannelFailure}
use Rattle.ssh_model.specs.Protocol.Sessions.Transport.{next_cookie, IsAnnounced, IsAnnounced.extensions as announces_some, IsAnnounced.nothing as announces_none, announces, TransportAnswer, TransportAnswer.disconnect, TransportAnswer.ignore, TransportAnswer.unimplemented, TransportAnswer.debug, TransportAnswer.unknown, TransportAnswer.extensions, TransportAnswer.service_request, TransportAnswer.service_accept, TransportAnswer.kexinit_at_server, TransportAnswer.kexinit_at_client, TransportAnswer.answered_at_server, TransportAnswer.answered_at_client, TransportAnswer.newkeys, CompletingAnswer.init, CompletingAnswer.reply as answers_reply, host_key_now, point_now, hash_to_sign, reply_now}
use Rattle.std.proofs.lemmas.List.{length-take}
use Rattle.ssh_model.specs.Protocol.Sessions.Parties.{Parties, AreLawful, settings_of, host_signature_by}
use Rattle.ssh_model.specs.Protocol.Authentication.Rows.{AuthenticationAnswer, AuthenticationAnswer.request_too_late, AuthenticationAnswer.request_accepted, AuthenticationAnswer.request_probed, AuthenticationAnswer.request_failed, AuthenticationAnswer.failure, AuthenticationAnswer.success, AuthenticationAnswer.banner, AuthenticationAnswer.key_ok}
use Rattle.ssh_model.specs.Protocol.Authentication.Requests.{is_accepted, is_good_probe, is_failing, is_known_key, judge_of}
use Rattle.ssh_model.proofs.Sessions.EndTurns.{end_keeps}
use Rattle.ssh_model.proofs.Sessions.SoundTurns.{end_sound}
use Rattle.ssh_model.proofs.Sessions.TurnLaws.{end_numbers}

-- ---- what an end keeps

fed_cookie : (h : List Item) (k : ℕ) → AllMaterial h → k < length (fed h) → length (nth no_material k (fed h)).cookie ≡ 16
fed_cookie [] k a n = absurd (omega (arith, n))
fed_cookie (Fed c s ∷ h) k a n = go (k == length (fed h)) refl (fed_cookie h k a.1)
  where
    below : (k == length (fed h)) ≡ false → k < length (fed h)
    below q = grind (arith, q, n, eq-eqb)

    go : (t : Bool) → (k == length (fed h)) ≡ t → (k < length (fed h) → length (nth no_material k (fed h)).cookie ≡ 16) → length (cond t (record { cookie = c; secret = s }) (nth no_material k (fed h))).cookie ≡ 16
    go true q r = a.0
    go false q r = r (below q)
fed_cookie (i ∷ h) k a n = fed_cookie h k a n

pub kept_cookie : (h : List Item) → AllMaterial h → has_material h ≡ true → length (next_cookie h) ≡ 16
kept_cookie h a e = fed_cookie h (length (offers (messages_sent h))) a (ltb-true (length (offers (messages_sent h))) (length (fed h)) e)

count_most : (h : List Item) → HasNumbers h → count (sent h) ≤ 2 ^ 32
count_most [] n = omega arith
count_most (Sent c NewKeys b ∷ h) n = omega arith
count_most (Sent c m b ∷ h) n = omega (arith, n.0)
count_most (i ∷ h) n = count_most h n

-- ---- refusals

refused : (h : List Item) (why : Refusal) (payload : Option (List ℕ)) → count (sent h) ≤ 2 ^ 32 → (items : List Item) × Refuses h why payload items
refused h why payload n = go (refusal_reason why) refl (nat_lt (count (sent h)) (2 ^ 32)) refl
  where
    aloud : (r : ℕ) → refusal_reason why ≡ Some r → count (sent h) < 2 ^ 32 → (items : List Item) × Refuses h why payload items
    aloud r e below =
        let s = reason_encoded why r e in
        (Died ∷ Sent None (Disconnect r (refusal_name why) []) s.payload ∷ Refused why payload ∷ [], said r s.payload e below s.encodes)

    go : (reason : Option ℕ) → refusal_reason why ≡ reason → (t : Bool) → nat_lt (count (sent h)) (2 ^ 32) ≡ t → (items : List Item) × Refuses h why payload items
    go None e t f = (Died ∷ Refused why payload ∷ [], silently e)
    go (Some r) e true f = aloud r e (ltb-true (count (sent h)) (2 ^ 32) f)
    go (Some r) e false f = (Died ∷ Refused why payload ∷ [], spent (last f))
      where
        last : nat_lt (count (sent h)) (2 ^ 32) ≡ false → count (sent h) ≡ 2 ^ 32
        last f = grind (arith, f, n, lt-ltb)

-- ---- replies

record Replied (l : List channel.Item) : Type 0 where
  items : List Item
  replies : AreReplies l items
  encoded : AreEncoded items

replied : (l : List channel.Item) → RepliesFit l → Replied l
replied [] f = record { items = []; replies = none_owed; encoded = tt }
replied (channel.Item.Sent at (OpenFailure to) ∷ l) f =
    let s = open_failure_encoded to 4 f.0 (omega arith) in
    let r = replied l f.1 in
    record { items = Sent at (ChannelOpenFailure to 4 [] []) s.payload ∷ r.items; replies = one_owed at (OpenFailure to) s.payload r.replies; encoded = (s.encodes, r.encoded) }
replied (channel.Item.Sent at (Close to) ∷ l) f =
    let s = close_encoded to f.0 in
    let r = replied l f.1 in
    record { items = Sent at (ChannelClose to) s.payload ∷ r.items; replies = one_owed at (Close to) s.payload r.replies; encoded = (s.encodes, r.encoded) }
replied (channel.Item.Sent at m ∷ l) f =
    let s = unknown_0_encoded in
    let r = replied l f in
    record { items = Sent at (Unknown 0) s.payload ∷ r.items; replies = one_owed at m s.payload r.replies; encoded = (s.encodes, r.encoded) }
replied (channel.Item.Received at m ∷ l) f = elim f [ ]
replied (channel.Item.KexinitSent ∷ l) f = elim f [ ]
replied (channel.Item.NewkeysSent ∷ l) f = elim f [ ]

at_once_fits : (t : Bool) (l : List channel.Item) → RepliesFit l → RepliesFit (at_once t l)
at_once_fits true l f = tt
at_once_fits false l f = f

both_encoded : (items more : List Item) → AreEncoded items → AreEncoded more → AreEncoded (items ++ more)
both_encoded [] more s t = t
both_encoded (Sent c m b ∷ items) more s t = (s.0, both_encoded items more s.1 t)
both_encoded (i ∷ items) more s t = both_encoded items more s t

free_number : (side : Side) (items : List channel.Item) (n : ℕ) → some_free side items n ≡ true → (x : ℕ) × (is_free side items x ≡ true)
unfolding some_free
free_number side items zero e = absurd (cc e)
free_number side items (suc n) e = go (is_free side items n) refl (free_number side items n) e
  where
    go : (t : Bool) → is_free side items n ≡ t → (some_free side items n ≡ true → (x : ℕ) × (is_free side items x ≡ true)) → (t || some_free side items n) ≡ true → (x : ℕ) × (is_free side items x ≡ true)
    go true f r g = (n, f)
    go false f r g = r g

pub place_found : (side : Side) (items : List channel.Item) → has_place side items ≡ true → (x : ℕ) × (is_free side items x ≡ true)
unfolding has_place
place_found side items e = free_number side items most_channels e

-- ---- numbers

pub numbered : (items h : List Item) → AreNumbered items h ⊎ (AreNumbered items h → ⊥)
numbered [] h = inl tt
numbered (Sent c m b ∷ items) h = go (nat_lt (count (sent (items ++ h))) (2 ^ 32)) refl (numbered items h)
  where
    go : (t : Bool) → nat_lt (count (sent (items ++ h))) (2 ^ 32) ≡ t → AreNumbered items h ⊎ (AreNumbered items h → ⊥)
        → AreNumbered (Sent c m b ∷ items) h ⊎ (AreNumbered (Sent c m b ∷ items) h → ⊥)
    go true e (inl k) = inl (ltb-true (count (sent (items ++ h))) (2 ^ 32) e, k)
    go true e (inr k) = inr (λ n. k n.1)
    go false e k = inr (λ n. let f = lt-ltb (count (sent (items ++ h))) (2 ^ 32) n.0 in cc (e, f))
numbered (i ∷ items) h = numbered items h

-- ---- messages that the other side alone takes

during_30 : (s : Bool) (e : ℕ) → (is_allowed_during_exchange s e 30 || false) ≡ true → ⊥
during_30 true zero e = cc e
during_30 false zero e = cc e
during_30 s (suc n) e = cc e

during_31 : (s : Bool) (e : ℕ) → (is_allowed_during_exchange s e 31 || false) ≡ true → ⊥
during_31 true zero e = cc e
during_31 false zero e = cc e
during_31 s (suc n) e = cc e

no_31_at_server : (ph : Phase) (r : Bool) (h : List Item) → (ph ≡ Guessed → ⊥) → may_take_in ph r Server h 31 ≡ true → ⊥
no_31_at_server Start true h g e = cc e
no_31_at_server Start false h g e = cc e
no_31_at_server Guessed r h g e = g refl
no_31_at_server Exchanging r h g e = during_31 (is_strict Server h) (epoch (took h)) e
no_31_at_server Keying r h g e = during_31 (is_strict Server h) (epoch (took h)) e
no_31_at_server Normal r h g e = cc e

no_30_at_client : (ph : Phase) (r : Bool) (h : List Item) → (ph ≡ Guessed → ⊥) → may_take_in ph r Client h 30 ≡ true → ⊥
no_30_at_client Start true h g e = cc e
no_30_at_client Start false h g e = cc e
no_30_at_client Guessed r h g e = g refl
no_30_at_client Exchanging r h g e = during_30 (is_strict Client h) (epoch (took h)) e
no_30_at_client Keying r h g e = during_30 (is_strict Client h) (epoch (took h)) e
no_30_at_client Normal r h g e = cc e

pub short : (n : ℕ) (l : List ℕ) → length (take n l) ≤ n
short n l = omega (arith, length-take n l)

-- what its end stands on
pub record Stands {K : Type 0} (p : Parties K) (side : Side) (h : List Item) : Type 0 where
  pub good : AreGood p side
  pub formed : AllFormed p h
  pub kept : End p side h
  pub serves : Serves p side h
  pub numbers : HasNumbers h

record Answering {K : Type 0} (p : Parties K) (side : Side) (h : List Item) (m : Msg) : Type 0 where
  channel : Option ℕ
  items : List Item
  answer : Answer p side h channel m items
  encoded : AreEncoded items

module _ {K : Type 0} (p : Parties K) where
  -- what is only told
  by_transport : (side : Side) (h items : List Item) (m : Msg) → TransportAnswer p side h m items → AreEncoded items → Answering p side h m
  by_transport side h items m a s = record { channel = None; items = items; answer = of_transport a; encoded = s }

  by_authentication : (side : Side) (h items : List Item) (m : Msg) → AuthenticationAnswer p side h m items → AreEncoded items → Answering p side h m
  by_authentication side h items m a s = record { channel = None; items = items; answer = of_authentication a; encoded = s }

  by_connection : (side : Side) (h items : List Item) (c : Option ℕ) (m : Msg) → ConnectionAnswer side h c m items → AreEncoded items → Answering p side h m
  by_connection side h items c m a s = record { channel = c; items = items; answer = of_connection a; encoded = s }

  -- ---- the exchange

  short_point : (side : Side) (h : List Item) → length (point_now p side h) ≤ 32
  short_point side h = short 32 _

  kexinit_answered : (side : Side) (h : List Item) (theirs : Proposal) (b : List ℕ) → Stands p side h → IsAcceptable p side h (KexInit theirs) b → Answering p side h (KexInit theirs)
  kexinit_answered side h theirs b v w = go side (blocked h) refl v w
    where
      go : (side : Side) (t : Bool) → blocked h ≡ t → Stands p side h → IsAcceptable p side h (KexInit theirs) b → Answering p side h (KexInit theirs)
      go Server true e v w = by_transport Server h [] _ (kexinit_at_server theirs e) tt
      go Client true e v w =
          let s = kex_init_encoded (point_now p Client h) (short_point Client h) in
          by_transport Client h _ _ (kexinit_at_client theirs s.payload e) (s.encodes, tt)
      go Server false e v w =
          let own = v.good.offers false (next_cookie h) (kept_cookie h v.serves.fed_is (has_kept p Server h theirs b w e)) in
          by_transport Server h _ _ (answered_at_server theirs own.payload e) (own.encodes, tt)
      go Client false e v w =
          let own = v.good.offers false (next_cookie h) (kept_cookie h v.serves.fed_is (has_kept p Client h theirs b w e)) in
          let s = kex_init_encoded (point_now p Client h) (short_point Client h) in
          by_transport Client h _ _ (answered_at_client theirs own.payload s.payload e) (s.encodes, (own.encodes, tt))

  record Announced (side : Side) (h : List Item) : Type 0 where
    items : List Item
    is : IsAnnounced p side h items
    encoded : AreEncoded items

  announced : (side : Side) (h : List Item) → AreGood p side → Announced side h
  announced side h good = go (announces p side h) refl
    where
      go : (t : Bool) → announces p side h ≡ t → Announced side h
      go true e = let s = good.extensions in record { items = Sent None (ExtInfo (settings_of p side).extensions) s.payload ∷ []; is = announces_some s.payload e; encoded = (s.encodes, tt) }
      go false e = record { items = []; is = announces_none e; encoded = tt }

  completed_at_server : (h : List Item) (q : List ℕ) → Stands p Server h → Answering p Server h (KexEcdhInit q)
  completed_at_server h q v =
      let owed = replied (owed_replies Server h) (owed_replies_fit p Server h v.formed) in
      let some = announced Server h v.good in
      let newkeys = new_keys_encoded in
      let reply = kex_reply_encoded (host_key_now p h) (point_now p Server h) (host_signature_by p (choice Server (epoch (sent h)) h).host (hash_to_sign p h q)) (short 4096 _) (short_point Server h) (short 4096 _) in
      record {
        channel = None;
        items = Told (Completed (suc (epoch (sent h)))) ∷ (owed.items ++ (some.items ++ (Sent None NewKeys newkeys.payload ∷ Sent None (reply_now p h q) reply.payload ∷ [])));
        answer = of_completion owed.replies (init q reply.payload newkeys.payload some.is);
        encoded = both_encoded owed.items _ owed.encoded (both_encoded some.items _ some.encoded (newkeys.encodes, (reply.encodes, tt)));
      }

  completed_at_client : (h : List Item) (k_s q_s g : List ℕ) → Stands p Client h → Answering p Client h (KexEcdhReply k_s q_s g)
  completed_at_client h k_s q_s g v =
      let owed = replied (owed_replies Client h) (owed_replies_fit p Client h v.formed) in
      let some = announced Client h v.good in
      let newkeys = new_keys_encoded in
      record {
        channel = None;
        items = Told (Completed (suc (epoch (sent h)))) ∷ (owed.items ++ (some.items ++ (Sent None NewKeys newkeys.payload ∷ [])));
        answer = of_completion owed.replies (answers_reply k_s q_s g newkeys.payload some.is);
        encoded = both_encoded owed.items _ owed.encoded (both_encoded some.items _ some.encoded (newkeys.encodes, tt));
      }

  -- ---- authentication

  probe_answered : (h : List Item) (user service : List ℕ) (method : Method) → sent_success h ≡ false → is_good_probe p user service method ≡ true → Answering p Server h (UserauthRequest user service method)
  probe_answered h user service (Publickey algorithm key None) e f =
      let known = and_right _ (is_known_key (judge_of p) user algorithm key) f in
      let sizes = and_left (nat_le (length key) longest_user_key && nat_le (length algorithm) longest_algorithm_name) _ known in
      let s = pk_ok_encoded algorithm key (leb-true (length algorithm) longest_algorithm_name (and_right (nat_le (length key) longest_user_key) _ sizes)) (leb-true (length key) longest_user_key (and_left (nat_le (length key) longest_user_key) _ sizes)) in
      by_authentication Server h _ _ (request_probed user service algorithm key s.payload e f) (s.encodes, tt)
  probe_answered h user service (Publickey algorithm key (Some signature)) e f = absurd (cc f)
  probe_answered h user service NoMethod e f = absurd (cc f)
  probe_answered h user service (Password word new) e f = absurd (cc f)
  probe_answered h user service (Other name rest) e f = absurd (cc f)

  request_answered : (h : List Item) (user service : List ℕ) (method : Method) → Stands p Server h → Answering p Server h (UserauthRequest user service method)
  request_answered h user service method v = go (sent_success h) (is_accepted p h user service method) (is_good_probe p user service method) refl refl refl
    where
      go : (late right probe : Bool) → sent_success h ≡ late → is_accepted p h user service method ≡ right → is_good_probe p user service method ≡ probe → Answering p Server h (UserauthRequest user service method)
      go true right probe e f g = by_authentication Server h _ _ (request_too_late user service method e) tt
      go false true probe e f g = let s = success_encoded in by_authentication Server h _ _ (request_accepted user service method s.payload e f) (s.encodes, tt)
      go false false true e f g = probe_answered h user service method e g
      go false false false e f g =
          let s = v.good.methods in
          let fails : is_failing p h user service method ≡ true = rw (f, g) refl in
          by_authentication Server h _ _ (request_failed user service method s.payload e fails) (s.encodes, tt)

  -- ---- the connection

  open_answered : (side : Side) (h : List Item) (kind : List ℕ) (from window max : ℕ) (rest b : List ℕ) → Stands p side h → IsAcceptable p side h (ChannelOpen kind from window max rest) b
      → Answering p side h (ChannelOpen kind from window max rest)
  open_answered side h kind from window max rest b v w = go (is_full side h) refl
    where
      go : (t : Bool) → is_full side h ≡ t → Answering p side h (ChannelOpen kind from window max rest)
      go true e =
          let r = replied (at_once (blocked h) (due None (Open from window max) (notes side h)))
          (at_once_fits (blocked h) _ (due_replies_fit p side h None (Open from window max) (open_sender_below kind from window max rest b w.message_is) v.formed)) in
          by_connection side h r.items None _ (not_opened kind from window max rest e r.replies) r.encoded
      go false e =
          let x = place_found side (channel_items h) (not_false (has_place side (channel_items h)) e) in
          by_connection side h _ (Some (x.0)) _ (opened_at (x.0) kind from window max rest (x.1)) tt

  close_answered : (side : Side) (h : List Item) (x : ℕ) → Stands p side h → Answering p side h (ChannelClose x)
  close_answered side h x v =
      let r = replied (at_once (blocked h) (due (Some x) (Close x) (notes side h))) (at_once_fits (blocked h) _ (due_replies_fit p side h (Some x) (Close x) tt v.formed)) in
      by_connection side h _ (Some x) _ (close x r.replies) r.encoded

  -- ---- every message

  service_name : (h : List Item) (service b : List ℕ) → IsAcceptable p Server h (ServiceRequest service) b → length service ≤ 100
  service_name h service b w =
      let e = text_same service (codes "ssh-userauth") (not_false (is_text service (codes "ssh-userauth")) (all_passed (answer_checks p Server h (ServiceRequest service)) w.not_refused).0) in
      subst (λ l. length l ≤ 100) (sym e) (omega arith)

  -- in the normal phase
  normally : (side : Side) (h : List Item) (m : Msg) (b : List ℕ) → 50 ≤ message_number m → IsAcceptable p side h m b → may_take_normally side h (message_number m) ≡ true
  normally side h m b n w =
      let r = may_be p side h m b w in
      in_normal p side h (message_number m) (normal_above (phase p side h) _ side h (message_number m) n r) r

  -- the method of a request that is outstanding
  some_of : (o : Option Method) → is_some o ≡ true → (method : Method) × (o ≡ Some method)
  some_of None e = absurd (cc e)
  some_of (Some method) e = (method, refl)

  answers : (side : Side) (h : List Item) (m : Msg) (b : List ℕ) → taking_number side h < 2 ^ 32 → Stands p side h → IsAcceptable p side h m b → Answering p side h m
  answers side h (Disconnect r d l) b n v w = by_transport side h _ _ (disconnect r d l) tt
  answers side h (Ignore x) b n v w = by_transport side h _ _ (ignore x) tt
  answers side h (Unimplemented x) b n v w = by_transport side h _ _ (unimplemented x) tt
  answers side h (Debug x y z) b n v w = by_transport side h _ _ (debug x y z) tt
  answers side h (Unknown x) b n v w = let s = unimplemented_encoded (taking_number side h) n in by_transport side h _ _ (unknown x s.payload) (s.encodes, tt)
  answers Server h (ServiceRequest x) b n v w = let s = service_accept_encoded x (service_name h x b w) in by_transport Server h _ _ (service_request x s.payload) (s.encodes, tt)
  answers Client h (ServiceRequest x) b n v w =
      let r = may_be p Client h (ServiceRequest x) b w in absurd (no_5_at_client h (in_normal p Client h 5 (normal_at_5 (phase p Client h) _ Client h r) r))
  answers Client h (ServiceAccept x) b n v w = by_transport Client h _ _ (service_accept x) tt
  answers Server h (ServiceAccept x) b n v w =
      let r = may_be p Server h (ServiceAccept x) b w in absurd (cc (in_normal p Server h 6 (normal_at_6 (phase p Server h) _ Server h r) r))
  answers side h (ExtInfo x) b n v w = by_transport side h _ _ (extensions x) tt
  answers side h (KexInit x) b n v w = kexinit_answered side h x b v w
  answers side h NewKeys b n v w = by_transport side h _ _ newkeys tt
  answers Server h (KexEcdhInit x) b n v w = completed_at_server h x v
  answers Client h (KexEcdhInit x) b n v w = absurd (no_30_at_client (phase p Client h) _ h w.no_guess (may_be p Client h (KexEcdhInit x) b w))
  answers Client h (KexEcdhReply x y z) b n v w = completed_at_client h x y z v
  answers Server h (KexEcdhReply x y z) b n v w = absurd (no_31_at_server (phase p Server h) _ h w.no_guess (may_be p Server h (KexEcdhReply x y z) b w))
  answers Server h (UserauthRequest x y z) b n v w = request_answered h x y z v
  answers Client h (UserauthRequest x y z) b n v w = absurd (cc (normally Client h (UserauthRequest x y z) b (omega arith) w))
  answers Client h (UserauthFailure x y) b n v w = by_authentication Client h _ _ (failure x y) tt
  answers Server h (UserauthFailure x y) b n v w = absurd (cc (normally Server h (UserauthFailure x y) b (omega arith) w))
  answers Client h UserauthSuccess b n v w =
      let x = some_of (outstanding h) (outstanding_at_52 h (normally Client h UserauthSuccess b (omega arith) w)) in
      by_authentication Client h _ _ (success x.0 x.1) tt
  answers Server h UserauthSuccess b n v w = absurd (cc (normally Server h UserauthSuccess b (omega arith) w))
  answers Client h (UserauthBanner x y) b n v w = by_authentication Client h _ _ (banner x y) tt
  answers Server h (UserauthBanner x y) b n v w = absurd (cc (normally Server h (UserauthBanner x y) b (omega arith) w))
  answers Client h (UserauthPkOk x y) b n v w = by_authentication Client h _ _ (key_ok x y) tt
  answers Server h (UserauthPkOk x y) b n v w = absurd (cc (normally Server h (UserauthPkOk x y) b (omega arith) w))
  answers side h (GlobalRequest x y z) b n v w = by_connection side h _ None _ (global x y z) tt
  answers side h (RequestSuccess x) b n v w = by_connection side h _ None _ (global_success x) tt
  answers side h RequestFailure b n v w = by_connection side h _ None _ global_failure tt
  answers side h (ChannelOpen x y z u t) b n v w = open_answered side h x y z u t b v w
  answers side h (ChannelOpenConfirmation x y z u t) b n v w = by_connection side h _ (Some x) _ (confirmation x y z u t) tt
  answers side h (ChannelOpenFailure x y z u) b n v w = by_connection side h _ (Some x) _ (channel_failure x y z u) tt
  answers side h (ChannelWindowAdjust x y) b n v w = by_connection side h _ (Some x) _ (adjust x y) tt
  answers side h (ChannelData x y) b n v w = by_connection side h _ (Some x) _ (got_data x y) tt
  answers side h (ChannelExtendedData x y z) b n v w = by_connection side h _ (Some x) _ (got_extended x y z) tt
  answers side h (ChannelEof x) b n v w = by_connection side h _ (Some x) _ (eof x) tt
  answers side h (ChannelClose x) b n v w = close_answered side h x v
  answers side h (ChannelRequest x y z u) b n v w = by_connection side h _ (Some x) _ (request x y z u) tt
  answers side h (ChannelSuccess x) b n v w = by_connection side h _ (Some x) _ (channel_success x) tt
  answers side h (ChannelFailure x) b n v w = by_connection side h _ (Some x) _ (no_success x) tt

  -- ---- payloads and units

  is_guess : (found : Phase) → (found ≡ Guessed) ⊎ (found ≡ Guessed → ⊥)
  is_guess Guessed = inl refl
  is_guess Start = inr (λ e. cc e)
  is_guess Exchanging = inr (λ e. cc e)
  is_guess Keying = inr (λ e. cc e)
  is_guess Normal = inr (λ e. cc e)

  welcomed : (side : Side) (h : List Item) (m : Msg) (b : List ℕ) → taking_number side h < 2 ^ 32 → Stands p side h → IsAcceptable p side h m b → (items : List Item) × OnPayload p side h b items
  welcomed side h m b n v w =
      let a = answers side h m b n v w in
      go a (numbered a.items (Took a.channel m b ∷ h))
    where
      go : (a : Answering p side h m) → AreNumbered a.items (Took a.channel m b ∷ h) ⊎ (AreNumbered a.items (Took a.channel m b ∷ h) → ⊥) → (items : List Item) × OnPayload p side h b items
      go a (inl k) = (a.items ++ Took a.channel m b ∷ [], takes a.channel m w a.answer a.encoded k)
      go a (inr k) = (Died ∷ Refused NumberSpent (Some b) ∷ [], OnPayload.spends a.channel m w a.answer a.encoded k)

  payload_found : (side : Side) (h : List Item) (b : List ℕ) → taking_number side h < 2 ^ 32 → Stands p side h → (items : List Item) × OnPayload p side h b items
  payload_found side h b n v = by_number (may_take p side h (number_of b)) refl
    where
      of_message : may_take p side h (number_of b) ≡ true → (phase p side h ≡ Guessed → ⊥) → (m : Msg) → IsPayload (probing h) m b → (r : Option Refusal) → first_refusal (answer_checks p side h m) ≡ r
          → (items : List Item) × OnPayload p side h b items
      of_message e g m is None f = welcomed side h m b n v (record { read = e; no_guess = g; message_is = is; not_refused = f })
      of_message e g m is (Some r) f = let x = refused h r (Some b) (count_most h v.numbers) in (x.0, OnPayload.refuses m r e g is f (x.1))

      read : may_take p side h (number_of b) ≡ true → (phase p side h ≡ Guessed → ⊥) → ((m : Msg) × IsPayload (probing h) m b) ⊎ ((m : Msg) → IsPayload (probing h) m b → ⊥)
          → (items : List Item) × OnPayload p side h b items
      read e g (inl w) = of_message e g (w.0) (w.1) (first_refusal (answer_checks p side h (w.0))) refl
      read e g (inr none) = let x = refused h BadMessage (Some b) (count_most h v.numbers) in (x.0, bad_message e g none (x.1))

      by_phase : may_take p side h (number_of b) ≡ true → (phase p side h ≡ Guessed) ⊎ (phase p side h ≡ Guessed → ⊥) → (items : List Item) × OnPayload p side h b items
      by_phase e (inl g) = (Told Ignored ∷ TookGuess b ∷ [], skips g e)
      by_phase e (inr g) = read e g (payload_decided (probing h) b)

      by_number : (t : Bool) → may_take p side h (number_of b) ≡ t → (items : List Item) × OnPayload p side h b items
      by_number true e = by_phase e (is_guess (phase p side h))
      by_number false e = let x = refused h Unexpected (Some b) (count_most h v.numbers) in (x.0, unexpected e (x.1))

  number_below : (side : Side) (h : List Item) (t : Bool) (unit b : List ℕ) → IsUnit p.crypto (stage_after p side h t) unit (Opens b) → taking_number side h < 2 ^ 32
  number_below side h true unit b (opens q a k w) = a.1
  number_below side h false unit b (line text l i) = elim i [ ]

  outcome_found : (side : Side) (h : List Item) (unit : List ℕ) (outcome : Outcome) → Stands p side h → IsUnit p.crypto (stage p side h) unit outcome → (items : List Item) × OnOutcome p side h outcome items
  outcome_found side h unit (OtherLine text) v u = (TookOtherLine text ∷ [], other_line text)
  outcome_found side h unit (VersionLine text) v u = (TookLine text ∷ [], version_line text)
  outcome_found side h unit (RefusedLine why) v u = let x = refused h why None (count_most h v.numbers) in (x.0, refused_line why (x.1))
  outcome_found side h unit (Opens b) v u = let x = payload_found side h b (number_below side h (has_line h) unit b u) v in (x.0, opened b (x.1))
  outcome_found side h unit (RefusedPacket why) v u = let x = refused h why None (count_most h v.numbers) in (x.0, refused_packet why (x.1))

  pub stands : AreLawful p → (side : Side) (h : List Item) → AreGood p side → EndRun p side h → Stands p side h
  stands laws side h good run = record {
    good = good;
    formed = (end_sound p laws side h run).formed;
    kept = end_keeps p laws side h run;
    serves = serves p laws side h run;
    numbers = end_numbers p side h run;
  }

  pub units_answered : AreLawful p → (side : Side) → AreGood p side → (h : List Item) → EndRun p side h → (unit : List ℕ) (outcome : Outcome) → IsUnit p.crypto (stage p side h) unit outcome
      → (items : List Item) × OnOutcome p side h outcome items
  units_answered laws side good h run unit outcome u = outcome_found side h unit outcome (stands laws side h good run) u
