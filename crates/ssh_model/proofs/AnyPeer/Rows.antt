-- What is known of an end's items and history is kept by each of its turns, whoever its peer is, and so is what is known of a
-- transport's, whatever the layers above it do.
use Rattle.std.proofs.Common.{not, ◌≡◌, ℕ, zero, suc, ◌+◌, ◌<◌, List, [], ◌∷◌, ◌++◌, length, inl, refl, ap, sym, ◌∙◌, arith, subst, append_assoc, cond, ◌==◌, eq-eqb, ne_eqb, Bool, true, false, ◌||◌, Option, None}
use Rattle.std.proofs.lemmas.Bool.{leb-true, ltb-true}
use Rattle.ssh_model.specs.declared.side.Side.{Side}
use Rattle.ssh_model.specs.declared.side.Side.TheVariants.{Client, Server}
use Rattle.ssh_model.specs.Protocol.Wire.Message.{Msg, Msg.KexInit, Msg.NewKeys, Msg.KexEcdhInit, Msg.KexEcdhReply, Proposal}
use Rattle.ssh_model.specs.Protocol.Sessions.Parties.{Parties, AreLawful, offer, point_by}
use Rattle.ssh_model.specs.declared.refusal.Refusal.{Refusal}
use Rattle.ssh_model.specs.declared.refusal.Refusal.TheVariants.{BadMessage, Unexpected}
use Rattle.ssh_model.specs.Protocol.Sessions.Refusals.{first_refusal}
use Rattle.ssh_model.specs.Protocol.Sessions.Items.{Ask, Ask.AskRekey, Fact.Disconnected, Item, Item.Asked, Item.Sent, Item.Took, Item.TookGuess, sent, took, messages_sent, messages_taken, has_died}
use Rattle.ssh_model.specs.Protocol.Sessions.Epochs.{epoch}
use Rattle.ssh_model.specs.Protocol.KeyExchange.Exchanges.{nth, no_material, no_reply, fed, offers, points, replies}
use Rattle.ssh_model.specs.Protocol.Sessions.Phases.{is_normal, Phase, Phase.Start, Phase.Guessed, Phase.Exchanging, Phase.Keying, Phase.Normal, phase, blocked, may_take_in, is_allowed_during_exchange, is_allowed_at_first, is_wrong_guess, own_names, has_material}
use Rattle.ssh_model.specs.Protocol.Channels.Message.{Message, Message.OpenFailure, Message.Close}
use Rattle.ssh_model.specs.Protocol.Channels.History as channel
use Rattle.ssh_model.specs.Protocol.Sessions.Transport.{TransportAnswer, TransportAnswer.disconnect, TransportAnswer.ignore, TransportAnswer.unimplemented, TransportAnswer.debug, TransportAnswer.unknown, TransportAnswer.service_request, TransportAnswer.service_accept, TransportAnswer.extensions, IsAnnounced, TransportAnswer.kexinit_at_server, TransportAnswer.kexinit_at_client, TransportAnswer.answered_at_server, TransportAnswer.answered_at_client, CompletingAnswer.init, CompletingAnswer.reply, TransportAnswer.newkeys, next_cookie, point_now, is_trusted, CompletingAnswer, TransportAsk.service, TransportAsk.rekey, TransportAsk.disconnect as disconnects}
use Rattle.ssh_model.specs.Protocol.Authentication.Rows.{AuthenticationAnswer.request_too_late, AuthenticationAnswer.request_accepted, AuthenticationAnswer.request_probed, AuthenticationAnswer.request_failed, AuthenticationAnswer.failure, AuthenticationAnswer.success, AuthenticationAnswer.banner, AuthenticationAnswer.key_ok, AuthenticationAnswer, AuthenticationAsk.none, AuthenticationAsk.password, AuthenticationAsk.probe, AuthenticationAsk.sign}
use Rattle.ssh_model.specs.Protocol.Channels.Connection.{AreReplies, AreReplies.none as no_reply_due, AreReplies.reply as one_reply, reply_message, ConnectionAnswer, ConnectionAnswer.global, ConnectionAnswer.global_success, ConnectionAnswer.global_failure, ConnectionAnswer.opened, ConnectionAnswer.not_opened, ConnectionAnswer.confirmation, ConnectionAnswer.failure as open_failure, ConnectionAnswer.adjust, ConnectionAnswer.got_data, ConnectionAnswer.got_extended, ConnectionAnswer.eof, ConnectionAnswer.close, ConnectionAnswer.request, ConnectionAnswer.success as request_success, ConnectionAnswer.no_success, ConnectionAsk.opens, ConnectionAsk.confirm, ConnectionAsk.refuse, ConnectionAsk.sends, ConnectionAsk.sends_extended, ConnectionAsk.adjust as asks_adjust, ConnectionAsk.eof as asks_eof, ConnectionAsk.close as asks_close, ConnectionAsk.request as asks_request, ConnectionAsk.reply_yes, ConnectionAsk.reply_no, ConnectionAsk.global as asks_global, ConnectionAsk.global_yes, ConnectionAsk.global_no}
use Rattle.ssh_model.specs.Protocol.Sessions.Turns.{IsEncoded, AreEncoded, Refuses, Refuses.silently, Refuses.spent, Refuses.said, answer_checks, Answer, Answer.of_transport, Answer.of_completion, Answer.of_authentication, Answer.of_connection, OnAsk.of_authentication as asks_authentication, OnPayload, OnPayload.takes, OnPayload.skips, OnPayload.unexpected, OnPayload.bad_message, OnPayload.refuses, OnPayload.spends, OnOutcome, OnOutcome.other_line, OnOutcome.version_line, OnOutcome.refused_line, OnOutcome.opened as opened_packet, OnOutcome.refused_packet, ask_checks, OnAsk, OnAsk.of_transport as asks_transport, OnAsk.of_connection as asks_connection, FeedsTurn, AsksTurn, AsksTurn.refuses as refuses_ask, AsksTurn.spends as spends_ask, OnUnit, Turn, Turn.asks, Turn.reads as reads_unit, IsOpening, EndRun}
use Rattle.ssh_model.specs.Protocol.Wire.Outcome.{Outcome}
use Rattle.ssh_model.specs.Laws.Checks.{all_passed}
use Rattle.ssh_model.specs.Protocol.Sessions.AnyPeer.{IsVerified, IncludesOwn}
use Rattle.ssh_model.proofs.Sessions.EndKeeps.{End}
use Rattle.ssh_model.proofs.Sessions.EndAnswers.{may_be, has_kept}
use Rattle.ssh_model.proofs.Sessions.EndTurns.{run_keeps, end_keeps}
use Rattle.ssh_model.specs.Protocol.Sessions.AnyLayers.{TransportTurn, TransportTurn.of_end, TransportTurn.completes, TransportRun}
use Rattle.ssh_model.proofs.Sessions.Stages.{or_false, level_at_20, level_at_30, level_at_31, not_false}
use Rattle.ssh_model.proofs.Sessions.Rules.{took_following}
use Rattle.ssh_model.proofs.Sessions.SoundTurns.{keyed_when, normal_keyed}
use Rattle.ssh_model.proofs.AnyPeer.Allowed.{unknown_keyed}
use Rattle.ssh_model.proofs.AnyPeer.Keeps.{RunOf, TookAt, GuessAt, OfferAt, PointAt, RequestAt, SuccessAt, PointsIn, Known, IsPlainSent, IsPlainTaken, ArePlain, add_still, add_fed, add_accepted, add_authenticated, add_success, add_unimplemented, add_sent, add_taken, add_plain, add_disconnect, add_sent_above, add_taken_above, offers_fed, own_kexinit, own_point}

-- ---- how many points were sent, by what may be taken

not_in_exchange : (s : Bool) (e n : ℕ) → is_allowed_during_exchange s e 20 ≡ true → ⊥
not_in_exchange true zero n e = cc e
not_in_exchange false zero n e = cc e
not_in_exchange s (suc k) n e = cc e

only_left : (a : Bool) → (a || false) ≡ true → a ≡ true
only_left true e = refl
only_left false e = e

points_at_20 : (ph : Phase) (r : Bool) (h : List Item) (n t : ℕ) → may_take_in ph r Client h 20 ≡ true → PointsIn ph n t → n ≡ t
points_at_20 Start r h n t e i = i
points_at_20 Guessed r h n t e i = absurd (cc e)
points_at_20 Exchanging r h n t e i = absurd (not_in_exchange _ _ 0 (only_left _ e))
points_at_20 Keying r h n t e i = absurd (not_in_exchange _ _ 0 (only_left _ e))
points_at_20 Normal r h n t e i = i

first_31 : (r : Bool) → (is_allowed_at_first r 31 || false) ≡ true → ⊥
first_31 true e = cc e
first_31 false e = cc e

pub points_at_31 : (ph : Phase) (r : Bool) (h : List Item) (n t : ℕ) → may_take_in ph r Client h 31 ≡ true → PointsIn ph n t → n ≡ suc t
points_at_31 Start r h n t e i = absurd (first_31 r e)
points_at_31 Guessed r h n t e i = i
points_at_31 Exchanging r h n t e i = i
points_at_31 Keying r h n t e i = i
points_at_31 Normal r h n t e i = absurd (cc e)

first_21 : (r : Bool) → (is_allowed_at_first r 21 || false) ≡ true → ⊥
first_21 true e = cc e
first_21 false e = cc e

points_at_21 : (ph : Phase) (r : Bool) (h : List Item) (n t : ℕ) → may_take_in ph r Client h 21 ≡ true → PointsIn ph n t → n ≡ suc t
points_at_21 Start r h n t e i = absurd (first_21 r e)
points_at_21 Guessed r h n t e i = i
points_at_21 Exchanging r h n t e i = i
points_at_21 Keying r h n t e i = i
points_at_21 Normal r h n t e i = absurd (cc e)

points_guess : (t : Bool) (a b : ℕ) → a ≡ suc b → PointsIn (cond t Guessed Exchanging) a b
points_guess true a b e = e
points_guess false a b e = e

reply_plain : (m : Message) → IsPlainSent (reply_message m)
reply_plain (OpenFailure t) = tt
reply_plain (Close t) = tt
reply_plain m = refl

replies_plain : (l : List channel.Item) (items : List Item) → AreReplies l items → ArePlain items
replies_plain l items no_reply_due = tt
replies_plain l items (one_reply at m b r) = (reply_plain m, replies_plain _ _ r)

-- ---- the rows of an exchange

module _ {K : Type 0} (ends : Bool) (p : Parties K) where
  took_at_server : (h : List Item) (theirs : Proposal) (b : List ℕ) → TookAt ends p Server h (KexInit theirs) b → Known ends p Server h → Known ends p Server (Took None (KexInit theirs) b ∷ h)
  took_at_server h theirs b w v = record { grounds = (inl w, v.grounds); offered = v.offered; line = v.line; left = v.left; counted = λ e. absurd (cc e); answered = v.answered }

  -- an end's own KEXINIT that isn't its first
  own_offer : (side : Side) (h tail : List Item) (own : List ℕ) → messages_sent tail ≡ messages_sent h → fed tail ≡ fed h → has_material h ≡ true → 0 < length (offers (messages_sent h))
      → blocked tail ≡ false → IsEncoded (KexInit (offer p side false (next_cookie h))) own → OfferAt p side (offer p side false (next_cookie h)) own tail
  own_offer side h tail own e f m n q s = record {
    offer_is = rw (e, f) (ap (λ t. offer p side t (next_cookie h)) (sym (ne_eqb (length (offers (messages_sent h))) 0 (λ z. omega (arith, z, n)))));
    encoded = s;
    room = rw (e, f) (ltb-true _ _ m);
    first = λ z. absurd (omega (arith, z, n, ap (λ l. length (offers l)) e));
    later = λ z. q;
  }

  -- the point that answers a KEXINIT
  own_point_at : (h tail : List Item) → points (messages_sent tail) ≡ points (messages_sent h) → fed tail ≡ fed h → length (points (messages_sent h)) ≡ epoch (sent h)
      → epoch (sent h) < length (fed h) → 0 < length (offers (messages_sent tail)) → epoch (sent tail) ≡ epoch (sent h) → PointAt p Client (point_now p Client h) tail
  own_point_at h tail e f n k o z = record {
    point_is = rw (e, f) (ap (λ x. point_by p Client (nth no_material x (fed h)).secret) (sym n));
    room = rw (e, f) (omega (arith, n, k));
    offered = o;
    side_is = refl;
    level = ap length e ∙ (n ∙ sym z);
  }

  same_points : (h : List Item) (theirs : Proposal) (b : List ℕ) → TookAt ends p Client h (KexInit theirs) b → End p Client h → Known ends p Client h → length (points (messages_sent h)) ≡ epoch (sent h)
  same_points h theirs b w x v =
      let r = may_be p Client h (KexInit theirs) b w.welcome in
      let n = points_at_20 (phase p Client h) _ h _ _ r (v.counted refl).pointed in
      n ∙ sym (level_at_20 (phase p Client h) _ Client h _ _ _ r x.in_step)

  -- how many they are after it
  points_following : (h : List Item) (theirs : Proposal) (b : List ℕ) → TookAt ends p Client h (KexInit theirs) b → Known ends p Client h
      → PointsIn (cond (is_wrong_guess theirs (own_names p Client)) Guessed Exchanging) (suc (length (points (messages_sent h)))) (epoch (took h))
  points_following h theirs b w v =
      let r = may_be p Client h (KexInit theirs) b w.welcome in
      points_guess (is_wrong_guess theirs (own_names p Client)) _ _ (ap suc (points_at_20 (phase p Client h) _ h _ _ r (v.counted refl).pointed))

  took_at_client : (h : List Item) (theirs : Proposal) (b y : List ℕ) → blocked h ≡ true → TookAt ends p Client h (KexInit theirs) b → End p Client h → Known ends p Client h
      → Known ends p Client (Sent None (KexEcdhInit (point_now p Client h)) y ∷ Took None (KexInit theirs) b ∷ h)
  took_at_client h theirs b y f w x v =
      let one : length (offers (messages_sent h)) ≡ epoch (sent h) + 1 = rw f at x.offers_sent in
      record {
        grounds = (own_point_at h (Took None (KexInit theirs) b ∷ h) refl refl (same_points h theirs b w x v) (omega (arith, one, offers_fed ends p Client h v.grounds)) v.offered refl, (inl w, v.grounds));
        offered = v.offered;
        line = v.line;
        left = v.left;
        counted = λ e. record { replied = (v.counted refl).replied; pointed = points_following h theirs b w v };
        answered = v.answered;
      }

  answers_at_client : (h : List Item) (theirs : Proposal) (b own y : List ℕ) → blocked h ≡ false → IsEncoded (KexInit (offer p Client false (next_cookie h))) own
      → TookAt ends p Client h (KexInit theirs) b → End p Client h → Known ends p Client h
      → Known ends p Client (Sent None (KexEcdhInit (point_now p Client h)) y ∷ Sent None (KexInit (offer p Client false (next_cookie h))) own ∷ Took None (KexInit theirs) b ∷ h)
  answers_at_client h theirs b own y f s w x v =
      let none : length (offers (messages_sent h)) ≡ epoch (sent h) + 0 = rw f at x.offers_sent in
      let kept = has_kept p Client h theirs b w.welcome f in
      record {
        grounds = (
          own_point_at h (Sent None (KexInit (offer p Client false (next_cookie h))) own ∷ Took None (KexInit theirs) b ∷ h) refl refl (same_points h theirs b w x v) (omega (arith, none, ltb-true _ _ kept)) (omega arith) refl,
          (own_offer Client h (Took None (KexInit theirs) b ∷ h) own refl refl kept v.offered f s, (inl w, v.grounds)),
        );
        offered = omega arith;
        line = v.line;
        left = v.left;
        counted = λ e. record { replied = (v.counted refl).replied; pointed = points_following h theirs b w v };
        answered = v.answered;
      }

  answers_at_server : (h : List Item) (theirs : Proposal) (b own : List ℕ) → blocked h ≡ false → IsEncoded (KexInit (offer p Server false (next_cookie h))) own
      → TookAt ends p Server h (KexInit theirs) b → Known ends p Server h → Known ends p Server (Sent None (KexInit (offer p Server false (next_cookie h))) own ∷ Took None (KexInit theirs) b ∷ h)
  answers_at_server h theirs b own f s w v = record {
    grounds = (own_offer Server h (Took None (KexInit theirs) b ∷ h) own refl refl (has_kept p Server h theirs b w.welcome f) v.offered f s, (inl w, v.grounds));
    offered = omega arith;
    line = v.line;
    left = v.left;
    counted = λ e. absurd (cc e);
    answered = v.answered;
  }

  completes_at_server : (h : List Item) (q k_s g b rb nb : List ℕ) → TookAt ends p Server h (KexEcdhInit q) b → End p Server h → Known ends p Server h
      → Known ends p Server (Sent None NewKeys nb ∷ Sent None (KexEcdhReply k_s (point_now p Server h) g) rb ∷ Took None (KexEcdhInit q) b ∷ h)
  completes_at_server h q k_s g b rb nb w x v =
      let st = level_at_30 (phase p Server h) _ h _ _ _ (may_be p Server h (KexEcdhInit q) b w.welcome) x.in_step in
      let one : length (offers (messages_sent h)) ≡ epoch (sent h) + 1 = rw (st.0) at x.offers_sent in
      let last : (epoch (sent h) == length (replies (messages_sent h))) ≡ true = eq-eqb _ _ (sym (v.answered refl)) in
      let own : IncludesOwn p Server (epoch (sent h)) (Sent None (KexEcdhReply k_s (point_now p Server h) g) rb ∷ Took None (KexEcdhInit q) b ∷ h) = record {
        line = v.line;
        pair = omega (arith, one, offers_fed ends p Server h v.grounds);
        kexinit = own_kexinit ends p Server (epoch (sent h)) h v.grounds (omega (arith, one));
        point = ap (λ t. (cond t (record { host_key = k_s; point = point_now p Server h; signature = g }) (nth no_reply (epoch (sent h)) (replies (messages_sent h)))).point) last;
      } in
      record {
        grounds = (record { proven = tt; own = own; offered = v.offered; spoke = ap suc (v.answered refl) }, (record { offered = v.offered; side_is = refl; level = v.answered refl }, (inl w, v.grounds)));
        offered = v.offered;
        line = v.line;
        left = v.left;
        counted = λ e. absurd (cc e);
        answered = λ e. ap suc (v.answered refl);
      }

  -- the reply is the one of this exchange
  proven : (h : List Item) (k_s q_s g b : List ℕ) → TookAt ends p Client h (KexEcdhReply k_s q_s g) b → End p Client h → Known ends p Client h
      → IsVerified p (epoch (sent h)) (Took None (KexEcdhReply k_s q_s g) b ∷ h)
  proven h k_s q_s g b w x v =
      let last : (epoch (sent h) == length (replies (messages_taken h))) ≡ true = eq-eqb _ _ (sym (v.counted refl).replied) in
      let checks = all_passed (answer_checks p Client h (KexEcdhReply k_s q_s g)) w.welcome.not_refused in
      record {
        host_key = k_s;
        point = q_s;
        signature = g;
        payload = b;
        before = h;
        reply = refl;
        trusted = not_false (is_trusted p h k_s q_s g) checks.1.0;
        host_key_is = ap (λ t. (cond t (record { host_key = k_s; point = q_s; signature = g }) (nth no_reply (epoch (sent h)) (replies (messages_taken h)))).host_key) last;
        point_is = ap (λ t. (cond t (record { host_key = k_s; point = q_s; signature = g }) (nth no_reply (epoch (sent h)) (replies (messages_taken h)))).point) last;
      }

  own_at_client : (h : List Item) (k_s q_s g b : List ℕ) → TookAt ends p Client h (KexEcdhReply k_s q_s g) b → End p Client h → Known ends p Client h
      → IncludesOwn p Client (epoch (sent h)) (Took None (KexEcdhReply k_s q_s g) b ∷ h)
  own_at_client h k_s q_s g b w x v =
      let r = may_be p Client h (KexEcdhReply k_s q_s g) b w.welcome in
      let st = level_at_31 (phase p Client h) _ h _ _ _ r x.in_step in
      let pointed = points_at_31 (phase p Client h) _ h _ _ r (v.counted refl).pointed in
      let one : length (offers (messages_sent h)) ≡ epoch (sent h) + 1 = rw (st.0) at x.offers_sent in
      record {
        line = v.line;
        pair = omega (arith, one, offers_fed ends p Client h v.grounds);
        kexinit = own_kexinit ends p Client (epoch (sent h)) h v.grounds (omega (arith, one));
        point = own_point ends p Client (epoch (sent h)) h v.grounds (omega (arith, pointed, st.1));
      }

  -- and a point more than NEWKEYS was sent
  one_more : (h : List Item) (k_s q_s g b : List ℕ) → TookAt ends p Client h (KexEcdhReply k_s q_s g) b → End p Client h → Known ends p Client h → length (points (messages_sent h)) ≡ suc (epoch (sent h))
  one_more h k_s q_s g b w x v =
      let r = may_be p Client h (KexEcdhReply k_s q_s g) b w.welcome in
      points_at_31 (phase p Client h) _ h _ _ r (v.counted refl).pointed ∙ ap suc (sym (level_at_31 (phase p Client h) _ h _ _ _ r x.in_step).1)

  completes_at_client : (h : List Item) (k_s q_s g b nb : List ℕ) → TookAt ends p Client h (KexEcdhReply k_s q_s g) b → End p Client h → Known ends p Client h
      → Known ends p Client (Sent None NewKeys nb ∷ Took None (KexEcdhReply k_s q_s g) b ∷ h)
  completes_at_client h k_s q_s g b nb w x v = record {
    grounds = (record { proven = proven h k_s q_s g b w x v; own = own_at_client h k_s q_s g b w x v; offered = v.offered; spoke = one_more h k_s q_s g b w x v }, (inl w, v.grounds));
    offered = v.offered;
    line = v.line;
    left = v.left;
    counted = λ e. record {
      replied = ap suc (v.counted refl).replied;
      pointed = points_at_31 (phase p Client h) _ h _ _ (may_be p Client h (KexEcdhReply k_s q_s g) b w.welcome) (v.counted refl).pointed;
    };
    answered = λ e. absurd (cc e);
  }

  took_newkeys : (side : Side) (h : List Item) (b : List ℕ) → TookAt ends p side h NewKeys b → Known ends p side h → Known ends p side (Took None NewKeys b ∷ h)
  took_newkeys Client h b w v = record {
    grounds = (inl w, v.grounds);
    offered = v.offered;
    line = v.line;
    left = v.left;
    counted = λ e. record { replied = (v.counted refl).replied; pointed = points_at_21 (phase p Client h) _ h _ _ (may_be p Client h NewKeys b w.welcome) (v.counted refl).pointed };
    answered = v.answered;
  }
  took_newkeys Server h b w v = record { grounds = (inl w, v.grounds); offered = v.offered; line = v.line; left = v.left; counted = λ e. absurd (cc e); answered = v.answered }

  took_guess : (side : Side) (h : List Item) (b : List ℕ) → GuessAt ends p side h b → Known ends p side h → Known ends p side (TookGuess b ∷ h)
  took_guess Client h b w v = record {
    grounds = (w, v.grounds);
    offered = v.offered;
    line = v.line;
    left = v.left;
    counted = λ e. record { replied = (v.counted refl).replied; pointed = subst (λ ph. PointsIn ph (length (points (messages_sent h))) (epoch (took h))) w.guessed (v.counted refl).pointed };
    answered = v.answered;
  }
  took_guess Server h b w v = record { grounds = (w, v.grounds); offered = v.offered; line = v.line; left = v.left; counted = λ e. absurd (cc e); answered = v.answered }

  sends_kexinit : (side : Side) (h : List Item) (b : List ℕ) → has_material h ≡ true → blocked h ≡ false → IsEncoded (KexInit (offer p side false (next_cookie h))) b → Known ends p side h
      → Known ends p side (Sent None (KexInit (offer p side false (next_cookie h))) b ∷ Asked AskRekey ∷ h)
  sends_kexinit side h b m q s v = record {
    grounds = (own_offer side h (Asked AskRekey ∷ h) b refl refl m v.offered q s, (tt, v.grounds));
    offered = omega arith;
    line = v.line;
    left = v.left;
    counted = λ e. record { replied = (v.counted e).replied; pointed = (v.counted e).pointed };
    answered = v.answered;
  }

  -- ---- the rows

  plain : (side : Side) (h items : List Item) (c : Option ℕ) (m : Msg) (b : List ℕ) → IsPlainTaken m → ArePlain items → TookAt ends p side h m b → Known ends p side h → Known ends p side (items ++ (Took c m b ∷ h))
  plain side h items c m b t q w v = add_plain ends p side items (Took c m b ∷ h) q (add_taken ends p side c m b h t (inl w) v)

  transport_known : (side : Side) (h items : List Item) (m : Msg) (b : List ℕ) → TransportAnswer p side h m items → TookAt ends p side h m b → AreEncoded items → End p side h → Known ends p side h
      → Known ends p side (items ++ (Took None m b ∷ h))
  transport_known side h items m b (disconnect r d l) w s x v = add_disconnect ends p side None r d l b (Disconnected r d) h tt w v
  transport_known side h items m b (ignore y) w s x v = plain side h items None m b tt (tt, tt) w v
  transport_known side h items m b (unimplemented y) w s x v = plain side h items None m b tt (tt, tt) w v
  transport_known side h items m b (debug y z u) w s x v = plain side h items None m b tt (tt, tt) w v
  transport_known side h items m b (unknown y z) w s x v =
      let keyed = unknown_keyed _ (phase p side h) _ side h y w.welcome.message_is.context w.welcome.no_guess (normal_keyed p side h) (may_be p side h m b w.welcome) in
      add_unimplemented ends p side None _ z (Took None m b ∷ h) (omega (arith, keyed, took_following p side h x.rules)) (add_taken ends p side None m b h tt (inl w) v)
  transport_known side h items m b (service_request y z) w s x v = plain side h items None m b tt (tt, tt) w v
  transport_known side h items m b (service_accept y) w s x v = plain side h items None m b tt (tt, tt) w v
  transport_known side h items m b (extensions a) w s x v = plain side h items None m b tt (tt, tt) w v
  transport_known side h items m b (kexinit_at_server theirs e) w s x v = took_at_server h theirs b w v
  transport_known side h items m b (kexinit_at_client theirs y e) w s x v = took_at_client h theirs b y e w x v
  transport_known side h items m b (answered_at_server theirs own e) w s x v = answers_at_server h theirs b own e s.0 w v
  transport_known side h items m b (answered_at_client theirs own y e) w s x v = answers_at_client h theirs b own y e s.1.0 w x v
  transport_known side h items m b newkeys w s x v = took_newkeys side h b w v

  completion_known : (side : Side) (h owed items : List Item) (m : Msg) (b : List ℕ) → CompletingAnswer p owed side h m items → ArePlain owed → TookAt ends p side h m b → End p side h → Known ends p side h
      → Known ends p side (items ++ (Took None m b ∷ h))
  completion_known side h owed items m b (init q rb nb (IsAnnounced.extensions xb f)) o w x v =
      let e = add_sent ends p Server None _ xb _ tt (completes_at_server h q _ _ b rb nb w x v) in
      add_still ends p Server _ _ tt (rw (append_assoc owed (Sent None _ xb ∷ Sent None NewKeys nb ∷ Sent None _ rb ∷ []) (Took None (KexEcdhInit q) b ∷ h)) (add_plain ends p Server owed _ o e))
  completion_known side h owed items m b (init q rb nb (IsAnnounced.nothing f)) o w x v =
      let e = completes_at_server h q _ _ b rb nb w x v in
      add_still ends p Server _ _ tt (rw (append_assoc owed (Sent None NewKeys nb ∷ Sent None _ rb ∷ []) (Took None (KexEcdhInit q) b ∷ h)) (add_plain ends p Server owed _ o e))
  completion_known side h owed items m b (reply k_s q_s g nb (IsAnnounced.extensions xb f)) o w x v =
      let e = add_sent ends p Client None _ xb _ tt (completes_at_client h k_s q_s g b nb w x v) in
      add_still ends p Client _ _ tt (rw (append_assoc owed (Sent None _ xb ∷ Sent None NewKeys nb ∷ []) (Took None (KexEcdhReply k_s q_s g) b ∷ h)) (add_plain ends p Client owed _ o e))
  completion_known side h owed items m b (reply k_s q_s g nb (IsAnnounced.nothing f)) o w x v =
      let e = completes_at_client h k_s q_s g b nb w x v in
      add_still ends p Client _ _ tt (rw (append_assoc owed (Sent None NewKeys nb ∷ []) (Took None (KexEcdhReply k_s q_s g) b ∷ h)) (add_plain ends p Client owed _ o e))

  authentication_known : (side : Side) (h items : List Item) (m : Msg) (b : List ℕ) → AuthenticationAnswer p side h m items → TookAt ends p side h m b → Known ends p side h → Known ends p side (items ++ (Took None m b ∷ h))
  authentication_known side h items m b (request_too_late x y z e) w v = plain side h items None m b tt (tt, tt) w v
  authentication_known side h items m b (request_accepted user asked method c e f) w v =
      let request : RequestAt p user asked method h = record { accepted = f; first = e; keyed = keyed_when p Server h m b w.welcome (leb-true 50 50 refl) } in
      let success : SuccessAt p None (Took None m b ∷ h) = record { channel_is = refl; user = user; service = asked; method = method; payload = b; before = h; history_is = refl; request = request } in
      add_accepted ends p Server user _ _ (λ e. record { service = asked; method = method; payload = b; success = c; before = h; history_is = refl; credential_is = refl; request = request }) (add_success ends p Server None c _ (λ e. success) (add_taken ends p Server None m b h tt (inl w) v))
  authentication_known side h items m b (request_probed x y a k c e f) w v = plain side h items None m b tt (tt, tt) w v
  authentication_known side h items m b (request_failed x y z c e f) w v = plain side h items None m b tt (tt, tt) w v
  authentication_known side h items m b (failure x y) w v = plain side h items None m b tt (tt, tt) w v
  authentication_known side h items m b (success way e) w v =
      add_authenticated ends p Client _ _ (refl, record { channel = None; payload = b; before = h; history_is = refl; method = way; outstanding_is = e; kind_is = refl })
      (add_taken ends p Client None m b h tt (inl w) v)
  authentication_known side h items m b (banner x y) w v = plain side h items None m b tt (tt, tt) w v
  authentication_known side h items m b (key_ok x y) w v = plain side h items None m b tt (tt, tt) w v

  connection_known : (side : Side) (h items : List Item) (c : Option ℕ) (m : Msg) (b : List ℕ) → ConnectionAnswer side h c m items → TookAt ends p side h m b → Known ends p side h → Known ends p side (items ++ (Took c m b ∷ h))
  connection_known side h items c m b (global x y z) w v = plain side h items c m b tt (tt, tt) w v
  connection_known side h items c m b (global_success z) w v = plain side h items c m b tt (tt, tt) w v
  connection_known side h items c m b global_failure w v = plain side h items c m b tt (tt, tt) w v
  connection_known side h items c m b (opened x k a d e f g) w v = plain side h items c m b tt (tt, tt) w v
  connection_known side h items c m b (not_opened k a d e f g r) w v = plain side h items c m b tt (replies_plain _ _ r) w v
  connection_known side h items c m b (confirmation a d e f g) w v = plain side h items c m b tt (tt, tt) w v
  connection_known side h items c m b (open_failure a d e f) w v = plain side h items c m b tt (tt, tt) w v
  connection_known side h items c m b (adjust a d) w v = plain side h items c m b tt (tt, tt) w v
  connection_known side h items c m b (got_data a d) w v = plain side h items c m b tt (tt, tt) w v
  connection_known side h items c m b (got_extended a d e) w v = plain side h items c m b tt (tt, tt) w v
  connection_known side h items c m b (eof a) w v = plain side h items c m b tt (tt, tt) w v
  connection_known side h items c m b (close a r) w v = plain side h items c m b tt (tt, replies_plain _ _ r) w v
  connection_known side h items c m b (request a d e f) w v = plain side h items c m b tt (tt, tt) w v
  connection_known side h items c m b (request_success a) w v = plain side h items c m b tt (tt, tt) w v
  connection_known side h items c m b (no_success a) w v = plain side h items c m b tt (tt, tt) w v

  -- ---- asks

  plain_ask : (side : Side) (h items : List Item) (a : Ask) → ArePlain items → Known ends p side h → Known ends p side (items ++ (Asked a ∷ h))
  plain_ask side h items a q v = add_plain ends p side items (Asked a ∷ h) q (add_still ends p side (Asked a) h tt v)

  ask_known : (side : Side) (h items : List Item) (a : Ask) → OnAsk p side h a items → first_refusal (ask_checks p side h a) ≡ None → AreEncoded items → Known ends p side h → Known ends p side (items ++ (Asked a ∷ h))
  ask_known side h items a (asks_transport (service x)) c s v = plain_ask side h items a (tt, tt) v
  ask_known side h items a (asks_authentication (none x y)) c s v = plain_ask side h items a (tt, tt) v
  ask_known side h items a (asks_authentication (password x y z)) c s v = plain_ask side h items a (tt, tt) v
  ask_known side h items a (asks_authentication (probe x y z b)) c s v = plain_ask side h items a (tt, tt) v
  ask_known side h items a (asks_authentication (sign x y z b)) c s v = plain_ask side h items a (tt, tt) v
  ask_known side h items a (asks_transport (rekey b)) c s v =
      let checks = all_passed (ask_checks p side h AskRekey) c in
      sends_kexinit side h b (not_false (has_material h) checks.1.1.0) (or_false (blocked h) (not (is_normal (phase p side h))) checks.1.0).0 s.0 v
  ask_known side h items a (asks_transport (disconnects x b)) c s v = plain_ask side h items a (tt, (tt, tt)) v
  ask_known side h items a (asks_connection (opens x k d m r b f)) c s v = plain_ask side h items a (tt, (tt, tt)) v
  ask_known side h items a (asks_connection (confirm x d m r b)) c s v = plain_ask side h items a (tt, tt) v
  ask_known side h items a (asks_connection (refuse x r b)) c s v = plain_ask side h items a (tt, tt) v
  ask_known side h items a (asks_connection (sends x y b)) c s v = plain_ask side h items a (tt, tt) v
  ask_known side h items a (asks_connection (sends_extended x k y b)) c s v = plain_ask side h items a (tt, tt) v
  ask_known side h items a (asks_connection (asks_adjust x k b)) c s v = plain_ask side h items a (tt, tt) v
  ask_known side h items a (asks_connection (asks_eof x b)) c s v = plain_ask side h items a (tt, tt) v
  ask_known side h items a (asks_connection (asks_close x b)) c s v = plain_ask side h items a (tt, tt) v
  ask_known side h items a (asks_connection (asks_request x k d r b)) c s v = plain_ask side h items a (tt, tt) v
  ask_known side h items a (asks_connection (reply_yes x b)) c s v = plain_ask side h items a (tt, tt) v
  ask_known side h items a (asks_connection (reply_no x b)) c s v = plain_ask side h items a (tt, tt) v
  ask_known side h items a (asks_connection (asks_global k d r b)) c s v = plain_ask side h items a (tt, tt) v
  ask_known side h items a (asks_connection (global_yes r b)) c s v = plain_ask side h items a (tt, tt) v
  ask_known side h items a (asks_connection (global_no r b)) c s v = plain_ask side h items a (tt, tt) v

  -- ---- turns

  refuses_known : (side : Side) (h items : List Item) (why : Refusal) (b : Option (List ℕ)) → Refuses h why b items → Known ends p side h → Known ends p side (items ++ h)
  refuses_known side h items n b (silently e) v = add_plain ends p side items h (tt, (tt, tt)) v
  refuses_known side h items n b (spent e) v = add_plain ends p side items h (tt, (tt, tt)) v
  refuses_known side h items n b (said r x e f s) v = add_plain ends p side items h (tt, (tt, (tt, tt))) v

  answer_known : (side : Side) (h items : List Item) (c : Option ℕ) (m : Msg) (b : List ℕ) → Answer p side h c m items → TookAt ends p side h m b → AreEncoded items → End p side h → Known ends p side h
      → Known ends p side (items ++ (Took c m b ∷ h))
  answer_known side h items c m b (of_transport a) w s x v = transport_known side h items m b a w s x v
  answer_known side h items c m b (of_completion r a) w s x v = completion_known side h _ items m b a (replies_plain _ _ r) w x v
  answer_known side h items c m b (of_authentication a) w s x v = authentication_known side h items m b a w v
  answer_known side h items c m b (of_connection a) w s x v = connection_known side h items c m b a w v

  payload_known : (side : Side) (h items : List Item) (b : List ℕ) → OnPayload p side h b items → RunOf ends p side h → has_died h ≡ false → End p side h → Known ends p side h → Known ends p side (items ++ h)
  payload_known side h items b (takes {items = l} c m w a s k) r d x v = rw append_assoc (answer_known side h l c m b a (record { run = r; alive = d; welcome = w }) s x v)
  payload_known side h items b (skips e m) r d x v = add_still ends p side _ _ tt (took_guess side h b (record { run = r; alive = d; guessed = e; may = m }) v)
  payload_known side h items b (unexpected m f) r d x v = refuses_known side h items Unexpected _ f v
  payload_known side h items b (bad_message m e f g) r d x v = refuses_known side h items BadMessage _ g v
  payload_known side h items b (refuses m k a e f c g) r d x v = refuses_known side h items k _ g v
  payload_known side h items b (spends c m w a s k) r d x v = add_still ends p side _ _ tt (add_still ends p side _ _ tt v)

  outcome_known : (side : Side) (h items : List Item) (o : Outcome) → OnOutcome p side h o items → RunOf ends p side h → has_died h ≡ false → End p side h → Known ends p side h → Known ends p side (items ++ h)
  outcome_known side h items o (other_line text) r d x v = add_still ends p side _ _ tt v
  outcome_known side h items o (version_line text) r d x v = add_still ends p side _ _ tt v
  outcome_known side h items o (refused_line k f) r d x v = refuses_known side h items k _ f v
  outcome_known side h items o (opened_packet b f) r d x v = payload_known side h items b f r d x v
  outcome_known side h items o (refused_packet k f) r d x v = refuses_known side h items k _ f v

  turn_known : (side : Side) (h items : List Item) → Turn p side h items → RunOf ends p side h → End p side h → Known ends p side h → Known ends p side (items ++ h)
  turn_known side h items (Turn.feeds c s (FeedsTurn.feeds k m)) r x v = add_fed ends p side c s h v
  turn_known side h items (Turn.feeds c s (FeedsTurn.answers_false e)) r x v = v
  turn_known side h items (asks a (refuses_ask k alive e)) r x v = add_still ends p side _ _ tt (add_still ends p side _ _ tt v)
  turn_known side h items (asks a (AsksTurn.answers {items = l} alive c o s k)) r x v = rw append_assoc (ask_known side h l a o c s v)
  turn_known side h items (asks a (spends_ask alive c o s k)) r x v = add_still ends p side _ _ tt (add_still ends p side _ _ tt (add_still ends p side _ _ tt v))
  turn_known side h items (asks a (AsksTurn.dies alive c o s k)) r x v = add_still ends p side _ _ tt v
  turn_known side h items (asks a (AsksTurn.is_dead e)) r x v = v
  turn_known side h items (reads_unit unit alive (OnUnit.reads o u f)) r x v = outcome_known side h items o f r alive x v
  turn_known side h items (reads_unit unit alive (OnUnit.dies o u f k)) r x v = add_still ends p side _ _ tt v

  opening_known : (side : Side) (items : List Item) → IsOpening p side items → Known ends p side items
  opening_known side items o = subst (λ l. Known ends p side l) (sym o.items_are) (record {
    grounds = (record { offer_is = refl; encoded = o.is_encoded; room = omega arith; first = λ z. refl; later = λ z. absurd (omega (arith, z)) }, (tt, (tt, tt)));
    offered = omega arith;
    line = refl;
    left = λ e. absurd (cc e);
    counted = λ e. record { replied = refl; pointed = refl };
    answered = λ e. refl;
  })

module _ {K : Type 0} (p : Parties K) where
  above_known : (side : Side) (h items : List Item) → TransportTurn p side h items → TransportRun p side h → End p side h → Known false p side h → Known false p side (items ++ h)
  above_known side h items (of_end turn) r x v = turn_known false p side h items turn r x v
  above_known side h items (TransportTurn.sends c m b a) r x v = add_sent_above false p side c m b h refl a v
  above_known side h items (TransportTurn.takes c m b a) r x v = add_taken_above false p side c m b h refl (record { run = r; above = a }) v
  above_known side h items (completes {items = l} m b alive w a s k) r x v = rw append_assoc (completion_known false p side h [] l m b a tt (record { run = r; alive = alive; welcome = w }) x v)
  above_known side h items (TransportTurn.refuses why b alive f) r x v = refuses_known false p side h items why b f v
  above_known side h items (TransportTurn.dies alive) r x v = add_still false p side _ h tt v

module _ {K : Type 0} (p : Parties K) (laws : AreLawful p) where
  pub known : (side : Side) (h : List Item) → TransportRun p side h → Known false p side h
  known side h (TransportRun.start o) = opening_known false p side h o
  known side h (TransportRun.then_turn {h = b} {items = items} before turn) = above_known p side b items turn before (run_keeps p laws side b before) (known side b before)

  pub end_known : (side : Side) (h : List Item) → EndRun p side h → Known true p side h
  end_known side h (EndRun.start o) = opening_known true p side h o
  end_known side h (EndRun.then_turn {h = b} {items = items} before turn) = turn_known true p side b items turn before (end_keeps p laws side b before) (end_known side b before)
