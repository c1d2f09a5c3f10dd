-- Each answer of an end keeps what holds of it between its turns.
use Rattle.std.proofs.Common.{◌≡◌, ℕ, suc, ◌<◌, ◌≤◌, List, [], ◌∷◌, ◌++◌, length, map, refl, ap, sym, ◌∙◌, arith, append_assoc, Bool, true, false, cond, not, Option, None}
use Rattle.std.proofs.lemmas.List.{length-map}
use Rattle.std.proofs.lemmas.Bool.{ltb-true}
use Rattle.ssh_model.specs.Protocol.Bounds.{largest_packet}
use Rattle.ssh_model.specs.declared.side.Side.{Side}
use Rattle.ssh_model.specs.declared.side.Side.TheVariants.{Client, Server}
use Rattle.ssh_model.specs.Protocol.Lists.{IsOlder}
use Rattle.ssh_model.specs.Protocol.Wire.Message.{Msg, Msg.KexInit, Msg.NewKeys, Msg.KexEcdhInit, Msg.KexEcdhReply, Proposal, message_number}
use Rattle.ssh_model.specs.Protocol.Sessions.Parties.{Parties, offer}
use Rattle.ssh_model.specs.Protocol.Sessions.Items.{Item, Item.Fed, Item.Sent, Item.Took, sent, messages_sent, messages_taken}
use Rattle.ssh_model.specs.Protocol.Sessions.Epochs.{epoch}
use Rattle.ssh_model.specs.Protocol.KeyExchange.Exchanges.{exchange, no_material, offers, fed}
use Rattle.ssh_model.specs.Protocol.Sessions.Phases.{Phase.Guessed, Phase.Exchanging, phase, blocked, may_take, is_wrong_guess, own_names, has_material}
use Rattle.ssh_model.specs.Protocol.Sessions.Honest.{cookies}
use Rattle.ssh_model.specs.Protocol.Channels.Message.{Message, Message.OpenFailure, Message.Close}
use Rattle.ssh_model.specs.Protocol.Channels.History as channel
use Rattle.ssh_model.specs.Protocol.Sessions.Transport.{TransportAnswer, TransportAnswer.disconnect, TransportAnswer.ignore, TransportAnswer.unimplemented, TransportAnswer.debug, TransportAnswer.unknown, TransportAnswer.service_request, TransportAnswer.service_accept, TransportAnswer.extensions, IsAnnounced, TransportAnswer.kexinit_at_server, TransportAnswer.kexinit_at_client, TransportAnswer.answered_at_server, TransportAnswer.answered_at_client, CompletingAnswer.init, CompletingAnswer.reply, TransportAnswer.newkeys, next_cookie, CompletingAnswer}
use Rattle.ssh_model.specs.Protocol.Authentication.Rows.{AuthenticationAnswer.request_too_late, AuthenticationAnswer.request_accepted, AuthenticationAnswer.request_probed, AuthenticationAnswer.request_failed, AuthenticationAnswer.failure, AuthenticationAnswer.success, AuthenticationAnswer.banner, AuthenticationAnswer.key_ok, AuthenticationAnswer}
use Rattle.ssh_model.specs.Protocol.Channels.Connection.{AreReplies, AreReplies.none, AreReplies.reply, reply_message, ConnectionAnswer, ConnectionAnswer.global, ConnectionAnswer.global_success, ConnectionAnswer.global_failure, ConnectionAnswer.opened, ConnectionAnswer.not_opened, ConnectionAnswer.confirmation, ConnectionAnswer.failure, ConnectionAnswer.adjust, ConnectionAnswer.got_data, ConnectionAnswer.got_extended, ConnectionAnswer.eof, ConnectionAnswer.close, ConnectionAnswer.request, ConnectionAnswer.success, ConnectionAnswer.no_success}
use Rattle.ssh_model.specs.Protocol.Sessions.Turns.{IsEncoded, AreEncoded, IsAcceptable, number_of, answer_checks}
use Rattle.ssh_model.proofs.Sessions.Older.{IsNth, nth_map, nth_is, next_after}
use Rattle.ssh_model.proofs.Wire.Payloads.{tag}
use Rattle.ssh_model.proofs.Sessions.Rules.{cookie_of}
use Rattle.ssh_model.proofs.Sessions.Encoding.{sent_other_tag, taken_other_tag, sent_newkeys_tag, taken_newkeys_tag, sent_number, taken_number, encoded_cookie, AllFit, taken_fits, point_fits, reply_fits, sent_fits}
use Rattle.ssh_model.proofs.Sessions.EndKeeps.{End, InStep, Heard, used, IsPlainSent, IsPlainTaken, ArePlain, add_quiet, add_sent, add_taken, add_plain, last_cookie, exchange_fits}
use Rattle.ssh_model.specs.Laws.Checks.{all_passed}
use Rattle.ssh_model.proofs.Sessions.Stages.{level_at_20, level_at_30, level_at_31, ahead_at_21, heard_at_30, heard_at_31, heard_at_21, not_false, second_false}

-- ---- replies

reply_plain : (m : Message) → IsPlainSent (reply_message m)
reply_plain (OpenFailure t) = tt
reply_plain (Close t) = tt
reply_plain m = tt

pub replies_plain : (l : List channel.Item) (items : List Item) → AreReplies l items → ArePlain items
replies_plain l items none = tt
replies_plain l items (reply at m b r) = (reply_plain m, replies_plain _ _ r)

pub encoded_following : (items more : List Item) → AreEncoded (items ++ more) → AreEncoded items × AreEncoded more
encoded_following [] more s = (tt, s)
encoded_following (Sent c m b ∷ items) more s = let r = encoded_following items more s.1 in ((s.0, r.0), r.1)
encoded_following (i ∷ items) more s = encoded_following items more s

-- ---- the turns of an exchange

-- a message that may be taken has its number
pub may_be : {K : Type 0} (p : Parties K) (side : Side) (h : List Item) (m : Msg) (b : List ℕ) → IsAcceptable p side h m b → may_take p side h (message_number m) ≡ true
may_be p side h m b w = let t = tag m b _ w.message_is in sym (ap (λ x. may_take p side h (number_of x)) t.1) ∙ w.read

step_guess : (t : Bool) (out : Bool) (s u : ℕ) → out ≡ true → s ≡ u → InStep (cond t Guessed Exchanging) out s u
step_guess true out s u e f = (e, f)
step_guess false out s u e f = (e, f)

heard_guess : (t : Bool) (n : ℕ) → 0 < n → Heard (cond t Guessed Exchanging) n
heard_guess true n k = k
heard_guess false n k = k

took_kexinit : {K : Type 0} (p : Parties K) (side : Side) (h : List Item) (theirs : Proposal) (b : List ℕ) → length b ≤ largest_packet → IsAcceptable p side h (KexInit theirs) b
    → blocked h ≡ true → End p side h → End p side (Took None (KexInit theirs) b ∷ h)
took_kexinit p side h theirs b n w e v = record {
  in_step = step_guess (is_wrong_guess theirs (own_names p side)) _ _ _ e (level_at_20 (phase p side h) _ side h _ _ _ (may_be p side h _ b w) v.in_step);
  offered = v.offered;
  heard = heard_guess (is_wrong_guess theirs (own_names p side)) _ (omega arith);
  offers_sent = v.offers_sent;
  cookies_used = v.cookies_used;
  fit_sent = v.fit_sent;
  fit_taken = (taken_fits _ (KexInit theirs) b n w.message_is, v.fit_taken);
  line_sent = v.line_sent;
  line_taken = v.line_taken;
  rules = (taken_other_tag _ (KexInit theirs) b tt w.message_is, v.rules);
  numbered = (taken_number _ (KexInit theirs) b w.message_is, v.numbered);
  signed_is = v.signed_is;
}

cookies_fed : (h : List Item) → cookies h ≡ map (λ x. x.cookie) (fed h)
cookies_fed [] = refl
cookies_fed (Fed c s ∷ h) = ap (λ l. c ∷ l) (cookies_fed h)
cookies_fed (i ∷ h) = cookies_fed h

-- a KEXINIT uses the next cookie
pub uses_next : (c : List ℕ) (h : List Item) → has_material h ≡ true → c ≡ next_cookie h → IsOlder (used (messages_sent h)) (cookies h) → IsOlder (c ∷ used (messages_sent h)) (cookies h)
uses_next c h k e o =
    let n : length (used (messages_sent h)) ≡ length (offers (messages_sent h)) = length-map (offers (messages_sent h)) (λ x. cookie_of x.payload) in
    let i : IsNth (next_cookie h) (length (offers (messages_sent h))) (map (λ x. x.cookie) (fed h)) =
    nth_map (λ x. x.cookie) _ _ _ (nth_is no_material _ (fed h) (ltb-true _ _ k)) in
    next_after c _ _ o (rw (n, e, cookies_fed h) i)

-- the pair of a KEXINIT that this end has to answer is kept
pub has_kept : {K : Type 0} (p : Parties K) (side : Side) (h : List Item) (theirs : Proposal) (b : List ℕ) → IsAcceptable p side h (KexInit theirs) b → blocked h ≡ false → has_material h ≡ true
has_kept p side h theirs b w e =
    let checks = all_passed (answer_checks p side h (KexInit theirs)) w.not_refused in
    not_false (has_material h) (second_false (not (blocked h)) (not (has_material h)) (ap not e) checks.1.1.1.0)

-- this end answers with its own
answers_kexinit : {K : Type 0} (p : Parties K) (side : Side) (h : List Item) (theirs : Proposal) (b own : List ℕ) → length b ≤ largest_packet → IsAcceptable p side h (KexInit theirs) b
    → blocked h ≡ false → IsEncoded (KexInit (offer p side false (next_cookie h))) own → End p side h
    → End p side (Sent None (KexInit (offer p side false (next_cookie h))) own ∷ Took None (KexInit theirs) b ∷ h)
answers_kexinit p side h theirs b own n w e s v = record {
  in_step = step_guess (is_wrong_guess theirs (own_names p side)) _ _ _ refl (level_at_20 (phase p side h) _ side h _ _ _ (may_be p side h _ b w) v.in_step);
  offered = omega arith;
  heard = heard_guess (is_wrong_guess theirs (own_names p side)) _ (omega arith);
  offers_sent = omega (arith, rw e at v.offers_sent);
  cookies_used = uses_next _ h (has_kept p side h theirs b w e) (encoded_cookie _ own s) v.cookies_used;
  fit_sent = (sent_fits _ own s, v.fit_sent);
  fit_taken = (taken_fits _ (KexInit theirs) b n w.message_is, v.fit_taken);
  line_sent = v.line_sent;
  line_taken = v.line_taken;
  rules = ((sent_other_tag _ own tt s, λ z. absurd (omega (arith, z, v.offered))), (taken_other_tag _ (KexInit theirs) b tt w.message_is, v.rules));
  numbered = (sent_number _ own s, (taken_number _ (KexInit theirs) b w.message_is, v.numbered));
  signed_is = v.signed_is;
}

-- the server completes
completes_at_server : {K : Type 0} (p : Parties K) (h : List Item) (q k_s q_s g b rb nb : List ℕ) → IsAcceptable p Server h (KexEcdhInit q) b
    → IsEncoded (KexEcdhReply k_s q_s g) rb → IsEncoded NewKeys nb → End p Server h
    → End p Server (Sent None NewKeys nb ∷ Sent None (KexEcdhReply k_s q_s g) rb ∷ Took None (KexEcdhInit q) b ∷ h)
completes_at_server p h q k_s q_s g b rb nb w r s v =
    let st = level_at_30 (phase p Server h) _ h _ _ _ (may_be p Server h _ b w) v.in_step in
    let started = heard_at_30 (phase p Server h) _ h _ (may_be p Server h _ b w) v.heard in
    let room : length (offers (messages_sent h)) ≡ suc (epoch (sent h)) = omega (arith, rw st.0 at v.offers_sent) in
    let fits : AllFit (messages_sent (Sent None (KexEcdhReply k_s q_s g) rb ∷ h)) = (sent_fits _ rb r, v.fit_sent) in
    let fits' : AllFit (messages_taken (Took None (KexEcdhInit q) b ∷ h)) = (point_fits _ q b w.message_is, v.fit_taken) in
    record {
      in_step = (refl, ap suc st.1);
      offered = v.offered;
      heard = started;
      offers_sent = omega (arith, room);
      cookies_used = v.cookies_used;
      fit_sent = (tt, fits);
      fit_taken = fits';
      line_sent = v.line_sent;
      line_taken = v.line_taken;
      rules = (
        (
          record {
            cookie = last_cookie p Server (Sent None (KexEcdhReply k_s q_s g) rb ∷ Took None (KexEcdhInit q) b ∷ h) v.cookies_used room;
            level = sym st.1;
            heard = λ z. omega arith;
            fits = exchange_fits p Server (epoch (sent h)) (Sent None (KexEcdhReply k_s q_s g) rb ∷ Took None (KexEcdhInit q) b ∷ h) fits fits' v.line_sent v.line_taken;
            offered = v.offered;
            offered_there = started;
          },
          sent_newkeys_tag nb s,
        ),
        (sent_other_tag _ rb tt r, (taken_other_tag _ (KexEcdhInit q) b tt w.message_is, v.rules)),
      );
      numbered = (sent_number _ nb s, (sent_number _ rb r, (taken_number _ (KexEcdhInit q) b w.message_is, v.numbered)));
      signed_is = λ e. ap (λ x. exchange p Server (epoch (sent h)) (Sent None (KexEcdhReply k_s q_s g) rb ∷ Took None (KexEcdhInit q) b ∷ h) ∷ x) (v.signed_is e);
    }

-- the client completes
completes_at_client : {K : Type 0} (p : Parties K) (h : List Item) (k_s q_s g b nb : List ℕ) → IsAcceptable p Client h (KexEcdhReply k_s q_s g) b
    → IsEncoded NewKeys nb → End p Client h → End p Client (Sent None NewKeys nb ∷ Took None (KexEcdhReply k_s q_s g) b ∷ h)
completes_at_client p h k_s q_s g b nb w s v =
    let st = level_at_31 (phase p Client h) _ h _ _ _ (may_be p Client h _ b w) v.in_step in
    let started = heard_at_31 (phase p Client h) _ h _ (may_be p Client h _ b w) v.heard in
    let room : length (offers (messages_sent h)) ≡ suc (epoch (sent h)) = omega (arith, rw st.0 at v.offers_sent) in
    let fits' : AllFit (messages_taken (Took None (KexEcdhReply k_s q_s g) b ∷ h)) = (reply_fits _ k_s q_s g b w.message_is, v.fit_taken) in
    record {
      in_step = (refl, ap suc st.1);
      offered = v.offered;
      heard = started;
      offers_sent = omega (arith, room);
      cookies_used = v.cookies_used;
      fit_sent = (tt, v.fit_sent);
      fit_taken = fits';
      line_sent = v.line_sent;
      line_taken = v.line_taken;
      rules = (
        (
          record {
            cookie = last_cookie p Client (Took None (KexEcdhReply k_s q_s g) b ∷ h) v.cookies_used room;
            level = sym st.1;
            heard = λ z. omega arith;
            fits = exchange_fits p Client (epoch (sent h)) (Took None (KexEcdhReply k_s q_s g) b ∷ h) v.fit_sent fits' v.line_sent v.line_taken;
            offered = v.offered;
            offered_there = started;
          },
          sent_newkeys_tag nb s,
        ),
        (taken_other_tag _ (KexEcdhReply k_s q_s g) b tt w.message_is, v.rules),
      );
      numbered = (sent_number _ nb s, (taken_number _ (KexEcdhReply k_s q_s g) b w.message_is, v.numbered));
      signed_is = λ e. absurd (cc e);
    }

took_newkeys : {K : Type 0} (p : Parties K) (side : Side) (h : List Item) (b : List ℕ) → IsAcceptable p side h NewKeys b → End p side h → End p side (Took None NewKeys b ∷ h)
took_newkeys p side h b w v =
    let st = ahead_at_21 (phase p side h) _ side h _ _ _ (may_be p side h _ b w) v.in_step in
    record {
      in_step = st.1;
      offered = v.offered;
      heard = heard_at_21 (phase p side h) _ side h _ (may_be p side h _ b w) v.heard;
      offers_sent = v.offers_sent;
      cookies_used = v.cookies_used;
      fit_sent = v.fit_sent;
      fit_taken = (tt, v.fit_taken);
      line_sent = v.line_sent;
      line_taken = v.line_taken;
      rules = ((omega (arith, st.1), taken_newkeys_tag _ b w.message_is), v.rules);
      numbered = (taken_number _ NewKeys b w.message_is, v.numbered);
      signed_is = v.signed_is;
    }

-- ---- the rows

module _ {K : Type 0} (p : Parties K) where
  -- a row that takes and sends nothing of an exchange
  plain : (side : Side) (h items : List Item) (c : Option ℕ) (m : Msg) (b : List ℕ) → IsPlainTaken m → ArePlain items → length b ≤ largest_packet → IsAcceptable p side h m b
      → AreEncoded items → End p side h → End p side (items ++ (Took c m b ∷ h))
  plain side h items c m b t q n w s v = add_plain p side items (Took c m b ∷ h) q s (add_taken p side c m b _ h t n w.message_is v)

  pub transport_keeps : (side : Side) (h items : List Item) (m : Msg) (b : List ℕ) → TransportAnswer p side h m items → length b ≤ largest_packet
      → IsAcceptable p side h m b → AreEncoded items → End p side h → End p side (items ++ (Took None m b ∷ h))
  transport_keeps side h items m b (disconnect r d l) n w s v = plain side h items None m b tt (tt, (tt, tt)) n w s v
  transport_keeps side h items m b (ignore x) n w s v = plain side h items None m b tt (tt, tt) n w s v
  transport_keeps side h items m b (unimplemented x) n w s v = plain side h items None m b tt (tt, tt) n w s v
  transport_keeps side h items m b (debug x y z) n w s v = plain side h items None m b tt (tt, tt) n w s v
  transport_keeps side h items m b (unknown x y) n w s v = plain side h items None m b tt (tt, tt) n w s v
  transport_keeps side h items m b (service_request x y) n w s v = plain side h items None m b tt (tt, tt) n w s v
  transport_keeps side h items m b (service_accept x) n w s v = plain side h items None m b tt (tt, tt) n w s v
  transport_keeps side h items m b (kexinit_at_server theirs e) n w s v = took_kexinit p Server h theirs b n w e v
  transport_keeps side h items m b (kexinit_at_client theirs y e) n w s v =
      add_sent p Client None _ y _ tt s.0 (took_kexinit p Client h theirs b n w e v)
  transport_keeps side h items m b (answered_at_server theirs own e) n w s v = answers_kexinit p Server h theirs b own n w e s.0 v
  transport_keeps side h items m b (answered_at_client theirs own y e) n w s v =
      add_sent p Client None _ y _ tt s.0 (answers_kexinit p Client h theirs b own n w e s.1.0 v)
  transport_keeps side h items m b (extensions a) n w s v = plain side h items None m b tt (tt, tt) n w s v
  transport_keeps side h items m b newkeys n w s v = took_newkeys p side h b w v

  pub completion_keeps : (side : Side) (h owed items : List Item) (m : Msg) (b : List ℕ) → CompletingAnswer p owed side h m items → ArePlain owed
      → IsAcceptable p side h m b → AreEncoded items → End p side h → End p side (items ++ (Took None m b ∷ h))
  completion_keeps side h owed items m b (init q rb nb (IsAnnounced.extensions xb f)) o w s v =
      let t = encoded_following owed _ s in
      let e = add_sent p Server None _ xb _ tt t.1.0 (completes_at_server p h q _ _ _ b rb nb w t.1.1.1.0 t.1.1.0 v) in
      add_quiet p Server _ _ tt (rw (append_assoc owed (Sent None _ xb ∷ Sent None NewKeys nb ∷ Sent None _ rb ∷ []) (Took None (KexEcdhInit q) b ∷ h)) (add_plain p Server owed _ o t.0 e))
  completion_keeps side h owed items m b (init q rb nb (IsAnnounced.nothing f)) o w s v =
      let t = encoded_following owed _ s in
      let e = completes_at_server p h q _ _ _ b rb nb w t.1.1.0 t.1.0 v in
      add_quiet p Server _ _ tt (rw (append_assoc owed (Sent None NewKeys nb ∷ Sent None _ rb ∷ []) (Took None (KexEcdhInit q) b ∷ h)) (add_plain p Server owed _ o t.0 e))
  completion_keeps side h owed items m b (reply k_s q_s g nb (IsAnnounced.extensions xb f)) o w s v =
      let t = encoded_following owed _ s in
      let e = add_sent p Client None _ xb _ tt t.1.0 (completes_at_client p h k_s q_s g b nb w t.1.1.0 v) in
      add_quiet p Client _ _ tt (rw (append_assoc owed (Sent None _ xb ∷ Sent None NewKeys nb ∷ []) (Took None (KexEcdhReply k_s q_s g) b ∷ h)) (add_plain p Client owed _ o t.0 e))
  completion_keeps side h owed items m b (reply k_s q_s g nb (IsAnnounced.nothing f)) o w s v =
      let t = encoded_following owed _ s in
      let e = completes_at_client p h k_s q_s g b nb w t.1.0 v in
      add_quiet p Client _ _ tt (rw (append_assoc owed (Sent None NewKeys nb ∷ []) (Took None (KexEcdhReply k_s q_s g) b ∷ h)) (add_plain p Client owed _ o t.0 e))

  pub authentication_keeps : (side : Side) (h items : List Item) (m : Msg) (b : List ℕ) → AuthenticationAnswer p side h m items → length b ≤ largest_packet
      → IsAcceptable p side h m b → AreEncoded items → End p side h → End p side (items ++ (Took None m b ∷ h))
  authentication_keeps side h items m b (request_too_late x y z e) n w s v = plain side h items None m b tt (tt, tt) n w s v
  authentication_keeps side h items m b (request_accepted x y z c e f) n w s v = plain side h items None m b tt (tt, (tt, tt)) n w s v
  authentication_keeps side h items m b (request_probed x y a k c e f) n w s v = plain side h items None m b tt (tt, tt) n w s v
  authentication_keeps side h items m b (request_failed x y z c e f) n w s v = plain side h items None m b tt (tt, tt) n w s v
  authentication_keeps side h items m b (failure x y) n w s v = plain side h items None m b tt (tt, tt) n w s v
  authentication_keeps side h items m b (success way e) n w s v = plain side h items None m b tt (tt, tt) n w s v
  authentication_keeps side h items m b (banner x y) n w s v = plain side h items None m b tt (tt, tt) n w s v
  authentication_keeps side h items m b (key_ok x y) n w s v = plain side h items None m b tt (tt, tt) n w s v

  pub connection_keeps : (side : Side) (h items : List Item) (c : Option ℕ) (m : Msg) (b : List ℕ) → ConnectionAnswer side h c m items → length b ≤ largest_packet
      → IsAcceptable p side h m b → AreEncoded items → End p side h → End p side (items ++ (Took c m b ∷ h))
  connection_keeps side h items c m b (global x y z) n w s v = plain side h items c m b tt (tt, tt) n w s v
  connection_keeps side h items c m b (global_success z) n w s v = plain side h items c m b tt (tt, tt) n w s v
  connection_keeps side h items c m b global_failure n w s v = plain side h items c m b tt (tt, tt) n w s v
  connection_keeps side h items c m b (opened x k a d e f g) n w s v = plain side h items c m b tt (tt, tt) n w s v
  connection_keeps side h items c m b (not_opened k a d e f g r) n w s v = plain side h items c m b tt (replies_plain _ _ r) n w s v
  connection_keeps side h items c m b (confirmation a d e f g) n w s v = plain side h items c m b tt (tt, tt) n w s v
  connection_keeps side h items c m b (failure a d e f) n w s v = plain side h items c m b tt (tt, tt) n w s v
  connection_keeps side h items c m b (adjust a d) n w s v = plain side h items c m b tt (tt, tt) n w s v
  connection_keeps side h items c m b (got_data a d) n w s v = plain side h items c m b tt (tt, tt) n w s v
  connection_keeps side h items c m b (got_extended a d e) n w s v = plain side h items c m b tt (tt, tt) n w s v
  connection_keeps side h items c m b (eof a) n w s v = plain side h items c m b tt (tt, tt) n w s v
  connection_keeps side h items c m b (close a r) n w s v = plain side h items c m b tt (tt, replies_plain _ _ r) n w s v
  connection_keeps side h items c m b (request a d e f) n w s v = plain side h items c m b tt (tt, tt) n w s v
  connection_keeps side h items c m b (success a) n w s v = plain side h items c m b tt (tt, tt) n w s v
  connection_keeps side h items c m b (no_success a) n w s v = plain side h items c m b tt (tt, tt) n w s v
