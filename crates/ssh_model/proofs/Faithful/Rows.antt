-- Each message with which an end answers is one that it may send where it stands.
use Rattle.std.proofs.Common.{◌≡◌, ℕ, zero, suc, ◌<◌, ◌≤◌, List, [], ◌∷◌, ◌++◌, refl, ap, sym, ◌∙◌, arith, subst, append_assoc, Bool, true, false, cond, ◌==◌, ◌&&◌, eqb-true, Option, Some, None}
use Rattle.std.proofs.lemmas.Bool.{leb-true}
use Rattle.ssh_model.specs.declared.side.Side.{Side}
use Rattle.ssh_model.specs.declared.side.Side.TheVariants.{Client, Server}
use Rattle.ssh_model.specs.Protocol.Wire.Message.{Msg, Msg.NewKeys, Msg.KexInit, Msg.KexEcdhInit, Msg.KexEcdhReply, Msg.ServiceRequest, Msg.UserauthRequest, Msg.UserauthSuccess, Proposal, Method, message_number}
use Rattle.ssh_model.specs.Protocol.Sessions.Parties.{Parties, AreLawful, is_required, settings_of}
use Rattle.ssh_model.specs.Protocol.Sessions.Items.{Ask, Item, Item.Asked, Item.Sent, Item.Took, sent, took}
use Rattle.ssh_model.specs.Protocol.Sessions.Epochs.{epoch}
use Rattle.ssh_model.specs.Protocol.KeyExchange.Exchanges.{peer_takes_extensions}
use Rattle.ssh_model.specs.Protocol.Sessions.Phases.{Phase, Phase.Start, Phase.Guessed, Phase.Exchanging, Phase.Keying, Phase.Normal, phase, may_take_in, blocked, authenticated, sent_success, took_success, took_service_request, sent_service_accept}
use Rattle.ssh_model.specs.Protocol.Channels.Message.{Message, Message.Open, Message.OpenFailure, Message.Close}
use Rattle.ssh_model.specs.Protocol.Channels.Notes.{Note}
use Rattle.ssh_model.specs.Protocol.Channels.Numbers.{has_closed}
use Rattle.ssh_model.specs.Protocol.Channels.History as channel
use Rattle.ssh_model.specs.Protocol.Channels.History.{at_once, due, owed, noted}
use Rattle.ssh_model.specs.Protocol.Channels.Connection.{notes, channel_items, owed_replies}
use Rattle.ssh_model.specs.Laws.Checks.{all_passed}
use Rattle.ssh_model.specs.Protocol.Sessions.Transport.{announces, TransportAnswer, TransportAnswer.disconnect, TransportAnswer.ignore, TransportAnswer.unimplemented, TransportAnswer.debug, TransportAnswer.unknown, TransportAnswer.service_request, TransportAnswer.service_accept, TransportAnswer.extensions, IsAnnounced.extensions as announced_extensions, IsAnnounced.nothing as announced_nothing, TransportAnswer.kexinit_at_server, TransportAnswer.kexinit_at_client, TransportAnswer.answered_at_server, TransportAnswer.answered_at_client, CompletingAnswer.init, CompletingAnswer.reply, TransportAnswer.newkeys, TransportAsk.disconnect, CompletingAnswer}
use Rattle.ssh_model.specs.Protocol.Authentication.Rows.{AuthenticationAnswer.request_too_late, AuthenticationAnswer.request_accepted, AuthenticationAnswer.request_probed, AuthenticationAnswer.request_failed, AuthenticationAnswer.banner, AuthenticationAnswer.key_ok, AuthenticationAsk.none, AuthenticationAnswer}
use Rattle.ssh_model.specs.Protocol.Channels.Connection.{AreReplies, AreReplies.none, AreReplies.reply, reply_message, ConnectionAnswer, ConnectionAnswer.global_success, ConnectionAnswer.global_failure, ConnectionAnswer.not_opened, ConnectionAnswer.confirmation, ConnectionAnswer.got_data, ConnectionAnswer.got_extended, ConnectionAnswer.no_success}
use Rattle.ssh_model.specs.Protocol.Sessions.Turns.{answer_checks, IsAcceptable, EndRun}
use Rattle.ssh_model.specs.Protocol.Sessions.TurnClaims.{KeepsToExchange}
use Rattle.ssh_model.proofs.Sessions.Stages.{and_left, and_right, level_at_30, level_at_31, not_false}
use Rattle.ssh_model.proofs.Sessions.Serving.{Serves, authenticated_at_20, both_ways, is_in, is_in_is, left_or, new_request_at_5, normal_at_5}
use Rattle.ssh_model.proofs.Sessions.EndAnswers.{may_be}
use Rattle.ssh_model.proofs.Sessions.EndKeeps.{End, InStep, extra}
use Rattle.ssh_model.proofs.Sessions.EndTurns.{end_keeps}
use Rattle.ssh_model.proofs.Sessions.Rules.{took_following}
use Rattle.ssh_model.proofs.Sessions.Blocked.{serves}
use Rattle.ssh_model.proofs.Sessions.Sound.{Sound}
use Rattle.ssh_model.proofs.Sessions.SoundTurns.{authenticated_when, end_sound, keyed_when, none_owed, without_channels}
use Rattle.ssh_model.proofs.AnyPeer.Keeps.{Grounds, Known, PointsIn}
use Rattle.ssh_model.proofs.AnyPeer.Rows.{end_known, points_at_31}
use Rattle.ssh_model.proofs.AnyPeer.Tally.{Tally, end_tally}
use Rattle.ssh_model.proofs.Faithful.Sendable.{Above, AllSends, AnswerAt, Normally, OffersAt, Sendable, Stands}

-- what is known of an end between two turns
pub record Now {K : Type 0} (p : Parties K) (side : Side) (h : List Item) : Type 0 where
  pub end : End p side h
  pub known : Known true p side h
  pub serves : Serves p side h
  pub tally : Tally p side h
  pub sound : Sound p side h

pub now : {K : Type 0} (p : Parties K) → AreLawful p → (side : Side) (h : List Item) → EndRun p side h → Now p side h
now p laws side h r = record { end = end_keeps p laws side h r; known = end_known p laws side h r; serves = serves p laws side h r; tally = end_tally p side h r; sound = end_sound p laws side h r }

-- ---- where it stands

level_points : (ph : Phase) (out : Bool) (n s t : ℕ) → InStep ph out s t → PointsIn ph n t → out ≡ false → n ≡ s
level_points Start out n s t i k e = absurd (both_ways out i.0 e)
level_points Guessed out n s t i k e = absurd (both_ways out i.0 e)
level_points Exchanging out n s t i k e = absurd (both_ways out i.0 e)
level_points Keying out n s t i k e = k ∙ sym i.1
level_points Normal out n s t i k e = k ∙ sym i

pub when_not : (t : Bool) → (t ≡ true → ⊥) → t ≡ false
when_not true f = absurd (f refl)
when_not false f = refl

pub positive : (n : ℕ) → (n == 0) ≡ false → 0 < n
positive zero e = absurd (cc e)
positive (suc n) e = omega arith

module _ {K : Type 0} (p : Parties K) where
  pub level : (side : Side) (h : List Item) → blocked h ≡ false → Now p side h → Stands side 0 0 h
  level Client h e v = record {
    offers = omega (arith, v.end.offers_sent, ap extra e);
    points = λ z. omega (arith, level_points (phase p Client h) _ _ _ _ v.end.in_step (v.known.counted refl).pointed e);
    replies = λ z. absurd (cc z);
  }
  level Server h e v = record {
    offers = omega (arith, v.end.offers_sent, ap extra e);
    points = λ z. absurd (cc z);
    replies = λ z. omega (arith, v.known.answered refl);
  }

  pub normally : (side : Side) (h : List Item) → (blocked h ≡ true → ⊥) → 0 < epoch (took h) → Now p side h → Normally side h
  normally side h f k v = record { stands = level side h (when_not (blocked h) f) v; keyed = omega (arith, k, took_following p side h v.end.rules) }

  pub above : (side : Side) (h : List Item) → (blocked h ≡ true → ⊥) → authenticated side h ≡ true → Now p side h → Above side h
  above side h f e v = record { normally = normally side h f (v.sound.keyed e) v; let_in = is_in_is side h e }

-- what an end took or was asked changes none of it
pub asked_stands : (side : Side) (o n : ℕ) (a : Ask) (h : List Item) → Stands side o n h → Stands side o n (Asked a ∷ h)
asked_stands side o n a h v = record { offers = v.offers; points = v.points; replies = v.replies }

took_stands : (side : Side) (o n : ℕ) (c : Option ℕ) (m : Msg) (b : List ℕ) (h : List Item) → Stands side o n h → Stands side o n (Took c m b ∷ h)
took_stands side o n c m b h v = record { offers = v.offers; points = v.points; replies = v.replies }

pub asked_normally : (side : Side) (a : Ask) (h : List Item) → Normally side h → Normally side (Asked a ∷ h)
asked_normally side a h v = record { stands = asked_stands side 0 0 a h v.stands; keyed = v.keyed }

took_normally : (side : Side) (c : Option ℕ) (m : Msg) (b : List ℕ) (h : List Item) → Normally side h → Normally side (Took c m b ∷ h)
took_normally side c m b h v = record { stands = took_stands side 0 0 c m b h v.stands; keyed = v.keyed }

pub asked_above : (side : Side) (a : Ask) (h : List Item) → Above side h → Above side (Asked a ∷ h)
asked_above side a h v = record { normally = asked_normally side a h v.normally; let_in = v.let_in }

taken_in : (side : Side) (s t : Bool) → is_in side s t ≡ true → is_in side s true ≡ true
taken_in Client s t e = refl
taken_in Server s t e = e

took_above : (side : Side) (c : Option ℕ) (m : Msg) (b : List ℕ) (h : List Item) → Above side h → Above side (Took c m b ∷ h)
took_above side c UserauthSuccess b h v = record { normally = took_normally side c UserauthSuccess b h v.normally; let_in = taken_in side _ _ v.let_in }
took_above side c m b h v = record { normally = took_normally side c m b h v.normally; let_in = v.let_in }

-- after NEWKEYS
keys : (side : Side) (c : Option ℕ) (b : List ℕ) (h : List Item) → Stands side 1 1 h → Normally side (Sent c NewKeys b ∷ h)
keys side c b h v = record {
  stands = record { offers = omega (arith, v.offers); points = λ e. omega (arith, v.points e); replies = λ e. omega (arith, v.replies e) };
  keyed = omega arith;
}

-- ---- replies

abbrev IsReply : Message → Type 0
IsReply (OpenFailure t) = Unit {0}
IsReply (Close t) = Unit {0}
IsReply m = ⊥

abbrev OnlyReplies : List channel.Item → Type 0
OnlyReplies [] = Unit {0}
OnlyReplies (channel.Item.Sent at m ∷ l) = IsReply m × OnlyReplies l
OnlyReplies (_ ∷ l) = ⊥

if_only : (t : Bool) (a b : List channel.Item) → OnlyReplies a → OnlyReplies b → OnlyReplies (cond t a b)
if_only true a b p q = p
if_only false a b p q = q

joined_only : (a b : List channel.Item) → OnlyReplies a → OnlyReplies b → OnlyReplies (a ++ b)
joined_only [] b p q = q
joined_only (channel.Item.Sent at m ∷ a) b p q = (p.0, joined_only a b p.1 q)
joined_only (i ∷ a) b p q = elim p [ ]

due_only : (at : Option ℕ) (m : Message) (l : List Note) → OnlyReplies (due at m l)
due_only None (Open f w k) l = (tt, tt)
due_only (Some n) (Close to) l = if_only (has_closed n l) [] _ tt (tt, tt)
due_only None m l = tt
due_only (Some n) m l = tt

owed_only : (side : Side) (l : List channel.Item) → OnlyReplies (owed side l)
owed_only side [] = tt
owed_only side (channel.Item.NewkeysSent ∷ l) = tt
owed_only side (channel.Item.Received at m ∷ l) =
    if_only (channel.blocked l) (due at m (noted side l) ++ owed side l) (owed side l) (joined_only (due at m (noted side l)) (owed side l) (due_only at m (noted side l)) (owed_only side l)) (owed_only side l)
owed_only side (channel.Item.Sent at m ∷ l) = owed_only side l
owed_only side (channel.Item.KexinitSent ∷ l) = owed_only side l

-- the end stands so, and each message that it sent was one that it may send
record Sending (side : Side) (h : List Item) : Type 0 where
  pub above : Above side h
  sends : AllSends side h

replied : (side : Side) (at : Option ℕ) (m : Message) (b : List ℕ) (h : List Item) → IsReply m → Sending side h → Sending side (Sent at (reply_message m) b ∷ h)
replied side at (OpenFailure t) b h q v = record {
  above = record { normally = record { stands = record { offers = v.above.normally.stands.offers; points = v.above.normally.stands.points; replies = v.above.normally.stands.replies }; keyed = v.above.normally.keyed }; let_in = v.above.let_in };
  sends = (v.above, v.sends);
}
replied side at (Close t) b h q v = record {
  above = record { normally = record { stands = record { offers = v.above.normally.stands.offers; points = v.above.normally.stands.points; replies = v.above.normally.stands.replies }; keyed = v.above.normally.keyed }; let_in = v.above.let_in };
  sends = (v.above, v.sends);
}
replied side at m b h q v = elim q [ ]

all_replied : (side : Side) (l : List channel.Item) (items h : List Item) → AreReplies l items → OnlyReplies l → Sending side h → Sending side (items ++ h)
all_replied side l items h none q v = v
all_replied side l items h (reply {items = more} at m b r) q v = replied side at m b (more ++ h) q.0 (all_replied side _ more h r q.1 v)

-- a CLOSE or an OPEN_FAILURE at once, if the end is not blocked
at_once_sent : (side : Side) (t : Bool) (l : List channel.Item) (items h : List Item) → AreReplies (at_once t l) items → OnlyReplies l → (t ≡ false → Above side h) → AllSends side h → AllSends side (items ++ h)
at_once_sent side true l items h none q f s = s
at_once_sent side false l items h r q f s = (all_replied side l items h r q (record { above = f refl; sends = s })).sends

module _ {K : Type 0} (p : Parties K) where
  -- the replies that are owed, after NEWKEYS
  owed_sent : (side : Side) (h owed base : List Item) → Now p side h → AreReplies (owed_replies side h) owed → is_in side (sent_success base) (took_success base) ≡ is_in side (sent_success h) (took_success h)
      → Normally side base → AllSends side base → AllSends side (owed ++ base)
  owed_sent side h owed base v r e n s = go (authenticated side h) refl
    where
      nothing : (l : List channel.Item) → l ≡ [] → (items : List Item) → AreReplies l items → items ≡ []
      nothing l f items none = refl
      nothing l f items (reply at m b q) = absurd (cc f)

      go : (t : Bool) → authenticated side h ≡ t → AllSends side (owed ++ base)
      go true f = (all_replied side _ owed base r (owed_only side (channel_items h)) (record { above = record { normally = n; let_in = e ∙ is_in_is side h f }; sends = s })).sends
      go false f =
          let P : List Item → Type 0 = λ l. AllSends side (l ++ base) in
          subst P (sym (nothing (owed_replies side h) (none_owed side (channel_items h) (without_channels p side h v.sound f)) owed r)) s

  -- ---- the rows

  service_accepted : (h : List Item) (s y b : List ℕ) → IsAcceptable p Server h (ServiceRequest s) b → KeepsToExchange (Sent None (Msg.ServiceAccept s) y ∷ Took None (ServiceRequest s) b ∷ h) → Now p Server h
      → Sendable Server None (Msg.ServiceAccept s) (Took None (ServiceRequest s) b ∷ h)
  service_accepted h s y b w k v =
      let r = may_be p Server h (ServiceRequest s) b w in
      let normal = normal_at_5 (phase p Server h) _ Server h r in
      let new = new_request_at_5 h (subst (λ x. may_take_in x (is_required (settings_of p Server).strictness) Server h 5 ≡ true) normal r) in
      record {
        side_is = refl;
        normally = took_normally Server None (ServiceRequest s) b h (normally p Server h (λ e. absurd (cc (k.0 e))) (v.serves.keyed normal) v);
        named = not_false _ (all_passed (answer_checks p Server h (ServiceRequest s)) w.not_refused).0;
        asked = refl;
        first = when_not (sent_service_accept h) (λ e. both_ways (took_service_request h) (v.serves.server refl (left_or (sent_service_accept h) (sent_success h) e)) new);
      }

  authenticated_now : (side : Side) (h : List Item) (theirs : Proposal) (b : List ℕ) → IsAcceptable p side h (KexInit theirs) b → blocked h ≡ false → Now p side h → authenticated side h ≡ true
  authenticated_now side h theirs b w e v = authenticated_at_20 (phase p side h) _ side h _ _ _ (may_be p side h (KexInit theirs) b w) v.end.in_step e

  pub offers_again : (side : Side) (h : List Item) → blocked h ≡ false → authenticated side h ≡ true → Now p side h → OffersAt side h
  offers_again side h e f v = record {
    stands = level p side h e v;
    let_in = λ n. is_in_is side h f;
    first = λ z. absurd (omega (arith, z, v.sound.keyed f, took_following p side h v.end.rules));
  }

  took_offers : (side : Side) (theirs : Proposal) (b : List ℕ) (h : List Item) → OffersAt side h → OffersAt side (Took None (KexInit theirs) b ∷ h)
  took_offers side theirs b h v = record { stands = took_stands side 0 0 None (KexInit theirs) b h v.stands; let_in = v.let_in; first = v.first }

  pub transport_sends : (side : Side) (h items : List Item) (m : Msg) (b : List ℕ) → TransportAnswer p side h m items → IsAcceptable p side h m b → Grounds true p side (items ++ (Took None m b ∷ h)) → KeepsToExchange (items ++ (Took None m b ∷ h))
      → Now p side h → AllSends side h → AllSends side (items ++ (Took None m b ∷ h))
  transport_sends side h items m b (disconnect r d l) w g k v s = s
  transport_sends side h items m b (ignore x) w g k v s = s
  transport_sends side h items m b (unimplemented x) w g k v s = s
  transport_sends side h items m b (debug x y z) w g k v s = s
  transport_sends side h items m b (unknown x y) w g k v s = (tt, s)
  transport_sends side h items m b (service_request x y) w g k v s = (service_accepted h x y b w k v, s)
  transport_sends side h items m b (service_accept x) w g k v s = s
  transport_sends side h items m b (kexinit_at_server theirs e) w g k v s = s
  transport_sends side h items m b (kexinit_at_client theirs y e) w g k v s =
      let stands : Stands Client 1 0 (Took None (KexInit theirs) b ∷ h) = record { offers = omega (arith, v.end.offers_sent, ap extra e); points = λ z. omega (arith, g.0.level); replies = λ z. absurd (cc z) } in
      ((refl, stands), s)
  transport_sends side h items m b (answered_at_server theirs own e) w g k v s =
      (took_offers Server theirs b h (offers_again Server h e (authenticated_now Server h theirs b w e v) v), s)
  transport_sends side h items m b (answered_at_client theirs own y e) w g k v s =
      let o = took_offers Client theirs b h (offers_again Client h e (authenticated_now Client h theirs b w e v) v) in
      let stands : Stands Client 1 0 (Sent None (KexInit _) own ∷ Took None (KexInit theirs) b ∷ h) = record { offers = omega (arith, o.stands.offers); points = λ z. omega (arith, g.0.level); replies = λ z. absurd (cc z) } in
      ((refl, stands), (o, s))
  transport_sends side h items m b (extensions a) w g k v s = s
  transport_sends side h items m b newkeys w g k v s = s

  at_reply : (h : List Item) (q b : List ℕ) → IsAcceptable p Server h (KexEcdhInit q) b → Now p Server h → Stands Server 1 0 (Took None (KexEcdhInit q) b ∷ h)
  at_reply h q b w v =
      let at = level_at_30 (phase p Server h) _ h _ _ _ (may_be p Server h (KexEcdhInit q) b w) v.end.in_step in
      record { offers = omega (arith, v.end.offers_sent, ap extra at.0); points = λ z. absurd (cc z); replies = λ z. omega (arith, v.known.answered refl) }

  at_newkeys_of_server : (h : List Item) (k q s b : List ℕ) → Stands Server 1 0 h → Stands Server 1 1 (Sent None (KexEcdhReply k q s) b ∷ h)
  at_newkeys_of_server h k q s b v = record { offers = v.offers; points = λ z. absurd (cc z); replies = λ z. omega (arith, v.replies z) }

  at_newkeys_of_client : (h : List Item) (k q s b : List ℕ) → IsAcceptable p Client h (KexEcdhReply k q s) b → Now p Client h → Stands Client 1 1 (Took None (KexEcdhReply k q s) b ∷ h)
  at_newkeys_of_client h k q s b w v =
      let r = may_be p Client h (KexEcdhReply k q s) b w in
      let at = level_at_31 (phase p Client h) _ h _ _ _ r v.end.in_step in
      record {
        offers = omega (arith, v.end.offers_sent, ap extra at.0);
        points = λ z. omega (arith, points_at_31 (phase p Client h) _ h _ _ r (v.known.counted refl).pointed, at.1);
        replies = λ z. absurd (cc z);
      }

  announced_first : (side : Side) (h : List Item) → announces p side h ≡ true → (epoch (sent h) ≡ 0) × (peer_takes_extensions side h ≡ true)
  announced_first side h e = (eqb-true _ 0 (and_left (epoch (sent h) == 0) _ (and_left (epoch (sent h) == 0 && _) _ e)), and_right (epoch (sent h) == 0 && _) _ e)

  extended : (side : Side) (c : Option ℕ) (e : List _) (b : List ℕ) (h : List Item) → Normally side h → Normally side (Sent c (Msg.ExtInfo e) b ∷ h)
  extended side c e b h v = record { stands = record { offers = v.stands.offers; points = v.stands.points; replies = v.stands.replies }; keyed = v.keyed }

  pub completion_sends : (side : Side) (h owed items : List Item) (m : Msg) (b : List ℕ) → CompletingAnswer p owed side h m items → AreReplies (owed_replies side h) owed → IsAcceptable p side h m b
      → Now p side h → AllSends side h → AllSends side (items ++ (Took None m b ∷ h))
  completion_sends side h owed items m b (init q rb nb (announced_extensions xb f)) o w v s =
      let at = at_reply h q b w v in
      let n = keys Server None nb _ (at_newkeys_of_server _ _ _ _ rb at) in
      let first = announced_first Server h f in
      let t = owed_sent Server h owed _ v o refl (extended Server None _ xb _ n) (record { normally = n; first = ap suc first.0; next = refl; wanted = first.1 }, (at_newkeys_of_server _ _ _ _ rb at, ((refl, at), s))) in
      rw (append_assoc owed (Sent None _ xb ∷ Sent None NewKeys nb ∷ Sent None _ rb ∷ []) (Took None (KexEcdhInit q) b ∷ h)) t
  completion_sends side h owed items m b (init q rb nb (announced_nothing f)) o w v s =
      let at = at_reply h q b w v in
      let t = owed_sent Server h owed _ v o refl (keys Server None nb _ (at_newkeys_of_server _ _ _ _ rb at)) (at_newkeys_of_server _ _ _ _ rb at, ((refl, at), s)) in
      rw (append_assoc owed (Sent None NewKeys nb ∷ Sent None _ rb ∷ []) (Took None (KexEcdhInit q) b ∷ h)) t
  completion_sends side h owed items m b (CompletingAnswer.reply k_s q_s g nb (announced_extensions xb f)) o w v s =
      let at = at_newkeys_of_client h k_s q_s g b w v in
      let n = keys Client None nb _ at in
      let first = announced_first Client h f in
      let t = owed_sent Client h owed _ v o refl (extended Client None _ xb _ n) (record { normally = n; first = ap suc first.0; next = refl; wanted = first.1 }, (at, s)) in
      rw (append_assoc owed (Sent None _ xb ∷ Sent None NewKeys nb ∷ []) (Took None (KexEcdhReply k_s q_s g) b ∷ h)) t
  completion_sends side h owed items m b (CompletingAnswer.reply k_s q_s g nb (announced_nothing f)) o w v s =
      let at = at_newkeys_of_client h k_s q_s g b w v in
      let t = owed_sent Client h owed _ v o refl (keys Client None nb _ at) (at, s) in
      rw (append_assoc owed (Sent None NewKeys nb ∷ []) (Took None (KexEcdhReply k_s q_s g) b ∷ h)) t

  user_answered : (h : List Item) (u t : List ℕ) (m : Method) (b : List ℕ) → (blocked h ≡ true → ⊥) → sent_success h ≡ false → IsAcceptable p Server h (UserauthRequest u t m) b → Now p Server h
      → AnswerAt Server (Took None (UserauthRequest u t m) b ∷ h)
  user_answered h u t m b f e w v = record {
    side_is = refl;
    normally = took_normally Server None (UserauthRequest u t m) b h (normally p Server h f (keyed_when p Server h (UserauthRequest u t m) b w (omega arith)) v);
    behind = ap suc (v.tally.answered refl e);
  }

  pub authentication_sends : (side : Side) (h items : List Item) (m : Msg) (b : List ℕ) → AuthenticationAnswer p side h m items → IsAcceptable p side h m b → KeepsToExchange (items ++ (Took None m b ∷ h))
      → Now p side h → AllSends side h → AllSends side (items ++ (Took None m b ∷ h))
  authentication_sends side h items m b (request_too_late x y z e) w k v s = s
  authentication_sends side h items m b (request_accepted x y z c e f) w k v s = (user_answered h x y z b (λ t. absurd (cc (k.0 t))) e w v, s)
  authentication_sends side h items m b (request_probed x y a n c e f) w k v s = ((user_answered h x y _ b (λ t. absurd (cc (k.0 t))) e w v, refl), s)
  authentication_sends side h items m b (request_failed x y z c e f) w k v s = (user_answered h x y z b (λ t. absurd (cc (k.0 t))) e w v, s)
  authentication_sends side h items m b (AuthenticationAnswer.failure x y) w k v s = s
  authentication_sends side h items m b (AuthenticationAnswer.success way e) w k v s = s
  authentication_sends side h items m b (banner x y) w k v s = s
  authentication_sends side h items m b (key_ok x y) w k v s = s

  due_sent : (side : Side) (h items : List Item) (c at : Option ℕ) (d : Message) (m : Msg) (b : List ℕ) → AreReplies (at_once (blocked h) (due at d (notes side h))) items → 80 ≤ message_number m → IsAcceptable p side h m b → Now p side h → AllSends side h
      → AllSends side (items ++ (Took c m b ∷ h))
  due_sent side h items c at d m b r n w v s =
      at_once_sent side (blocked h) _ items (Took c m b ∷ h) r (due_only at d (notes side h)) (λ e. took_above side c m b h (above p side h (λ f. both_ways (blocked h) f e) (authenticated_when p side h m b w n) v)) s

  pub connection_sends : (side : Side) (h items : List Item) (c : Option ℕ) (m : Msg) (b : List ℕ) → ConnectionAnswer side h c m items → IsAcceptable p side h m b → Now p side h → AllSends side h
      → AllSends side (items ++ (Took c m b ∷ h))
  connection_sends side h items c m b (not_opened x a d e f g r) w v s = due_sent side h items c None (Open a d e) m b r (leb-true 80 _ refl) w v s
  connection_sends side h items c m b (ConnectionAnswer.close {replies = l} a r) w v s = due_sent side h l c c (Close a) m b r (leb-true 80 _ refl) w v s
  connection_sends side h items c m b (ConnectionAnswer.global x y z) w v s = s
  connection_sends side h items c m b (global_success z) w v s = s
  connection_sends side h items c m b global_failure w v s = s
  connection_sends side h items c m b (ConnectionAnswer.opened x y a d e f g) w v s = s
  connection_sends side h items c m b (confirmation a d e f g) w v s = s
  connection_sends side h items c m b (ConnectionAnswer.failure a d e f) w v s = s
  connection_sends side h items c m b (ConnectionAnswer.adjust a d) w v s = s
  connection_sends side h items c m b (got_data a d) w v s = s
  connection_sends side h items c m b (got_extended a d e) w v s = s
  connection_sends side h items c m b (ConnectionAnswer.eof a) w v s = s
  connection_sends side h items c m b (ConnectionAnswer.request a d e f) w v s = s
  connection_sends side h items c m b (ConnectionAnswer.success a) w v s = s
  connection_sends side h items c m b (no_success a) w v s = s
