-- Each turn of an end keeps what is sound of it.
use Rattle.std.proofs.Common.{◌≡◌, ℕ, ◌<◌, ◌≤◌, List, [], ◌∷◌, ◌++◌, ◌⊎◌, inl, inr, ⊎_elim, refl, ap, sym, ◌∙◌, arith, subst, append_assoc, Bool, true, false, cond, not, nat_le, ◌==◌, eqb-true, Option, Some, None}
use Rattle.std.proofs.lemmas.Bool.{leb-true, cases_lt}
use Rattle.ssh_model.specs.declared.side.Side.{Side}
use Rattle.ssh_model.specs.declared.side.Side.TheVariants.{Client, Server}
use Rattle.ssh_model.specs.Protocol.Side.{part}
use Rattle.ssh_model.specs.Protocol.Wire.Message.{Msg, Msg.NewKeys, Msg.KexInit, Msg.KexEcdhInit, Msg.KexEcdhReply, Msg.UserauthPkOk, Msg.Unknown, Msg.ChannelOpen, Msg.ChannelOpenConfirmation, Msg.ChannelOpenFailure, Msg.ChannelWindowAdjust, Msg.ChannelData, Msg.ChannelExtendedData, Msg.ChannelEof, Msg.ChannelClose, Msg.ChannelRequest, Msg.ChannelSuccess, Msg.ChannelFailure, IsPayload, FitsContext, is_unknown, is_known, message_number}
use Rattle.ssh_model.specs.declared.refusal.Refusal.{Refusal}
use Rattle.ssh_model.specs.declared.refusal.Refusal.TheVariants.{BadMessage, Unexpected}
use Rattle.ssh_model.specs.Protocol.Sessions.Refusals.{first_refusal}
use Rattle.ssh_model.specs.Protocol.Sessions.Parties.{AreLawful, Parties, is_required, settings_of}
use Rattle.ssh_model.specs.Protocol.Sessions.Items.{Ask, Ask.AskOpen, Ask.AskConfirm, Ask.AskRefuse, Ask.AskData, Ask.AskAdjust, Ask.AskEof, Ask.AskClose, Ask.AskRequest, Ask.AskReply, Ask.AskGlobal, Ask.AskGlobalReply, Item, Item.Asked, Item.Sent, Item.Took, Item.TookGuess, sent, took, Done}
use Rattle.ssh_model.specs.Protocol.Sessions.Epochs.{epoch}
use Rattle.ssh_model.specs.Protocol.Sessions.Phases.{Phase, Phase.Guessed, Phase.Normal, phase, authenticated, may_take, may_take_in}
use Rattle.ssh_model.specs.Protocol.Sessions.Claims.{HasConnection}
use Rattle.ssh_model.specs.Protocol.Channels.Message.{Message, Message.OpenFailure, Message.Close}
use Rattle.ssh_model.specs.Protocol.Channels.History as channel
use Rattle.ssh_model.specs.Protocol.Channels.History.{owed, blocked, noted}
use Rattle.ssh_model.specs.Protocol.Sessions.Transport.{TransportAnswer, TransportAnswer.disconnect, TransportAnswer.ignore, TransportAnswer.unimplemented, TransportAnswer.debug, TransportAnswer.unknown, TransportAnswer.service_request, TransportAnswer.service_accept, TransportAnswer.extensions, IsAnnounced, TransportAnswer.kexinit_at_server, TransportAnswer.kexinit_at_client, TransportAnswer.answered_at_server, TransportAnswer.answered_at_client, CompletingAnswer.init, CompletingAnswer.reply, TransportAnswer.newkeys, TransportAsk.service, TransportAsk.rekey, TransportAsk.disconnect, CompletingAnswer}
use Rattle.ssh_model.specs.Protocol.Authentication.Rows.{AuthenticationAnswer.request_too_late, AuthenticationAnswer.request_accepted, AuthenticationAnswer.request_probed, AuthenticationAnswer.request_failed, AuthenticationAnswer.failure, AuthenticationAnswer.success, AuthenticationAnswer.banner, AuthenticationAnswer.key_ok, AuthenticationAsk.none, AuthenticationAsk.password, AuthenticationAsk.probe, AuthenticationAsk.sign, AuthenticationAnswer}
use Rattle.ssh_model.specs.Protocol.Channels.Connection.{channel_items, owed_replies, AreReplies, AreReplies.none, AreReplies.reply, reply_message, ConnectionAnswer, ConnectionAnswer.global, ConnectionAnswer.global_success, ConnectionAnswer.global_failure, ConnectionAnswer.opened, ConnectionAnswer.not_opened, ConnectionAnswer.confirmation, ConnectionAnswer.failure, ConnectionAnswer.adjust, ConnectionAnswer.got_data, ConnectionAnswer.got_extended, ConnectionAnswer.eof, ConnectionAnswer.close, ConnectionAnswer.request, ConnectionAnswer.success, ConnectionAnswer.no_success, ConnectionAsk.opens, ConnectionAsk.confirm, ConnectionAsk.refuse, ConnectionAsk.sends, ConnectionAsk.sends_extended, ConnectionAsk.adjust, ConnectionAsk.eof, ConnectionAsk.close, ConnectionAsk.request, ConnectionAsk.reply_yes, ConnectionAsk.reply_no, ConnectionAsk.global, ConnectionAsk.global_yes, ConnectionAsk.global_no}
use Rattle.ssh_model.specs.Protocol.Sessions.Turns.{IsEncoded, AreEncoded, Refuses, Refuses.silently, Refuses.spent, Refuses.said, IsAcceptable, number_of, Answer, Answer.of_transport, Answer.of_completion, Answer.of_authentication, Answer.of_connection, OnAsk.of_authentication, OnPayload, OnPayload.takes, OnPayload.skips, OnPayload.unexpected, OnPayload.bad_message, OnPayload.refuses, OnPayload.spends, OnOutcome, OnOutcome.other_line, OnOutcome.version_line, OnOutcome.refused_line, OnOutcome.opened, OnOutcome.refused_packet, ask_checks, OnAsk, OnAsk.of_transport, OnAsk.of_connection, FeedsTurn, AsksTurn, AsksTurn.refuses, AsksTurn.spends, OnUnit, OnUnit.reads, Turn, Turn.asks, Turn.reads, IsOpening, EndRun, Run}
use Rattle.ssh_model.specs.Protocol.Wire.Outcome.{Outcome}
use Rattle.ssh_model.proofs.Sessions.EndAnswers.{encoded_following, may_be}
use Rattle.ssh_model.specs.Laws.Checks.{all_passed}
use Rattle.ssh_model.proofs.Sessions.Stages.{not_false, and_right, normal_above, authenticated_above, probing_at_60}
use Rattle.ssh_model.proofs.Sessions.Encoding.{sent_number, taken_number}
use Rattle.ssh_model.proofs.Sessions.Sound.{AllFormed, Sound, IsLow, IsNotSuccess, IsApart, apart_sound, guess_sound, low_sent, high_sent, low_taken, high_taken, success_sent, success_taken, not_success_taken, sent_none}
use Rattle.ssh_model.proofs.Sessions.Rules.{took_following}
use Rattle.ssh_model.proofs.Sessions.EndRuns.{end_run}
use Rattle.ssh_model.proofs.Sessions.EndTurns.{end_keeps}

-- ---- what is welcome

suits_true : (c : Bool) (m : Msg) → FitsContext c m → (message_number m ≡ 60 → c ≡ true) → FitsContext true m
suits_true c (UserauthPkOk a k) s f = refl
suits_true c (Unknown n) s f = go (n == 60) refl
  where
    go : (t : Bool) → (n == 60) ≡ t → is_unknown true n ≡ true
    go true e = subst (λ x. is_unknown x n ≡ true) (f (eqb-true n 60 e)) s
    go false e =
        let one : is_unknown true n ≡ not (is_known n) = ap (λ (t : Bool). cond t (not true) (not (is_known n))) e in
        let two : is_unknown c n ≡ not (is_known n) = ap (λ (t : Bool). cond t (not c) (not (is_known n))) e in
        one ∙ (sym two ∙ s)
suits_true c m s f = s

pub normal_keyed : {K : Type 0} (p : Parties K) (side : Side) (h : List Item) → phase p side h ≡ Normal → 0 < epoch (took h)
normal_keyed p side [] e = absurd (cc e)
normal_keyed p side (Took c NewKeys b ∷ h) e = omega arith
normal_keyed p side (Took c (KexInit o) b ∷ h) e = absurd (go _ e)
  where
    go : (t : Bool) → cond t Guessed Phase.Exchanging ≡ Normal → ⊥
    go true e = cc e
    go false e = cc e
normal_keyed p side (Took c (KexEcdhInit q) b ∷ h) e = absurd (cc e)
normal_keyed p side (Took c (KexEcdhReply k q s) b ∷ h) e = absurd (cc e)
normal_keyed p side (Took c m b ∷ h) e = normal_keyed p side h e
normal_keyed p side (TookGuess b ∷ h) e = absurd (cc e)
normal_keyed p side (i ∷ h) e = normal_keyed p side h e

module _ {K : Type 0} (p : Parties K) where
  pub read_true : (side : Side) (h : List Item) (m : Msg) (b : List ℕ) → IsAcceptable p side h m b → IsPayload true m b
  read_true side h m b w = record {
    context = suits_true _ m w.message_is.context (λ e. probing_at_60 (phase p side h) _ side h (sym (ap (λ n. may_take p side h n) e) ∙ may_be p side h m b w));
    row = w.message_is.row;
  }

  pub normal_when : (side : Side) (h : List Item) (m : Msg) (b : List ℕ) → IsAcceptable p side h m b → 50 ≤ message_number m → phase p side h ≡ Normal
  normal_when side h m b w n = normal_above (phase p side h) _ side h (message_number m) n (may_be p side h m b w)

  pub keyed_when : (side : Side) (h : List Item) (m : Msg) (b : List ℕ) → IsAcceptable p side h m b → 50 ≤ message_number m → 0 < epoch (took h)
  keyed_when side h m b w n = normal_keyed p side h (normal_when side h m b w n)

  pub authenticated_when : (side : Side) (h : List Item) (m : Msg) (b : List ℕ) → IsAcceptable p side h m b → 80 ≤ message_number m → authenticated side h ≡ true
  authenticated_when side h m b w n =
      let e = normal_when side h m b w (omega (arith, n)) in
      authenticated_above side h (message_number m) n (subst (λ x. may_take_in x (is_required (settings_of p side).strictness) side h (message_number m) ≡ true) e (may_be p side h m b w))

-- ---- lists of items

abbrev pub AreLow : List Item → Type 0
AreLow [] = Unit {0}
AreLow (Sent c m b ∷ l) = IsLow m × AreLow l
AreLow (i ∷ l) = IsApart i × AreLow l

low_sound : {K : Type 0} (p : Parties K) (side : Side) (items h : List Item) → AreLow items → AreEncoded items → Sound p side h → Sound p side (items ++ h)
low_sound p side [] h l s v = v
low_sound p side (Sent c m b ∷ items) h l s v = low_sent p side c m b (items ++ h) l.0 s.0 (low_sound p side items h l.1 s.1 v)
low_sound p side (Took c m b ∷ items) h l s v = elim (l.0) [ ]
low_sound p side (TookGuess b ∷ items) h l s v = elim (l.0) [ ]
low_sound p side (i ∷ items) h l s v = apart_sound p side i (items ++ h) tt (low_sound p side items h l.1 s v)

reply_is : (m : Message) → IsNotSuccess (reply_message m)
reply_is (OpenFailure t) = tt
reply_is (Close t) = tt
reply_is m = tt

reply_same : (side : Side) (at : Option ℕ) (m : Message) (b : List ℕ) (h : List Item) → authenticated side (Sent at (reply_message m) b ∷ h) ≡ authenticated side h
reply_same Client at (OpenFailure t) b h = refl
reply_same Client at (Close t) b h = refl
reply_same Client at m b h = refl
reply_same Server at (OpenFailure t) b h = refl
reply_same Server at (Close t) b h = refl
reply_same Server at m b h = refl

reply_epoch : (at : Option ℕ) (m : Message) (b : List ℕ) (h : List Item) → epoch (sent (Sent at (reply_message m) b ∷ h)) ≡ epoch (sent h)
reply_epoch at (OpenFailure t) b h = refl
reply_epoch at (Close t) b h = refl
reply_epoch at m b h = refl

record Replied {K : Type 0} (p : Parties K) (side : Side) (h : List Item) : Type 0 where
  sound : Sound p side h
  same : authenticated side h ≡ true
  keyed : 0 < epoch (sent h)

replies_sound : {K : Type 0} (p : Parties K) (side : Side) (l : List channel.Item) (items h : List Item) → AreReplies l items → AreEncoded items → Replied p side h → Replied p side (items ++ h)
replies_sound p side l items h none s v = v
replies_sound p side l items h (reply {items = more} at m b r) s v =
    let w = replies_sound p side _ more h r s.1 v in
    record {
      sound = high_sent p side at (reply_message m) b (more ++ h) (reply_is m) s.0 w.same w.keyed w.sound;
      same = reply_same side at m b (more ++ h) ∙ w.same;
      keyed = subst (λ n. 0 < n) (sym (reply_epoch at m b (more ++ h))) w.keyed;
    }

-- ---- an end that is not authenticated has nothing of channels

abbrev IsEmpty : List channel.Item → Type 0
IsEmpty [] = Unit {0}
IsEmpty (channel.Item.Sent at m ∷ l) = ⊥
IsEmpty (channel.Item.Received at m ∷ l) = ⊥
IsEmpty (_ ∷ l) = IsEmpty l

on_channel_high : (h : List Item) (c : Option ℕ) (m : Msg) (b : List ℕ) → IsPayload true m b → (HasConnection (took (Took c m b ∷ h)) → ⊥) → 80 ≤ message_number m → ⊥
on_channel_high h c NewKeys b s f n = absurd (omega (arith, n))
on_channel_high h c m b s f n = f (inl (subst (λ x. 80 ≤ x) (sym (taken_number true m b s)) n))

sent_high : (h : List Item) (c : Option ℕ) (m : Msg) (b : List ℕ) → IsEncoded m b → (HasConnection (sent (Sent c m b ∷ h)) → ⊥) → 80 ≤ message_number m → ⊥
sent_high h c NewKeys b s f n = absurd (omega (arith, n))
sent_high h c m b s f n = f (inl (subst (λ x. 80 ≤ x) (sym (sent_number m b s)) n))

no_channels : {K : Type 0} (p : Parties K) (h : List Item) → AllFormed p h → (HasConnection (sent h) → ⊥) → (HasConnection (took h) → ⊥) → IsEmpty (channel_items h)
no_channels p [] f s t = tt
no_channels p (Sent c (KexInit o) b ∷ h) f s t = no_channels p h f.1 (λ x. s (inr x)) t
no_channels p (Sent c NewKeys b ∷ h) f s t = no_channels p h f.1 (λ x. s (inr x)) t
no_channels p (Sent c (ChannelOpen x y z u w) b ∷ h) f s t = absurd (sent_high h c _ b f.0.0 s (leb-true 80 _ refl))
no_channels p (Sent c (ChannelOpenConfirmation x y z u w) b ∷ h) f s t = absurd (sent_high h c _ b f.0.0 s (leb-true 80 _ refl))
no_channels p (Sent c (ChannelOpenFailure x y z u) b ∷ h) f s t = absurd (sent_high h c _ b f.0.0 s (leb-true 80 _ refl))
no_channels p (Sent c (ChannelWindowAdjust x y) b ∷ h) f s t = absurd (sent_high h c _ b f.0.0 s (leb-true 80 _ refl))
no_channels p (Sent c (ChannelData x y) b ∷ h) f s t = absurd (sent_high h c _ b f.0.0 s (leb-true 80 _ refl))
no_channels p (Sent c (ChannelExtendedData x y z) b ∷ h) f s t = absurd (sent_high h c _ b f.0.0 s (leb-true 80 _ refl))
no_channels p (Sent c (ChannelEof a) b ∷ h) f s t = absurd (sent_high h c _ b f.0.0 s (leb-true 80 _ refl))
no_channels p (Sent c (ChannelClose a) b ∷ h) f s t = absurd (sent_high h c _ b f.0.0 s (leb-true 80 _ refl))
no_channels p (Sent c (ChannelRequest x y z u) b ∷ h) f s t = absurd (sent_high h c _ b f.0.0 s (leb-true 80 _ refl))
no_channels p (Sent c (ChannelSuccess a) b ∷ h) f s t = absurd (sent_high h c _ b f.0.0 s (leb-true 80 _ refl))
no_channels p (Sent c (ChannelFailure a) b ∷ h) f s t = absurd (sent_high h c _ b f.0.0 s (leb-true 80 _ refl))
no_channels p (Sent c m b ∷ h) f s t = no_channels p h f.1 (λ x. s (inr x)) t
no_channels p (Took c (ChannelOpen x y z u w) b ∷ h) f s t = absurd (on_channel_high h c _ b f.0.0 t (leb-true 80 _ refl))
no_channels p (Took c (ChannelOpenConfirmation x y z u w) b ∷ h) f s t = absurd (on_channel_high h c _ b f.0.0 t (leb-true 80 _ refl))
no_channels p (Took c (ChannelOpenFailure x y z u) b ∷ h) f s t = absurd (on_channel_high h c _ b f.0.0 t (leb-true 80 _ refl))
no_channels p (Took c (ChannelWindowAdjust x y) b ∷ h) f s t = absurd (on_channel_high h c _ b f.0.0 t (leb-true 80 _ refl))
no_channels p (Took c (ChannelData x y) b ∷ h) f s t = absurd (on_channel_high h c _ b f.0.0 t (leb-true 80 _ refl))
no_channels p (Took c (ChannelExtendedData x y z) b ∷ h) f s t = absurd (on_channel_high h c _ b f.0.0 t (leb-true 80 _ refl))
no_channels p (Took c (ChannelEof a) b ∷ h) f s t = absurd (on_channel_high h c _ b f.0.0 t (leb-true 80 _ refl))
no_channels p (Took c (ChannelClose a) b ∷ h) f s t = absurd (on_channel_high h c _ b f.0.0 t (leb-true 80 _ refl))
no_channels p (Took c (ChannelRequest x y z u) b ∷ h) f s t = absurd (on_channel_high h c _ b f.0.0 t (leb-true 80 _ refl))
no_channels p (Took c (ChannelSuccess a) b ∷ h) f s t = absurd (on_channel_high h c _ b f.0.0 t (leb-true 80 _ refl))
no_channels p (Took c (ChannelFailure a) b ∷ h) f s t = absurd (on_channel_high h c _ b f.0.0 t (leb-true 80 _ refl))
no_channels p (Took c NewKeys b ∷ h) f s t = no_channels p h f.1 s (λ x. t (inr x))
no_channels p (Took c m b ∷ h) f s t = no_channels p h f.1 s (λ x. t (inr x))
no_channels p (TookGuess b ∷ h) f s t = no_channels p h f.1 s (λ x. t (inr x))
no_channels p (i ∷ h) f s t = no_channels p h f.1 s t

pub none_noted : (side : Side) (l : List channel.Item) → IsEmpty l → noted side l ≡ []
none_noted side [] e = refl
none_noted side (channel.Item.Sent at m ∷ l) e = elim e [ ]
none_noted side (channel.Item.Received at m ∷ l) e = elim e [ ]
none_noted side (i ∷ l) e = none_noted side l e

pub none_owed : (side : Side) (l : List channel.Item) → IsEmpty l → owed side l ≡ []
none_owed side [] e = refl
none_owed side (channel.Item.NewkeysSent ∷ l) e = refl
none_owed side (channel.Item.Sent at m ∷ l) e = elim e [ ]
none_owed side (channel.Item.Received at m ∷ l) e = elim e [ ]
none_owed side (i ∷ l) e = none_owed side l e

pub without_channels : {K : Type 0} (p : Parties K) (side : Side) (h : List Item) → Sound p side h → authenticated side h ≡ false → IsEmpty (channel_items h)
without_channels p side h v e = no_channels p h v.formed (λ x. cc (e, v.entitled (inl x))) (λ x. cc (e, v.entitled (inr x)))

owes_none : {K : Type 0} (p : Parties K) (side : Side) (h items : List Item) → Sound p side h → authenticated side h ≡ false → AreReplies (owed_replies side h) items → items ≡ []
owes_none p side h items v e r = go (owed_replies side h) (none_owed side (channel_items h) (without_channels p side h v e)) items r
  where
    go : (l : List channel.Item) → l ≡ [] → (items : List Item) → AreReplies l items → items ≡ []
    go l e items none = refl
    go l e items (reply at m b r) = absurd (cc e)

-- ---- the rows

-- what an end owes is added after NEWKEYS
owed_sound : {K : Type 0} (p : Parties K) (side : Side) (h items g : List Item) → Sound p side h → AreReplies (owed_replies side h) items → AreEncoded items → authenticated side g ≡ authenticated side h
    → 0 < epoch (sent g) → Sound p side g → Sound p side (items ++ g)
owed_sound p side h items g v r s same k w = go (authenticated side h) refl
  where
    go : (t : Bool) → authenticated side h ≡ t → Sound p side (items ++ g)
    go true e = (replies_sound p side _ items g r s (record { sound = w; same = same ∙ e; keyed = k })).sound
    go false e = let P : List Item → Type 0 = λ l. Sound p side (l ++ g) in subst P (sym (owes_none p side h items v e r)) w

module _ {K : Type 0} (p : Parties K) where
  low : (side : Side) (h items : List Item) (c : Option ℕ) (m : Msg) (b : List ℕ) → IsLow m → AreLow items → IsAcceptable p side h m b → AreEncoded items → Sound p side h
      → Sound p side (items ++ (Took c m b ∷ h))
  low side h items c m b t l w s v = low_sound p side items (Took c m b ∷ h) l s (low_taken p side c m b h t (read_true p side h m b w) (keyed_when p side h m b w) v)

  high : (side : Side) (h items : List Item) (c : Option ℕ) (m : Msg) (b : List ℕ) → IsNotSuccess m → 80 ≤ message_number m → AreLow items → IsAcceptable p side h m b → AreEncoded items → Sound p side h
      → Sound p side (items ++ (Took c m b ∷ h))
  high side h items c m b t n l w s v = low_sound p side items (Took c m b ∷ h) l s (high_taken p side c m b h t (read_true p side h m b w) (authenticated_when p side h m b w n) v)

  any_unknown : (side : Side) (h items : List Item) (n : ℕ) (b : List ℕ) → AreLow items → IsAcceptable p side h (Unknown n) b → AreEncoded items → Sound p side h
      → Sound p side (items ++ (Took None (Unknown n) b ∷ h))
  any_unknown side h items n b l w s v = go (cases_lt n 80)
    where
      go : ((n < 80) ⊎ (80 ≤ n)) → Sound p side (items ++ (Took None (Unknown n) b ∷ h))
      go (inl x) = low side h items None (Unknown n) b x l w s v
      go (inr x) = high side h items None (Unknown n) b tt x l w s v

  pub transport_sound : (side : Side) (h items : List Item) (m : Msg) (b : List ℕ) → TransportAnswer p side h m items → IsAcceptable p side h m b → AreEncoded items → Sound p side h → Sound p side (items ++ (Took None m b ∷ h))
  transport_sound side h items m b (disconnect r d l) w s v = low side h items None m b tt (tt, (tt, tt)) w s v
  transport_sound side h items m b (ignore x) w s v = low side h items None m b tt (tt, tt) w s v
  transport_sound side h items m b (unimplemented x) w s v = low side h items None m b tt (tt, tt) w s v
  transport_sound side h items m b (debug x y z) w s v = low side h items None m b tt (tt, tt) w s v
  transport_sound side h items m b (unknown x y) w s v = any_unknown side h items x b (tt, tt) w s v
  transport_sound side h items m b (service_request x y) w s v = low side h items None m b tt (tt, tt) w s v
  transport_sound side h items m b (service_accept x) w s v = low side h items None m b tt (tt, tt) w s v
  transport_sound side h items m b (kexinit_at_server theirs e) w s v = low side h items None m b tt tt w s v
  transport_sound side h items m b (kexinit_at_client theirs y e) w s v = low side h items None m b tt (tt, tt) w s v
  transport_sound side h items m b (answered_at_server theirs own e) w s v = low side h items None m b tt (tt, tt) w s v
  transport_sound side h items m b (answered_at_client theirs own y e) w s v = low side h items None m b tt (tt, (tt, tt)) w s v
  transport_sound side h items m b (extensions a) w s v = low side h items None m b tt (tt, tt) w s v
  transport_sound side h items m b newkeys w s v = low side h items None m b tt tt w s v

  pub completion_sound : (side : Side) (h owed items : List Item) (m : Msg) (b : List ℕ) → CompletingAnswer p owed side h m items → AreReplies (owed_replies side h) owed
      → IsAcceptable p side h m b → AreEncoded items → Sound p side h → Sound p side (items ++ (Took None m b ∷ h))
  completion_sound side h owed items m b (init q rb nb (IsAnnounced.extensions xb f)) o w s v =
      let t = encoded_following owed _ s in
      let g = low side h (Sent None _ xb ∷ Sent None NewKeys nb ∷ Sent None _ rb ∷ []) None m b tt (tt, (tt, (tt, tt))) w t.1 v in
      apart_sound p Server _ _ tt (rw (append_assoc owed (Sent None _ xb ∷ Sent None NewKeys nb ∷ Sent None _ rb ∷ []) (Took None (KexEcdhInit q) b ∷ h)) (owed_sound p Server h owed _ v o t.0 refl (omega arith) g))
  completion_sound side h owed items m b (init q rb nb (IsAnnounced.nothing f)) o w s v =
      let t = encoded_following owed _ s in
      let g = low side h (Sent None NewKeys nb ∷ Sent None _ rb ∷ []) None m b tt (tt, (tt, tt)) w t.1 v in
      apart_sound p Server _ _ tt (rw (append_assoc owed (Sent None NewKeys nb ∷ Sent None _ rb ∷ []) (Took None (KexEcdhInit q) b ∷ h)) (owed_sound p Server h owed _ v o t.0 refl (omega arith) g))
  completion_sound side h owed items m b (reply k_s q_s g nb (IsAnnounced.extensions xb f)) o w s v =
      let t = encoded_following owed _ s in
      let g = low side h (Sent None _ xb ∷ Sent None NewKeys nb ∷ []) None m b tt (tt, (tt, tt)) w t.1 v in
      apart_sound p Client _ _ tt (rw (append_assoc owed (Sent None _ xb ∷ Sent None NewKeys nb ∷ []) (Took None (KexEcdhReply k_s q_s _) b ∷ h)) (owed_sound p Client h owed _ v o t.0 refl (omega arith) g))
  completion_sound side h owed items m b (reply k_s q_s g nb (IsAnnounced.nothing f)) o w s v =
      let t = encoded_following owed _ s in
      let g = low side h (Sent None NewKeys nb ∷ []) None m b tt (tt, tt) w t.1 v in
      apart_sound p Client _ _ tt (rw (append_assoc owed (Sent None NewKeys nb ∷ []) (Took None (KexEcdhReply k_s q_s _) b ∷ h)) (owed_sound p Client h owed _ v o t.0 refl (omega arith) g))

  pub authentication_sound : (side : Side) (h items : List Item) (m : Msg) (b : List ℕ) → AuthenticationAnswer p side h m items → IsAcceptable p side h m b → AreEncoded items → Sound p side h → Sound p side (items ++ (Took None m b ∷ h))
  authentication_sound side h items m b (request_too_late x y z e) w s v = low side h items None m b tt (tt, tt) w s v
  authentication_sound side h items m b (request_accepted x y z c e f) w s v =
      let k = keyed_when p Server h m b w (omega arith) in
      apart_sound p Server _ _ tt (success_sent p None c _ s.0 (f, e, k) k (low_taken p Server None m b h tt (read_true p Server h m b w) (λ n. k) v))
  authentication_sound side h items m b (request_probed x y a k c e f) w s v = low side h items None m b tt (tt, tt) w s v
  authentication_sound side h items m b (request_failed x y z c e f) w s v = low side h items None m b tt (tt, tt) w s v
  authentication_sound side h items m b (failure x y) w s v = low side h items None m b tt (tt, tt) w s v
  authentication_sound side h items m b (success way e) w s v =
      apart_sound p Client _ _ tt (success_taken p None b h (read_true p Client h m b w) (keyed_when p Client h m b w (omega arith)) v)
  authentication_sound side h items m b (banner x y) w s v = low side h items None m b tt (tt, tt) w s v
  authentication_sound side h items m b (key_ok x y) w s v = low side h items None m b tt (tt, tt) w s v

  -- with the replies that are sent at once
  replying : (side : Side) (h items : List Item) (l : List channel.Item) (c : Option ℕ) (m : Msg) (b : List ℕ) → IsNotSuccess m → 80 ≤ message_number m
      → AreReplies l items → IsAcceptable p side h m b → AreEncoded items → epoch (took h) ≤ epoch (sent h) → Sound p side h → Replied p side (items ++ (Took c m b ∷ h))
  replying side h items l c m b t n r w s k v =
      let e = authenticated_when p side h m b w n in
      replies_sound p side l items (Took c m b ∷ h) r s (record {
        sound = high_taken p side c m b h t (read_true p side h m b w) e v;
        same = not_success_taken side c m b h t ∙ e;
        keyed = subst (λ x. 0 < epoch x) (sym (sent_none c m b h)) (omega (arith, k, v.keyed e));
      })

  pub connection_sound : (side : Side) (h items : List Item) (c : Option ℕ) (m : Msg) (b : List ℕ) → ConnectionAnswer side h c m items
      → IsAcceptable p side h m b → AreEncoded items → epoch (took h) ≤ epoch (sent h) → Sound p side h → Sound p side (items ++ (Took c m b ∷ h))
  connection_sound side h items c m b (global x y z) w s n v = high side h items c m b tt (leb-true 80 _ refl) (tt, tt) w s v
  connection_sound side h items c m b (global_success z) w s n v = high side h items c m b tt (leb-true 80 _ refl) (tt, tt) w s v
  connection_sound side h items c m b global_failure w s n v = high side h items c m b tt (leb-true 80 _ refl) (tt, tt) w s v
  connection_sound side h items c m b (opened x k a d e f g) w s n v = high side h items c m b tt (leb-true 80 _ refl) (tt, tt) w s v
  connection_sound side h items c m b (not_opened k a d e f g r) w s n v = (replying side h items _ c m b tt (leb-true 80 _ refl) r w s n v).sound
  connection_sound side h items c m b (confirmation a d e f g) w s n v = high side h items c m b tt (leb-true 80 _ refl) (tt, tt) w s v
  connection_sound side h items c m b (failure a d e f) w s n v = high side h items c m b tt (leb-true 80 _ refl) (tt, tt) w s v
  connection_sound side h items c m b (adjust a d) w s n v = high side h items c m b tt (leb-true 80 _ refl) (tt, tt) w s v
  connection_sound side h items c m b (got_data a d) w s n v = high side h items c m b tt (leb-true 80 _ refl) (tt, tt) w s v
  connection_sound side h items c m b (got_extended a d e) w s n v = high side h items c m b tt (leb-true 80 _ refl) (tt, tt) w s v
  connection_sound side h items c m b (eof a) w s n v = high side h items c m b tt (leb-true 80 _ refl) (tt, tt) w s v
  connection_sound side h items c m b (close a r) w s n v = apart_sound p side _ _ tt (replying side h _ _ c m b tt (leb-true 80 _ refl) r w s n v).sound
  connection_sound side h items c m b (request a d e f) w s n v = high side h items c m b tt (leb-true 80 _ refl) (tt, tt) w s v
  connection_sound side h items c m b (success a) w s n v = high side h items c m b tt (leb-true 80 _ refl) (tt, tt) w s v
  connection_sound side h items c m b (no_success a) w s n v = high side h items c m b tt (leb-true 80 _ refl) (tt, tt) w s v

  -- ---- asks

  plain_ask : (side : Side) (h items : List Item) (a : Ask) → AreLow items → AreEncoded items → Sound p side h → Sound p side (items ++ (Asked a ∷ h))
  plain_ask side h items a l s v = low_sound p side items (Asked a ∷ h) l s (apart_sound p side (Asked a) h tt v)

  -- an ask of the connection
  bold_ask : (side : Side) (h : List Item) (a : Ask) (c : Option ℕ) (m : Msg) (b : List ℕ) → IsNotSuccess m → not (authenticated side h) ≡ false → IsEncoded m b
      → epoch (took h) ≤ epoch (sent h) → Sound p side h → Sound p side (Sent c m b ∷ Asked a ∷ h)
  bold_ask side h a c m b t e s n v =
      let f = not_false (authenticated side h) e in
      high_sent p side c m b (Asked a ∷ h) t s (asked side f) (omega (arith, n, v.keyed f)) (apart_sound p side (Asked a) h tt v)
    where
      asked : (side : Side) → authenticated side h ≡ true → authenticated side (Asked a ∷ h) ≡ true
      asked Client f = f
      asked Server f = f

  ask_sound : (side : Side) (h items : List Item) (a : Ask) → OnAsk p side h a items → first_refusal (ask_checks p side h a) ≡ None → AreEncoded items
      → epoch (took h) ≤ epoch (sent h) → Sound p side h → Sound p side (items ++ (Asked a ∷ h))
  ask_sound side h items a (of_transport (service x)) c s n v = plain_ask side h items a (tt, tt) s v
  ask_sound side h items a (OnAsk.of_authentication (none x y)) c s n v = plain_ask side h items a (tt, tt) s v
  ask_sound side h items a (OnAsk.of_authentication (password x y z)) c s n v = plain_ask side h items a (tt, tt) s v
  ask_sound side h items a (OnAsk.of_authentication (probe x y z b)) c s n v = plain_ask side h items a (tt, tt) s v
  ask_sound side h items a (OnAsk.of_authentication (sign x y z b)) c s n v = plain_ask side h items a (tt, tt) s v
  ask_sound side h items a (of_transport (rekey b)) c s n v = plain_ask side h items a (tt, tt) s v
  ask_sound side h items a (of_transport (disconnect x b)) c s n v = plain_ask side h items a (tt, (tt, tt)) s v
  ask_sound side h items a (of_connection (opens x k d m r b f)) c s n v = apart_sound p side _ _ tt (bold_ask side h a _ _ b tt (all_passed (ask_checks p side h (AskOpen k d m r)) c).0 s.0 n v)
  ask_sound side h items a (of_connection (confirm x d m r b)) c s n v = bold_ask side h a _ _ b tt (all_passed (ask_checks p side h (AskConfirm x d m r)) c).0 s.0 n v
  ask_sound side h items a (of_connection (refuse x r b)) c s n v = bold_ask side h a _ _ b tt (all_passed (ask_checks p side h (AskRefuse x r)) c).0 s.0 n v
  ask_sound side h items a (of_connection (sends x y b)) c s n v = bold_ask side h a _ _ b tt (all_passed (ask_checks p side h (AskData x None y)) c).0 s.0 n v
  ask_sound side h items a (of_connection (sends_extended x k y b)) c s n v = bold_ask side h a _ _ b tt (all_passed (ask_checks p side h (AskData x (Some k) y)) c).0 s.0 n v
  ask_sound side h items a (of_connection (adjust x k b)) c s n v = bold_ask side h a _ _ b tt (all_passed (ask_checks p side h (AskAdjust x k)) c).0 s.0 n v
  ask_sound side h items a (of_connection (eof x b)) c s n v = bold_ask side h a _ _ b tt (all_passed (ask_checks p side h (AskEof x)) c).0 s.0 n v
  ask_sound side h items a (of_connection (close x b)) c s n v = bold_ask side h a _ _ b tt (all_passed (ask_checks p side h (AskClose x)) c).0 s.0 n v
  ask_sound side h items a (of_connection (request x k d r b)) c s n v = bold_ask side h a _ _ b tt (all_passed (ask_checks p side h (AskRequest x k d r)) c).0 s.0 n v
  ask_sound side h items a (of_connection (reply_yes x b)) c s n v = bold_ask side h a _ _ b tt (all_passed (ask_checks p side h (AskReply x true)) c).0 s.0 n v
  ask_sound side h items a (of_connection (reply_no x b)) c s n v = bold_ask side h a _ _ b tt (all_passed (ask_checks p side h (AskReply x false)) c).0 s.0 n v
  ask_sound side h items a (of_connection (global k d r b)) c s n v = bold_ask side h a _ _ b tt (all_passed (ask_checks p side h (AskGlobal k d r)) c).0 s.0 n v
  ask_sound side h items a (of_connection (global_yes r b)) c s n v = bold_ask side h a _ _ b tt (all_passed (ask_checks p side h (AskGlobalReply true r)) c).0 s.0 n v
  ask_sound side h items a (of_connection (global_no r b)) c s n v = bold_ask side h a _ _ b tt (all_passed (ask_checks p side h (AskGlobalReply false r)) c).0 s.0 n v

  -- ---- turns

  refuses_sound : (side : Side) (h items : List Item) (why : Refusal) (b : Option (List ℕ)) → Refuses h why b items → Sound p side h → Sound p side (items ++ h)
  refuses_sound side h items n b (silently e) v = low_sound p side items h (tt, (tt, tt)) tt v
  refuses_sound side h items n b (spent e) v = low_sound p side items h (tt, (tt, tt)) tt v
  refuses_sound side h items n b (said r x e f s) v = low_sound p side items h (tt, (tt, (tt, tt))) (s, tt) v

  answer_sound : (side : Side) (h items : List Item) (c : Option ℕ) (m : Msg) (b : List ℕ) → Answer p side h c m items → IsAcceptable p side h m b → AreEncoded items
      → epoch (took h) ≤ epoch (sent h) → Sound p side h → Sound p side (items ++ (Took c m b ∷ h))
  answer_sound side h items c m b (of_transport a) w s n v = transport_sound side h items m b a w s v
  answer_sound side h items c m b (of_completion r a) w s n v = completion_sound side h _ items m b a r w s v
  answer_sound side h items c m b (of_authentication a) w s n v = authentication_sound side h items m b a w s v
  answer_sound side h items c m b (of_connection a) w s n v = connection_sound side h items c m b a w s n v

  guess_below : (h : List Item) (side : Side) (b : List ℕ) → phase p side h ≡ Guessed → may_take p side h (number_of b) ≡ true → number_of b < 50
  guess_below h side b e m =
      let f = sym (ap (λ x. may_take_in x (is_required (settings_of p side).strictness) side h (number_of b)) e) ∙ m in
      omega (arith, leb-true (number_of b) 49 (and_right (nat_le 30 (number_of b)) (nat_le (number_of b) 49) f))

  payload_sound : (side : Side) (h items : List Item) (b : List ℕ) → OnPayload p side h b items → epoch (took h) ≤ epoch (sent h) → Sound p side h → Sound p side (items ++ h)
  payload_sound side h items b (takes {items = l} c m w a s k) n v = rw append_assoc (answer_sound side h l c m b a w s n v)
  payload_sound side h items b (skips e m) n v = apart_sound p side _ _ tt (guess_sound p side b h (guess_below h side b e m) v)
  payload_sound side h items b (unexpected m r) n v = refuses_sound side h items Unexpected _ r v
  payload_sound side h items b (bad_message m e f r) n v = refuses_sound side h items BadMessage _ r v
  payload_sound side h items b (refuses m k a e f c r) n v = refuses_sound side h items k _ r v
  payload_sound side h items b (spends c m w a s k) n v = apart_sound p side _ _ tt (apart_sound p side _ _ tt v)

  outcome_sound : (side : Side) (h items : List Item) (o : Outcome) → OnOutcome p side h o items → epoch (took h) ≤ epoch (sent h) → Sound p side h → Sound p side (items ++ h)
  outcome_sound side h items o (other_line text) n v = apart_sound p side _ _ tt v
  outcome_sound side h items o (version_line text) n v = apart_sound p side _ _ tt v
  outcome_sound side h items o (refused_line k r) n v = refuses_sound side h items k _ r v
  outcome_sound side h items o (opened b x) n v = payload_sound side h items b x n v
  outcome_sound side h items o (refused_packet k r) n v = refuses_sound side h items k _ r v

  pub turn_sound : (side : Side) (h items : List Item) → Turn p side h items → epoch (took h) ≤ epoch (sent h) → Sound p side h → Sound p side (items ++ h)
  turn_sound side h items (Turn.feeds c s (FeedsTurn.feeds k m)) i v = apart_sound p side _ _ tt v
  turn_sound side h items (asks a (AsksTurn.refuses k alive e)) n v = apart_sound p side _ _ tt (apart_sound p side _ _ tt v)
  turn_sound side h items (asks a (AsksTurn.answers {items = l} alive c o s k)) n v = rw append_assoc (ask_sound side h l a o c s n v)
  turn_sound side h items (asks a (AsksTurn.spends alive c o s k)) n v = apart_sound p side _ _ tt (apart_sound p side _ _ tt (apart_sound p side _ _ tt v))
  turn_sound side h items (reads unit alive (OnUnit.reads o u x)) n v = outcome_sound side h items o x n v
  turn_sound side h items (reads unit alive (OnUnit.dies o u x k)) n v = apart_sound p side _ _ tt v
  turn_sound side h items (asks a (AsksTurn.dies alive c o s k)) n v = apart_sound p side _ _ tt v
  turn_sound side h items (asks a (AsksTurn.is_dead e)) n v = v
  turn_sound side h items (Turn.feeds c s (FeedsTurn.answers_false e)) n v = v

  nothing : (side : Side) → Sound p side []
  nothing Client = record { formed = tt; entitled = ⊎_elim (λ x. elim x [ ]) (λ x. elim x [ ]); keyed = λ e. absurd (cc e) }
  nothing Server = record { formed = tt; entitled = ⊎_elim (λ x. elim x [ ]) (λ x. elim x [ ]); keyed = λ e. absurd (cc e) }

  pub opening_sound : (side : Side) (items : List Item) → IsOpening p side items → Sound p side items
  opening_sound side items o = subst (λ l. Sound p side l) (sym o.items_are)
      (low_sent p side _ _ o.payload _ tt o.is_encoded (apart_sound p side _ _ tt (apart_sound p side _ _ tt (nothing side))))

module _ {K : Type 0} (p : Parties K) (laws : AreLawful p) where
  pub end_sound : (side : Side) (h : List Item) → EndRun p side h → Sound p side h
  end_sound side h (EndRun.start o) = opening_sound p side h o
  end_sound side h (EndRun.then_turn {h = b} {items = items} before turn) =
      turn_sound p side b items turn (took_following p side _ (end_keeps p laws side b before).rules) (end_sound side b before)

  pub sounds : (run : List Done) → Run p run → (side : Side) → Sound p side (part side run)
  sounds run r side = end_sound side _ (end_run p run r side)
