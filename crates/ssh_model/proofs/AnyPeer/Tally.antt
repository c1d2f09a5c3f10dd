-- How many messages of exchanges and of authentication an end sent and took, by where it stands.
use Rattle.std.proofs.Common.{◌≡◌, ℕ, zero, suc, ◌+◌, ◌≤◌, List, [], ◌∷◌, ◌++◌, length, refl, ap, sym, ◌∙◌, arith, subst, append_assoc, Bool, true, false, cond, is_some, ◌==◌, ◌||◌, eqb-true, Option, Some, None}
use Rattle.ssh_model.specs.declared.side.Side.{Side}
use Rattle.ssh_model.specs.declared.side.Side.TheVariants.{Client, Server}
use Rattle.ssh_model.specs.Protocol.Wire.Message.{Msg, Msg.NewKeys, Msg.KexInit, Msg.KexEcdhInit, Msg.KexEcdhReply, Msg.ServiceRequest, Msg.ServiceAccept, Msg.UserauthRequest, Msg.UserauthFailure, Msg.UserauthSuccess, Msg.UserauthPkOk, Msg.Unknown, is_unknown, message_number, Proposal, Method}
use Rattle.ssh_model.specs.Protocol.Sessions.Refusals.{first_refusal}
use Rattle.ssh_model.specs.Protocol.Sessions.Parties.{Parties, is_required, settings_of}
use Rattle.ssh_model.specs.Protocol.Sessions.Items.{Ask, Ask.AskNone, Ask.AskPassword, Ask.AskProbe, Ask.AskSign, Item, Item.Asked, Item.Sent, Item.Took, Item.TookGuess, sent, Encoded, Encoded.EncodedBy, messages_sent, messages_taken}
use Rattle.ssh_model.specs.Protocol.Sessions.Epochs.{epoch}
use Rattle.ssh_model.specs.Protocol.KeyExchange.Exchanges.{offers, points}
use Rattle.ssh_model.specs.Protocol.Sessions.Phases.{Phase, Phase.Start, Phase.Guessed, Phase.Exchanging, Phase.Keying, Phase.Normal, phase, may_take_in, is_wrong_guess, own_names, outstanding, took_success, sent_success, took_service_request, sent_service_accept, is_allowed_during_exchange, is_allowed_at_first, is_probe, authenticated}
use Rattle.ssh_model.specs.Protocol.Channels.Message.{Message, Message.OpenFailure, Message.Close}
use Rattle.ssh_model.specs.Protocol.Channels.History as channel
use Rattle.ssh_model.specs.Laws.Checks.{all_passed}
use Rattle.ssh_model.proofs.Sessions.EndAnswers.{may_be}
use Rattle.ssh_model.proofs.Sessions.Serving.{both_ways, outstanding_at_52}
use Rattle.ssh_model.proofs.Sessions.SoundTurns.{read_true, normal_when}
use Rattle.ssh_model.proofs.Sessions.Stages.{probing_at_60}
use Rattle.ssh_model.specs.Protocol.Sessions.Transport.{TransportAnswer, TransportAnswer.disconnect, TransportAnswer.ignore, TransportAnswer.unimplemented, TransportAnswer.debug, TransportAnswer.unknown, TransportAnswer.service_request, TransportAnswer.service_accept, TransportAnswer.extensions, IsAnnounced, TransportAnswer.kexinit_at_server, TransportAnswer.kexinit_at_client, TransportAnswer.answered_at_server, TransportAnswer.answered_at_client, CompletingAnswer.init, CompletingAnswer.reply, TransportAnswer.newkeys, TransportAsk.service, TransportAsk.rekey, TransportAsk.disconnect, CompletingAnswer}
use Rattle.ssh_model.specs.Protocol.Authentication.Rows.{AuthenticationAnswer.request_too_late, AuthenticationAnswer.request_accepted, AuthenticationAnswer.request_probed, AuthenticationAnswer.request_failed, AuthenticationAnswer.failure, AuthenticationAnswer.success, AuthenticationAnswer.banner, AuthenticationAnswer.key_ok, AuthenticationAsk.none, AuthenticationAsk.password, AuthenticationAsk.probe, AuthenticationAsk.sign, AuthenticationAnswer}
use Rattle.ssh_model.specs.Protocol.Channels.Connection.{AreReplies, AreReplies.none, AreReplies.reply, reply_message, ConnectionAnswer, ConnectionAnswer.global, ConnectionAnswer.global_success, ConnectionAnswer.global_failure, ConnectionAnswer.opened, ConnectionAnswer.not_opened, ConnectionAnswer.confirmation, ConnectionAnswer.failure, ConnectionAnswer.adjust, ConnectionAnswer.got_data, ConnectionAnswer.got_extended, ConnectionAnswer.eof, ConnectionAnswer.close, ConnectionAnswer.request, ConnectionAnswer.success, ConnectionAnswer.no_success, ConnectionAsk.opens, ConnectionAsk.confirm, ConnectionAsk.refuse, ConnectionAsk.sends, ConnectionAsk.sends_extended, ConnectionAsk.adjust, ConnectionAsk.eof, ConnectionAsk.close, ConnectionAsk.request, ConnectionAsk.reply_yes, ConnectionAsk.reply_no, ConnectionAsk.global, ConnectionAsk.global_yes, ConnectionAsk.global_no}
use Rattle.ssh_model.specs.Protocol.Sessions.Turns.{Refuses, Refuses.silently, Refuses.spent, Refuses.said as said_aloud, IsAcceptable, Answer, Answer.of_transport, Answer.of_completion, Answer.of_authentication, Answer.of_connection, OnAsk.of_authentication, OnPayload, OnPayload.takes, OnPayload.skips, OnPayload.unexpected, OnPayload.bad_message, OnOutcome, OnOutcome.other_line, OnOutcome.version_line, OnOutcome.refused_line, OnOutcome.opened, OnOutcome.refused_packet, ask_checks, OnAsk, OnAsk.of_transport, OnAsk.of_connection, FeedsTurn, AsksTurn, OnUnit, OnUnit.reads, Turn, Turn.asks, Turn.reads, EndRun}
use Rattle.ssh_model.specs.Protocol.Wire.Outcome.{Outcome}
use Rattle.ssh_model.specs.declared.refusal.Refusal.{Refusal}
use Rattle.ssh_model.specs.declared.refusal.Refusal.TheVariants.{BadMessage, Unexpected}

-- ---- counting by number

abbrev pub bump : Bool → ℕ → ℕ
bump true n = suc n
bump false n = n

-- how many of these messages have this number
abbrev pub said : ℕ → List Encoded → ℕ
said k [] = 0
said k (EncodedBy m b ∷ l) = bump (message_number m == k) (said k l)

-- and how many answer a request for a user
abbrev pub answers : List Encoded → ℕ
answers l = said 51 l + said 52 l + said 60 l

abbrev pub agreeing : Phase → ℕ
agreeing Guessed = 1
agreeing Exchanging = 1
agreeing _ = 0

abbrev pub bit : Bool → ℕ
bit true = 1
bit false = 0

pub record Tally {K : Type 0} (p : Parties K) (side : Side) (h : List Item) : Type 0 where
  pub heard : length (offers (messages_taken h)) ≡ epoch (sent h) + agreeing (phase p side h)
  pub pointed : side ≡ Server → length (points (messages_taken h)) ≡ epoch (sent h)
  pub served : side ≡ Server → took_service_request h ≡ true → sent_service_accept h ≡ true
  pub let_in : side ≡ Client → took_success h ≡ true → is_some (outstanding h) ≡ false
  pub asked : side ≡ Client → said 50 (messages_sent h) ≡ answers (messages_taken h) + bit (is_some (outstanding h))
  pub answered : side ≡ Server → sent_success h ≡ false → said 50 (messages_taken h) ≡ answers (messages_sent h)

-- ---- items that keep it

abbrev IsDullSent : Msg → Type 0
IsDullSent NewKeys = ⊥
IsDullSent (ServiceAccept s) = ⊥
IsDullSent (UserauthRequest u s m) = ⊥
IsDullSent (UserauthFailure a d) = ⊥
IsDullSent UserauthSuccess = ⊥
IsDullSent (UserauthPkOk a k) = ⊥
IsDullSent (Unknown n) = n ≡ 0
IsDullSent _ = Unit {0}

abbrev IsDullTaken : Msg → Type 0
IsDullTaken (KexInit o) = ⊥
IsDullTaken NewKeys = ⊥
IsDullTaken (KexEcdhInit q) = ⊥
IsDullTaken (KexEcdhReply k q s) = ⊥
IsDullTaken (ServiceRequest s) = ⊥
IsDullTaken (UserauthRequest u s m) = ⊥
IsDullTaken (UserauthFailure a d) = ⊥
IsDullTaken UserauthSuccess = ⊥
IsDullTaken (UserauthPkOk a k) = ⊥
IsDullTaken (Unknown n) = ⊥
IsDullTaken _ = Unit {0}

abbrev IsDull : Item → Type 0
IsDull (Sent c m b) = IsDullSent m
IsDull (Took c m b) = ⊥
IsDull (TookGuess b) = ⊥
IsDull _ = Unit {0}

abbrev AreDull : List Item → Type 0
AreDull [] = Unit {0}
AreDull (i ∷ l) = IsDull i × AreDull l

pub not_number : (n k : ℕ) → is_unknown true n ≡ true → is_unknown true k ≡ false → (n == k) ≡ false
not_number n k e f = go (n == k) refl
  where
    go : (t : Bool) → (n == k) ≡ t → (n == k) ≡ false
    go false g = g
    go true g = absurd (both_ways (is_unknown true n) e (ap (is_unknown true) (eqb-true n k g) ∙ f))

reply_dull : (m : Message) → IsDullSent (reply_message m)
reply_dull (OpenFailure t) = tt
reply_dull (Close t) = tt
reply_dull m = refl

replies_dull : (l : List channel.Item) (items : List Item) → AreReplies l items → AreDull items
replies_dull l items none = tt
replies_dull l items (reply at m b r) = (reply_dull m, replies_dull _ _ r)

module _ {K : Type 0} (p : Parties K) (side : Side) where
  dull_sent : (c : Option ℕ) (m : Msg) (b : List ℕ) (h : List Item) → IsDullSent m → Tally p side h → Tally p side (Sent c m b ∷ h)
  dull_sent c NewKeys b h q v = elim q [ ]
  dull_sent c (ServiceAccept s) b h q v = elim q [ ]
  dull_sent c (UserauthRequest u s m) b h q v = elim q [ ]
  dull_sent c (UserauthFailure a d) b h q v = elim q [ ]
  dull_sent c UserauthSuccess b h q v = elim q [ ]
  dull_sent c (UserauthPkOk a k) b h q v = elim q [ ]
  dull_sent c (Unknown n) b h q v =
      let P : ℕ → Type 0 = λ x. Tally p side (Sent c (Unknown x) b ∷ h) in
      subst P (sym q) (record { heard = v.heard; pointed = v.pointed; served = v.served; let_in = v.let_in; asked = v.asked; answered = v.answered })
  dull_sent c m b h q v = record { heard = v.heard; pointed = v.pointed; served = v.served; let_in = v.let_in; asked = v.asked; answered = v.answered }

  dull_item : (i : Item) (h : List Item) → IsDull i → Tally p side h → Tally p side (i ∷ h)
  dull_item (Sent c m b) h q v = dull_sent c m b h q v
  dull_item (Took c m b) h q v = elim q [ ]
  dull_item (TookGuess b) h q v = elim q [ ]
  dull_item i h q v = record { heard = v.heard; pointed = v.pointed; served = v.served; let_in = v.let_in; asked = v.asked; answered = v.answered }

  dulls : (items h : List Item) → AreDull items → Tally p side h → Tally p side (items ++ h)
  dulls [] h q v = v
  dulls (i ∷ l) h q v = dull_item i (l ++ h) q.0 (dulls l h q.1 v)

  dull_taken : (c : Option ℕ) (m : Msg) (b : List ℕ) (h : List Item) → IsDullTaken m → Tally p side h → Tally p side (Took c m b ∷ h)
  dull_taken c (KexInit o) b h q v = elim q [ ]
  dull_taken c NewKeys b h q v = elim q [ ]
  dull_taken c (KexEcdhInit x) b h q v = elim q [ ]
  dull_taken c (KexEcdhReply k x s) b h q v = elim q [ ]
  dull_taken c (ServiceRequest s) b h q v = elim q [ ]
  dull_taken c (UserauthRequest u s m) b h q v = elim q [ ]
  dull_taken c (UserauthFailure a d) b h q v = elim q [ ]
  dull_taken c UserauthSuccess b h q v = elim q [ ]
  dull_taken c (UserauthPkOk a k) b h q v = elim q [ ]
  dull_taken c (Unknown n) b h q v = elim q [ ]
  dull_taken c m b h q v = record { heard = v.heard; pointed = v.pointed; served = v.served; let_in = v.let_in; asked = v.asked; answered = v.answered }

  dull_step : (h items : List Item) (c : Option ℕ) (m : Msg) (b : List ℕ) → IsDullTaken m → AreDull items → Tally p side h → Tally p side (items ++ (Took c m b ∷ h))
  dull_step h items c m b t q v = dulls items (Took c m b ∷ h) q (dull_taken c m b h t v)

  -- an unknown message
  unknown_taken : (c : Option ℕ) (n : ℕ) (b : List ℕ) (h : List Item) → is_unknown true n ≡ true → Tally p side h → Tally p side (Took c (Unknown n) b ∷ h)
  unknown_taken c n b h u v =
      let no : (k : ℕ) → is_unknown true k ≡ false → (l : List Encoded) → bump (n == k) (said k l) ≡ said k l = λ k f l. ap (λ t. bump t (said k l)) (not_number n k u f) in
      record {
        heard = v.heard;
        pointed = v.pointed;
        served = v.served;
        let_in = v.let_in;
        asked = λ e. omega (arith, v.asked e, no 51 refl (messages_taken h), no 52 refl (messages_taken h), no 60 refl (messages_taken h));
        answered = λ e f. no 50 refl (messages_taken h) ∙ v.answered e f;
      }

-- ---- by what may be taken

no_20 : (s : Bool) (e : ℕ) → is_allowed_during_exchange s e 20 ≡ true → ⊥
no_20 true zero e = cc e
no_20 false zero e = cc e
no_20 s (suc k) e = cc e

no_21 : (s : Bool) (e : ℕ) → is_allowed_during_exchange s e 21 ≡ true → ⊥
no_21 true zero e = cc e
no_21 false zero e = cc e
no_21 s (suc k) e = cc e

no_30 : (s : Bool) (e : ℕ) → is_allowed_during_exchange s e 30 ≡ true → ⊥
no_30 true zero e = cc e
no_30 false zero e = cc e
no_30 s (suc k) e = cc e

no_31 : (s : Bool) (e : ℕ) → is_allowed_during_exchange s e 31 ≡ true → ⊥
no_31 true zero e = cc e
no_31 false zero e = cc e
no_31 s (suc k) e = cc e

lone : (a : Bool) → (a || false) ≡ true → a ≡ true
lone true e = refl
lone false e = e

agreeing_at_20 : (ph : Phase) (r : Bool) (side : Side) (h : List Item) → may_take_in ph r side h 20 ≡ true → agreeing ph ≡ 0
agreeing_at_20 Start r side h e = refl
agreeing_at_20 Guessed r side h e = absurd (cc e)
agreeing_at_20 Exchanging r Client h e = absurd (no_20 _ _ (lone _ e))
agreeing_at_20 Exchanging r Server h e = absurd (no_20 _ _ (lone _ e))
agreeing_at_20 Keying r side h e = absurd (no_20 _ _ (lone _ e))
agreeing_at_20 Normal r side h e = refl

first_21 : (r : Bool) → (is_allowed_at_first r 21 || false) ≡ true → ⊥
first_21 true e = cc e
first_21 false e = cc e

agreeing_at_21 : (ph : Phase) (r : Bool) (side : Side) (h : List Item) → may_take_in ph r side h 21 ≡ true → agreeing ph ≡ 0
agreeing_at_21 Start r side h e = absurd (first_21 r e)
agreeing_at_21 Guessed r side h e = absurd (cc e)
agreeing_at_21 Exchanging r Client h e = absurd (no_21 _ _ (lone _ e))
agreeing_at_21 Exchanging r Server h e = absurd (no_21 _ _ (lone _ e))
agreeing_at_21 Keying r side h e = refl
agreeing_at_21 Normal r side h e = refl

first_30 : (r : Bool) → (is_allowed_at_first r 30 || false) ≡ true → ⊥
first_30 true e = cc e
first_30 false e = cc e

agreeing_at_30 : (ph : Phase) (r : Bool) (h : List Item) → may_take_in ph r Server h 30 ≡ true → agreeing ph ≡ 1
agreeing_at_30 Start r h e = absurd (first_30 r e)
agreeing_at_30 Guessed r h e = refl
agreeing_at_30 Exchanging r h e = refl
agreeing_at_30 Keying r h e = absurd (no_30 _ _ (lone _ e))
agreeing_at_30 Normal r h e = absurd (cc e)

first_31 : (r : Bool) → (is_allowed_at_first r 31 || false) ≡ true → ⊥
first_31 true e = cc e
first_31 false e = cc e

agreeing_at_31 : (ph : Phase) (r : Bool) (h : List Item) → may_take_in ph r Client h 31 ≡ true → agreeing ph ≡ 1
agreeing_at_31 Start r h e = absurd (first_31 r e)
agreeing_at_31 Guessed r h e = refl
agreeing_at_31 Exchanging r h e = refl
agreeing_at_31 Keying r h e = absurd (no_31 _ _ (lone _ e))
agreeing_at_31 Normal r h e = absurd (cc e)

agreeing_guess : (t : Bool) → agreeing (cond t Guessed Exchanging) ≡ 1
agreeing_guess true = refl
agreeing_guess false = refl

outstanding_at_51 : (h : List Item) → may_take_in Normal false Client h 51 ≡ true → is_some (outstanding h) ≡ true
outstanding_at_51 h e = go (is_some (outstanding h)) refl
  where
    go : (t : Bool) → is_some (outstanding h) ≡ t → is_some (outstanding h) ≡ true
    go true f = f
    go false f = absurd (cc (rw f at e))

probe_is_some : (o : Option Method) → is_probe o ≡ true → is_some o ≡ true
probe_is_some None e = e
probe_is_some (Some m) e = refl

-- ---- the rows of an exchange and of authentication

module _ {K : Type 0} (p : Parties K) where
  took_kexinit : (side : Side) (h : List Item) (theirs : Proposal) (b : List ℕ) → IsAcceptable p side h (KexInit theirs) b → Tally p side h → Tally p side (Took None (KexInit theirs) b ∷ h)
  took_kexinit side h theirs b w v = record {
    heard = omega (arith, v.heard, agreeing_at_20 (phase p side h) _ side h (may_be p side h (KexInit theirs) b w), agreeing_guess (is_wrong_guess theirs (own_names p side)));
    pointed = v.pointed;
    served = v.served;
    let_in = v.let_in;
    asked = v.asked;
    answered = v.answered;
  }

  took_newkeys : (side : Side) (h : List Item) (b : List ℕ) → IsAcceptable p side h NewKeys b → Tally p side h → Tally p side (Took None NewKeys b ∷ h)
  took_newkeys side h b w v = record {
    heard = omega (arith, v.heard, agreeing_at_21 (phase p side h) _ side h (may_be p side h NewKeys b w));
    pointed = v.pointed;
    served = v.served;
    let_in = v.let_in;
    asked = v.asked;
    answered = v.answered;
  }

  took_guess : (side : Side) (h : List Item) (b : List ℕ) → phase p side h ≡ Guessed → Tally p side h → Tally p side (TookGuess b ∷ h)
  took_guess side h b e v = record {
    heard = omega (arith, v.heard, ap agreeing e);
    pointed = v.pointed;
    served = v.served;
    let_in = v.let_in;
    asked = v.asked;
    answered = v.answered;
  }

  completes_at_server : (h : List Item) (q k x g b rb nb : List ℕ) → IsAcceptable p Server h (KexEcdhInit q) b → Tally p Server h
      → Tally p Server (Sent None NewKeys nb ∷ Sent None (KexEcdhReply k x g) rb ∷ Took None (KexEcdhInit q) b ∷ h)
  completes_at_server h q k x g b rb nb w v = record {
    heard = omega (arith, v.heard, agreeing_at_30 (phase p Server h) _ h (may_be p Server h (KexEcdhInit q) b w));
    pointed = λ e. omega (arith, v.pointed e);
    served = v.served;
    let_in = v.let_in;
    asked = v.asked;
    answered = v.answered;
  }

  completes_at_client : (h : List Item) (k x g b nb : List ℕ) → IsAcceptable p Client h (KexEcdhReply k x g) b → Tally p Client h
      → Tally p Client (Sent None NewKeys nb ∷ Took None (KexEcdhReply k x g) b ∷ h)
  completes_at_client h k x g b nb w v = record {
    heard = omega (arith, v.heard, agreeing_at_31 (phase p Client h) _ h (may_be p Client h (KexEcdhReply k x g) b w));
    pointed = λ e. absurd (cc e);
    served = v.served;
    let_in = v.let_in;
    asked = v.asked;
    answered = v.answered;
  }

  service_step : (h : List Item) (s t b ab : List ℕ) → Tally p Server h → Tally p Server (Sent None (ServiceAccept t) ab ∷ Took None (ServiceRequest s) b ∷ h)
  service_step h s t b ab v = record { heard = v.heard; pointed = v.pointed; served = λ e f. refl; let_in = v.let_in; asked = v.asked; answered = v.answered }

  -- an answer about a user comes to a client that awaits it
  awaited_answer : (h : List Item) → is_some (outstanding h) ≡ true → Tally p Client h → said 50 (messages_sent h) ≡ suc (answers (messages_taken h))
  awaited_answer h o v = omega (arith, v.asked refl, ap bit o)

  in_normal : (h : List Item) (m : Msg) (b : List ℕ) → 50 ≤ message_number m → IsAcceptable p Client h m b → may_take_in Normal (is_required (settings_of p Client).strictness) Client h (message_number m) ≡ true
  in_normal h m b n w = subst (λ x. may_take_in x (is_required (settings_of p Client).strictness) Client h (message_number m) ≡ true) (normal_when p Client h m b w n) (may_be p Client h m b w)

  failed : (h : List Item) (a : List (List ℕ)) (d : Bool) (b : List ℕ) → IsAcceptable p Client h (UserauthFailure a d) b → Tally p Client h → Tally p Client (Took None (UserauthFailure a d) b ∷ h)
  failed h a d b w v =
      let n = awaited_answer h (outstanding_at_51 h (in_normal h (UserauthFailure a d) b (omega arith) w)) v in
      record { heard = v.heard; pointed = v.pointed; served = v.served; let_in = λ e f. refl; asked = λ e. omega (arith, n); answered = λ e. absurd (cc e) }

  succeeded : (h : List Item) (b : List ℕ) → IsAcceptable p Client h UserauthSuccess b → Tally p Client h → Tally p Client (Took None UserauthSuccess b ∷ h)
  succeeded h b w v =
      let n = awaited_answer h (outstanding_at_52 h (in_normal h UserauthSuccess b (omega arith) w)) v in
      record { heard = v.heard; pointed = v.pointed; served = v.served; let_in = λ e f. refl; asked = λ e. omega (arith, n); answered = λ e. absurd (cc e) }

  approved : (h : List Item) (a k b : List ℕ) → IsAcceptable p Client h (UserauthPkOk a k) b → Tally p Client h → Tally p Client (Took None (UserauthPkOk a k) b ∷ h)
  approved h a k b w v =
      let n = awaited_answer h (probe_is_some (outstanding h) (probing_at_60 (phase p Client h) _ Client h (may_be p Client h (UserauthPkOk a k) b w))) v in
      record { heard = v.heard; pointed = v.pointed; served = v.served; let_in = λ e f. refl; asked = λ e. omega (arith, n); answered = λ e. absurd (cc e) }

  refused_user : (h : List Item) (u s : List ℕ) (m : Method) (l : List (List ℕ)) (d : Bool) (b fb : List ℕ) → sent_success h ≡ false → Tally p Server h
      → Tally p Server (Sent None (UserauthFailure l d) fb ∷ Took None (UserauthRequest u s m) b ∷ h)
  refused_user h u s m l d b fb f v = record { heard = v.heard; pointed = v.pointed; served = v.served; let_in = λ e. absurd (cc e); asked = λ e. absurd (cc e); answered = λ e g. omega (arith, v.answered e f) }

  approved_user : (h : List Item) (u s : List ℕ) (m : Method) (a k b fb : List ℕ) → sent_success h ≡ false → Tally p Server h
      → Tally p Server (Sent None (UserauthPkOk a k) fb ∷ Took None (UserauthRequest u s m) b ∷ h)
  approved_user h u s m a k b fb f v = record { heard = v.heard; pointed = v.pointed; served = v.served; let_in = λ e. absurd (cc e); asked = λ e. absurd (cc e); answered = λ e g. omega (arith, v.answered e f) }

  accepted_user : (h : List Item) (u s : List ℕ) (m : Method) (b fb : List ℕ) → Tally p Server h
      → Tally p Server (Sent None UserauthSuccess fb ∷ Took None (UserauthRequest u s m) b ∷ h)
  accepted_user h u s m b fb v = record { heard = v.heard; pointed = v.pointed; served = v.served; let_in = λ e. absurd (cc e); asked = λ e. absurd (cc e); answered = λ e g. absurd (cc g) }

  late_user : (h : List Item) (u s : List ℕ) (m : Method) (b : List ℕ) → sent_success h ≡ true → Tally p Server h → Tally p Server (Took None (UserauthRequest u s m) b ∷ h)
  late_user h u s m b f v = record { heard = v.heard; pointed = v.pointed; served = v.served; let_in = λ e. absurd (cc e); asked = λ e. absurd (cc e); answered = λ e g. absurd (both_ways (sent_success h) f g) }

  user_at_client : (h : List Item) (a : Ask) (u s : List ℕ) (m : Method) (b : List ℕ) → is_some (outstanding h) ≡ false → took_success h ≡ false → Tally p Client h
      → Tally p Client (Sent None (UserauthRequest u s m) b ∷ Asked a ∷ h)
  user_at_client h a u s m b o f v = record { heard = v.heard; pointed = v.pointed; served = v.served; let_in = λ e g. absurd (both_ways (took_success h) g f); asked = λ e. omega (arith, v.asked e, ap bit o); answered = λ e. absurd (cc e) }

  user_at_server : (h : List Item) (a : Ask) (u s : List ℕ) (m : Method) (b : List ℕ) → Tally p Server h → Tally p Server (Sent None (UserauthRequest u s m) b ∷ Asked a ∷ h)
  user_at_server h a u s m b v = record { heard = v.heard; pointed = v.pointed; served = v.served; let_in = λ e. absurd (cc e); asked = λ e. absurd (cc e); answered = v.answered }

  -- ---- all rows

  transport_tally : (side : Side) (h items : List Item) (m : Msg) (b : List ℕ) → TransportAnswer p side h m items → IsAcceptable p side h m b → Tally p side h → Tally p side (items ++ (Took None m b ∷ h))
  transport_tally side h items m b (disconnect r d l) w v = dull_step p side h items None m b tt (tt, (tt, tt)) v
  transport_tally side h items m b (ignore x) w v = dull_step p side h items None m b tt (tt, tt) v
  transport_tally side h items m b (unimplemented x) w v = dull_step p side h items None m b tt (tt, tt) v
  transport_tally side h items m b (debug x y z) w v = dull_step p side h items None m b tt (tt, tt) v
  transport_tally side h items m b (unknown x y) w v = dulls p side items (Took None m b ∷ h) (tt, tt) (unknown_taken p side None x b h (read_true p side h m b w).context v)
  transport_tally side h items m b (service_request x y) w v = service_step h x x b y v
  transport_tally side h items m b (service_accept x) w v = dull_step p side h items None m b tt (tt, tt) v
  transport_tally side h items m b (kexinit_at_server theirs e) w v = took_kexinit side h theirs b w v
  transport_tally side h items m b (kexinit_at_client theirs y e) w v = dulls p side items (Took None m b ∷ h) (tt, tt) (took_kexinit side h theirs b w v)
  transport_tally side h items m b (answered_at_server theirs own e) w v = dulls p side items (Took None m b ∷ h) (tt, tt) (took_kexinit side h theirs b w v)
  transport_tally side h items m b (answered_at_client theirs own y e) w v = dulls p side items (Took None m b ∷ h) (tt, (tt, tt)) (took_kexinit side h theirs b w v)
  transport_tally side h items m b (extensions a) w v = dull_step p side h items None m b tt (tt, tt) v
  transport_tally side h items m b newkeys w v = took_newkeys side h b w v

  completion_tally : (side : Side) (h owed items : List Item) (m : Msg) (b : List ℕ) → CompletingAnswer p owed side h m items → AreDull owed → IsAcceptable p side h m b → Tally p side h → Tally p side (items ++ (Took None m b ∷ h))
  completion_tally side h owed items m b (init q rb nb (IsAnnounced.extensions xb f)) o w v =
      let e = dulls p Server (Sent None _ xb ∷ []) _ (tt, tt) (completes_at_server h q _ _ _ b rb nb w v) in
      dull_item p Server _ _ tt (rw (append_assoc owed (Sent None _ xb ∷ Sent None NewKeys nb ∷ Sent None _ rb ∷ []) (Took None (KexEcdhInit q) b ∷ h)) (dulls p Server owed _ o e))
  completion_tally side h owed items m b (init q rb nb (IsAnnounced.nothing f)) o w v =
      let e = completes_at_server h q _ _ _ b rb nb w v in
      dull_item p Server _ _ tt (rw (append_assoc owed (Sent None NewKeys nb ∷ Sent None _ rb ∷ []) (Took None (KexEcdhInit q) b ∷ h)) (dulls p Server owed _ o e))
  completion_tally side h owed items m b (reply k_s q_s g nb (IsAnnounced.extensions xb f)) o w v =
      let e = dulls p Client (Sent None _ xb ∷ []) _ (tt, tt) (completes_at_client h k_s q_s g b nb w v) in
      dull_item p Client _ _ tt (rw (append_assoc owed (Sent None _ xb ∷ Sent None NewKeys nb ∷ []) (Took None (KexEcdhReply k_s q_s g) b ∷ h)) (dulls p Client owed _ o e))
  completion_tally side h owed items m b (reply k_s q_s g nb (IsAnnounced.nothing f)) o w v =
      let e = completes_at_client h k_s q_s g b nb w v in
      dull_item p Client _ _ tt (rw (append_assoc owed (Sent None NewKeys nb ∷ []) (Took None (KexEcdhReply k_s q_s g) b ∷ h)) (dulls p Client owed _ o e))

  authentication_tally : (side : Side) (h items : List Item) (m : Msg) (b : List ℕ) → AuthenticationAnswer p side h m items → IsAcceptable p side h m b → Tally p side h → Tally p side (items ++ (Took None m b ∷ h))
  authentication_tally side h items m b (request_too_late x y z e) w v = dull_item p Server _ _ tt (late_user h x y z b e v)
  authentication_tally side h items m b (request_accepted x y z c e f) w v = dull_item p Server _ _ tt (accepted_user h x y z b c v)
  authentication_tally side h items m b (request_probed x y a k c e f) w v = approved_user h x y _ a k b c e v
  authentication_tally side h items m b (request_failed x y z c e f) w v = refused_user h x y z _ _ b c e v
  authentication_tally side h items m b (failure x y) w v = dull_item p Client _ _ tt (failed h x y b w v)
  authentication_tally side h items m b (success way e) w v = dull_item p Client _ _ tt (succeeded h b w v)
  authentication_tally side h items m b (banner x y) w v = dull_step p side h items None m b tt (tt, tt) v
  authentication_tally side h items m b (key_ok x y) w v = dull_item p Client _ _ tt (approved h x y b w v)

  connection_tally : (side : Side) (h items : List Item) (c : Option ℕ) (m : Msg) (b : List ℕ) → ConnectionAnswer side h c m items → Tally p side h → Tally p side (items ++ (Took c m b ∷ h))
  connection_tally side h items c m b (global x y z) v = dull_step p side h items c m b tt (tt, tt) v
  connection_tally side h items c m b (global_success z) v = dull_step p side h items c m b tt (tt, tt) v
  connection_tally side h items c m b global_failure v = dull_step p side h items c m b tt (tt, tt) v
  connection_tally side h items c m b (opened x k a d e f g) v = dull_step p side h items c m b tt (tt, tt) v
  connection_tally side h items c m b (not_opened k a d e f g r) v = dull_step p side h items c m b tt (replies_dull _ items r) v
  connection_tally side h items c m b (confirmation a d e f g) v = dull_step p side h items c m b tt (tt, tt) v
  connection_tally side h items c m b (failure a d e f) v = dull_step p side h items c m b tt (tt, tt) v
  connection_tally side h items c m b (adjust a d) v = dull_step p side h items c m b tt (tt, tt) v
  connection_tally side h items c m b (got_data a d) v = dull_step p side h items c m b tt (tt, tt) v
  connection_tally side h items c m b (got_extended a d e) v = dull_step p side h items c m b tt (tt, tt) v
  connection_tally side h items c m b (eof a) v = dull_step p side h items c m b tt (tt, tt) v
  connection_tally side h items c m b (close {replies = l} a r) v = dull_step p side h items c m b tt (tt, replies_dull _ l r) v
  connection_tally side h items c m b (request a d e f) v = dull_step p side h items c m b tt (tt, tt) v
  connection_tally side h items c m b (success a) v = dull_step p side h items c m b tt (tt, tt) v
  connection_tally side h items c m b (no_success a) v = dull_step p side h items c m b tt (tt, tt) v

  -- ---- asks

  plain_ask : (side : Side) (h items : List Item) (a : Ask) → AreDull items → Tally p side h → Tally p side (items ++ (Asked a ∷ h))
  plain_ask side h items a q v = dulls p side items (Asked a ∷ h) q (dull_item p side (Asked a) h tt v)

  user_asked : (side : Side) (h : List Item) (a : Ask) (u s : List ℕ) (m : Method) (b : List ℕ) → is_some (outstanding h) ≡ false → authenticated side h ≡ false → Tally p side h
      → Tally p side (Sent None (UserauthRequest u s m) b ∷ Asked a ∷ h)
  user_asked Client h a u s m b o f v = user_at_client h a u s m b o f v
  user_asked Server h a u s m b o f v = user_at_server h a u s m b v

  ask_tally : (side : Side) (h items : List Item) (a : Ask) → OnAsk p side h a items → first_refusal (ask_checks p side h a) ≡ None → Tally p side h → Tally p side (items ++ (Asked a ∷ h))
  ask_tally side h items a (OnAsk.of_authentication (none x y)) c v =
      let checks = all_passed (ask_checks p side h (AskNone x)) c in
      user_asked side h a _ _ _ y checks.1.1.0 checks.1.1.1.0 v
  ask_tally side h items a (OnAsk.of_authentication (password x y z)) c v =
      let checks = all_passed (ask_checks p side h (AskPassword x y)) c in
      user_asked side h a _ _ _ z checks.1.1.0 checks.1.1.1.0 v
  ask_tally side h items a (OnAsk.of_authentication (probe x y z b)) c v =
      let checks = all_passed (ask_checks p side h (AskProbe x y z)) c in
      user_asked side h a _ _ _ b checks.1.1.0 checks.1.1.1.0 v
  ask_tally side h items a (OnAsk.of_authentication (sign x y z b)) c v =
      let checks = all_passed (ask_checks p side h (AskSign x y z)) c in
      user_asked side h a _ _ _ b checks.1.1.0 checks.1.1.1.0 v
  ask_tally side h items a (OnAsk.of_transport (service x)) c v = plain_ask side h items a (tt, tt) v
  ask_tally side h items a (OnAsk.of_transport (rekey b)) c v = plain_ask side h items a (tt, tt) v
  ask_tally side h items a (OnAsk.of_transport (disconnect x b)) c v = plain_ask side h items a (tt, (tt, tt)) v
  ask_tally side h items a (OnAsk.of_connection (opens x k d m r b f)) c v = plain_ask side h items a (tt, (tt, tt)) v
  ask_tally side h items a (OnAsk.of_connection (confirm x d m r b)) c v = plain_ask side h items a (tt, tt) v
  ask_tally side h items a (OnAsk.of_connection (refuse x r b)) c v = plain_ask side h items a (tt, tt) v
  ask_tally side h items a (OnAsk.of_connection (sends x y b)) c v = plain_ask side h items a (tt, tt) v
  ask_tally side h items a (OnAsk.of_connection (sends_extended x k y b)) c v = plain_ask side h items a (tt, tt) v
  ask_tally side h items a (OnAsk.of_connection (adjust x k b)) c v = plain_ask side h items a (tt, tt) v
  ask_tally side h items a (OnAsk.of_connection (eof x b)) c v = plain_ask side h items a (tt, tt) v
  ask_tally side h items a (OnAsk.of_connection (close x b)) c v = plain_ask side h items a (tt, tt) v
  ask_tally side h items a (OnAsk.of_connection (request x k d r b)) c v = plain_ask side h items a (tt, tt) v
  ask_tally side h items a (OnAsk.of_connection (reply_yes x b)) c v = plain_ask side h items a (tt, tt) v
  ask_tally side h items a (OnAsk.of_connection (reply_no x b)) c v = plain_ask side h items a (tt, tt) v
  ask_tally side h items a (OnAsk.of_connection (global k d r b)) c v = plain_ask side h items a (tt, tt) v
  ask_tally side h items a (OnAsk.of_connection (global_yes r b)) c v = plain_ask side h items a (tt, tt) v
  ask_tally side h items a (OnAsk.of_connection (global_no r b)) c v = plain_ask side h items a (tt, tt) v

  -- ---- turns

  refuses_tally : (side : Side) (h items : List Item) (why : Refusal) (b : Option (List ℕ)) → Refuses h why b items → Tally p side h → Tally p side (items ++ h)
  refuses_tally side h items n b (silently e) v = dulls p side items h (tt, (tt, tt)) v
  refuses_tally side h items n b (spent e) v = dulls p side items h (tt, (tt, tt)) v
  refuses_tally side h items n b (said_aloud r x e f s) v = dulls p side items h (tt, (tt, (tt, tt))) v

  answer_tally : (side : Side) (h items : List Item) (c : Option ℕ) (m : Msg) (b : List ℕ) → Answer p side h c m items → IsAcceptable p side h m b → Tally p side h → Tally p side (items ++ (Took c m b ∷ h))
  answer_tally side h items c m b (of_transport a) w v = transport_tally side h items m b a w v
  answer_tally side h items c m b (of_completion r a) w v = completion_tally side h _ items m b a (replies_dull _ _ r) w v
  answer_tally side h items c m b (of_authentication a) w v = authentication_tally side h items m b a w v
  answer_tally side h items c m b (of_connection a) w v = connection_tally side h items c m b a v

  payload_tally : (side : Side) (h items : List Item) (b : List ℕ) → OnPayload p side h b items → Tally p side h → Tally p side (items ++ h)
  payload_tally side h items b (takes {items = l} c m w a s k) v = rw append_assoc (answer_tally side h l c m b a w v)
  payload_tally side h items b (skips e m) v = dull_item p side _ _ tt (took_guess side h b e v)
  payload_tally side h items b (unexpected m r) v = refuses_tally side h items Unexpected _ r v
  payload_tally side h items b (bad_message m e f r) v = refuses_tally side h items BadMessage _ r v
  payload_tally side h items b (OnPayload.refuses m k a e f c r) v = refuses_tally side h items k _ r v
  payload_tally side h items b (OnPayload.spends c m w a s k) v = dulls p side items h (tt, (tt, tt)) v

  outcome_tally : (side : Side) (h items : List Item) (o : Outcome) → OnOutcome p side h o items → Tally p side h → Tally p side (items ++ h)
  outcome_tally side h items o (other_line text) v = dulls p side items h (tt, tt) v
  outcome_tally side h items o (version_line text) v = dulls p side items h (tt, tt) v
  outcome_tally side h items o (refused_line k r) v = refuses_tally side h items k _ r v
  outcome_tally side h items o (OnOutcome.opened b x) v = payload_tally side h items b x v
  outcome_tally side h items o (refused_packet k r) v = refuses_tally side h items k _ r v

  turn_tally : (side : Side) (h items : List Item) → Turn p side h items → Tally p side h → Tally p side (items ++ h)
  turn_tally side h items (Turn.feeds c s (FeedsTurn.feeds k m)) v = dulls p side items h (tt, tt) v
  turn_tally side h items (asks a (AsksTurn.refuses k alive e)) v = dulls p side items h (tt, (tt, tt)) v
  turn_tally side h items (asks a (AsksTurn.answers {items = l} alive c o s k)) v = rw append_assoc (ask_tally side h l a o c v)
  turn_tally side h items (asks a (AsksTurn.spends alive c o s k)) v = dulls p side items h (tt, (tt, (tt, tt))) v
  turn_tally side h items (reads unit alive (OnUnit.reads o u x)) v = outcome_tally side h items o x v
  turn_tally side h items (reads unit alive (OnUnit.dies o u x k)) v = dulls p side items h (tt, tt) v
  turn_tally side h items (asks a (AsksTurn.dies alive c o s k)) v = dulls p side items h (tt, tt) v
  turn_tally side h items (asks a (AsksTurn.is_dead e)) v = v
  turn_tally side h items (Turn.feeds c s (FeedsTurn.answers_false e)) v = v

  begins : (side : Side) → Tally p side []
  begins side = record { heard = refl; pointed = λ e. refl; served = λ e f. absurd (cc f); let_in = λ e f. absurd (cc f); asked = λ e. refl; answered = λ e f. refl }

  pub end_tally : (side : Side) (h : List Item) → EndRun p side h → Tally p side h
  end_tally side h (EndRun.start o) = subst (λ l. Tally p side l) (sym o.items_are) (dulls p side (_ ∷ _ ∷ _ ∷ []) [] (tt, (tt, (tt, tt))) (begins side))
  end_tally side h (EndRun.then_turn {h = b} {items = items} before turn) = turn_tally side b items turn (end_tally side b before)
