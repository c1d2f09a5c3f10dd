-- The next message is welcome: it may be taken, and what may refuse it lies in the ends.
use Rattle.std.proofs.Common.{◌≡◌, ℕ, zero, suc, ◌<◌, List, [], ◌∷◌, length, inl, inr, refl, ap, sym, ◌∙◌, arith, subst, Bool, true, false, not, is_some, nat_lt, ◌==◌, ◌&&◌, ◌||◌, eq-eqb, eqb-true, ne_eqb, Option, Some}
use Rattle.std.proofs.lemmas.List.{length-map}
use Rattle.ssh_model.specs.declared.side.Side.{Side}
use Rattle.ssh_model.specs.declared.side.Side.TheVariants.{Client, Server}
use Rattle.ssh_model.specs.Protocol.Side.{peer}
use Rattle.ssh_model.specs.Protocol.Lists.{IsOlder}
use Rattle.ssh_model.specs.Protocol.Wire.Message.{Msg, Msg.Disconnect, Msg.Ignore, Msg.Unimplemented, Msg.Debug, Msg.ServiceRequest, Msg.ServiceAccept, Msg.ExtInfo, Msg.KexInit, Msg.NewKeys, Msg.KexEcdhInit, Msg.KexEcdhReply, Msg.UserauthRequest, Msg.UserauthFailure, Msg.UserauthSuccess, Msg.UserauthBanner, Msg.UserauthPkOk, Msg.GlobalRequest, Msg.RequestSuccess, Msg.ChannelOpen, Msg.ChannelOpenConfirmation, Msg.ChannelOpenFailure, Msg.ChannelWindowAdjust, Msg.ChannelData, Msg.ChannelExtendedData, Msg.ChannelEof, Msg.ChannelClose, Msg.ChannelRequest, Msg.ChannelSuccess, Msg.ChannelFailure, Msg.Unknown, FitsContext, message_number}
use Rattle.ssh_model.specs.declared.refusal.Refusal.{Refusal}
use Rattle.ssh_model.specs.Protocol.Sessions.Refusals.{Check, Check.RefusedWhere, first_refusal}
use Rattle.ssh_model.specs.Protocol.Sessions.Parties.{Parties, is_required, settings_of}
use Rattle.ssh_model.specs.Protocol.Sessions.Items.{Item, Item.Sent, sent, took, bytes_of, Encoded, Encoded.EncodedBy, messages_sent}
use Rattle.ssh_model.specs.Protocol.Sessions.Epochs.{epoch}
use Rattle.ssh_model.specs.Protocol.KeyExchange.Exchanges.{is_strict}
use Rattle.ssh_model.specs.Protocol.Sessions.Phases.{Phase, Phase.Start, Phase.Guessed, Phase.Exchanging, Phase.Keying, Phase.Normal, phase, authenticated, is_allowed_at_first, is_allowed_during_exchange, is_connection, is_generic_transport, is_unassigned, may_take, may_take_extensions, may_take_in, may_take_normally, may_take_service, outstanding, probing, sent_service_accept, sent_service_request, took_service_accept, took_service_request}
use Rattle.ssh_model.specs.Protocol.Channels.Message.{Message}
use Rattle.ssh_model.specs.Protocol.Channels.Connection.{connection_checks, globals_there, on_channel}
use Rattle.ssh_model.specs.Protocol.Sessions.Turns.{answer_checks}
use Rattle.ssh_model.specs.Protocol.Sessions.Faithful.{LiesInEnds}
use Rattle.ssh_model.proofs.Sessions.Stages.{and_left, and_right}
use Rattle.ssh_model.proofs.Sessions.Serving.{both_ways, left_or, right_or}
use Rattle.ssh_model.proofs.Channels.State.{and_true}
use Rattle.ssh_model.proofs.Faithful.Sendable.{Above, AllSends, ExtensionsAt, HasUnknown, Normally, OffersAt, Sendable}
use Rattle.ssh_model.proofs.Faithful.Next.{bytes, same_count, same_epoch, sent_bytes, took_bytes}
use Rattle.ssh_model.proofs.Faithful.Meets.{Meets, at_start, exchanging, keying, normal, not_guessed}
use Rattle.ssh_model.proofs.Faithful.Heard.{both_in, is_awaited, is_probed, not_asked, not_granted, some_waits, takes_them, was_asked, was_granted}

-- ---- checks

abbrev pub AllLie : List (Check Refusal) → Type 0
AllLie [] = Unit {0}
AllLie (RefusedWhere b why ∷ checks) = (b ≡ true → LiesInEnds why) × AllLie checks

pub first_lies : (checks : List (Check Refusal)) (why : Refusal) → AllLie checks → first_refusal checks ≡ Some why → LiesInEnds why
first_lies [] why a e = absurd (cc e)
first_lies (RefusedWhere true other ∷ checks) why a e =
    let same : other ≡ why = cc e in
    let P : Refusal → Type 0 = λ x. LiesInEnds x in
    subst P same (a.0 refl)
first_lies (RefusedWhere false other ∷ checks) why a e = first_lies checks why a.1 e

-- a check that does not hold, and one whose reason lies in the ends
pub passes : {A : Type 0} {b : Bool} → b ≡ false → b ≡ true → A
passes e f = absurd (cc (e, f))

pub lies : {b : Bool} → b ≡ true → Unit {0}
lies e = tt

pub some_zero : (n : ℕ) → 0 < n → (n == 0) ≡ false
some_zero n k = ne_eqb n 0 (λ e. omega (arith, e, k))

-- ---- what may be taken

module _ {K : Type 0} (p : Parties K) where
  in_phase : (side : Side) (h : List Item) (ph : Phase) (n : ℕ) → phase p side h ≡ ph → may_take_in ph (is_required (settings_of p side).strictness) side h n ≡ true → may_take p side h n ≡ true
  in_phase side h ph n e f = ap (λ x. may_take_in x (is_required (settings_of p side).strictness) side h n) e ∙ f

leaving_at_first : (s : Bool) → is_allowed_at_first s 1 ≡ true
leaving_at_first true = refl
leaving_at_first false = refl

leaving_during : (s : Bool) (e : ℕ) → is_allowed_during_exchange s e 1 ≡ true
leaving_during s zero = leaving_at_first s
leaving_during s (suc e) = refl

leaving : (ph : Phase) (r : Bool) (side : Side) (h : List Item) → (ph ≡ Guessed → ⊥) → may_take_in ph r side h 1 ≡ true
leaving Start r side h g = left_or _ _ (leaving_at_first r)
leaving Guessed r side h g = absurd (g refl)
leaving Exchanging r side h g = left_or _ _ (leaving_during (is_strict side h) (epoch (took h)))
leaving Keying r side h g = left_or _ _ (leaving_during (is_strict side h) (epoch (took h)))
leaving Normal r side h g = refl

offer_at_start : (r : Bool) (side : Side) (h : List Item) → may_take_in Start r side h 20 ≡ true
offer_at_start r side h = right_or (is_allowed_at_first r 20) true refl

service_normally : (side : Side) (h : List Item) (n : ℕ) → may_take_service side h n ≡ true → may_take_normally side h n ≡ true
service_normally side h n e =
    left_or (is_generic_transport n || may_take_service side h n || (n == 7 && may_take_extensions side h) || ((n == 20 || is_connection n) && authenticated side h)) (is_unassigned n)
    (left_or (is_generic_transport n || may_take_service side h n || (n == 7 && may_take_extensions side h)) ((n == 20 || is_connection n) && authenticated side h)
    (left_or (is_generic_transport n || may_take_service side h n) (n == 7 && may_take_extensions side h) (right_or (is_generic_transport n) (may_take_service side h n) e)))

extensions_normally : (side : Side) (h : List Item) → may_take_extensions side h ≡ true → may_take_normally side h 7 ≡ true
extensions_normally side h e =
    left_or (is_generic_transport 7 || may_take_service side h 7 || (7 == 7 && may_take_extensions side h) || ((7 == 20 || is_connection 7) && authenticated side h)) (is_unassigned 7)
    (left_or (is_generic_transport 7 || may_take_service side h 7 || (7 == 7 && may_take_extensions side h)) ((7 == 20 || is_connection 7) && authenticated side h)
    (right_or (is_generic_transport 7 || may_take_service side h 7) (7 == 7 && may_take_extensions side h) e))

above_normally : (side : Side) (h : List Item) (n : ℕ) → (n == 20 || is_connection n) ≡ true → authenticated side h ≡ true → may_take_normally side h n ≡ true
above_normally side h n k e =
    left_or (is_generic_transport n || may_take_service side h n || (n == 7 && may_take_extensions side h) || ((n == 20 || is_connection n) && authenticated side h)) (is_unassigned n)
    (right_or (is_generic_transport n || may_take_service side h n || (n == 7 && may_take_extensions side h)) ((n == 20 || is_connection n) && authenticated side h) (and_true (n == 20 || is_connection n) (authenticated side h) k e))

at_5 : (h : List Item) → took_service_request h ≡ false → may_take_service Server h 5 ≡ true
at_5 h e = left_or (not (took_service_request h)) false (ap not e)

at_50 : (h : List Item) → sent_service_accept h ≡ true → may_take_service Server h 50 ≡ true
at_50 h e = e

at_6 : (h : List Item) → sent_service_request h ≡ true → took_service_accept h ≡ false → may_take_service Client h 6 ≡ true
at_6 h e f = left_or (((sent_service_request h && not (took_service_accept h)) || false) || false) false (left_or ((sent_service_request h && not (took_service_accept h)) || false) false (left_or (sent_service_request h && not (took_service_accept h)) false (and_true _ _ e (ap not f))))

at_51 : (h : List Item) → is_some (outstanding h) ≡ true → may_take_service Client h 51 ≡ true
at_51 h e = left_or (is_some (outstanding h) || false) false (left_or (is_some (outstanding h)) false e)

at_52 : (h : List Item) → is_some (outstanding h) ≡ true → may_take_service Client h 52 ≡ true
at_52 h e = left_or (is_some (outstanding h) || false) false (left_or (is_some (outstanding h)) false e)

at_60 : (h : List Item) → probing h ≡ true → may_take_service Client h 60 ≡ true
at_60 h e = e

-- ---- no unknown message is sent

unknown_more : (o l : List Encoded) → IsOlder o l → HasUnknown o → HasUnknown l
unknown_more o [] e u = let P : List Encoded → Type 0 = λ w. HasUnknown w in subst P e u
unknown_more o (x ∷ l) (inl e) u = let P : List Encoded → Type 0 = λ w. HasUnknown w in subst P e u
unknown_more o (EncodedBy (Unknown n) b ∷ l) (inr r) u = tt
unknown_more o (EncodedBy m b ∷ l) (inr r) u = unknown_more o l r u

none_unknown : (side : Side) (h : List Item) → AllSends side h → HasUnknown (messages_sent h) → ⊥
none_unknown side [] s u = u
none_unknown side (Sent c (Unknown n) b ∷ h) s u = s.0
none_unknown side (Sent c m b ∷ h) s u = none_unknown side h s.1 u
none_unknown side (i ∷ h) s u = none_unknown side h s u

-- ---- the next message

pub record Welcome {K : Type 0} (p : Parties K) (side : Side) (h : List Item) (m : Msg) : Type 0 where
  pub may : may_take p side h (message_number m) ≡ true
  pub fits : FitsContext (probing h) m
  pub lie : AllLie (answer_checks p side h m)

module _ {K : Type 0} (p : Parties K) where
  normal_at : (side : Side) (h before : List Item) → Meets p side h before → Normally (peer side) before → phase p side h ≡ Normal
  normal_at side h before v n = normal p side h before v n.stands n.keyed

  normally_may : (side : Side) (h before : List Item) (n : ℕ) → Meets p side h before → Normally (peer side) before → may_take_normally side h n ≡ true → may_take p side h n ≡ true
  normally_may side h before n v w e = in_phase p side h Normal n (normal_at side h before v w) e

  above_may : (side : Side) (h before : List Item) (n : ℕ) → (n == 20 || is_connection n) ≡ true → Meets p side h before → Above (peer side) before → may_take p side h n ≡ true
  above_may side h before n k v a = normally_may side h before n v a.normally (above_normally side h n k (both_in p side h before v a.let_in))

  offer_may : (side : Side) (h before : List Item) → Meets p side h before → OffersAt (peer side) before → may_take p side h 20 ≡ true
  offer_may side h before v o = go (epoch (sent before)) refl
    where
      go : (n : ℕ) → epoch (sent before) ≡ n → may_take p side h 20 ≡ true
      go zero e = in_phase p side h Start 20 (at_start p side h before v o.stands e) (offer_at_start (is_required (settings_of p side).strictness) side h)
      go (suc n) e =
          in_phase p side h Normal 20 (normal p side h before v o.stands (omega (arith, e)))
          (above_normally side h 20 refl (both_in p side h before v (o.let_in (omega (arith, e)))))

  took_nothing : (side : Side) (h before : List Item) → Meets p side h before → sent before ≡ [] → length (took h) ≡ 0
  took_nothing side h before v e =
      sym (length-map (took h) bytes_of)
      ∙ (ap length (took_bytes h v.no_guess ∙ (ap bytes v.same ∙ sym (sent_bytes before)))
      ∙ (length-map (sent before) bytes_of ∙ ap length e))

  -- a KEXINIT that comes first is the first payload
  not_late : (side : Side) (h before : List Item) (x : Bool) → Meets p side h before → OffersAt (peer side) before → (epoch (took h) == 0 && (x && nat_lt 0 (length (took h)))) ≡ true → ⊥
  not_late side h before x v o e =
      let first = eqb-true (epoch (took h)) 0 (and_left (epoch (took h) == 0) _ e) in
      let none = took_nothing side h before v (o.first (sym (same_epoch h before v.same) ∙ first)) in
      both_ways (nat_lt 0 (length (took h))) (and_right x _ (and_right (epoch (took h) == 0) _ e)) (ap (nat_lt 0) none)

  extensions_may : (side : Side) (h before : List Item) → Meets p side h before → ExtensionsAt (peer side) before → may_take p side h 7 ≡ true
  extensions_may side h before v x =
      normally_may side h before 7 v x.normally
      (extensions_normally side h
      (and_true _ _ (takes_them p side h before v x.wanted)
      (and_true _ _ (eq-eqb _ _ (same_epoch h before v.same ∙ x.first)) (eq-eqb _ _ (same_count h before v.no_guess v.same ∙ x.next)))))

  -- on a channel
  on_it : (side : Side) (h before : List Item) (m : Msg) → is_connection (message_number m) ≡ true → FitsContext (probing h) m → Meets p side h before → Above (peer side) before → AllLie (answer_checks p side h m) → Welcome p side h m
  on_it side h before m k f v a l = record { may = above_may side h before (message_number m) (right_or (message_number m == 20) _ k) v a; fits = f; lie = l }

  pub welcome : (side : Side) (h before : List Item) (c : Option ℕ) (m : Msg) → Meets p side h before → ((x : Message) → on_channel m ≡ Some x → AllLie (connection_checks side h m)) → Sendable (peer side) c m before → Welcome p side h m
  welcome side h before c (Disconnect r d l) v w s = record { may = in_phase p side h (phase p side h) 1 refl (leaving (phase p side h) _ side h (not_guessed p side h before v)); fits = tt; lie = tt }
  welcome side h before c (Ignore b) v w s = elim s [ ]
  welcome side h before c (Unimplemented n) v w s = absurd (none_unknown side h v.own (unknown_more _ _ v.back s))
  welcome side h before c (Debug d b l) v w s = elim s [ ]
  welcome Server h before c (ServiceRequest x) v w s = record { may = normally_may Server h before 5 v s.normally (service_normally Server h 5 (at_5 h (not_asked p Server h before v s.first))); fits = tt; lie = (passes (ap not s.named), tt) }
  welcome Client h before c (ServiceRequest x) v w s = absurd (cc s.side_is)
  welcome Client h before c (ServiceAccept x) v w s =
      record { may = normally_may Client h before 6 v s.normally (service_normally Client h 6 (at_6 h (was_asked p Client h before v s.asked) (not_granted p Client h before v s.first))); fits = tt; lie = (passes (ap not s.named), tt) }
  welcome Server h before c (ServiceAccept x) v w s = absurd (cc s.side_is)
  welcome side h before c (ExtInfo x) v w s = record { may = extensions_may side h before v s; fits = tt; lie = tt }
  welcome side h before c (KexInit o) v w s = record { may = offer_may side h before v s; fits = tt; lie = (lies, (λ e. absurd (not_late side h before _ v s e), (lies, (lies, tt)))) }
  welcome side h before c NewKeys v w s = record { may = in_phase p side h Keying 21 (keying p side h before v s) (right_or (is_allowed_during_exchange (is_strict side h) (epoch (took h)) 21) true refl); fits = tt; lie = tt }
  welcome Server h before c (KexEcdhInit q) v w s =
      record { may = in_phase p Server h Exchanging 30 (exchanging p Server h before v s.1) (right_or (is_allowed_during_exchange (is_strict Server h) (epoch (took h)) 30) true refl); fits = tt; lie = (lies, tt) }
  welcome Client h before c (KexEcdhInit q) v w s = absurd (cc s.0)
  welcome Client h before c (KexEcdhReply k q g) v w s =
      record { may = in_phase p Client h Exchanging 31 (exchanging p Client h before v s.1) (right_or (is_allowed_during_exchange (is_strict Client h) (epoch (took h)) 31) true refl); fits = tt; lie = (lies, (lies, tt)) }
  welcome Server h before c (KexEcdhReply k q g) v w s = absurd (cc s.0)
  welcome Server h before c (UserauthRequest u t m) v w s = record { may = normally_may Server h before 50 v s.normally (service_normally Server h 50 (at_50 h (was_granted p Server h before v s.accepted))); fits = tt; lie = (lies, tt) }
  welcome Client h before c (UserauthRequest u t m) v w s = absurd (cc s.side_is)
  welcome Client h before c (UserauthFailure a d) v w s = record { may = normally_may Client h before 51 v s.normally (service_normally Client h 51 (at_51 h (is_awaited p h before v s))); fits = tt; lie = tt }
  welcome Server h before c (UserauthFailure a d) v w s = absurd (cc s.side_is)
  welcome Client h before c UserauthSuccess v w s = record { may = normally_may Client h before 52 v s.normally (service_normally Client h 52 (at_52 h (is_awaited p h before v s))); fits = tt; lie = tt }
  welcome Server h before c UserauthSuccess v w s = absurd (cc s.side_is)
  welcome side h before c (UserauthBanner b l) v w s = elim s [ ]
  welcome Client h before c (UserauthPkOk a k) v w s =
      let e = is_probed p h before v s.0 s.1 in
      record { may = normally_may Client h before 60 v s.0.normally (service_normally Client h 60 (at_60 h e)); fits = e; lie = tt }
  welcome Server h before c (UserauthPkOk a k) v w s = absurd (cc s.0.side_is)
  welcome side h before c (GlobalRequest n want r) v w s = on_it side h before _ refl tt v s (lies, tt)
  welcome side h before c (RequestSuccess r) v w s = on_it side h before _ refl tt v s.0 (passes (some_zero (globals_there h) (some_waits p side h before v s.1)), tt)
  welcome side h before c Msg.RequestFailure v w s = on_it side h before Msg.RequestFailure refl tt v s.0 (passes (some_zero (globals_there h) (some_waits p side h before v s.1)), tt)
  welcome side h before c (ChannelOpen a b d e f) v w s = on_it side h before _ refl tt v s (w _ refl)
  welcome side h before c (ChannelOpenConfirmation a b d e f) v w s = on_it side h before _ refl tt v s (w _ refl)
  welcome side h before c (ChannelOpenFailure a b d e) v w s = on_it side h before _ refl tt v s (w _ refl)
  welcome side h before c (ChannelWindowAdjust a b) v w s = on_it side h before _ refl tt v s (w _ refl)
  welcome side h before c (ChannelData a b) v w s = on_it side h before _ refl tt v s (w _ refl)
  welcome side h before c (ChannelExtendedData a b d) v w s = on_it side h before _ refl tt v s (w _ refl)
  welcome side h before c (ChannelEof a) v w s = on_it side h before _ refl tt v s (w _ refl)
  welcome side h before c (ChannelClose a) v w s = on_it side h before _ refl tt v s (w _ refl)
  welcome side h before c (ChannelRequest a b d e) v w s = on_it side h before _ refl tt v s (w _ refl)
  welcome side h before c (ChannelSuccess a) v w s = on_it side h before _ refl tt v s.0 (w _ refl)
  welcome side h before c (ChannelFailure a) v w s = on_it side h before _ refl tt v s.0 (w _ refl)
  welcome side h before c (Unknown n) v w s = elim s [ ]
