-- What a transport refuses, by what it keeps, is what a session refuses.
use Rattle.std.proofs.Common.{◌≡◌, ℕ, List, [], ◌∷◌, ◌++◌, length, refl, ap, sym, ◌∙◌, Bool, true, false, not, cond, ◌&&◌, ◌||◌, ◌==◌, eqb-true, is_some, Some, None, Option}
use Rattle.std.specs.Prelude.{nat_lt, ◌-◌, ◌^◌}
use Rattle.ssh_model.specs.declared.side.Side.{Side}
use Rattle.ssh_model.specs.declared.side.Side.TheVariants.{Client, Server}
use Rattle.ssh_model.specs.Protocol.Wire.Message.{Msg, Msg.Disconnect, Msg.Ignore, Msg.Unimplemented, Msg.Debug, Msg.ServiceRequest, Msg.ServiceAccept, Msg.ExtInfo, Msg.KexInit, Msg.NewKeys, Msg.KexEcdhInit, Msg.KexEcdhReply, Msg.Unknown, Proposal}
use Rattle.ssh_model.specs.Protocol.KeyExchange.Choice.{Chosen}
use Rattle.ssh_model.specs.Protocol.KeyExchange.Exchange.{exchange_hash}
use Rattle.ssh_model.specs.Protocol.KeyExchange.Exchanges.{Material, nth, no_material, fed, offers, has_marker, first_sent}
use Rattle.ssh_model.specs.declared.refusal.Refusal.{Refusal}
use Rattle.ssh_model.specs.declared.refusal.Refusal.TheVariants.{Unexpected, NoCommon, NotStrict, BadPoint, BadHost}
use Rattle.ssh_model.specs.declared.ask_refusal.AskRefusal.{AskRefusal}
use Rattle.ssh_model.specs.declared.ask_refusal.AskRefusal.TheVariants.{NotYet, Busy, WrongSide}
use Rattle.ssh_model.specs.Protocol.Sessions.Refusals.{Check, Check.RefusedWhere, first_refusal}
use Rattle.ssh_model.specs.Protocol.Sessions.Parties.{Parties, is_required, settings_of, agreement_of, marker_of, lists_of, shared_by}
use Rattle.ssh_model.specs.Protocol.Sessions.Items.{Ask, Ask.AskService, Ask.AskRekey, Ask.AskDisconnect, Item, took, messages_sent}
use Rattle.ssh_model.specs.Protocol.Sessions.Epochs.{epoch, count}
use Rattle.ssh_model.specs.Protocol.Sessions.Phases.{Phase.Exchanging, phase, has_material, is_client, is_normal, sent_service_request, service_requested}
use Rattle.ssh_model.specs.Protocol.Sessions.Transport.{can_choose, comes_too_late, is_marked, kexinit_checks, transport_checks, transport_ask_checks}
use Rattle.ssh_model.specs.Protocol.Sessions.Turns.{answer_checks, can_feed}
use Rattle.ssh_model.specs.State.TransportLayer.Kept.{Transport, offer_checks, becomes_strict, first_kex, has_choice_with, own_offer, message_checks, message_ask_checks, IsChosen, can_be_fed}
use Rattle.ssh_model.specs.State.TransportLayer.Summary.{Live, SumsUp, IsAwaited, IsTransportMessage, is_agreeing}
use Rattle.ssh_model.specs.State.TransportLayer.View.{view}
use Rattle.ssh_model.proofs.TransportLayer.Steps.{all_counted}
use Rattle.ssh_model.proofs.TransportLayer.Underway.{choice_is, client_exchange}

some_kept : (t : Bool) (m : Material) → is_some (cond t (Some m) None) ≡ t
some_kept true m = refl
some_kept false m = refl

module _ {K : Type 0} (p : Parties K) (side : Side) (h : List Item) (s : Transport K) (a : Live p side (view p side h) s) where
  pub material_same : is_some s.material ≡ has_material h
  material_same = ap is_some a.material.material_is ∙ some_kept (has_material h) (nth no_material (length (offers (messages_sent h))) (fed h))

  late_same : (theirs : Proposal) → (s.taking.epoch == 0 && (becomes_strict s theirs && nat_lt 0 s.taking.count)) ≡ (epoch (took h) == 0 && comes_too_late side h theirs)
  late_same theirs =
      (λ i. a.taking.epoch_is i == 0 && (has_marker (marker_of (a.side_is i)) (first_kex (a.settings_are i) (a.side_is i)) && is_marked (a.side_is i) theirs && nat_lt 0 (a.taking.count_is i)))
      ∙ (ap (λ (kex : List (List ℕ)). epoch (took h) == 0 && (has_marker (marker_of side) kex && is_marked side theirs && nat_lt 0 (count (took h)))) (sym a.firsts.own_is)
      ∙ go (epoch (took h) == 0) refl)
    where
      go : (t : Bool) → (epoch (took h) == 0) ≡ t → (t && (has_marker (marker_of side) (first_sent h).kex && is_marked side theirs && nat_lt 0 (count (took h)))) ≡ (t && comes_too_late side h theirs)
      go true e = ap (λ (n : ℕ). comes_before n) (all_counted (took h) (eqb-true (epoch (took h)) 0 e))
        where
          comes_before : ℕ → Bool
          comes_before n = has_marker (marker_of side) (first_sent h).kex && is_marked side theirs && nat_lt 0 n
      go false e = refl

  choose_by : (t : Side) (theirs : Proposal) → has_choice_with t (lists_of (own_offer (settings_of p t) t)) (lists_of theirs) ≡ can_choose p t theirs
  choose_by Client theirs = refl
  choose_by Server theirs = refl

  choose_same : (theirs : Proposal) → has_choice_with s.side (lists_of (own_offer s.settings s.side)) (lists_of theirs) ≡ can_choose p side theirs
  choose_same theirs = (λ i. has_choice_with (a.side_is i) (lists_of (own_offer (a.settings_are i) (a.side_is i))) (lists_of theirs)) ∙ choose_by side theirs

  pub offers_same : (theirs : Proposal) → kexinit_checks p side h theirs ≡ offer_checks s theirs
  offers_same theirs = sym (λ i.
      RefusedWhere (a.taking.epoch_is i == 0 && is_required (a.settings_are i).strictness && not (is_marked (a.side_is i) theirs)) NotStrict
      ∷ RefusedWhere (late_same theirs i) Unexpected
      ∷ RefusedWhere (not (choose_same theirs i)) NoCommon
      ∷ RefusedWhere (not (a.blocked_is i) && not (material_same i)) Refusal.NoMaterial ∷ [])

-- ---- a message

init_same : {K : Type 0} (p : Parties K) (h : List Item) (s : Transport K) (a : Live p Server (view p Server h) s) (c : Chosen) (q_c : List ℕ) → is_agreeing (phase p Server h) ≡ true →
    transport_checks p Server h (KexEcdhInit q_c) ≡ message_checks p.server_agreement p.trusts c s (KexEcdhInit q_c)
init_same p h s a c q_c agreeing =
    ap (λ (secret : List ℕ). RefusedWhere (not (length q_c == 32 && is_some (shared_by p Server secret q_c))) BadPoint ∷ []) (sym (a.underway.secret_is (a.counts.blocked_then agreeing)))

reply_same : {K : Type 0} (p : Parties K) (h : List Item) (s : Transport K) (a : Live p Client (view p Client h) s) (c : Chosen) (k_s q_s signature : List ℕ) → is_agreeing (phase p Client h) ≡ true → IsChosen s c →
    transport_checks p Client h (KexEcdhReply k_s q_s signature) ≡ message_checks p.client_agreement p.trusts c s (KexEcdhReply k_s q_s signature)
reply_same p h s a c k_s q_s signature agreeing is =
    let secret = sym (a.underway.secret_is (a.counts.blocked_then agreeing)) in
    let x = client_exchange p h s a k_s q_s signature [] agreeing in
    let same = choice_is p Client h s a c agreeing is in
    λ i. RefusedWhere (not (length q_s == 32 && is_some (shared_by p Client (secret i) q_s))) BadPoint
    ∷ RefusedWhere (not (p.trusts (same i).host k_s (exchange_hash (x i)) signature)) BadHost ∷ []

pub none_more : {Why : Type 0} (checks : List (Check Why)) → first_refusal (checks ++ []) ≡ first_refusal checks
none_more [] = refl
none_more (RefusedWhere holds why ∷ checks) = ap (λ (r : Option _). cond holds (Some why) r) (none_more checks)

exchanging : {K : Type 0} (p : Parties K) (side : Side) (h : List Item) (s : Transport K) → Live p side (view p side h) s → s.phase ≡ Exchanging → is_agreeing (phase p side h) ≡ true
exchanging p side h s a e = ap is_agreeing (sym a.phase_is ∙ e)

module _ {K : Type 0} (p : Parties K) (h : List Item) (s : Transport K) where
  of_init : (side : Side) (a : Live p side (view p side h) s) (c : Chosen) (q_c : List ℕ) → side ≡ Server → s.phase ≡ Exchanging →
      transport_checks p side h (KexEcdhInit q_c) ≡ message_checks (agreement_of p side) p.trusts c s (KexEcdhInit q_c)
  of_init Server a c q_c e f = init_same p h s a c q_c (exchanging p Server h s a f)
  of_init Client a c q_c e f = absurd (cc e)

  of_reply : (side : Side) (a : Live p side (view p side h) s) (c : Chosen) (k_s q_s signature : List ℕ) → side ≡ Client → s.phase ≡ Exchanging → IsChosen s c →
      transport_checks p side h (KexEcdhReply k_s q_s signature) ≡ message_checks (agreement_of p side) p.trusts c s (KexEcdhReply k_s q_s signature)
  of_reply Client a c k_s q_s signature e f is = reply_same p h s a c k_s q_s signature (exchanging p Client h s a f) is
  of_reply Server a c k_s q_s signature e f is = absurd (cc e)

  module _ (side : Side) (sums : SumsUp p side h s) where
    pub messages_same : s.dead ≡ false → (m : Msg) (c : Chosen) → IsTransportMessage m → IsAwaited s c m → first_refusal (answer_checks p side h m) ≡ first_refusal (message_checks (agreement_of p side) p.trusts c s m)
    messages_same alive (Disconnect reason text language) c t w = refl
    messages_same alive (Ignore body) c t w = refl
    messages_same alive (Unimplemented n) c t w = refl
    messages_same alive (Debug display text language) c t w = refl
    messages_same alive (ServiceRequest service) c t w = refl
    messages_same alive (ServiceAccept service) c t w = refl
    messages_same alive (ExtInfo extensions) c t w = refl
    messages_same alive (KexInit theirs) c t w = none_more (kexinit_checks p side h theirs) ∙ ap first_refusal (offers_same p side h s (sums.live alive) theirs)
    messages_same alive NewKeys c t w = refl
    messages_same alive (KexEcdhInit q_c) c t w =
        let a = sums.live alive in
        none_more (transport_checks p side h (KexEcdhInit q_c)) ∙ ap first_refusal (of_init side a c q_c (sym a.side_is ∙ w.side_is) w.phase_is)
    messages_same alive (KexEcdhReply k_s q_s signature) c t w =
        let a = sums.live alive in
        none_more (transport_checks p side h (KexEcdhReply k_s q_s signature)) ∙ ap first_refusal (of_reply side a c k_s q_s signature (sym a.side_is ∙ w.side_is) w.phase_is w.chosen)
    messages_same alive (Unknown n) c t w = refl
    messages_same alive m c t w = elim t [ ]

    -- ---- asks

    service_checks : Side → (taken : ℕ) → (requested : Bool) → List (Check AskRefusal)
    service_checks t taken requested = RefusedWhere (not (is_client t)) WrongSide ∷ RefusedWhere (taken == 0) NotYet ∷ RefusedWhere requested Busy ∷ []

    service_by : (t : Side) → first_refusal (service_checks t (epoch (took h)) (sent_service_request h)) ≡ first_refusal (service_checks t (epoch (took h)) (service_requested t h))
    unfolding service_checks
    service_by Client = refl
    service_by Server = refl

    pub asks_same : s.dead ≡ false → (ask : Ask) → first_refusal (transport_ask_checks p side h ask) ≡ first_refusal (message_ask_checks s ask)
    unfolding service_checks
    asks_same alive AskService =
        let a = sums.live alive in
        service_by side ∙ (λ i. first_refusal (service_checks (sym a.side_is i) (sym a.taking.epoch_is i) (sym a.requested_is i)))
    asks_same alive AskRekey =
        let a = sums.live alive in
        λ i. first_refusal (RefusedWhere (not (sym a.authenticated_is i)) NotYet ∷ RefusedWhere (sym a.blocked_is i || not (is_normal (sym a.phase_is i))) Busy
        ∷ RefusedWhere (not (sym (material_same p side h s a) i)) AskRefusal.NoMaterial ∷ [])
    asks_same alive (AskDisconnect description) = refl
    asks_same alive ask = refl

    feeds_by : (dead : Bool) → s.dead ≡ dead → can_feed h ≡ can_be_fed s
    feeds_by true e = ap (λ (d : Bool). not d && not (has_material h) && nat_lt (length (fed h)) (2 ^ 32 - 1)) (sym sums.dead_is ∙ e)
        ∙ sym (ap (λ (d : Bool). not d && not (is_some s.material) && nat_lt s.fed (2 ^ 32 - 1)) e)
    feeds_by false e =
        let a = sums.live e in
        λ i. not (sym sums.dead_is i) && not (sym (material_same p side h s a) i) && nat_lt (sym a.material.fed_is i) (2 ^ 32 - 1)

    pub feeds_same : can_feed h ≡ can_be_fed s
    feeds_same = feeds_by s.dead refl
