-- What an end takes and refuses of payloads from 50 on, by what it keeps, is what a session takes and refuses.
use Rattle.std.proofs.Common.{◌≡◌, ℕ, zero, suc, ◌<◌, ◌≤◌, List, [], ◌∷◌, ◌++◌, refl, ap, sym, ◌∙◌, subst, arith, cond, Bool, true, false, not, ◌&&◌, ◌||◌, ◌==◌, eqb-true, nat_le, is_some, Option, Some, None, nat_lt, unwrap_or}
use Rattle.std.proofs.lemmas.Bool.{lt-leb, le-leb, le-ltb, ltb-true, ltb-false}
use Rattle.ssh_model.specs.declared.side.Side.{Side}
use Rattle.ssh_model.specs.declared.side.Side.TheVariants.{Client, Server}
use Rattle.ssh_model.specs.Protocol.Wire.Message.{Msg, Msg.ServiceRequest, Msg.ServiceAccept, Msg.KexInit, Msg.KexEcdhInit, Msg.KexEcdhReply, Msg.UserauthRequest, IsPayload, message_number}
use Rattle.ssh_model.specs.Protocol.KeyExchange.Exchanges.{exchanges, session_id}
use Rattle.ssh_model.specs.declared.refusal.Refusal.{Refusal}
use Rattle.ssh_model.specs.Protocol.Sessions.Refusals.{Check, Check.RefusedWhere, first_refusal}
use Rattle.ssh_model.specs.Protocol.Sessions.Parties.{AreLawful, Parties, is_required, settings_of}
use Rattle.ssh_model.specs.Protocol.Sessions.Items.{Item, sent, took}
use Rattle.ssh_model.specs.Protocol.Sessions.Epochs.{epoch}
use Rattle.ssh_model.specs.Protocol.Sessions.Phases.{Phase, Phase.Guessed, Phase.Normal, phase, may_take, may_take_in, may_take_normally, may_take_service, authenticated, probing, is_probe, outstanding, sent_service_request, took_service_accept, took_success, is_connection, is_unassigned, is_generic_transport, may_take_extensions}
use Rattle.ssh_model.specs.Protocol.Sessions.Transport.{transport_checks}
use Rattle.ssh_model.specs.Protocol.Sessions.Turns.{EndRun, IsAcceptable, answer_checks, number_of}
use Rattle.ssh_model.specs.Protocol.Authentication.Rows.{authentication_checks}
use Rattle.ssh_model.specs.State.Authentication.Kept.{client_takes}
use Rattle.ssh_model.specs.State.Authentication.Kept as kept
use Rattle.ssh_model.specs.Protocol.Channels.Connection.{connection_checks}
use Rattle.ssh_model.specs.State.Channels.Kept.{Channels, take_checks}
use Rattle.ssh_model.specs.State.TransportLayer.Kept.{Transport}
use Rattle.ssh_model.specs.State.TransportLayer.Summary.{Live, session_after}
use Rattle.ssh_model.specs.State.TransportLayer.View.{view}
use Rattle.ssh_model.specs.State.End.State.{Authentication, Authentication.OfServer, Authentication.OfClient, EndState, above_checks, authentication_refuses, probes, session_of, takes_above, takes_authentication}
use Rattle.ssh_model.specs.State.End.Summary.{AuthenticationSumsUp, EndSumsUp}
use Rattle.ssh_model.specs.State.End.Payloads.{ReadsAbove}
use Rattle.ssh_model.proofs.Authentication.Numbers.{server_number, client_number}
use Rattle.ssh_model.proofs.Authentication.Rows.{server_refused, probing_is}
use Rattle.ssh_model.proofs.Channels.Checking.{checked}
use Rattle.ssh_model.proofs.Sessions.Blocked.{serves}
use Rattle.ssh_model.proofs.Sessions.SoundTurns.{normal_keyed}
use Rattle.ssh_model.proofs.Wire.Payloads.{payload_number}

-- ---- checks one after the other

abbrev pub either : {Why : Type 0} → Option Why → Option Why → Option Why
either None o = o
either (Some w) o = Some w

pub first_following : {Why : Type 0} (x y : List (Check Why)) → first_refusal (x ++ y) ≡ either (first_refusal x) (first_refusal y)
first_following [] y = refl
first_following (RefusedWhere true w ∷ x) y = refl
first_following (RefusedWhere false w ∷ x) y = first_following x y

pub first_both : {Why : Type 0} (a b c d : List (Check Why)) → first_refusal a ≡ first_refusal c → first_refusal b ≡ first_refusal d → first_refusal (a ++ b) ≡ first_refusal (c ++ d)
first_both a b c d e f = first_following a b ∙ ((λ i. either (e i) (f i)) ∙ sym (first_following c d))

-- ---- numbers of messages

-- no message of the transport's own checks
transport_none : {K : Type 0} (p : Parties K) (side : Side) (h : List Item) (m : Msg) → 50 ≤ message_number m → transport_checks p side h m ≡ []
transport_none p side h (ServiceRequest x) l = absurd (omega (arith, l))
transport_none p side h (ServiceAccept x) l = absurd (omega (arith, l))
transport_none p side h (KexInit x) l = absurd (omega (arith, l))
transport_none p side h (KexEcdhInit x) l = absurd (omega (arith, l))
transport_none p side h (KexEcdhReply x y z) l = absurd (omega (arith, l))
transport_none p side h m l = refl

-- a client takes no request
client_request : (client : kept.Client) → client_takes client 50 ≡ false
client_request client = refl

-- ---- outside an exchange

and_off : (b c : Bool) → b ≡ false → (b && c) ≡ false
and_off b c e = rw e refl

or_off : (b c : Bool) → b ≡ false → c ≡ false → (b || c) ≡ false
or_off b c e f = rw (e, f) refl

not_number : (n k : ℕ) → (n ≡ k → ⊥) → (n == k) ≡ false
not_number n k d = go (n == k) refl
  where
    go : (b : Bool) → (n == k) ≡ b → b ≡ false
    go false e = refl
    go true e = absurd (d (eqb-true n k e))

module _ (n : ℕ) (high : 80 ≤ n) where
  general_off : is_generic_transport n ≡ false
  general_off = go (nat_le 1 n) (nat_le n 4) (lt-leb n 4 (omega (arith, high)))
    where
      go : (b c : Bool) → c ≡ false → (b && c) ≡ false
      go true c e = e
      go false c e = refl

  service_off : (side : Side) (h : List Item) → may_take_service side h n ≡ false
  service_off Server h = or_off _ _ (and_off (n == 5) _ (not_number n 5 (λ e. omega (arith, e, high)))) (and_off (n == 50) _ (not_number n 50 (λ e. omega (arith, e, high))))
  service_off Client h =
      or_off _ _ (or_off _ _ (or_off _ _ six answers) banner) (and_off (n == 60) (probing h) (not_number n 60 (λ e. omega (arith, e, high))))
    where
      six : (n == 6 && sent_service_request h && not (took_service_accept h)) ≡ false
      six = ap (λ (b : Bool). b && sent_service_request h && not (took_service_accept h)) (not_number n 6 (λ e. omega (arith, e, high)))

      answers : ((n == 51 || n == 52) && is_some (outstanding h)) ≡ false
      answers = and_off (n == 51 || n == 52) (is_some (outstanding h)) (or_off _ _ (not_number n 51 (λ e. omega (arith, e, high))) (not_number n 52 (λ e. omega (arith, e, high))))

      banner : (n == 53 && took_service_accept h && not (took_success h)) ≡ false
      banner = ap (λ (b : Bool). b && took_service_accept h && not (took_success h)) (not_number n 53 (λ e. omega (arith, e, high)))

  high_normal : (side : Side) (h : List Item) → may_take_normally side h n ≡ authenticated side h
  high_normal side h = go (is_generic_transport n) (may_take_service side h n) (n == 7) (n == 20) (is_connection n) (is_unassigned n) (may_take_extensions side h) (authenticated side h) general_off (service_off side h) (not_number n 7 (λ e. omega (arith, e, high))) (le-leb 80 n high) (and_off (nat_lt n 80) _ (le-ltb n 80 high))
    where
      go : (general service seven twenty connection spare extensions user : Bool) → general ≡ false → service ≡ false → seven ≡ false → connection ≡ true → spare ≡ false
          → ((((general || service) || (seven && extensions)) || ((twenty || connection) && user)) || spare) ≡ user
      go general service seven true connection spare extensions true a b c d e = rw (a, b, c) refl
      go general service seven true connection spare extensions false a b c d e = rw (a, b, c, e) refl
      go general service seven false connection spare extensions true a b c d e = rw (a, b, c, d) refl
      go general service seven false connection spare extensions false a b c d e = rw (a, b, c, d, e) refl

module _ {K : Type 0} (p : Parties K) (side : Side) (h : List Item) (e : EndState K) (sums : EndSumsUp p side h e) (alive : e.transport.dead ≡ false) where
  live : Live p side (view p side h) e.transport
  live = sums.transport.live alive

  phase_now : e.transport.phase ≡ Normal → phase p side h ≡ Normal
  phase_now n = sym live.phase_is ∙ n

  -- ---- the session id

  pub session_now : e.transport.phase ≡ Normal → session_of e ≡ session_id (exchanges p side h)
  session_now n = ap (λ (o : Option (List ℕ)). unwrap_or o []) live.session_is ∙ go (epoch (sent h)) (omega (arith, live.counts.epochs, normal_keyed p side h (phase_now n)))
    where
      go : (k : ℕ) → 0 < k → unwrap_or (session_after k (exchanges p side h)) [] ≡ session_id (exchanges p side h)
      go zero z = absurd (omega (arith, z))
      go (suc k) z = refl

  -- there is one once a NEWKEYS was taken
  pub keyed_session : 0 < epoch (took h) → e.transport.session ≡ None → ⊥
  keyed_session k none = go (epoch (sent h)) (omega (arith, live.counts.epochs, k)) (sym live.session_is ∙ none)
    where
      go : (n : ℕ) → 0 < n → session_after n (exchanges p side h) ≡ None → ⊥
      go zero z x = omega (arith, z)
      go (suc n) z x = cc x

  pub normal_identified : e.transport.phase ≡ Normal → e.transport.session ≡ None → ⊥
  normal_identified n none = keyed_session (normal_keyed p side h (phase_now n)) none

  -- ---- which numbers are taken

  low_number : (n : ℕ) → 50 ≤ n → n < 80 → e.transport.phase ≡ Normal → (t : Side) (a : Authentication) → t ≡ side → a ≡ e.authentication → AuthenticationSumsUp t h a → may_take p t h n ≡ takes_authentication a n
  low_number n from to normal Server (OfServer server) s x has = server_number n from to p h server has.sums (subst (λ (t : Side). phase p t h ≡ Normal) (sym s) (phase_now normal))
  low_number n from to normal Client (OfClient client) s x has = client_number n from to p h client has (subst (λ (t : Side). phase p t h ≡ Normal) (sym s) (phase_now normal))
  low_number n from to normal Server (OfClient client) s x has = elim has [ ]
  low_number n from to normal Client (OfServer server) s x has = elim has [ ]

  pub numbers_above : (n : ℕ) → 50 ≤ n → e.transport.phase ≡ Normal → may_take p side h n ≡ takes_above e n
  numbers_above n from normal = go (nat_lt n 80) refl
    where
      go : (b : Bool) → nat_lt n 80 ≡ b → may_take p side h n ≡ cond b (takes_authentication e.authentication n) e.transport.authenticated
      go true x = low_number n from (ltb-true n 80 x) normal side e.authentication refl refl (sums.above alive).authentication_sums
      go false x = ap (λ (q : Phase). may_take_in q (is_required (settings_of p side).strictness) side h n) (phase_now normal) ∙ (high_normal n (ltb-false n 80 x) side h ∙ sym live.authenticated_is)

  -- ---- what is refused

  number_is : (b : Bool) (m : Msg) (payload : List ℕ) → 50 ≤ number_of payload → IsPayload b m payload → 50 ≤ message_number m
  number_is b m payload from x = subst (λ (n : ℕ). 50 ≤ n) (payload_number b m payload x) from

  -- a message that is taken is none of a request to a client
  request_off : (m : Msg) (a : Authentication) (payload : List ℕ) (client : kept.Client) → number_of payload ≡ message_number m → takes_above e (number_of payload) ≡ true → e.authentication ≡ OfClient client → authentication_checks p Client h m ≡ []
  request_off (UserauthRequest user service how) a payload client n taken x =
      let one : takes_above e 50 ≡ true = subst (λ (k : ℕ). takes_above e k ≡ true) n taken in
      let two : takes_authentication (OfClient client) 50 ≡ true = subst (λ (k : Authentication). takes_authentication k 50 ≡ true) x one in
      absurd (cc (two, client_request client))
  request_off m a payload client n taken x = refl

  authentication_same : (m : Msg) (payload : List ℕ) → number_of payload ≡ message_number m → takes_above e (number_of payload) ≡ true → e.transport.phase ≡ Normal → (t : Side) (a : Authentication) → t ≡ side → a ≡ e.authentication → AuthenticationSumsUp t h a →
      first_refusal (authentication_checks p t h m) ≡ first_refusal (authentication_refuses p (session_of e) a m)
  authentication_same m payload n taken normal Server (OfServer server) s x has =
      server_refused p h server has.sums m ∙ ap (λ (id : List ℕ). first_refusal (authentication_refuses p id (OfServer server) m)) (sym (session_now normal ∙ ap (λ (t : Side). session_id (exchanges p t h)) (sym s)))
  authentication_same m payload n taken normal Client (OfClient client) s x has = ap first_refusal (request_off m (OfClient client) payload client n taken (sym x))
  authentication_same m payload n taken normal Server (OfClient client) s x has = elim has [ ]
  authentication_same m payload n taken normal Client (OfServer server) s x has = elim has [ ]

  channels_same : (m : Msg) → first_refusal (connection_checks side h m) ≡ first_refusal (take_checks e.transport.blocked e.channels m)
  channels_same m = checked side h e.channels (sums.above alive).channels_sum m ∙ ap (λ (b : Bool). first_refusal (take_checks b e.channels m)) (sym live.blocked_is)

  pub checks_above : (m : Msg) (payload : List ℕ) → ReadsAbove e m payload → first_refusal (answer_checks p side h m) ≡ first_refusal (above_checks p e m)
  checks_above m payload r =
      let n = payload_number (probes e.authentication) m payload r.message_is in
      ap (λ (l : List (Check Refusal)). first_refusal (l ++ (authentication_checks p side h m ++ connection_checks side h m))) (transport_none p side h m (number_is _ m payload r.above r.message_is))
      ∙ first_both (authentication_checks p side h m) (connection_checks side h m) (authentication_refuses p (session_of e) e.authentication m) (take_checks e.transport.blocked e.channels m) (authentication_same m payload n r.taken r.normal side e.authentication refl refl (sums.above alive).authentication_sums) (channels_same m)

  -- ---- what is read

  probing_by : (t : Side) (a : Authentication) → AuthenticationSumsUp t h a → probing h ≡ probes a
  probing_by Server (OfServer server) has = ap is_probe has.none_made
  probing_by Client (OfClient client) has = probing_is h client has
  probing_by Server (OfClient client) has = elim has [ ]
  probing_by Client (OfServer server) has = elim has [ ]

  pub probing_now : probing h ≡ probes e.authentication
  probing_now = probing_by side e.authentication (sums.above alive).authentication_sums

  pub no_guess : e.transport.phase ≡ Normal → phase p side h ≡ Guessed → ⊥
  no_guess n g = cc (phase_now n, g)

  pub read_now : (m : Msg) (payload : List ℕ) → ReadsAbove e m payload → IsPayload (probing h) m payload
  read_now m payload r = subst (λ (b : Bool). IsPayload b m payload) (sym probing_now) r.message_is

  pub welcomed_above : (m : Msg) (payload : List ℕ) → ReadsAbove e m payload → first_refusal (above_checks p e m) ≡ None → IsAcceptable p side h m payload
  welcomed_above m payload r fine = record {
    read = numbers_above (number_of payload) r.above r.normal ∙ r.taken;
    no_guess = no_guess r.normal;
    message_is = read_now m payload r;
    not_refused = checks_above m payload r ∙ fine;
  }

-- ---- a client whose authentication was opened

module _ {K : Type 0} (p : Parties K) (laws : AreLawful p) (h : List Item) (transport : Transport K) (client : kept.Client) (channels : Channels) where
  pub opened_identified : EndSumsUp p Client h (record { transport = transport; authentication = OfClient client; channels = channels }) → EndRun p Client h → transport.dead ≡ false → client.opened ≡ true → transport.session ≡ None → ⊥
  opened_identified sums run alive opened none =
      let s = (sums.above alive).authentication_sums in
      keyed_session p Client h _ sums alive ((serves p laws Client h run).accepted (sym s.opened ∙ opened)) none
