-- Which numbers below 50 an end takes, by what its transport keeps.
use Rattle.std.proofs.Common.{◌≡◌, ℕ, zero, suc, ◌<◌, ◌≤◌, List, refl, ap, sym, ◌∙◌, arith, Bool, true, false, not, ◌&&◌, ◌||◌, ◌==◌, eqb-true, nat_le, nat_lt, is_some}
use Rattle.std.proofs.lemmas.Bool.{lt-leb}
use Rattle.ssh_model.specs.declared.side.Side.{Side}
use Rattle.ssh_model.specs.declared.side.Side.TheVariants.{Client, Server}
use Rattle.ssh_model.specs.Protocol.Side.{peer}
use Rattle.ssh_model.specs.Protocol.KeyExchange.Exchanges.{has_marker, first_taken, is_strict}
use Rattle.ssh_model.specs.Protocol.Sessions.Parties.{Parties, Settings, is_required, settings_of, marker_of, extension_marker_of}
use Rattle.ssh_model.specs.Protocol.Sessions.Items.{Item, took}
use Rattle.ssh_model.specs.Protocol.Sessions.Epochs.{epoch, count}
use Rattle.ssh_model.specs.Protocol.Sessions.Phases.{Phase, service_requested, Phase.Start, Phase.Guessed, Phase.Exchanging, Phase.Keying, Phase.Normal, phase, may_take, may_take_in, may_take_service, may_take_extensions, is_allowed_at_first, is_allowed_during_exchange, awaited, is_generic_transport, is_normal, is_connection, is_unassigned, authenticated, sent_service_request, took_service_accept, took_success, outstanding}
use Rattle.ssh_model.specs.State.TransportLayer.Kept.{Transport, takes, takes_in, takes_service, takes_announced, first_kex}
use Rattle.ssh_model.specs.State.TransportLayer.Summary.{Live, SumsUp}
use Rattle.ssh_model.specs.State.TransportLayer.View.{view}

pub not_number : (n k : ℕ) → (n ≡ k → ⊥) → (n == k) ≡ false
not_number n k d = go (n == k) refl
  where
    go : (b : Bool) → (n == k) ≡ b → b ≡ false
    go false e = refl
    go true e = absurd (d (eqb-true n k e))

or_false : (b c : Bool) → c ≡ false → (b || c) ≡ b
or_false true c e = refl
or_false false c e = e

and_off : (b c : Bool) → b ≡ false → (b && c) ≡ false
and_off b c e = rw e refl

module _ {K : Type 0} (p : Parties K) (side : Side) (h : List Item) (s : Transport K) (a : Live p side (view p side h) s) where
  pub strict_same : s.strict ≡ is_strict side h
  strict_same = a.firsts.strict_is ∙ ap (λ (kex : List (List ℕ)). has_marker (marker_of side) kex && has_marker (marker_of (peer side)) (first_taken h).kex) (sym a.firsts.own_is)

  extensions_same : takes_announced s ≡ may_take_extensions side h
  extensions_same =
      (λ i. has_marker (extension_marker_of (a.side_is i)) (first_kex (a.settings_are i) (a.side_is i)) && (a.taking.epoch_is i == 1 && a.taking.count_is i == 0))
      ∙ ap (λ (kex : List (List ℕ)). has_marker (extension_marker_of side) kex && (epoch (took h) == 1 && count (took h) == 0)) (sym a.firsts.own_is)

  module _ (n : ℕ) (below : n < 50) where
    service_same : (t : Side) → takes_service t (service_requested t h) (took_service_accept h) n ≡ may_take_service t h n
    service_same Server = sym (or_false _ _ (and_off (n == 50) _ (not_number n 50 (λ e. omega (arith, e, below)))))
    service_same Client =
        sym (or_false _ _ (and_off (n == 60) _ (not_number n 60 (λ e. omega (arith, e, below))))
        ∙ (λ i. four (n == 6 && sent_service_request h && not (took_service_accept h)) (not_number n 51 (λ e. omega (arith, e, below)) i || not_number n 52 (λ e. omega (arith, e, below)) i) (not_number n 53 (λ e. omega (arith, e, below)) i))
        ∙ or_false _ _ refl ∙ or_false _ _ refl)
      where
        four : Bool → Bool → Bool → Bool
        four six answers banner = (six || (answers && is_some (outstanding h))) || (banner && took_service_accept h && not (took_success h))

    connection_off : is_connection n ≡ false
    connection_off = lt-leb 80 n (omega (arith, below))

    kexinit_same : (b : Bool) → (n == 20 && b) ≡ ((n == 20 || is_connection n) && b)
    kexinit_same b = ap (λ (t : Bool). t && b) (sym (or_false (n == 20) (is_connection n) connection_off))

    normal_same : takes_in Normal s n ≡ may_take_in Normal (is_required (settings_of p side).strictness) side h n
    normal_same =
        (λ i. is_generic_transport n || takes_service (a.side_is i) (a.requested_is i) (a.accepted_is i) n || (n == 7 && extensions_same i) || (n == 20 && a.authenticated_is i) || is_unassigned n)
        ∙ (λ i. is_generic_transport n || service_same side i || (n == 7 && may_take_extensions side h) || kexinit_same (authenticated side h) i || is_unassigned n)

    in_phase : (q : Phase) → takes_in q s n ≡ may_take_in q (is_required (settings_of p side).strictness) side h n
    in_phase Start = ap (λ (settings : Settings). is_allowed_at_first (is_required settings.strictness) n || n == 20) a.settings_are
    in_phase Guessed = refl
    in_phase Exchanging = λ i. is_allowed_during_exchange (strict_same i) (a.taking.epoch_is i) n || n == awaited (a.side_is i)
    in_phase Keying = λ i. is_allowed_during_exchange (strict_same i) (a.taking.epoch_is i) n || n == 21
    in_phase Normal = normal_same

    pub numbers_same : may_take p side h n ≡ takes s n
    numbers_same = sym (ap (λ (q : Phase). takes_in q s n) a.phase_is ∙ in_phase (phase p side h))

pub numbers_are : {K : Type 0} (p : Parties K) (side : Side) (h : List Item) (s : Transport K) → SumsUp p side h s → s.dead ≡ false → (n : ℕ) → n < 50 → may_take p side h n ≡ takes s n
numbers_are p side h s a alive n below = numbers_same p side h s (a.live alive) n below

-- ---- numbers from 50 on come in no exchange

general_off : (n : ℕ) → 50 ≤ n → is_generic_transport n ≡ false
general_off n l = go (nat_le 1 n) (nat_le n 4) (lt-leb n 4 (omega (arith, l)))
  where
    go : (b c : Bool) → c ≡ false → (b && c) ≡ false
    go true c e = e
    go false c e = refl

at_first_off : (strict : Bool) (n : ℕ) → 50 ≤ n → is_allowed_at_first strict n ≡ false
at_first_off true n l = not_number n 1 (λ e. omega (arith, e, l))
at_first_off false n l = general_off n l

or_off : (b c : Bool) → b ≡ false → c ≡ false → (b || c) ≡ false
or_off b c e f = rw (e, f) refl

during_off : (strict : Bool) (e n : ℕ) → 50 ≤ n → is_allowed_during_exchange strict e n ≡ false
during_off strict zero n l = at_first_off strict n l
during_off strict (suc e) n l = or_off (is_generic_transport n) _ (general_off n l) (and_off (nat_lt n 30) _ (none_below n l))
  where
    none_below : (m : ℕ) → 50 ≤ m → nat_lt m 30 ≡ false
    none_below m k = grind (arith, k)

awaited_off : (side : Side) (n : ℕ) → 50 ≤ n → (n == awaited side) ≡ false
awaited_off Client n l = not_number n 31 (λ e. omega (arith, e, l))
awaited_off Server n l = not_number n 30 (λ e. omega (arith, e, l))

above_in : (q : Phase) (required : Bool) (side : Side) (h : List Item) (n : ℕ) → 50 ≤ n → is_normal q ≡ false → may_take_in q required side h n ≡ false
above_in Start required side h n l e = or_off _ _ (at_first_off required n l) (not_number n 20 (λ f. omega (arith, f, l)))
above_in Guessed required side h n l e = go (nat_le 30 n) (nat_le n 49) (lt-leb n 49 (omega (arith, l)))
  where
    go : (b c : Bool) → c ≡ false → (b && c) ≡ false
    go true c f = f
    go false c f = refl
above_in Exchanging required side h n l e = or_off _ _ (during_off (is_strict side h) (epoch (took h)) n l) (awaited_off side n l)
above_in Keying required side h n l e = or_off _ _ (during_off (is_strict side h) (epoch (took h)) n l) (not_number n 21 (λ f. omega (arith, f, l)))
above_in Normal required side h n l e = absurd (cc e)

pub above_in_exchange : {K : Type 0} (p : Parties K) (side : Side) (h : List Item) (n : ℕ) → 50 ≤ n → is_normal (phase p side h) ≡ false → may_take p side h n ≡ false
above_in_exchange p side h n l e = above_in (phase p side h) (is_required (settings_of p side).strictness) side h n l e
