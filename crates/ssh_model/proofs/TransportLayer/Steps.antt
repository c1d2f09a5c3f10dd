-- What is kept goes on summing up a view with each item that is no row of its own.
use Rattle.std.proofs.Common.{◌≡◌, ℕ, suc, ◌+◌, ◌%◌, ◌^◌, List, [], ◌∷◌, length, refl, ap, sym, ◌∙◌, arith, Bool, true, false}
use Rattle.std.proofs.Math.Nat.{mod-mod}
use Rattle.ssh_model.specs.declared.side.Side.{Side}
use Rattle.ssh_model.specs.Protocol.Sessions.Parties.{Parties}
use Rattle.ssh_model.specs.Protocol.Sessions.Items.{Payload, Payload.OtherOf, Payload.NewkeysOf}
use Rattle.ssh_model.specs.Protocol.Sessions.Epochs.{count, epoch, wire_number}
use Rattle.ssh_model.specs.State.TransportLayer.Directions.{Direction, SumsUp, counted, renewed, new_direction}
use Rattle.ssh_model.specs.State.TransportLayer.Kept.{Transport, after_sent, after_taken, after_other_line, after_line}
use Rattle.ssh_model.specs.State.TransportLayer.Summary.{Live}
use Rattle.ssh_model.specs.State.TransportLayer.View.{View}

-- ---- directions

pub none_summed : {K : Type 0} (strict : Bool) → SumsUp strict [] (new_direction {K = K})
none_summed true = record { number_is = refl; count_is = refl; epoch_is = refl }
none_summed false = record { number_is = refl; count_is = refl; epoch_is = refl }

next_number : (n m : ℕ) → n ≡ m % 2 ^ 32 → (n + 1) % 2 ^ 32 ≡ suc m % 2 ^ 32
next_number n m e = omega (arith, e)

pub other_summed : {K : Type 0} (strict : Bool) (l : List Payload) (d : Direction K) (bytes : List ℕ) → SumsUp strict l d → SumsUp strict (OtherOf bytes ∷ l) (counted d)
other_summed true l d bytes s = record { number_is = next_number d.number (count l) s.number_is; count_is = omega (arith, s.count_is); epoch_is = s.epoch_is }
other_summed false l d bytes s = record {
  number_is = next_number d.number (length l) (s.number_is ∙ mod-mod (length l) (2 ^ 32)) ∙ sym (mod-mod (suc (length l)) (2 ^ 32));
  count_is = omega (arith, s.count_is);
  epoch_is = s.epoch_is;
}

pub newkeys_summed : {K : Type 0} (strict : Bool) (l : List Payload) (d : Direction K) (key : K) (bytes : List ℕ) → SumsUp strict l d → SumsUp strict (NewkeysOf bytes ∷ l) (renewed strict key (counted d))
newkeys_summed true l d key bytes s = record { number_is = refl; count_is = refl; epoch_is = omega (arith, s.epoch_is) }
newkeys_summed false l d key bytes s = record {
  number_is = next_number d.number (length l) (s.number_is ∙ mod-mod (length l) (2 ^ 32)) ∙ sym (mod-mod (suc (length l)) (2 ^ 32));
  count_is = refl;
  epoch_is = omega (arith, s.epoch_is);
}

pub all_counted : (l : List Payload) → epoch l ≡ 0 → count l ≡ length l
all_counted [] none = refl
all_counted (NewkeysOf bytes ∷ l) none = absurd (cc none)
all_counted (OtherOf bytes ∷ l) none = ap suc (all_counted l none)

one_number : (strict : Bool) (l : List Payload) → epoch l ≡ 0 → wire_number strict l % 2 ^ 32 ≡ length l % 2 ^ 32
one_number true l none = ap (λ (n : ℕ). n % 2 ^ 32) (all_counted l none)
one_number false l none = mod-mod (length l) (2 ^ 32)

pub either_way : {K : Type 0} (strict other : Bool) (l : List Payload) (d : Direction K) → epoch l ≡ 0 → SumsUp strict l d → SumsUp other l d
either_way strict other l d none s = record { number_is = s.number_is ∙ one_number strict l none ∙ sym (one_number other l none); count_is = s.count_is; epoch_is = s.epoch_is }

-- ---- items

module _ {K : Type 0} (p : Parties K) (side : Side) (v : View) (s : Transport K) (a : Live p side v s) where
  pub sent_live : (b : List ℕ) → Live p side (record v { sent = OtherOf b ∷ v.sent }) (after_sent s)
  sent_live b = record {
    side_is = a.side_is;
    settings_are = a.settings_are;
    own_line = a.own_line;
    lines = a.lines;
    sending = other_summed s.strict v.sent s.sending b a.sending;
    taking = a.taking;
    keys = a.keys;
    phase_is = a.phase_is;
    blocked_is = a.blocked_is;
    firsts = a.firsts;
    session_is = a.session_is;
    requested_is = a.requested_is;
    accepted_is = a.accepted_is;
    authenticated_is = a.authenticated_is;
    material = a.material;
    counts = a.counts;
    underway = a.underway;
    points = a.points;
  }

  pub taken_live : (b : List ℕ) → Live p side (record v { took = OtherOf b ∷ v.took }) (after_taken s)
  taken_live b = record {
    side_is = a.side_is;
    settings_are = a.settings_are;
    own_line = a.own_line;
    lines = a.lines;
    sending = a.sending;
    taking = other_summed s.strict v.took s.taking b a.taking;
    keys = a.keys;
    phase_is = a.phase_is;
    blocked_is = a.blocked_is;
    firsts = a.firsts;
    session_is = a.session_is;
    requested_is = a.requested_is;
    accepted_is = a.accepted_is;
    authenticated_is = a.authenticated_is;
    material = a.material;
    counts = a.counts;
    underway = a.underway;
    points = a.points;
  }

  -- flags of service and authentication
  pub flags_live : (requested accepted authenticated : Bool) → Live p side (record v { requested = requested; accepted = accepted; authenticated = authenticated })
      (record s { requested = requested; accepted = accepted; authenticated = authenticated })
  flags_live requested accepted authenticated = record {
    side_is = a.side_is;
    settings_are = a.settings_are;
    own_line = a.own_line;
    lines = a.lines;
    sending = a.sending;
    taking = a.taking;
    keys = a.keys;
    phase_is = a.phase_is;
    blocked_is = a.blocked_is;
    firsts = a.firsts;
    session_is = a.session_is;
    requested_is = refl;
    accepted_is = refl;
    authenticated_is = refl;
    material = a.material;
    counts = a.counts;
    underway = a.underway;
    points = a.points;
  }

  -- the peer's lines
  pub line_live : (line : List ℕ) → Live p side (record v { has_line = true; took_line = line }) (after_line line s)
  line_live line = record {
    side_is = a.side_is;
    settings_are = a.settings_are;
    own_line = a.own_line;
    lines = record { found_is = refl; line_is = refl; others_are = λ e. absurd (cc e) };
    sending = a.sending;
    taking = a.taking;
    keys = a.keys;
    phase_is = a.phase_is;
    blocked_is = a.blocked_is;
    firsts = a.firsts;
    session_is = a.session_is;
    requested_is = a.requested_is;
    accepted_is = a.accepted_is;
    authenticated_is = a.authenticated_is;
    material = a.material;
    counts = a.counts;
    underway = a.underway;
    points = a.points;
  }

  pub other_line_live : v.has_line ≡ false → Live p side (record v { other_lines = suc v.other_lines }) (after_other_line s)
  other_line_live e = record {
    side_is = a.side_is;
    settings_are = a.settings_are;
    own_line = a.own_line;
    lines = record { found_is = a.lines.found_is; line_is = a.lines.line_is; others_are = λ f. omega (arith, a.lines.others_are f) };
    sending = a.sending;
    taking = a.taking;
    keys = a.keys;
    phase_is = a.phase_is;
    blocked_is = a.blocked_is;
    firsts = a.firsts;
    session_is = a.session_is;
    requested_is = a.requested_is;
    accepted_is = a.accepted_is;
    authenticated_is = a.authenticated_is;
    material = a.material;
    counts = a.counts;
    underway = a.underway;
    points = a.points;
  }

  pub requested_live : Live p side (record v { requested = true }) (record s { requested = true })
  requested_live = record {
    side_is = a.side_is;
    settings_are = a.settings_are;
    own_line = a.own_line;
    lines = a.lines;
    sending = a.sending;
    taking = a.taking;
    keys = a.keys;
    phase_is = a.phase_is;
    blocked_is = a.blocked_is;
    firsts = a.firsts;
    session_is = a.session_is;
    requested_is = refl;
    accepted_is = a.accepted_is;
    authenticated_is = a.authenticated_is;
    material = a.material;
    counts = a.counts;
    underway = a.underway;
    points = a.points;
  }

  pub accepted_live : Live p side (record v { accepted = true }) (record s { accepted = true })
  accepted_live = record {
    side_is = a.side_is;
    settings_are = a.settings_are;
    own_line = a.own_line;
    lines = a.lines;
    sending = a.sending;
    taking = a.taking;
    keys = a.keys;
    phase_is = a.phase_is;
    blocked_is = a.blocked_is;
    firsts = a.firsts;
    session_is = a.session_is;
    requested_is = a.requested_is;
    accepted_is = refl;
    authenticated_is = a.authenticated_is;
    material = a.material;
    counts = a.counts;
    underway = a.underway;
    points = a.points;
  }
