-- What is kept goes on summing up a history with each item that is no row of its own.
use Rattle.std.proofs.Common.{◌≡◌, ℕ, suc, List, [], ◌∷◌, refl, sym, ◌∙◌, subst, arith, Bool, true, false, ◌&&◌, Option, None}
use Rattle.ssh_model.specs.declared.side.Side.{Side}
use Rattle.ssh_model.specs.declared.side.Side.TheVariants.{Client, Server}
use Rattle.ssh_model.specs.Protocol.Wire.Message.{Msg, Msg.KexInit, Msg.UserauthSuccess}
use Rattle.ssh_model.specs.Protocol.Sessions.Parties.{Parties, offer, settings_of}
use Rattle.ssh_model.specs.Protocol.Sessions.Items.{Item, Item.Sent, Item.Took, Item.TookLine, Item.TookOtherLine, Item.Fed, Item.SentLine, Payload.OtherOf}
use Rattle.ssh_model.specs.Protocol.Sessions.Phases.{Phase.Start, has_line}
use Rattle.ssh_model.specs.State.TransportLayer.Directions.{new_direction}
use Rattle.ssh_model.specs.State.TransportLayer.Kept.{Transport, new_transport, after_sent, after_taken, after_other_line, after_line, after_success}
use Rattle.ssh_model.specs.State.TransportLayer.Summary.{Live, SumsUp, IsPlain, LeavesTransport, PointsSumUp}
use Rattle.ssh_model.specs.State.TransportLayer.View.{View, view}
use Rattle.ssh_model.proofs.TransportLayer.Views as views
use Rattle.ssh_model.proofs.TransportLayer.Steps as steps

no_marker_yet : (b : Bool) → false ≡ (b && false)
no_marker_yet true = refl
no_marker_yet false = refl

module _ {K : Type 0} (p : Parties K) where
  -- ---- the opening

  opening_view : Side → (cookie secret payload : List ℕ) → View
  opening_view side cookie secret payload = record {
    has_line = false;
    other_lines = 0;
    took_line = [];
    sent_line = (settings_of p side).line;
    sent = OtherOf payload ∷ [];
    took = [];
    own_offers = record { proposal = offer p side true cookie; payload = payload } ∷ [];
    their_offers = [];
    own_points = [];
    their_points = [];
    own_replies = [];
    their_replies = [];
    fed = record { cookie = cookie; secret = secret } ∷ [];
    phase = Start;
    blocked = true;
    exchanges = [];
    choices = [];
    requested = false;
    accepted = false;
    authenticated = false;
  }

  opening_seen : (side : Side) (cookie secret payload : List ℕ) →
      opening_view side cookie secret payload ≡ view p side (Sent None (KexInit (offer p side true cookie)) payload ∷ SentLine (settings_of p side).line ∷ Fed cookie secret ∷ [])
  unfolding opening_view
  opening_seen Client cookie secret payload = refl
  opening_seen Server cookie secret payload = refl

  no_points : (side : Side) (secret : List ℕ) → PointsSumUp p side 0 Start [] [] [] [] secret
  no_points Client secret = record { point_count = refl; reply_count = refl; point_is = λ z. absurd (cc z) }
  no_points Server secret = record { point_count = refl; reply_count = refl }

  opening_live : (side : Side) (cookie secret payload : List ℕ) → Live p side (opening_view side cookie secret payload) (new_transport (settings_of p side) side secret payload)
  unfolding opening_view
  opening_live side cookie secret payload = record {
    side_is = refl;
    settings_are = refl;
    own_line = refl;
    lines = record { found_is = refl; line_is = refl; others_are = λ z. refl };
    sending = steps.other_summed false [] new_direction payload (steps.none_summed false);
    taking = steps.none_summed false;
    keys = record { sending_is = refl; taking_is = refl; pending_is = λ z. absurd (cc z) };
    phase_is = refl;
    blocked_is = refl;
    firsts = record { own_is = refl; strict_is = no_marker_yet _; extensions_are = refl };
    session_is = refl;
    requested_is = refl;
    accepted_is = refl;
    authenticated_is = refl;
    material = record { material_is = refl; fed_is = refl; least = omega arith; most = omega arith };
    counts = record { own_count = refl; opened = omega arith; their_count = refl; epochs = refl; exchange_count = refl; choice_count = refl; blocked_first = λ z. refl; blocked_then = λ z. refl };
    underway = record {
      own_is = λ z. refl;
      own_offer_is = λ z. record { first = true; cookie = cookie; offer_is = refl };
      secret_is = λ z. refl;
      theirs_is = λ z. absurd (cc z);
      read = λ z. absurd (cc z);
    };
    points = no_points side secret;
  }

  pub opened : (side : Side) (cookie secret payload : List ℕ) →
      SumsUp p side (Sent None (KexInit (offer p side true cookie)) payload ∷ SentLine (settings_of p side).line ∷ Fed cookie secret ∷ []) (new_transport (settings_of p side) side secret payload)
  opened side cookie secret payload = record {
    dead_is = refl;
    live = λ alive. subst (λ (v : View). Live p side v (new_transport (settings_of p side) side secret payload)) (opening_seen side cookie secret payload) (opening_live side cookie secret payload);
  }

  -- ---- items of other layers

  pub plain_sent : (side : Side) (h : List Item) (s : Transport K) (c : Option ℕ) (m : Msg) (b : List ℕ) → IsPlain m → SumsUp p side h s → SumsUp p side (Sent c m b ∷ h) (after_sent s)
  plain_sent side h s c m b l a = record {
    dead_is = a.dead_is;
    live = λ alive. subst (λ (v : View). Live p side v (after_sent s)) (sym (views.plain_sent p side h c m b l)) (steps.sent_live p side (view p side h) s (a.live alive) b);
  }

  pub plain_taken : (side : Side) (h : List Item) (s : Transport K) (c : Option ℕ) (m : Msg) (b : List ℕ) → IsPlain m → SumsUp p side h s → SumsUp p side (Took c m b ∷ h) (after_taken s)
  plain_taken side h s c m b l a = record {
    dead_is = a.dead_is;
    live = λ alive. subst (λ (v : View). Live p side v (after_taken s)) (sym (views.plain_taken p side h c m b l)) (steps.taken_live p side (view p side h) s (a.live alive) b);
  }

  pub left : (side : Side) (h : List Item) (s : Transport K) (i : Item) → LeavesTransport i → SumsUp p side h s → SumsUp p side (i ∷ h) s
  left side h s i l a = record {
    dead_is = a.dead_is ∙ sym (views.left_alive p h i l);
    live = λ alive. subst (λ (v : View). Live p side v s) (sym (views.left p side h i l)) (a.live alive);
  }

  -- USERAUTH_SUCCESS, by which the user is authenticated at a server that sent it, and at a client that took it
  pub success_sent : (h : List Item) (s : Transport K) (c : Option ℕ) (b : List ℕ) → SumsUp p Server h s → SumsUp p Server (Sent c UserauthSuccess b ∷ h) (after_success (after_sent s))
  success_sent h s c b a = record {
    dead_is = a.dead_is;
    live = λ alive.
        let l = a.live alive in
        subst (λ (t : Transport K). Live p Server (view p Server (Sent c UserauthSuccess b ∷ h)) t)
        (λ i. record (after_success (after_sent s)) { requested = sym l.requested_is i; accepted = sym l.accepted_is i })
        (steps.flags_live p Server (record (view p Server h) { sent = OtherOf b ∷ (view p Server h).sent }) (after_sent s) (steps.sent_live p Server (view p Server h) s l b) (view p Server h).requested (view p Server h).accepted true);
  }

  pub success_taken : (h : List Item) (s : Transport K) (c : Option ℕ) (b : List ℕ) → SumsUp p Client h s → SumsUp p Client (Took c UserauthSuccess b ∷ h) (after_success (after_taken s))
  success_taken h s c b a = record {
    dead_is = a.dead_is;
    live = λ alive.
        let l = a.live alive in
        subst (λ (t : Transport K). Live p Client (view p Client (Took c UserauthSuccess b ∷ h)) t)
        (λ i. record (after_success (after_taken s)) { requested = sym l.requested_is i; accepted = sym l.accepted_is i })
        (steps.flags_live p Client (record (view p Client h) { took = OtherOf b ∷ (view p Client h).took }) (after_taken s) (steps.taken_live p Client (view p Client h) s l b) (view p Client h).requested (view p Client h).accepted true);
  }

  -- ---- lines

  line_seen : (side : Side) (h : List Item) (line : List ℕ) → record (view p side h) { has_line = true; took_line = line } ≡ view p side (TookLine line ∷ h)
  line_seen Client h line = refl
  line_seen Server h line = refl

  pub line_taken : (side : Side) (h : List Item) (s : Transport K) (line : List ℕ) → SumsUp p side h s → SumsUp p side (TookLine line ∷ h) (after_line line s)
  line_taken side h s line a = record {
    dead_is = a.dead_is;
    live = λ alive. subst (λ (v : View). Live p side v (after_line line s)) (line_seen side h line) (steps.line_live p side (view p side h) s (a.live alive) line);
  }

  other_line_seen : (side : Side) (h : List Item) (line : List ℕ) → record (view p side h) { other_lines = suc (view p side h).other_lines } ≡ view p side (TookOtherLine line ∷ h)
  other_line_seen Client h line = refl
  other_line_seen Server h line = refl

  pub other_line_taken : (side : Side) (h : List Item) (s : Transport K) (line : List ℕ) → has_line h ≡ false → SumsUp p side h s → SumsUp p side (TookOtherLine line ∷ h) (after_other_line s)
  other_line_taken side h s line none a = record {
    dead_is = a.dead_is;
    live = λ alive. subst (λ (v : View). Live p side v (after_other_line s)) (other_line_seen side h line) (steps.other_line_live p side (view p side h) s (a.live alive) none);
  }
