-- What is kept goes on summing up a view with KEXINITs, and with what an end is fed for them.
use Rattle.std.proofs.Common.{◌≡◌, ℕ, suc, ◌<◌, ◌≤◌, List, ◌∷◌, length, refl, ap, sym, ◌∙◌, subst, arith, Bool, true, false, cond, ◌==◌, ◌&&◌, eqb-true, Some, None, if◌then◌else◌}
use Rattle.std.specs.Prelude.{nat_lt}
use Rattle.ssh_model.specs.declared.side.Side.{Side}
use Rattle.ssh_model.specs.declared.side.Side.TheVariants.{Client, Server}
use Rattle.ssh_model.specs.Protocol.Side.{peer}
use Rattle.ssh_model.specs.Protocol.Wire.Message.{Msg.KexInit, Proposal, IsPayload}
use Rattle.ssh_model.specs.Protocol.KeyExchange.Exchanges.{Material, Offer, Reply, nth, no_material, no_offer, has_marker}
use Rattle.ssh_model.specs.Protocol.Sessions.Parties.{Parties, settings_of, offer_of, marker_of, extension_marker_of}
use Rattle.ssh_model.specs.Protocol.Sessions.Items.{Payload.OtherOf}
use Rattle.ssh_model.specs.Protocol.Sessions.Epochs.{epoch}
use Rattle.ssh_model.specs.Protocol.Sessions.Phases.{Phase, Phase.Start, Phase.Guessed, Phase.Exchanging, Phase.Keying, Phase.Normal, is_wrong_guess}
use Rattle.ssh_model.specs.State.TransportLayer.Directions.{SumsUp}
use Rattle.ssh_model.specs.State.TransportLayer.Kept.{Transport, after_kexinit, after_own_kexinit, after_guess, after_fed, becomes_strict, first_kex, is_between, own_offer}
use Rattle.ssh_model.specs.State.TransportLayer.Summary.{Live, PointsSumUp, bit, is_agreeing, is_keying, kept_after}
use Rattle.ssh_model.specs.State.TransportLayer.View.{View}
use Rattle.ssh_model.proofs.TransportLayer.Steps.{either_way, other_summed}
use Rattle.ssh_model.proofs.TransportLayer.Underway.{nth_new, nth_old}

-- ---- phases

pub not_agreeing : (q : Phase) → is_between q ≡ true → is_agreeing q ≡ false
not_agreeing Start e = refl
not_agreeing Guessed e = absurd (cc e)
not_agreeing Exchanging e = absurd (cc e)
not_agreeing Keying e = refl
not_agreeing Normal e = refl

pub not_keying : (q : Phase) → is_between q ≡ true → is_keying q ≡ false
not_keying Start e = refl
not_keying Guessed e = refl
not_keying Exchanging e = refl
not_keying Keying e = absurd (cc e)
not_keying Normal e = refl

pub agreeing_then : (wrong : Bool) → is_agreeing (cond wrong Guessed Exchanging) ≡ true
agreeing_then true = refl
agreeing_then false = refl

pub keying_then : (wrong : Bool) → is_keying (cond wrong Guessed Exchanging) ≡ false
keying_then true = refl
keying_then false = refl

-- ---- the peer's KEXINIT

module _ {K : Type 0} (p : Parties K) (side : Side) (v : View) (s : Transport K) (a : Live p side v s) (theirs : Proposal) (payload : List ℕ) (between : is_between v.phase ≡ true) where
  wrong : Bool
  wrong = is_wrong_guess theirs (own_offer (settings_of p side) side)

  theirs_offer : Offer
  theirs_offer = record { proposal = theirs; payload = payload }

  not_yet : length v.their_offers ≡ epoch v.sent
  not_yet =
      let none : bit (is_agreeing v.phase) ≡ 0 = ap bit (not_agreeing v.phase between) in
      omega (arith, a.counts.their_count, none)

  even : epoch v.sent ≡ epoch v.took
  even =
      let none : bit (is_keying v.phase) ≡ 0 = ap bit (not_keying v.phase between) in
      omega (arith, a.counts.epochs, none)

  -- whether it is the first
  first_is : Bool → Type 0
  first_is true = (epoch v.took ≡ 0)
  first_is false = 0 < length v.their_offers

  which : (t : Bool) → (epoch v.took == 0) ≡ t → first_is t
  unfolding first_is
  which true e = eqb-true (epoch v.took) 0 e
  which false e = grind (arith, e, not_yet, even)

  marker_settled : (marker : List ℕ) (here before : Bool) → here ≡ has_marker marker theirs.kex → before ≡ has_marker marker (nth no_offer 0 v.their_offers).proposal.kex →
      (t : Bool) → first_is t → (if t then here else before) ≡ has_marker marker (nth no_offer 0 (theirs_offer ∷ v.their_offers)).proposal.kex
  unfolding first_is theirs_offer
  marker_settled marker here before e f true w = e ∙ ap (λ (o : Offer). has_marker marker o.proposal.kex) (sym (nth_new no_offer 0 theirs_offer v.their_offers (omega (arith, w, not_yet, even))))
  marker_settled marker here before e f false w = f ∙ ap (λ (o : Offer). has_marker marker o.proposal.kex) (sym (nth_old no_offer 0 theirs_offer v.their_offers w))

  strict_settled : (t : Bool) → first_is t → (if t then becomes_strict s theirs else s.strict)
      ≡ (has_marker (marker_of side) (first_kex (settings_of p side) side) && has_marker (marker_of (peer side)) (nth no_offer 0 (theirs_offer ∷ v.their_offers)).proposal.kex)
  unfolding first_is theirs_offer
  strict_settled true w =
      (λ i. has_marker (marker_of (a.side_is i)) (first_kex (a.settings_are i) (a.side_is i)) && has_marker (marker_of (peer (a.side_is i))) theirs.kex)
      ∙ ap (λ (o : Offer). has_marker (marker_of side) (first_kex (settings_of p side) side) && has_marker (marker_of (peer side)) o.proposal.kex)
      (sym (nth_new no_offer 0 theirs_offer v.their_offers (omega (arith, w, not_yet, even))))
  strict_settled false w =
      a.firsts.strict_is
      ∙ ap (λ (o : Offer). has_marker (marker_of side) (first_kex (settings_of p side) side) && has_marker (marker_of (peer side)) o.proposal.kex) (sym (nth_old no_offer 0 theirs_offer v.their_offers w))

  sending_settled : (t : Bool) → first_is t → (strict : Bool) → SumsUp (if t then strict else s.strict) v.sent s.sending
  unfolding first_is
  sending_settled true w strict = either_way s.strict strict v.sent s.sending (even ∙ w) a.sending
  sending_settled false w strict = a.sending

  taking_settled : (t : Bool) → first_is t → (strict : Bool) → SumsUp (if t then strict else s.strict) v.took s.taking
  unfolding first_is
  taking_settled true w strict = either_way s.strict strict v.took s.taking w a.taking
  taking_settled false w strict = a.taking

  here : (s.taking.epoch == 0) ≡ (epoch v.took == 0)
  here = ap (λ (n : ℕ). n == 0) a.taking.epoch_is

  pub sending_after : SumsUp (has_marker (marker_of side) (first_kex (settings_of p side) side) && has_marker (marker_of (peer side)) (nth no_offer 0 (record { proposal = theirs; payload = payload } ∷ v.their_offers)).proposal.kex) v.sent s.sending
  unfolding theirs_offer
  sending_after =
      let t = s.taking.epoch == 0 in
      let w : first_is t = which t (sym here) in
      subst (λ (b : Bool). SumsUp b v.sent s.sending) (strict_settled t w) (sending_settled t w (becomes_strict s theirs))

  -- with the points that there are then
  pub kexinit_live : v.blocked ≡ true → IsPayload false (KexInit theirs) payload → (points : List (List ℕ)) →
      PointsSumUp p side (epoch v.sent) (cond (is_wrong_guess theirs (own_offer (settings_of p side) side)) Guessed Exchanging) points v.their_points v.own_replies v.their_replies s.underway.secret →
      Live p side (record v {
        took = OtherOf payload ∷ v.took;
        their_offers = record { proposal = theirs; payload = payload } ∷ v.their_offers;
        phase = cond (is_wrong_guess theirs (own_offer (settings_of p side) side)) Guessed Exchanging;
        own_points = points;
      }) (after_kexinit theirs payload s)
  unfolding wrong theirs_offer
  kexinit_live is_blocked read points points_are =
      let t = s.taking.epoch == 0 in
      let w : first_is t = which t (sym here) in
      let newest : nth no_offer (epoch v.sent) (theirs_offer ∷ v.their_offers) ≡ theirs_offer = nth_new no_offer (epoch v.sent) theirs_offer v.their_offers not_yet in
      let one : bit (is_agreeing (cond wrong Guessed Exchanging)) ≡ 1 = ap bit (agreeing_then wrong) in
      let none : bit (is_keying (cond wrong Guessed Exchanging)) ≡ 0 = ap bit (keying_then wrong) in
      record {
        side_is = a.side_is;
        settings_are = a.settings_are;
        own_line = a.own_line;
        lines = a.lines;
        sending = sending_settled t w (becomes_strict s theirs);
        taking = other_summed (if t then becomes_strict s theirs else s.strict) v.took s.taking payload (taking_settled t w (becomes_strict s theirs));
        keys = record { sending_is = a.keys.sending_is; taking_is = a.keys.taking_is; pending_is = λ e. absurd (cc (e, keying_then wrong)) };
        phase_is = λ i. cond (is_wrong_guess theirs (own_offer (a.settings_are i) (a.side_is i))) Guessed Exchanging;
        blocked_is = a.blocked_is;
        firsts = record {
          own_is = a.firsts.own_is;
          strict_is = strict_settled t w;
          extensions_are = marker_settled (extension_marker_of (peer side)) _ _ (ap (λ (u : Side). has_marker (extension_marker_of (peer u)) theirs.kex) a.side_is) a.firsts.extensions_are t w;
        };
        session_is = a.session_is;
        requested_is = a.requested_is;
        accepted_is = a.accepted_is;
        authenticated_is = a.authenticated_is;
        material = a.material;
        counts = record {
          own_count = a.counts.own_count;
          opened = a.counts.opened;
          their_count = omega (arith, not_yet, one);
          epochs = omega (arith, even, none);
          exchange_count = a.counts.exchange_count;
          choice_count = a.counts.choice_count;
          blocked_first = λ e. is_blocked;
          blocked_then = λ e. is_blocked;
        };
        underway = record {
          own_is = a.underway.own_is;
          own_offer_is = a.underway.own_offer_is;
          secret_is = a.underway.secret_is;
          theirs_is = λ e. sym (ap (λ (o : Offer). o.payload) newest);
          read = λ e. subst (λ (o : Offer). IsPayload false (KexInit o.proposal) payload) (sym newest) read;
        };
        points = points_are;
      }

-- ---- an end's own KEXINIT

unblocked_agrees_not : (q : Phase) (b : Bool) → (is_agreeing q ≡ true → b ≡ true) → b ≡ false → is_agreeing q ≡ true → ⊥
unblocked_agrees_not q b f e g = cc (e, f g)

more_left : (n m : ℕ) → nat_lt n m ≡ true → n < m
more_left n m e = grind (arith, e)

none_left : (n m : ℕ) → m ≤ n → nat_lt n m ≡ false
none_left n m l = grind (arith, l)

kept_some : (t : Bool) (x m : Material) → Some m ≡ cond t (Some x) None → (t ≡ true) × (m ≡ x)
kept_some true x m e = (refl, cc e)
kept_some false x m e = absurd (cc e)

module _ {K : Type 0} (p : Parties K) (side : Side) (v : View) (s : Transport K) (a : Live p side v s) where
  -- the pair that is kept
  pub kept_is : (m : Material) → s.material ≡ Some m → (nat_lt (length v.own_offers) (length v.fed) ≡ true) × (m ≡ nth no_material (length v.own_offers) v.fed)
  kept_is m e = kept_some _ _ m (sym e ∙ a.material.material_is)

  pub free_count : v.blocked ≡ false → length v.own_offers ≡ epoch v.sent
  free_count free =
      let none : bit v.blocked ≡ 0 = ap bit free in
      omega (arith, a.counts.own_count, none)

  own_points_go_on : (t : Side) (gone : ℕ) (q : Phase) (op tp : List (List ℕ)) (own tr : List Reply) (one other : List ℕ) → (is_agreeing q ≡ true → ⊥) → PointsSumUp p t gone q op tp own tr one → PointsSumUp p t gone q op tp own tr other
  own_points_go_on Client gone q op tp own tr one other n x = record { point_count = x.point_count; reply_count = x.reply_count; point_is = λ e. absurd (n e) }
  own_points_go_on Server gone q op tp own tr one other n x = record { point_count = x.point_count; reply_count = x.reply_count }

  pub own_kexinit_live : (m : Material) (b : List ℕ) → v.blocked ≡ false → s.material ≡ Some m →
      Live p side (record v {
        sent = OtherOf b ∷ v.sent;
        own_offers = record { proposal = offer_of (settings_of p side) side false m.cookie; payload = b } ∷ v.own_offers;
        blocked = true;
      }) (after_own_kexinit m b s)
  own_kexinit_live m b free has =
      let k = kept_is m has in
      let o : Offer = record { proposal = offer_of (settings_of p side) side false m.cookie; payload = b } in
      let gone : length v.own_offers ≡ epoch v.sent = free_count free in
      let newest : nth no_offer (epoch v.sent) (o ∷ v.own_offers) ≡ o = nth_new no_offer (epoch v.sent) o v.own_offers gone in
      let there : length v.own_offers < length v.fed = more_left _ _ k.0 in
      let not_now : is_agreeing v.phase ≡ true → ⊥ = unblocked_agrees_not v.phase v.blocked a.counts.blocked_then free in
      record {
        side_is = a.side_is;
        settings_are = a.settings_are;
        own_line = a.own_line;
        lines = a.lines;
        sending = other_summed s.strict v.sent s.sending b a.sending;
        taking = a.taking;
        keys = a.keys;
        phase_is = a.phase_is;
        blocked_is = refl;
        firsts = record {
          own_is = ap (λ (x : Offer). x.proposal.kex) (nth_old no_offer 0 o v.own_offers a.counts.opened) ∙ a.firsts.own_is;
          strict_is = a.firsts.strict_is;
          extensions_are = a.firsts.extensions_are;
        };
        session_is = a.session_is;
        requested_is = a.requested_is;
        accepted_is = a.accepted_is;
        authenticated_is = a.authenticated_is;
        material = record {
          material_is = sym (ap (λ (t : Bool). cond t (Some (nth no_material (suc (length v.own_offers)) v.fed)) None) (none_left (suc (length v.own_offers)) (length v.fed) a.material.most));
          fed_is = a.material.fed_is;
          least = there;
          most = omega (arith, a.material.most);
        };
        counts = record {
          own_count = omega (arith, gone);
          opened = omega (arith, a.counts.opened);
          their_count = a.counts.their_count;
          epochs = a.counts.epochs;
          exchange_count = a.counts.exchange_count;
          choice_count = a.counts.choice_count;
          blocked_first = λ e. refl;
          blocked_then = λ e. refl;
        };
        underway = record {
          own_is = λ e. sym (ap (λ (x : Offer). x.payload) newest);
          own_offer_is = λ e. record { first = false; cookie = m.cookie; offer_is = ap (λ (x : Offer). x.proposal) newest };
          secret_is = λ e. ap (λ (x : Material). x.secret) k.1 ∙ ap (λ (n : ℕ). (nth no_material n v.fed).secret) gone;
          theirs_is = a.underway.theirs_is;
          read = a.underway.read;
        };
        points = own_points_go_on side (epoch v.sent) v.phase v.own_points v.their_points v.own_replies v.their_replies s.underway.secret m.secret not_now a.points;
      }

  -- ---- a pair that is fed

  pub fed_live : (cookie secret : List ℕ) → s.material ≡ None → Live p side (record v { fed = record { cookie = cookie; secret = secret } ∷ v.fed }) (after_fed cookie secret s)
  fed_live cookie secret none =
      let m : Material = record { cookie = cookie; secret = secret } in
      let used : length v.own_offers ≡ length v.fed = all_used (nat_lt (length v.own_offers) (length v.fed)) refl in
      record {
        side_is = a.side_is;
        settings_are = a.settings_are;
        own_line = a.own_line;
        lines = a.lines;
        sending = a.sending;
        taking = a.taking;
        keys = a.keys;
        phase_is = a.phase_is;
        blocked_is = a.blocked_is;
        firsts = a.firsts;
        session_is = a.session_is;
        requested_is = a.requested_is;
        accepted_is = a.accepted_is;
        authenticated_is = a.authenticated_is;
        material = record {
          material_is = kept_now m used;
          fed_is = omega (arith, a.material.fed_is);
          least = omega (arith, used);
          most = omega (arith, used);
        };
        counts = a.counts;
        underway = record {
          own_is = a.underway.own_is;
          own_offer_is = a.underway.own_offer_is;
          secret_is = λ e. a.underway.secret_is e ∙ sym (ap (λ (x : Material). x.secret) (nth_old no_material (epoch v.sent) m v.fed (older e)));
          theirs_is = a.underway.theirs_is;
          read = a.underway.read;
        };
        points = a.points;
      }
    where
      all_used : (t : Bool) → nat_lt (length v.own_offers) (length v.fed) ≡ t → length v.own_offers ≡ length v.fed
      all_used true e = absurd (cc (none, a.material.material_is, ap (λ (u : Bool). cond u (Some (nth no_material (length v.own_offers) v.fed)) None) e))
      all_used false e = let l : length v.fed ≤ length v.own_offers = not_more _ _ e in omega (arith, l, a.material.least)
        where
          not_more : (n m : ℕ) → nat_lt n m ≡ false → m ≤ n
          not_more n m f = grind (arith, f)

      kept_now : (m : Material) → length v.own_offers ≡ length v.fed → Some m ≡ kept_after (length v.own_offers) (m ∷ v.fed)
      kept_now m e =
          sym (ap (λ (t : Bool). cond t (Some (nth no_material (length v.own_offers) (m ∷ v.fed))) None) (more _ _ (omega (arith, e)))
          ∙ ap Some (nth_new no_material (length v.own_offers) m v.fed (sym e)))
        where
          more : (n m : ℕ) → n < m → nat_lt n m ≡ true
          more n m f = grind (arith, f)

      older : v.blocked ≡ true → epoch v.sent < length v.fed
      older e =
          let one : bit v.blocked ≡ 1 = ap bit e in
          omega (arith, a.counts.own_count, one, a.material.least)

  -- ---- the packet after a wrong guess

  guess_points : (t : Side) (gone : ℕ) (op tp : List (List ℕ)) (own tr : List Reply) (secret : List ℕ) → PointsSumUp p t gone Guessed op tp own tr secret → PointsSumUp p t gone Exchanging op tp own tr secret
  guess_points Client gone op tp own tr secret x = record { point_count = x.point_count; reply_count = x.reply_count; point_is = x.point_is }
  guess_points Server gone op tp own tr secret x = record { point_count = x.point_count; reply_count = x.reply_count }

  pub guess_live : (b : List ℕ) → v.phase ≡ Guessed → Live p side (record v { took = OtherOf b ∷ v.took; phase = Exchanging }) (after_guess s)
  guess_live b e =
      let agreeing : is_agreeing v.phase ≡ true = ap is_agreeing e in
      let one : bit (is_agreeing v.phase) ≡ 1 = ap bit agreeing in
      let none : bit (is_keying v.phase) ≡ 0 = ap (λ (q : Phase). bit (is_keying q)) e in
      record {
        side_is = a.side_is;
        settings_are = a.settings_are;
        own_line = a.own_line;
        lines = a.lines;
        sending = a.sending;
        taking = other_summed s.strict v.took s.taking b a.taking;
        keys = record { sending_is = a.keys.sending_is; taking_is = a.keys.taking_is; pending_is = λ z. absurd (cc z) };
        phase_is = refl;
        blocked_is = a.blocked_is;
        firsts = a.firsts;
        session_is = a.session_is;
        requested_is = a.requested_is;
        accepted_is = a.accepted_is;
        authenticated_is = a.authenticated_is;
        material = a.material;
        counts = record {
          own_count = a.counts.own_count;
          opened = a.counts.opened;
          their_count = omega (arith, a.counts.their_count, one);
          epochs = omega (arith, a.counts.epochs, none);
          exchange_count = a.counts.exchange_count;
          choice_count = a.counts.choice_count;
          blocked_first = λ z. a.counts.blocked_then agreeing;
          blocked_then = λ z. a.counts.blocked_then agreeing;
        };
        underway = record {
          own_is = a.underway.own_is;
          own_offer_is = a.underway.own_offer_is;
          secret_is = a.underway.secret_is;
          theirs_is = λ z. a.underway.theirs_is agreeing;
          read = λ z. a.underway.read agreeing;
        };
        points = guess_points side (epoch v.sent) v.own_points v.their_points v.own_replies v.their_replies s.underway.secret
            (subst (λ (q : Phase). PointsSumUp p side (epoch v.sent) q v.own_points v.their_points v.own_replies v.their_replies s.underway.secret) e a.points);
      }
