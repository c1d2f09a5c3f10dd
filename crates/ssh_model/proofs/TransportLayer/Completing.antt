-- What is kept goes on summing up a view with the NEWKEYS of an exchange.
use Rattle.std.proofs.Common.{◌≡◌, ℕ, zero, suc, ◌≤◌, List, ◌∷◌, length, refl, ap, sym, ◌∙◌, subst, arith, true, false, Some, None, Option}
use Rattle.std.specs.Prelude.{unwrap_or}
use Rattle.ssh_model.specs.declared.side.Side.{Side}
use Rattle.ssh_model.specs.declared.side.Side.TheVariants.{Client, Server}
use Rattle.ssh_model.specs.Protocol.Side.{peer}
use Rattle.ssh_model.specs.Protocol.Wire.Sealing.{Crypto}
use Rattle.ssh_model.specs.Protocol.KeyExchange.Choice.{Chosen}
use Rattle.ssh_model.specs.Protocol.KeyExchange.Exchange.{Inputs, exchange_hash}
use Rattle.ssh_model.specs.Protocol.KeyExchange.Exchanges.{Reply, nth, no_exchange, none_chosen, session_id, key_of}
use Rattle.ssh_model.specs.Protocol.Sessions.Parties.{Parties}
use Rattle.ssh_model.specs.Protocol.Sessions.Items.{Payload.NewkeysOf}
use Rattle.ssh_model.specs.Protocol.Sessions.Epochs.{epoch}
use Rattle.ssh_model.specs.Protocol.Sessions.Phases.{Phase, Phase.Keying, Phase.Normal, Phase.Exchanging}
use Rattle.ssh_model.specs.State.TransportLayer.Directions.{counted, renewed}
use Rattle.ssh_model.specs.State.TransportLayer.Kept.{Transport, after_completion, session_with}
use Rattle.ssh_model.specs.State.TransportLayer.Summary.{Live, PointsSumUp, bit, is_agreeing, is_keying, session_after}
use Rattle.ssh_model.specs.State.TransportLayer.View.{View, key_from}
use Rattle.ssh_model.proofs.TransportLayer.Steps.{newkeys_summed}
use Rattle.ssh_model.proofs.TransportLayer.Underway.{nth_new, nth_old}

-- ---- keys and the session id

session_new : (e : ℕ) (x : Inputs) (xs : List Inputs) → length xs ≡ e → unwrap_or (session_after e xs) (exchange_hash x) ≡ session_id (x ∷ xs)
session_new zero x xs n = ap exchange_hash (sym (nth_new no_exchange 0 x xs n))
session_new (suc e) x xs n = ap exchange_hash (sym (nth_old no_exchange 0 x xs (omega (arith, n))))

pub old_key : {K : Type 0} (c : Crypto K) (from : Side) (e : ℕ) (x : Inputs) (xs : List Inputs) (ch : Chosen) (cs : List Chosen) → e ≤ length xs → length cs ≡ length xs →
    key_from c from e (x ∷ xs) (ch ∷ cs) ≡ key_from c from e xs cs
old_key c from zero x xs ch cs l m = refl
old_key c from (suc e) x xs ch cs l m =
    let a : nth no_exchange e (x ∷ xs) ≡ nth no_exchange e xs = nth_old no_exchange e x xs (omega (arith, l)) in
    let b : nth none_chosen e (ch ∷ cs) ≡ nth none_chosen e cs = nth_old none_chosen e ch cs (omega (arith, l, m)) in
    let s : session_id (x ∷ xs) ≡ session_id xs = ap exchange_hash (nth_old no_exchange 0 x xs (omega (arith, l))) in
    λ i. Some (key_of c from (a i) (s i) (b i))

pub new_key : {K : Type 0} (c : Crypto K) (from : Side) (e : ℕ) (x : Inputs) (xs : List Inputs) (ch : Chosen) (cs : List Chosen) → length xs ≡ e → length cs ≡ e →
    key_from c from (suc e) (x ∷ xs) (ch ∷ cs) ≡ Some (key_of c from x (session_id (x ∷ xs)) ch)
new_key c from e x xs ch cs n m =
    let a : nth no_exchange e (x ∷ xs) ≡ x = nth_new no_exchange e x xs n in
    let b : nth none_chosen e (ch ∷ cs) ≡ ch = nth_new none_chosen e ch cs m in
    λ i. Some (key_of c from (a i) (session_id (x ∷ xs)) (b i))

module _ {K : Type 0} (p : Parties K) (side : Side) (v : View) (s : Transport K) (a : Live p side v s) where
  -- ---- NEWKEYS sent

  pub completed_live : (x : Inputs) (ch : Chosen) (b : List ℕ) → v.phase ≡ Exchanging → (their_points : List (List ℕ)) (own_replies their_replies : List Reply) →
      PointsSumUp p side (suc (epoch v.sent)) Keying v.own_points their_points own_replies their_replies s.underway.secret →
      Live p side (record v {
        sent = NewkeysOf b ∷ v.sent;
        phase = Keying;
        blocked = false;
        exchanges = x ∷ v.exchanges;
        choices = ch ∷ v.choices;
        their_points = their_points;
        own_replies = own_replies;
        their_replies = their_replies;
      }) (after_completion p.crypto x ch s)
  completed_live x ch b here their_points own_replies their_replies points_are =
      let e = epoch v.sent in
      let n = a.counts.exchange_count in
      let m = a.counts.choice_count in
      let agreeing : is_agreeing v.phase ≡ true = ap is_agreeing here in
      let one : bit (is_agreeing v.phase) ≡ 1 = ap bit agreeing in
      let none : bit (is_keying v.phase) ≡ 0 = ap (λ (q : Phase). bit (is_keying q)) here in
      let shut : bit v.blocked ≡ 1 = ap bit (a.counts.blocked_then agreeing) in
      let even : epoch v.took ≡ e = omega (arith, a.counts.epochs, none) in
      let session : session_with s x ≡ session_id (x ∷ v.exchanges) = ap (λ (o : Option (List ℕ)). unwrap_or o (exchange_hash x)) a.session_is ∙ session_new e x v.exchanges n in
      record {
        side_is = a.side_is;
        settings_are = a.settings_are;
        own_line = a.own_line;
        lines = a.lines;
        sending = newkeys_summed s.strict v.sent s.sending (key_of p.crypto s.side x (session_with s x) ch) b a.sending;
        taking = a.taking;
        keys = record {
          sending_is = (λ i. Some (key_of p.crypto (a.side_is i) x (session i) ch)) ∙ sym (new_key p.crypto side e x v.exchanges ch v.choices n m);
          taking_is = a.keys.taking_is ∙ sym (old_key p.crypto (peer side) (epoch v.took) x v.exchanges ch v.choices (omega (arith, even, n)) (m ∙ sym n));
          pending_is = λ z. (λ i. Some (key_of p.crypto (peer (a.side_is i)) x (session i) ch)) ∙ sym (new_key p.crypto (peer side) (epoch v.took) x v.exchanges ch v.choices (n ∙ sym even) (m ∙ sym even));
        };
        phase_is = refl;
        blocked_is = refl;
        firsts = a.firsts;
        session_is = ap Some session;
        requested_is = a.requested_is;
        accepted_is = a.accepted_is;
        authenticated_is = a.authenticated_is;
        material = a.material;
        counts = record {
          own_count = omega (arith, a.counts.own_count, shut);
          opened = a.counts.opened;
          their_count = omega (arith, a.counts.their_count, one);
          epochs = omega (arith, even);
          exchange_count = ap suc n;
          choice_count = ap suc m;
          blocked_first = λ z. absurd (cc z);
          blocked_then = λ z. absurd (cc z);
        };
        underway = record { own_is = λ z. absurd (cc z); own_offer_is = λ z. absurd (cc z); secret_is = λ z. absurd (cc z); theirs_is = λ z. absurd (cc z); read = λ z. absurd (cc z) };
        points = points_are;
      }

  -- ---- NEWKEYS taken

  keyed_points : (t : Side) (gone : ℕ) (op tp : List (List ℕ)) (own tr : List Reply) (secret : List ℕ) → PointsSumUp p t gone Keying op tp own tr secret → PointsSumUp p t gone Normal op tp own tr secret
  keyed_points Client gone op tp own tr secret x = record { point_count = x.point_count; reply_count = x.reply_count; point_is = λ z. absurd (cc z) }
  keyed_points Server gone op tp own tr secret x = record { point_count = x.point_count; reply_count = x.reply_count }

  pub newkeys_live : (b : List ℕ) (key : K) → v.phase ≡ Keying → s.pending ≡ Some key →
      Live p side (record v { took = NewkeysOf b ∷ v.took; phase = Normal }) (record s { taking = renewed s.strict key (counted s.taking); phase = Normal; pending = None })
  newkeys_live b key here has =
      let one : bit (is_keying v.phase) ≡ 1 = ap (λ (q : Phase). bit (is_keying q)) here in
      let none : bit (is_agreeing v.phase) ≡ 0 = ap (λ (q : Phase). bit (is_agreeing q)) here in
      record {
        side_is = a.side_is;
        settings_are = a.settings_are;
        own_line = a.own_line;
        lines = a.lines;
        sending = a.sending;
        taking = newkeys_summed s.strict v.took s.taking key b a.taking;
        keys = record { sending_is = a.keys.sending_is; taking_is = sym has ∙ a.keys.pending_is (ap is_keying here); pending_is = λ z. absurd (cc z) };
        phase_is = refl;
        blocked_is = a.blocked_is;
        firsts = a.firsts;
        session_is = a.session_is;
        requested_is = a.requested_is;
        accepted_is = a.accepted_is;
        authenticated_is = a.authenticated_is;
        material = a.material;
        counts = record {
          own_count = a.counts.own_count;
          opened = a.counts.opened;
          their_count = omega (arith, a.counts.their_count, none);
          epochs = omega (arith, a.counts.epochs, one);
          exchange_count = a.counts.exchange_count;
          choice_count = a.counts.choice_count;
          blocked_first = λ z. absurd (cc z);
          blocked_then = λ z. absurd (cc z);
        };
        underway = record { own_is = a.underway.own_is; own_offer_is = a.underway.own_offer_is; secret_is = a.underway.secret_is; theirs_is = λ z. absurd (cc z); read = λ z. absurd (cc z) };
        points = keyed_points side (epoch v.sent) v.own_points v.their_points v.own_replies v.their_replies s.underway.secret
            (subst (λ (q : Phase). PointsSumUp p side (epoch v.sent) q v.own_points v.their_points v.own_replies v.their_replies s.underway.secret) here a.points);
      }
