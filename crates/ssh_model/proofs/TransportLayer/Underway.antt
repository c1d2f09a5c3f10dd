-- The exchange under way, by what a transport keeps: its inputs and its choice are those of the history.
use Rattle.std.proofs.Common.{◌≡◌, ℕ, ◌<◌, List, [], ◌∷◌, ◌++◌, length, refl, ap, sym, ◌∙◌, arith, Bool, true, false, eq-eqb, eqb, None, if◌then◌else◌}
use Rattle.ssh_model.specs.declared.side.Side.{Side}
use Rattle.ssh_model.specs.declared.side.Side.TheVariants.{Client, Server}
use Rattle.ssh_model.specs.Protocol.Wire.Message.{Msg.KexInit, Msg.KexEcdhInit, Msg.KexEcdhReply, Proposal}
use Rattle.ssh_model.specs.Protocol.KeyExchange.Choice.{Chosen, Lists, methods, is_method}
use Rattle.ssh_model.specs.Protocol.KeyExchange.Exchanges.{Reply, nth, no_offer, no_reply, offers, points, replies, choice, chosen, exchange, first_common, name_of, shared_number}
use Rattle.ssh_model.specs.declared.strictness.Strictness.{Strictness}
use Rattle.ssh_model.specs.declared.strictness.Strictness.TheVariants.{Require, Offer as OfferStrict, Off}
use Rattle.ssh_model.specs.Protocol.Sessions.Parties.{Parties, Settings, settings_of, offer_of, lists_of, first_markers}
use Rattle.ssh_model.specs.Protocol.Sessions.Items.{Item, Item.Sent, Item.Took, sent, messages_sent, messages_taken}
use Rattle.ssh_model.specs.Protocol.Sessions.Epochs.{epoch}
use Rattle.ssh_model.specs.Protocol.Sessions.Phases.{Phase.Exchanging, phase, blocked}
use Rattle.ssh_model.specs.State.TransportLayer.Kept.{Transport, IsChosen, choice_with, own_offer, inputs_with, own_point}
use Rattle.ssh_model.specs.State.TransportLayer.Summary.{Live, SumsUp, is_agreeing}
use Rattle.ssh_model.specs.State.TransportLayer.View.{view}
use Rattle.ssh_model.proofs.Wire.OneMessage.{same_message}

-- ---- lists whose places are counted from the oldest

neq : (n m : ℕ) → n < m → eqb n m ≡ false
neq n m l = grind (arith, l)

-- the newest of a list that had so many
pub nth_new : {A : Type 0} (none : A) (e : ℕ) (x : A) (l : List A) → length l ≡ e → nth none e (x ∷ l) ≡ x
nth_new none e x l n = rw (eq-eqb e (length l) (sym n)) refl

-- one that is older
pub nth_old : {A : Type 0} (none : A) (n : ℕ) (x : A) (l : List A) → n < length l → nth none n (x ∷ l) ≡ nth none n l
nth_old none n x l b = rw (neq n (length l) b) refl

-- ---- markers choose nothing

methods_end : (names more : List (List ℕ)) → methods more ≡ [] → methods (names ++ more) ≡ methods names
unfolding methods
methods_end [] more none = none
methods_end (name ∷ names) more none = go (is_method name) (methods_end names more none)
  where
    go : (t : Bool) → methods (names ++ more) ≡ methods names → (if t then name ∷ methods (names ++ more) else methods (names ++ more)) ≡ (if t then name ∷ methods names else methods names)
    go true e = ap (λ (l : List (List ℕ)). name ∷ l) e
    go false e = e

no_methods : (settings : Settings) (side : Side) (e : Bool) (t : Strictness) → settings.takes_extensions ≡ e → settings.strictness ≡ t → methods (first_markers settings side) ≡ []
unfolding methods
no_methods settings Client true Require x y = rw (x, y) refl
no_methods settings Client true OfferStrict x y = rw (x, y) refl
no_methods settings Client true Off x y = rw (x, y) refl
no_methods settings Client false Require x y = rw (x, y) refl
no_methods settings Client false OfferStrict x y = rw (x, y) refl
no_methods settings Client false Off x y = rw (x, y) refl
no_methods settings Server true Require x y = rw (x, y) refl
no_methods settings Server true OfferStrict x y = rw (x, y) refl
no_methods settings Server true Off x y = rw (x, y) refl
no_methods settings Server false Require x y = rw (x, y) refl
no_methods settings Server false OfferStrict x y = rw (x, y) refl
no_methods settings Server false Off x y = rw (x, y) refl

same_methods : (settings : Settings) (side : Side) (first : Bool) (cookie : List ℕ) → methods (offer_of settings side first cookie).kex ≡ methods settings.kex
same_methods settings side true cookie = methods_end settings.kex (first_markers settings side) (no_methods settings side settings.takes_extensions settings.strictness refl refl)
same_methods settings side false cookie = refl

-- a KEXINIT of this end chooses as its names alone do
own_chooses : (settings : Settings) (side : Side) (first : Bool) (cookie : List ℕ) (theirs : Lists) →
    choice_with side (lists_of (offer_of settings side first cookie)) theirs ≡ choice_with side (lists_of (own_offer settings side)) theirs
own_chooses settings Client first cookie theirs =
    let own = lists_of (own_offer settings Client) in
    let m = same_methods settings Client first cookie in
    λ i. record (chosen own theirs) { kex = name_of (first_common (m i) (methods theirs.kex)) }
own_chooses settings Server first cookie theirs =
    let own = lists_of (own_offer settings Server) in
    let m = same_methods settings Server first cookie in
    λ i. record (chosen theirs own) { kex = name_of (first_common (methods theirs.kex) (m i)) }

same_proposal : (one other : Proposal) → KexInit one ≡ KexInit other → one ≡ other
same_proposal one other e = cc e

-- ---- the exchange

module _ {K : Type 0} (p : Parties K) (side : Side) (h : List Item) (s : Transport K) (a : Live p side (view p side h) s) where
  pub blocked_when : is_agreeing (phase p side h) ≡ true → blocked h ≡ true
  blocked_when e = a.counts.blocked_then e

  choice_by : (side : Side) (e : ℕ) (h : List Item) → choice side e h ≡ choice_with side (lists_of (nth no_offer e (offers (messages_sent h))).proposal) (lists_of (nth no_offer e (offers (messages_taken h))).proposal)
  choice_by Client e h = refl
  choice_by Server e h = refl

  pub choice_is : (c : Chosen) → is_agreeing (phase p side h) ≡ true → IsChosen s c → choice side (epoch (sent h)) h ≡ c
  choice_is c agreeing is =
      let e = epoch (sent h) in
      let own = a.underway.own_offer_is (blocked_when agreeing) in
      let theirs : (nth no_offer e (offers (messages_taken h))).proposal ≡ is.theirs =
      same_proposal _ _ (same_message _ _ s.underway.theirs (a.underway.read agreeing) is.read) in
      choice_by side e h
      ∙ ((λ i. choice_with side (lists_of (own.offer_is i)) (lists_of (theirs i)))
      ∙ (own_chooses (settings_of p side) side own.first own.cookie (lists_of is.theirs)
      ∙ ((λ i. choice_with (sym a.side_is i) (lists_of (own_offer (sym a.settings_are i) (sym a.side_is i))) (lists_of is.theirs)) ∙ sym is.chosen_is)))

-- The choice of the exchange under way is that of the history.
pub choices_are : {K : Type 0} (p : Parties K) (side : Side) (h : List Item) (s : Transport K) → SumsUp p side h s → s.dead ≡ false →
    (c : Chosen) → s.phase ≡ Exchanging → IsChosen s c → choice side (epoch (sent h)) h ≡ c
choices_are p side h s sums alive c phase_is is =
    let a = sums.live alive in
    choice_is p side h s a c (ap is_agreeing (sym a.phase_is ∙ phase_is)) is

-- The inputs of the exchange that a client's reply ends.
pub client_exchange : {K : Type 0} (p : Parties K) (h : List Item) (s : Transport K) (a : Live p Client (view p Client h) s) (k_s q_s signature payload : List ℕ) → is_agreeing (phase p Client h) ≡ true →
    exchange p Client (epoch (sent h)) (Took None (KexEcdhReply k_s q_s signature) payload ∷ h) ≡ inputs_with Client p.client_agreement s k_s q_s
client_exchange p h s a k_s q_s signature payload agreeing =
    let e = epoch (sent h) in
    let r : Reply = record { host_key = k_s; point = q_s; signature = signature } in
    let reply : nth no_reply e (r ∷ replies (messages_taken h)) ≡ r = nth_new no_reply e r _ a.points.reply_count in
    let is_blocked = a.counts.blocked_then agreeing in
    let secret = a.underway.secret_is is_blocked in
    let own = a.underway.own_is is_blocked in
    let theirs = a.underway.theirs_is agreeing in
    let point = a.points.point_is agreeing in
    let line = a.own_line ∙ ap (λ (settings : Settings). settings.line) (sym a.settings_are) in
    λ i. record {
      client_version = line i;
      server_version = sym a.lines.line_is i;
      client_init = sym own i;
      server_init = sym theirs i;
      host_key = (reply i).host_key;
      client_point = point i;
      server_point = (reply i).point;
      shared = shared_number p Client (sym secret i) (reply i).point;
    }

-- The inputs of the exchange that a server's reply ends.
pub server_exchange : {K : Type 0} (p : Parties K) (h : List Item) (s : Transport K) (a : Live p Server (view p Server h) s) (q_c k_s signature payload sent_payload : List ℕ) → is_agreeing (phase p Server h) ≡ true →
    (q_s : List ℕ) → q_s ≡ own_point p.server_agreement s →
    exchange p Server (epoch (sent h)) (Sent None (KexEcdhReply k_s q_s signature) sent_payload ∷ Took None (KexEcdhInit q_c) payload ∷ h) ≡ inputs_with Server p.server_agreement s k_s q_c
server_exchange p h s a q_c k_s signature payload sent_payload agreeing q_s own_is =
    let e = epoch (sent h) in
    let r : Reply = record { host_key = k_s; point = q_s; signature = signature } in
    let reply : nth no_reply e (r ∷ replies (messages_sent h)) ≡ r = nth_new no_reply e r _ a.points.reply_count in
    let point : nth [] e (q_c ∷ points (messages_taken h)) ≡ q_c = nth_new [] e q_c _ a.points.point_count in
    let is_blocked = a.counts.blocked_then agreeing in
    let secret = a.underway.secret_is is_blocked in
    let own = a.underway.own_is is_blocked in
    let theirs = a.underway.theirs_is agreeing in
    let line = a.own_line ∙ ap (λ (settings : Settings). settings.line) (sym a.settings_are) in
    λ i. record {
      client_version = sym a.lines.line_is i;
      server_version = line i;
      client_init = sym theirs i;
      server_init = sym own i;
      host_key = (reply i).host_key;
      client_point = point i;
      server_point = (ap (λ (x : Reply). x.point) reply ∙ own_is) i;
      shared = shared_number p Server (sym secret i) (point i);
    }
