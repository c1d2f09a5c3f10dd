-- A server requires authentication, whoever its peer is.
use Rattle.std.proofs.Common.{◌≤◌, List, None, Option, Some, [], ap, arith, false, inl, inr, length, nat_le, refl, subst, sym, true, ℕ, ◌&&◌, ◌<◌, ◌∙◌, ◌∷◌, ◌≡◌}
use Rattle.std.specs.Prelude.{codes}
use Rattle.ssh_model.specs.Protocol.Bounds.{longest_algorithm_name, longest_user_key}
use Rattle.ssh_model.specs.declared.side.Side.TheVariants.{Server}
use Rattle.ssh_model.specs.Protocol.Lists.{IsIn, IsOlder}
use Rattle.ssh_model.specs.Protocol.Wire.Message.{Msg, message_number, Msg.UserauthRequest, Msg.UserauthSuccess, Method, Method.NoMethod, Method.Password, Method.Publickey, Method.Other}
use Rattle.ssh_model.specs.Protocol.Sessions.Parties.{Parties, AreLawful}
use Rattle.ssh_model.specs.Protocol.Sessions.Items.{Fact.Accepted, Credential, Item, Item.Sent, Item.Took, Item.Told, took}
use Rattle.ssh_model.specs.Protocol.Sessions.Epochs.{epoch}
use Rattle.ssh_model.specs.Protocol.Sessions.Phases.{sent_success}
use Rattle.ssh_model.specs.Protocol.KeyExchange.Exchanges.{exchanges, no_exchange, session_id}
use Rattle.ssh_model.specs.Protocol.KeyExchange.Exchange.{exchange_hash}
use Rattle.ssh_model.specs.Protocol.Authentication.Requests.{is_accepted, is_right, is_known_key, is_for_connection, is_configured, judge_of, signed_text}
use Rattle.ssh_model.specs.Protocol.Sessions.Turns.{EndRun}
use Rattle.ssh_model.specs.Protocol.Sessions.AnyPeer.{Authenticates, AcceptedRequest, IsToldOf, RequiresAuthentication}
use Rattle.ssh_model.proofs.Wire.Payloads.{not_both}
use Rattle.ssh_model.proofs.Sessions.Older.{older_self, nth_same}
use Rattle.ssh_model.proofs.Sessions.Rules.{Rules, rules_older, exchanges_older, exchanges_length, took_following}
use Rattle.ssh_model.proofs.Sessions.Stages.{and_left, and_right}
use Rattle.ssh_model.proofs.Sessions.SoundTurns.{end_sound, authenticated_when}
use Rattle.ssh_model.proofs.Sessions.Accepted.{held_then}
use Rattle.ssh_model.proofs.Sessions.EndTurns.{end_keeps}
use Rattle.ssh_model.proofs.AnyPeer.One.{one_request}
use Rattle.ssh_model.proofs.AnyPeer.Keeps.{Grounds, TakenAt}
use Rattle.ssh_model.proofs.AnyPeer.Rows.{end_known}

pub older_part : (i : Item) (o h : List Item) → IsOlder (i ∷ o) h → IsOlder o h
older_part i o [] e = absurd (cc e)
older_part i o (j ∷ h) (inl e) = inr (let t : o ≡ h = cc e in let P : List Item → Type 0 = λ w. IsOlder w h in subst P (sym t) (older_self h))
older_part i o (j ∷ h) (inr r) = inr (older_part i o h r)

module _ {K : Type 0} (p : Parties K) where
  shows : (session user service : List ℕ) (method : Method) → is_right (judge_of p) p.server.methods session user service method ≡ true → Authenticates p session user service method
  shows session user service NoMethod e = e
  shows session user service (Password word None) e = and_right (is_configured p.server.methods _) (p.password_is_right user word) e
  shows session user service (Password word (Some new)) e = absurd (cc e)
  shows session user service (Publickey algorithm key None) e = absurd (cc e)
  shows session user service (Publickey algorithm key (Some signature)) e =
      let named = is_configured p.server.methods (codes "publickey") in
      let known = is_known_key (judge_of p) user algorithm key in
      let right = p.signature_is_right algorithm key (signed_text session user service algorithm key) signature in
      let both = and_left (named && known) right e in
      let short = nat_le (length key) longest_user_key && nat_le (length algorithm) longest_algorithm_name in
      (and_right short (p.knows_key user algorithm key) (and_right named known both), and_right (named && known) right e)
  shows session user service (Other name rest) e = absurd (cc e)

  -- the session id is the one that the session has ever after
  same_id : (before h : List Item) → IsOlder before h → Rules p Server h → 0 < epoch (took before) → session_id (exchanges p Server before) ≡ session_id (exchanges p Server h)
  same_id before h o r n =
      let k = took_following p Server before (rules_older p Server before h o r) in
      ap exchange_hash (nth_same no_exchange 0 _ _ (exchanges_older p Server before h o) (omega (arith, n, k, exchanges_length p Server before)))

  accepted_request : (user service : List ℕ) (method : Method) (payload success : List ℕ) (before h : List Item)
      → IsOlder (Sent None UserauthSuccess success ∷ Took None (UserauthRequest user service method) payload ∷ before) h → Rules p Server h
      → is_accepted p before user service method ≡ true → sent_success before ≡ false → 0 < epoch (took before) → AcceptedRequest p h
  accepted_request user service method payload success before h o r a f n = record {
    user = user;
    service = service;
    method = method;
    payload = payload;
    success = success;
    before = before;
    taken = o;
    keyed = n;
    first = f;
    accepted = a;
    shown = subst (λ s. Authenticates p s user service method) (same_id before h (older_part _ before h (older_part _ _ h o)) r n)
        (shows (session_id (exchanges p Server before)) user service method (and_right (is_for_connection service) _ a));
  }

  by_success : (h whole : List Item) → IsOlder h whole → Rules p Server whole → Grounds true p Server h → sent_success h ≡ true → AcceptedRequest p whole
  by_success [] whole o r g e = absurd (cc e)
  by_success (Sent c UserauthSuccess b ∷ h) whole o r g e =
      let a = g.0.1 refl in
      let upon : IsOlder (Sent None UserauthSuccess b ∷ Took None (UserauthRequest a.user a.service a.method) a.payload ∷ a.before) whole =
      subst (λ w. IsOlder (Sent None UserauthSuccess b ∷ w) whole) a.history_is (subst (λ x. IsOlder (Sent x UserauthSuccess b ∷ h) whole) a.channel_is o) in
      accepted_request a.user a.service a.method a.payload b a.before whole upon r a.request.accepted a.request.first a.request.keyed
  by_success (i ∷ h) whole o r g e = by_success h whole (older_part _ h whole o) r g.1 e

  by_told : (user : List ℕ) (by : Credential) (h whole : List Item) → IsOlder h whole → Rules p Server whole → Grounds true p Server h
      → IsIn (Told (Accepted user by)) h → IsToldOf p whole user by
  unfolding accepted_request
  by_told user by [] whole o r g i = elim i [ ]
  by_told user by (Told (Accepted name shown) ∷ h) whole o r g (inl e) =
      let a = g.0 refl in
      let before = older_part _ h whole o in
      let taken = subst (λ w. IsOlder w whole) a.history_is before in
      let same : user ≡ name = cc e in
      let alike : by ≡ shown = cc e in
      record {
        request = accepted_request name a.service a.method a.payload a.success a.before whole taken r a.request.accepted a.request.first a.request.keyed;
        user_is = sym same;
        credential_is = sym a.credential_is ∙ sym alike;
      }
  by_told user by (i ∷ h) whole o r g (inr l) = by_told user by h whole (older_part i h whole o) r g.1 l
  by_told user by (i ∷ h) whole o r g (inl e) = absurd (cc e)

module _ {K : Type 0} (p : Parties K) (laws : AreLawful p) where
  -- SUCCESS was sent for a request
  after_success : (h : List Item) → EndRun p Server h → sent_success h ≡ true → AcceptedRequest p h
  after_success h r e = by_success p h h (older_self h) (end_keeps p laws Server h r).rules (end_known p laws Server h r).grounds e

  -- a message of the connection is taken after that
  accepted_before : (h : List Item) → Grounds true p Server h → (c : Option ℕ) (m : Msg) (b : List ℕ) (before : List Item) → IsOlder (Took c m b ∷ before) h → 80 ≤ message_number m → AcceptedRequest p before
  accepted_before [] g c m b before e n = absurd (cc e)
  accepted_before (i ∷ h) g c m b before (inl e) n =
      let P : List Item → Type 0 = λ w. Grounds true p Server w in
      go ((subst P (sym e) g).0)
    where
      go : TakenAt true p Server before m b → AcceptedRequest p before
      go (inl at) = after_success before at.run (authenticated_when p Server before m b at.welcome n)
      go (inr at) = absurd (not_both at.0)
  accepted_before (i ∷ h) g c m b before (inr o) n = accepted_before h g.1 c m b before o n

  pub requires_authentication : (h : List Item) → EndRun p Server h → RequiresAuthentication p h
  requires_authentication h r =
      let k = end_known p laws Server h r in
      let s = end_sound p laws Server h r in
      let rules = (end_keeps p laws Server h r).rules in
      let after : sent_success h ≡ true → AcceptedRequest p h = after_success h r in
      record {
        success = after;
        messages = λ c. after (s.entitled c);
        taken = λ c m b before o n. accepted_before h k.grounds c m b before o n;
        channels = λ x e. after (held_then p laws Server h x s e);
        one = one_request p h;
        told = λ user by i. by_told p user by h h (older_self h) rules k.grounds i;
      }
