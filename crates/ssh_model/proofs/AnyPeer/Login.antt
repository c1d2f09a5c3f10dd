-- A client logs in with a request of its own, whoever its peer is.
use Rattle.std.proofs.Common.{◌≡◌, ℕ, zero, suc, ◌<◌, ◌≤◌, List, [], ◌∷◌, inl, inr, refl, ap, sym, ◌∙◌, subst, arith, true, is_some, Option, Some}
use Rattle.ssh_model.specs.declared.side.Side.TheVariants.{Client}
use Rattle.ssh_model.specs.declared.request_kind.RequestKind.{RequestKind}
use Rattle.ssh_model.specs.Protocol.Lists.{IsIn, IsOlder}
use Rattle.ssh_model.specs.Protocol.Wire.Message.{Msg, message_number, Msg.UserauthRequest, Msg.UserauthFailure, Msg.UserauthSuccess, Msg.UserauthPkOk, Method}
use Rattle.ssh_model.specs.Protocol.Sessions.Parties.{Parties, AreLawful, is_required, settings_of}
use Rattle.ssh_model.specs.Protocol.Sessions.Items.{Item, Item.Sent, Item.Took, Item.Told, Fact.Authenticated, kind_of, sent}
use Rattle.ssh_model.specs.Protocol.Sessions.Epochs.{epoch}
use Rattle.ssh_model.specs.Protocol.Sessions.Phases.{may_take_in, outstanding, took_success}
use Rattle.ssh_model.specs.Protocol.Sessions.Turns.{EndRun}
use Rattle.ssh_model.specs.Protocol.Sessions.TurnClaims.{KeepsToExchange}
use Rattle.ssh_model.specs.Protocol.Sessions.Logins.{Awaits, AnsweredRequest, IsToldAs, NeedsSuccess}
use Rattle.ssh_model.proofs.Wire.Payloads.{not_both}
use Rattle.ssh_model.proofs.Sessions.Blocked.{keeps_to_exchange}
use Rattle.ssh_model.proofs.Sessions.EndAnswers.{may_be}
use Rattle.ssh_model.proofs.Sessions.Serving.{outstanding_at_52}
use Rattle.ssh_model.proofs.Sessions.SoundTurns.{end_sound, authenticated_when, keyed_when, normal_when}
use Rattle.ssh_model.proofs.Sessions.Accepted.{held_then}
use Rattle.ssh_model.proofs.AnyPeer.Clear.{blocked_at_first}
use Rattle.ssh_model.proofs.AnyPeer.Keeps.{AuthenticatedAt, Grounds, TakenAt, TookAt}
use Rattle.ssh_model.proofs.AnyPeer.Rows.{end_known}

-- the request that is outstanding
pub record Asked (h : List Item) : Type 0 where
  user : List ℕ
  service : List ℕ
  method : Method
  payload : List ℕ
  earlier : List Item
  awaited : Awaits user service method payload earlier h

still : (i : Item) (h : List Item) (a : Asked h) → Awaits a.user a.service a.method a.payload a.earlier (i ∷ h) → Asked (i ∷ h)
still i h a w = record { user = a.user; service = a.service; method = a.method; payload = a.payload; earlier = a.earlier; awaited = w }

asked : (h : List Item) → is_some (outstanding h) ≡ true → Asked h
asked [] e = absurd (cc e)
asked (Sent c (UserauthRequest user service method) b ∷ h) e =
    record { user = user; service = service; method = method; payload = b; earlier = h; awaited = (refl, refl, refl, refl, refl) }
asked (Took c (UserauthFailure methods partial) b ∷ h) e = absurd (cc e)
asked (Took c UserauthSuccess b ∷ h) e = absurd (cc e)
asked (Took c (UserauthPkOk a k) b ∷ h) e = absurd (cc e)
asked (Sent c m b ∷ h) e = let a = asked h e in still (Sent c m b) h a a.awaited
asked (Took c m b ∷ h) e = let a = asked h e in still (Took c m b) h a a.awaited
asked (i ∷ h) e = let a = asked h e in still i h a a.awaited

positive : (n : ℕ) → (n ≡ 0 → ⊥) → 0 < n
positive zero f = absurd (f refl)
positive (suc n) f = omega arith

module _ {K : Type 0} (p : Parties K) (laws : AreLawful p) where
  -- it was sent under a key
  keyed_request : (user service : List ℕ) (way : Method) (b : List ℕ) (earlier h : List Item) → Grounds true p Client h → KeepsToExchange h
      → Awaits user service way b earlier h → 0 < epoch (sent earlier)
  keyed_request user service way b earlier [] g k w = elim w [ ]
  keyed_request user service way b earlier (Sent c (UserauthRequest u s m) q ∷ h) g k w =
      let P : List Item → Type 0 = λ l. 0 < epoch (sent l) in
      subst P (sym (w.4)) (positive (epoch (sent h)) (λ z. not_both (sym (k.0 (blocked_at_first h z g.0)))))
  keyed_request user service way b earlier (Took c (UserauthFailure a d) q ∷ h) g k w = elim w [ ]
  keyed_request user service way b earlier (Took c UserauthSuccess q ∷ h) g k w = elim w [ ]
  keyed_request user service way b earlier (Took c (UserauthPkOk a d) q ∷ h) g k w = elim w [ ]
  keyed_request user service way b earlier (Sent c m q ∷ h) g k w = keyed_request user service way b earlier h g.1 k.1 w
  keyed_request user service way b earlier (Took c m q ∷ h) g k w = keyed_request user service way b earlier h g.1 k w
  keyed_request user service way b earlier (i ∷ h) g k w = keyed_request user service way b earlier h g.1 k w

  -- the client awaits the answer to this method
  method_is : (user service : List ℕ) (way : Method) (b : List ℕ) (earlier h : List Item) → Awaits user service way b earlier h → outstanding h ≡ Some way
  method_is user service way b earlier [] w = elim w [ ]
  method_is user service way b earlier (Sent c (UserauthRequest u s m) q ∷ h) w = ap (λ (x : Method). Some x) (sym (w.2))
  method_is user service way b earlier (Took c (UserauthFailure a d) q ∷ h) w = elim w [ ]
  method_is user service way b earlier (Took c UserauthSuccess q ∷ h) w = elim w [ ]
  method_is user service way b earlier (Took c (UserauthPkOk a d) q ∷ h) w = elim w [ ]
  method_is user service way b earlier (Sent c m q ∷ h) w = method_is user service way b earlier h w
  method_is user service way b earlier (Took c m q ∷ h) w = method_is user service way b earlier h w
  method_is user service way b earlier (i ∷ h) w = method_is user service way b earlier h w

  asked_at : (b : List ℕ) (h : List Item) → TookAt true p Client h UserauthSuccess b → Asked h
  asked_at b h t =
      let n = normal_when p Client h UserauthSuccess b t.welcome (omega arith) in
      asked h (outstanding_at_52 h (subst (λ x. may_take_in x (is_required (settings_of p Client).strictness) Client h 52 ≡ true) n (may_be p Client h UserauthSuccess b t.welcome)))

  answered : (c : Option ℕ) (b : List ℕ) (h : List Item) → TookAt true p Client h UserauthSuccess b → Asked h → AnsweredRequest (Took c UserauthSuccess b ∷ h)
  answered c b h t a =
      record {
        user = a.user;
        service = a.service;
        method = a.method;
        payload = a.payload;
        channel = c;
        success = b;
        earlier = a.earlier;
        before = h;
        taken = inl refl;
        awaited = a.awaited;
        keyed = keyed_request a.user a.service a.method a.payload a.earlier h (end_known p laws Client h t.run).grounds (keeps_to_exchange p laws Client h t.run) a.awaited;
        keyed_there = keyed_when p Client h UserauthSuccess b t.welcome (omega arith);
      }

  later : (i : Item) (h : List Item) → AnsweredRequest h → AnsweredRequest (i ∷ h)
  later i h a = record {
    user = a.user;
    service = a.service;
    method = a.method;
    payload = a.payload;
    channel = a.channel;
    success = a.success;
    earlier = a.earlier;
    before = a.before;
    taken = inr a.taken;
    awaited = a.awaited;
    keyed = a.keyed;
    keyed_there = a.keyed_there;
  }

  by_success : (h : List Item) → Grounds true p Client h → took_success h ≡ true → AnsweredRequest h
  by_success [] g e = absurd (cc e)
  by_success (Took c UserauthSuccess b ∷ h) g e = go g.0
    where
      go : TakenAt true p Client h UserauthSuccess b → AnsweredRequest (Took c UserauthSuccess b ∷ h)
      go (inl at) = answered c b h at (asked_at b h at)
      go (inr at) = absurd (not_both at.0)
  by_success (Took c m b ∷ h) g e = later (Took c m b) h (by_success h g.1 e)
  by_success (i ∷ h) g e = later i h (by_success h g.1 e)

  -- ---- what it is told

  told_later : (i : Item) (h : List Item) (kind : RequestKind) → IsToldAs h kind → IsToldAs (i ∷ h) kind
  unfolding later
  told_later i h kind t = record { request = later i h t.request; kind_is = t.kind_is }

  told_now : (kind : RequestKind) (h : List Item) → AuthenticatedAt kind h → Grounds true p Client h → IsToldAs h kind
  unfolding answered
  told_now kind h x g =
      let P : List Item → Type 0 = λ w. Grounds true p Client w in
      let Q : List Item → Type 0 = λ w. IsToldAs w kind in
      subst Q (sym x.history_is) (go (subst P x.history_is g).0)
    where
      go : TakenAt true p Client x.before UserauthSuccess x.payload → IsToldAs (Took x.channel UserauthSuccess x.payload ∷ x.before) kind
      go (inl at) =
          let a = asked_at x.payload x.before at in
          let both : Some a.method ≡ Some x.method = sym (method_is a.user a.service a.method a.payload a.earlier x.before a.awaited) ∙ x.outstanding_is in
          let same : a.method ≡ x.method = cc both in
          record { request = answered x.channel x.payload x.before at a; kind_is = ap kind_of same ∙ sym x.kind_is }
      go (inr at) = absurd (not_both at.0)

  by_told : (kind : RequestKind) (h : List Item) → Grounds true p Client h → IsIn (Told (Authenticated kind)) h → IsToldAs h kind
  by_told kind [] g i = elim i [ ]
  by_told kind (Told (Authenticated shown) ∷ h) g (inl e) =
      let same : kind ≡ shown = cc e in
      let P : RequestKind → Type 0 = λ k. IsToldAs (Told (Authenticated shown) ∷ h) k in
      subst P (sym same) (told_later (Told (Authenticated shown)) h shown (told_now shown h (g.0.1) g.1))
  by_told kind (i ∷ h) g (inr l) = told_later i h kind (by_told kind h g.1 l)
  by_told kind (i ∷ h) g (inl e) = absurd (cc e)

  after_success : (h : List Item) → EndRun p Client h → took_success h ≡ true → AnsweredRequest h
  after_success h r e = by_success h (end_known p laws Client h r).grounds e

  logged_in_before : (h : List Item) → Grounds true p Client h → (c : Option ℕ) (m : Msg) (b : List ℕ) (before : List Item) → IsOlder (Took c m b ∷ before) h → 80 ≤ message_number m → AnsweredRequest before
  logged_in_before [] g c m b before e n = absurd (cc e)
  logged_in_before (i ∷ h) g c m b before (inl e) n =
      let P : List Item → Type 0 = λ w. Grounds true p Client w in
      go ((subst P (sym e) g).0)
    where
      go : TakenAt true p Client before m b → AnsweredRequest before
      go (inl at) = after_success before at.run (authenticated_when p Client before m b at.welcome n)
      go (inr at) = absurd (not_both at.0)
  logged_in_before (i ∷ h) g c m b before (inr o) n = logged_in_before h g.1 c m b before o n

  pub needs_success : (h : List Item) → EndRun p Client h → NeedsSuccess h
  needs_success h r =
      let s = end_sound p laws Client h r in
      let after : took_success h ≡ true → AnsweredRequest h = after_success h r in
      record {
        success = after;
        messages = λ c. after (s.entitled c);
        taken = λ c m b before o n. logged_in_before h (end_known p laws Client h r).grounds c m b before o n;
        channels = λ x e. after (held_then p laws Client h x s e);
        told = λ kind i. by_told kind h (end_known p laws Client h r).grounds i;
      }
