-- What each end keeps to, and what is known of its exchanges.
use Rattle.std.proofs.Common.{◌≡◌, ℕ, suc, ◌<◌, ◌≤◌, List, [], ◌∷◌, length, map, take, drop, inl, inr, refl, ap, sym, ◌∙◌, arith, subst, Option, true, cond, ◌==◌}
use Rattle.std.proofs.lemmas.List.{length-map}
use Rattle.ssh_model.specs.declared.side.Side.{Side}
use Rattle.ssh_model.specs.declared.side.Side.TheVariants.{Client, Server}
use Rattle.ssh_model.specs.Protocol.Lists.{IsOlder, IsIn}
use Rattle.ssh_model.specs.Protocol.Wire.Message.{Msg.KexInit, Msg.NewKeys, Proposal}
use Rattle.ssh_model.specs.Protocol.KeyExchange.Exchange.{Inputs}
use Rattle.ssh_model.specs.Laws.KeyExchange.{Fits}
use Rattle.ssh_model.specs.Protocol.Sessions.Parties.{Parties, offer}
use Rattle.ssh_model.specs.Protocol.Sessions.Items.{Payload, Payload.NewkeysOf, Payload.OtherOf, Item, Item.Fed, Item.Sent, Item.Took, Item.TookGuess, sent, took, messages_sent, messages_taken}
use Rattle.ssh_model.specs.Protocol.Sessions.Epochs.{epoch, count}
use Rattle.ssh_model.specs.Protocol.KeyExchange.Exchanges.{KeyName, offers, exchange, exchanges, sending_name, sending_number}
use Rattle.ssh_model.specs.Protocol.Sessions.Honest.{AreDistinct, SentUnder, cookies}
use Rattle.ssh_model.proofs.Sessions.Older.{IsNth, older_self, older_trans, next_after, distinct_older, distinct_map}

-- a payload, by its first byte
abbrev pub tagged : List ℕ → Payload
tagged [] = OtherOf []
tagged (n ∷ rest) = cond (n == 21) (NewkeysOf (n ∷ rest)) (OtherOf (n ∷ rest))

-- the cookie in the payload of a KEXINIT, and that which an end put into an exchange
abbrev pub cookie_of : List ℕ → List ℕ
cookie_of payload = take 16 (drop 1 payload)

abbrev pub own_cookie : Side → Inputs → List ℕ
own_cookie Client x = cookie_of x.client_init
own_cookie Server x = cookie_of x.server_init

-- what holds where an end completes an exchange after this history
pub record Completes {K : Type 0} (p : Parties K) (side : Side) (h : List Item) : Type 0 where
  pub cookie : IsNth (own_cookie side (exchange p side (epoch (sent h)) h)) (epoch (sent h)) (cookies h)
  pub level : epoch (took h) ≡ epoch (sent h)
  pub heard : 0 < epoch (sent h) → 0 < count (took h)
  pub fits : Fits (exchange p side (epoch (sent h)) h)
  -- each end offered
  pub offered : 0 < length (offers (messages_sent h))
  pub offered_there : 0 < length (offers (messages_taken h))

-- the first KEXINIT of an end is the one that its settings say
abbrev pub IsFirstOffer : {K : Type 0} → Parties K → Side → Proposal → List Item → Type 0
IsFirstOffer p side o h = length (offers (messages_sent h)) ≡ 0 → o.kex ≡ (offer p side true []).kex

-- what an end keeps to when it does this after that history
abbrev pub Rule : {K : Type 0} → Parties K → Side → Item → List Item → Type 0
Rule p side (Sent channel NewKeys b) h = Completes p side h × (NewkeysOf b ≡ tagged b)
Rule p side (Sent channel (KexInit o) b) h = (OtherOf b ≡ tagged b) × IsFirstOffer p side o h
Rule p side (Sent channel m b) h = OtherOf b ≡ tagged b
Rule p side (Took channel NewKeys b) h = (epoch (took h) < epoch (sent h)) × (NewkeysOf b ≡ tagged b)
Rule p side (Took channel m b) h = OtherOf b ≡ tagged b
Rule p side (TookGuess b) h = OtherOf b ≡ tagged b
Rule p side _ h = Unit {0}

abbrev pub Rules : {K : Type 0} → Parties K → Side → List Item → Type 0
Rules p side [] = Unit {0}
Rules p side (i ∷ h) = Rule p side i h × Rules p side h

pub exchanges_length : {K : Type 0} (p : Parties K) (side : Side) (h : List Item) → length (exchanges p side h) ≡ epoch (sent h)
exchanges_length p side [] = refl
exchanges_length p side (Sent c NewKeys b ∷ h) = ap suc (exchanges_length p side h)
exchanges_length p side (i ∷ h) = exchanges_length p side h

pub exchanges_grow : {K : Type 0} (p : Parties K) (side : Side) (i : Item) (h : List Item) → IsOlder (exchanges p side h) (exchanges p side (i ∷ h))
exchanges_grow p side (Sent c NewKeys b) h = inr (older_self (exchanges p side h))
exchanges_grow p side i h = older_self (exchanges p side h)

sent_grow : (i : Item) (h : List Item) → IsOlder (sent h) (sent (i ∷ h))
sent_grow (Sent c NewKeys b) h = inr (older_self (sent h))
sent_grow (Sent c m b) h = inr (older_self (sent h))
sent_grow i h = older_self (sent h)

-- the cookies of an end's exchanges are the first that it was fed
pub cookies_used : {K : Type 0} (p : Parties K) (side : Side) (h : List Item) → Rules p side h → IsOlder (map (own_cookie side) (exchanges p side h)) (cookies h)
cookies_used p side [] r = refl
cookies_used p side (Sent c NewKeys b ∷ h) r =
    let n = length-map (exchanges p side h) (own_cookie side) ∙ exchanges_length p side h in
    next_after _ _ (cookies h) (cookies_used p side h r.1) (rw n r.0.0.cookie)
cookies_used p side (Fed c s ∷ h) r = inr (cookies_used p side h r.1)
cookies_used p side (i ∷ h) r = cookies_used p side h r.1

-- so no exchange of an end comes twice
pub exchanges_distinct : {K : Type 0} (p : Parties K) (side : Side) (h : List Item) → Rules p side h → AreDistinct (cookies h) → AreDistinct (exchanges p side h)
exchanges_distinct p side h r d = distinct_map (own_cookie side) _ (distinct_older _ _ (cookies_used p side h r) d)

pub exchanges_fit : {K : Type 0} (p : Parties K) (side : Side) (h : List Item) (x : Inputs) → Rules p side h → IsIn x (exchanges p side h) → Fits x
exchanges_fit p side [] x r i = elim i [ ]
exchanges_fit p side (Sent c NewKeys b ∷ h) x r (inl e) = let P : Inputs → Type 0 = λ y. Fits y in subst P (sym e) r.0.0.fits
exchanges_fit p side (Sent c NewKeys b ∷ h) x r (inr i) = exchanges_fit p side h x r.1 i
exchanges_fit p side (j ∷ h) x r i = exchanges_fit p side h x r.1 i

pub took_following : {K : Type 0} (p : Parties K) (side : Side) (h : List Item) → Rules p side h → epoch (took h) ≤ epoch (sent h)
took_following p side [] r = omega arith
took_following p side (Sent c NewKeys b ∷ h) r = omega (arith, took_following p side h r.1)
took_following p side (Took c NewKeys b ∷ h) r = r.0.0
took_following p side (i ∷ h) r = took_following p side h r.1

-- an older part of a history keeps to it as well
pub rules_older : {K : Type 0} (p : Parties K) (side : Side) (before h : List Item) → IsOlder before h → Rules p side h → Rules p side before
rules_older {K} p side before [] e r = let P : List Item → Type 0 = λ l. Rules p side l in subst P (sym e) r
rules_older {K} p side before (i ∷ h) (inl e) r = let P : List Item → Type 0 = λ l. Rules p side l in subst P (sym e) r
rules_older p side before (i ∷ h) (inr o) r = rules_older p side before h o r.1

pub exchanges_older : {K : Type 0} (p : Parties K) (side : Side) (before h : List Item) → IsOlder before h → IsOlder (exchanges p side before) (exchanges p side h)
exchanges_older p side before [] e = let P : List Item → Type 0 = λ l. IsOlder (exchanges p side before) (exchanges p side l) in subst P e (older_self (exchanges p side before))
exchanges_older p side before (i ∷ h) (inl e) = let P : List Item → Type 0 = λ l. IsOlder (exchanges p side before) (exchanges p side l) in subst P e (older_self (exchanges p side before))
exchanges_older p side before (i ∷ h) (inr o) = older_trans _ _ _ (exchanges_older p side before h o) (exchanges_grow p side i h)

-- when it was that a payload was sent under this name and number
pub record SentBefore {K : Type 0} (p : Parties K) (side : Side) (name : Option KeyName) (n : ℕ) (b : List ℕ) (h : List Item) : Type 0 where
  pub before : List Item
  pub older : IsOlder before h
  pub sent_older : IsOlder (tagged b ∷ sent before) (sent h)
  pub name_is : name ≡ sending_name p side before
  pub number_is : n ≡ sending_number side before

later : {K : Type 0} (p : Parties K) (side : Side) (name : Option KeyName) (n : ℕ) (b : List ℕ) (i : Item) (h : List Item) → SentBefore p side name n b h → SentBefore p side name n b (i ∷ h)
later p side name n b i h w = record {
  before = w.before;
  older = inr w.older;
  sent_older = older_trans _ _ _ w.sent_older (sent_grow i h);
  name_is = w.name_is;
  number_is = w.number_is;
}

pub was_sent : {K : Type 0} (p : Parties K) (side : Side) (name : Option KeyName) (n : ℕ) (b : List ℕ) (h : List Item) → Rules p side h → SentUnder p side name n b h → SentBefore p side name n b h
was_sent p side name n b [] r s = elim s [ ]
was_sent p side name n b (Sent c NewKeys q ∷ h) r (inl s) = record {
  before = h;
  older = inr (older_self h);
  sent_older = inl (ap (λ w. w ∷ sent h) (ap tagged s.0 ∙ sym r.0.1));
  name_is = s.1;
  number_is = s.2;
}
was_sent p side name n b (Sent c (KexInit o) q ∷ h) r (inl s) = record {
  before = h;
  older = inr (older_self h);
  sent_older = inl (ap (λ w. w ∷ sent h) (ap tagged s.0 ∙ sym r.0.0));
  name_is = s.1;
  number_is = s.2;
}
was_sent p side name n b (Sent c m q ∷ h) r (inl s) = record {
  before = h;
  older = inr (older_self h);
  sent_older = inl (ap (λ w. w ∷ sent h) (ap tagged s.0 ∙ sym r.0));
  name_is = s.1;
  number_is = s.2;
}
was_sent p side name n b (Sent c NewKeys q ∷ h) r (inr s) = later p side name n b (Sent c NewKeys q) h (was_sent p side name n b h r.1 s)
was_sent p side name n b (Sent c m q ∷ h) r (inr s) = later p side name n b (Sent c m q) h (was_sent p side name n b h r.1 s)
was_sent p side name n b (i ∷ h) r s = later p side name n b i h (was_sent p side name n b h r.1 s)
