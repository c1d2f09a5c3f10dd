-- What an end sends and takes encodes its messages, and those of the connection come after its authentication.
use Rattle.std.proofs.Common.{◌≡◌, ℕ, suc, ◌<◌, ◌≤◌, List, [], ◌∷◌, ◌⊎◌, inl, inr, ⊎_elim, refl, sym, ◌∙◌, arith, subst, true, false, Option}
use Rattle.std.proofs.lemmas.Bool.{leb-true}
use Rattle.ssh_model.specs.declared.side.Side.{Side}
use Rattle.ssh_model.specs.declared.side.Side.TheVariants.{Client, Server}
use Rattle.ssh_model.specs.Protocol.Side.{DoneBy.By, part}
use Rattle.ssh_model.specs.Protocol.Wire.Message.{Msg, Msg.NewKeys, Msg.UserauthRequest, Msg.UserauthSuccess, Msg.Unknown, Msg.GlobalRequest, Msg.RequestSuccess, Msg.RequestFailure, Msg.ChannelOpen, Msg.ChannelOpenConfirmation, Msg.ChannelOpenFailure, Msg.ChannelWindowAdjust, Msg.ChannelData, Msg.ChannelExtendedData, Msg.ChannelEof, Msg.ChannelClose, Msg.ChannelRequest, Msg.ChannelSuccess, Msg.ChannelFailure, IsPayload, message_number}
use Rattle.ssh_model.specs.Protocol.Lists.{IsOlder}
use Rattle.ssh_model.specs.Protocol.Sessions.Parties.{Parties}
use Rattle.ssh_model.specs.Protocol.Authentication.Requests.{is_accepted}
use Rattle.ssh_model.specs.Protocol.Sessions.Items.{Payload, Payload.NewkeysOf, Payload.OtherOf, bytes_of, Item, Item.Sent, Item.Took, Item.TookGuess, Done, sent, took}
use Rattle.ssh_model.specs.Protocol.Sessions.Epochs.{epoch}
use Rattle.ssh_model.specs.Protocol.Sessions.Phases.{authenticated, sent_success}
use Rattle.ssh_model.specs.Protocol.Sessions.Claims.{HasConnection}
use Rattle.ssh_model.specs.Protocol.Sessions.Turns.{IsEncoded, number_of}
use Rattle.ssh_model.proofs.Sessions.Encoding.{sent_number, taken_number}

-- ---- items that encode their messages

-- the server has just taken a request that it accepts
abbrev pub AcceptedHere : {K : Type 0} → Parties K → List Item → Type 0
AcceptedHere p (Took c (UserauthRequest user service method) b ∷ h) = (is_accepted p h user service method ≡ true) × (sent_success h ≡ false) × (0 < epoch (took h))
AcceptedHere p _ = ⊥

abbrev pub Formed : {K : Type 0} → Parties K → Item → List Item → Type 0
Formed p (Sent c UserauthSuccess b) h = IsEncoded UserauthSuccess b × AcceptedHere p h
Formed p (Sent c m b) h = IsEncoded m b × (80 ≤ message_number m → 0 < epoch (sent h))
Formed p (Took c m b) h = IsPayload true m b × (50 ≤ message_number m → 0 < epoch (took h))
Formed p (TookGuess b) h = number_of b < 50
Formed p _ h = Unit {0}

abbrev pub AllFormed : {K : Type 0} → Parties K → List Item → Type 0
AllFormed p [] = Unit {0}
AllFormed p (i ∷ h) = Formed p i h × AllFormed p h

pub formed_older : {K : Type 0} (p : Parties K) (before h : List Item) → IsOlder before h → AllFormed p h → AllFormed p before
formed_older {K} p before [] e f = let P : List Item → Type 0 = λ l. AllFormed p l in subst P (sym e) f
formed_older {K} p before (i ∷ h) (inl e) f = let P : List Item → Type 0 = λ l. AllFormed p l in subst P (sym e) f
formed_older p before (i ∷ h) (inr o) f = formed_older p before h o f.1

pub record Sound {K : Type 0} (p : Parties K) (side : Side) (h : List Item) : Type 0 where
  pub formed : AllFormed p h
  pub entitled : (HasConnection (sent h) ⊎ HasConnection (took h)) → authenticated side h ≡ true
  pub keyed : authenticated side h ≡ true → 0 < epoch (took h)

-- ---- messages below the connection

-- neither of the connection, nor the end of authentication
abbrev pub IsLow : Msg → Type 0
IsLow UserauthSuccess = ⊥
IsLow (GlobalRequest a b c) = ⊥
IsLow (RequestSuccess a) = ⊥
IsLow RequestFailure = ⊥
IsLow (ChannelOpen a b c d e) = ⊥
IsLow (ChannelOpenConfirmation a b c d e) = ⊥
IsLow (ChannelOpenFailure a b c d) = ⊥
IsLow (ChannelWindowAdjust a b) = ⊥
IsLow (ChannelData a b) = ⊥
IsLow (ChannelExtendedData a b c) = ⊥
IsLow (ChannelEof a) = ⊥
IsLow (ChannelClose a) = ⊥
IsLow (ChannelRequest a b c d) = ⊥
IsLow (ChannelSuccess a) = ⊥
IsLow (ChannelFailure a) = ⊥
IsLow (Unknown n) = n < 80
IsLow _ = Unit {0}

low_number : (m : Msg) → IsLow m → message_number m < 80
low_number UserauthSuccess l = elim l [ ]
low_number (GlobalRequest a b c) l = elim l [ ]
low_number (RequestSuccess a) l = elim l [ ]
low_number RequestFailure l = elim l [ ]
low_number (ChannelOpen a b c d e) l = elim l [ ]
low_number (ChannelOpenConfirmation a b c d e) l = elim l [ ]
low_number (ChannelOpenFailure a b c d) l = elim l [ ]
low_number (ChannelWindowAdjust a b) l = elim l [ ]
low_number (ChannelData a b) l = elim l [ ]
low_number (ChannelExtendedData a b c) l = elim l [ ]
low_number (ChannelEof a) l = elim l [ ]
low_number (ChannelClose a) l = elim l [ ]
low_number (ChannelRequest a b c d) l = elim l [ ]
low_number (ChannelSuccess a) l = elim l [ ]
low_number (ChannelFailure a) l = elim l [ ]
low_number (Unknown n) l = l
low_number m l = leb-true (suc (message_number m)) 80 refl

abbrev pub IsNotSuccess : Msg → Type 0
IsNotSuccess UserauthSuccess = ⊥
IsNotSuccess _ = Unit {0}

low_is : (m : Msg) → IsLow m → IsNotSuccess m
low_is UserauthSuccess l = l
low_is m l = tt

pub not_success_sent : (side : Side) (c : Option ℕ) (m : Msg) (b : List ℕ) (h : List Item) → IsNotSuccess m → authenticated side (Sent c m b ∷ h) ≡ authenticated side h
not_success_sent side c UserauthSuccess b h l = elim l [ ]
not_success_sent Client c m b h l = refl
not_success_sent Server c m b h l = refl

pub not_success_taken : (side : Side) (c : Option ℕ) (m : Msg) (b : List ℕ) (h : List Item) → IsNotSuccess m → authenticated side (Took c m b ∷ h) ≡ authenticated side h
not_success_taken side c UserauthSuccess b h l = elim l [ ]
not_success_taken Client c m b h l = refl
not_success_taken Server c m b h l = refl

-- the payloads of the two directions, one more sent or taken
abbrev OneMore : List Payload → List ℕ → List Payload → Type 0
OneMore l b r = (x : Payload) × (l ≡ x ∷ r) × (bytes_of x ≡ b)

sent_more : (c : Option ℕ) (m : Msg) (b : List ℕ) (h : List Item) → OneMore (sent (Sent c m b ∷ h)) b (sent h)
sent_more c NewKeys b h = (_, refl, refl)
sent_more c m b h = (_, refl, refl)

pub sent_none : (c : Option ℕ) (m : Msg) (b : List ℕ) (h : List Item) → sent (Took c m b ∷ h) ≡ sent h
sent_none c NewKeys b h = refl
sent_none c m b h = refl

taken_more : (c : Option ℕ) (m : Msg) (b : List ℕ) (h : List Item) → OneMore (took (Took c m b ∷ h)) b (took h)
taken_more c NewKeys b h = (_, refl, refl)
taken_more c m b h = (_, refl, refl)

pub taken_none : (c : Option ℕ) (m : Msg) (b : List ℕ) (h : List Item) → took (Sent c m b ∷ h) ≡ took h
taken_none c NewKeys b h = refl
taken_none c m b h = refl

first_or_rest : (l r : List Payload) (b : List ℕ) → OneMore l b r → HasConnection l → (80 ≤ number_of b) ⊎ HasConnection r
first_or_rest l r b x h = go (subst (λ w. HasConnection w) (x.1) h)
  where
    go : (80 ≤ number_of (bytes_of x.0)) ⊎ HasConnection r → (80 ≤ number_of b) ⊎ HasConnection r
    go (inl n) = inl (subst (λ w. 80 ≤ number_of w) x.2 n)
    go (inr n) = inr n

epoch_grows : (l r : List Payload) (b : List ℕ) → OneMore l b r → epoch r ≤ epoch l
epoch_grows l r b x = rw (x.1) (one x.0 r)
  where
    one : (y : Payload) (r : List Payload) → epoch r ≤ epoch (y ∷ r)
    one (NewkeysOf b) r = omega arith
    one (OtherOf b) r = omega arith

-- ---- items that keep it

abbrev pub IsApart : Item → Type 0
IsApart (Sent c m b) = ⊥
IsApart (Took c m b) = ⊥
IsApart (TookGuess b) = ⊥
IsApart _ = Unit {0}

pub apart_sound : {K : Type 0} (p : Parties K) (side : Side) (i : Item) (h : List Item) → IsApart i → Sound p side h → Sound p side (i ∷ h)
apart_sound p side (Sent c m b) h a v = elim a [ ]
apart_sound p side (Took c m b) h a v = elim a [ ]
apart_sound p side (TookGuess b) h a v = elim a [ ]
apart_sound p Client i h a v = record { formed = (tt, v.formed); entitled = v.entitled; keyed = v.keyed }
apart_sound p Server i h a v = record { formed = (tt, v.formed); entitled = v.entitled; keyed = v.keyed }

pub guess_sound : {K : Type 0} (p : Parties K) (side : Side) (b : List ℕ) (h : List Item) → number_of b < 50 → Sound p side h → Sound p side (TookGuess b ∷ h)
guess_sound p Client b h n v = record {
  formed = (n, v.formed);
  entitled = ⊎_elim (λ x. v.entitled (inl x)) (⊎_elim (λ x. absurd (omega (arith, n, x))) (λ x. v.entitled (inr x)));
  keyed = v.keyed;
}
guess_sound p Server b h n v = record {
  formed = (n, v.formed);
  entitled = ⊎_elim (λ x. v.entitled (inl x)) (⊎_elim (λ x. absurd (omega (arith, n, x))) (λ x. v.entitled (inr x)));
  keyed = v.keyed;
}

formed_sent : {K : Type 0} (p : Parties K) (c : Option ℕ) (m : Msg) (b : List ℕ) (h : List Item) → IsNotSuccess m → IsEncoded m b → (80 ≤ message_number m → 0 < epoch (sent h)) → Formed p (Sent c m b) h
formed_sent p c UserauthSuccess b h l s k = elim l [ ]
formed_sent p c m b h l s k = (s, k)

-- a message that is not SUCCESS is sent: below the connection, or by an end that is authenticated
sent_sound : {K : Type 0} (p : Parties K) (side : Side) (c : Option ℕ) (m : Msg) (b : List ℕ) (h : List Item) → IsNotSuccess m → IsEncoded m b
    → (80 ≤ message_number m → (authenticated side h ≡ true) × (0 < epoch (sent h))) → Sound p side h → Sound p side (Sent c m b ∷ h)
sent_sound p side c m b h l s f v = record {
  formed = (formed_sent p c m b h l s (λ n. (f n).1), v.formed);
  entitled = λ x. not_success_sent side c m b h l ∙ go x;
  keyed = λ e. subst (λ w. 0 < epoch w) (sym (taken_none c m b h)) (v.keyed (sym (not_success_sent side c m b h l) ∙ e));
}
  where
    go : (HasConnection (sent (Sent c m b ∷ h)) ⊎ HasConnection (took (Sent c m b ∷ h))) → authenticated side h ≡ true
    go (inl x) = ⊎_elim (λ n. (f (subst (λ w. 80 ≤ w) (sent_number m b s) n)).0) (λ y. v.entitled (inl y)) (first_or_rest _ _ b (sent_more c m b h) x)
    go (inr x) = v.entitled (inr (subst (λ w. HasConnection w) (taken_none c m b h) x))

taken_sound : {K : Type 0} (p : Parties K) (side : Side) (c : Option ℕ) (m : Msg) (b : List ℕ) (h : List Item) → IsNotSuccess m → IsPayload true m b
    → (80 ≤ message_number m → authenticated side h ≡ true) → (50 ≤ message_number m → 0 < epoch (took h)) → Sound p side h → Sound p side (Took c m b ∷ h)
taken_sound p side c m b h l s f k v = record {
  formed = ((s, k), v.formed);
  entitled = λ x. not_success_taken side c m b h l ∙ go x;
  keyed = λ e. omega (arith, epoch_grows _ _ b (taken_more c m b h), v.keyed (sym (not_success_taken side c m b h l) ∙ e));
}
  where
    go : (HasConnection (sent (Took c m b ∷ h)) ⊎ HasConnection (took (Took c m b ∷ h))) → authenticated side h ≡ true
    go (inl x) = v.entitled (inl (subst (λ w. HasConnection w) (sent_none c m b h) x))
    go (inr x) = ⊎_elim (λ n. f (subst (λ w. 80 ≤ w) (taken_number true m b s) n)) (λ y. v.entitled (inr y)) (first_or_rest _ _ b (taken_more c m b h) x)

pub low_sent : {K : Type 0} (p : Parties K) (side : Side) (c : Option ℕ) (m : Msg) (b : List ℕ) (h : List Item) → IsLow m → IsEncoded m b → Sound p side h → Sound p side (Sent c m b ∷ h)
low_sent p side c m b h l s v = sent_sound p side c m b h (low_is m l) s (λ n. absurd (omega (arith, n, low_number m l))) v

pub high_sent : {K : Type 0} (p : Parties K) (side : Side) (c : Option ℕ) (m : Msg) (b : List ℕ) (h : List Item) → IsNotSuccess m → IsEncoded m b → authenticated side h ≡ true → 0 < epoch (sent h)
    → Sound p side h → Sound p side (Sent c m b ∷ h)
high_sent p side c m b h l s e k v = sent_sound p side c m b h l s (λ n. (e, k)) v

pub low_taken : {K : Type 0} (p : Parties K) (side : Side) (c : Option ℕ) (m : Msg) (b : List ℕ) (h : List Item) → IsLow m → IsPayload true m b → (50 ≤ message_number m → 0 < epoch (took h)) → Sound p side h → Sound p side (Took c m b ∷ h)
low_taken p side c m b h l s k v = taken_sound p side c m b h (low_is m l) s (λ n. absurd (omega (arith, n, low_number m l))) k v

pub high_taken : {K : Type 0} (p : Parties K) (side : Side) (c : Option ℕ) (m : Msg) (b : List ℕ) (h : List Item) → IsNotSuccess m → IsPayload true m b → authenticated side h ≡ true
    → Sound p side h → Sound p side (Took c m b ∷ h)
high_taken p side c m b h l s e v = taken_sound p side c m b h l s (λ n. e) (λ n. v.keyed e) v

-- SUCCESS
pub success_sent : {K : Type 0} (p : Parties K) (c : Option ℕ) (b : List ℕ) (h : List Item) → IsEncoded UserauthSuccess b → AcceptedHere p h → 0 < epoch (took h) → Sound p Server h → Sound p Server (Sent c UserauthSuccess b ∷ h)
success_sent p c b h s a k v = record {
  formed = ((s, a), v.formed);
  entitled = λ x. refl;
  keyed = λ e. k;
}

pub success_taken : {K : Type 0} (p : Parties K) (c : Option ℕ) (b : List ℕ) (h : List Item) → IsPayload true UserauthSuccess b → 0 < epoch (took h) → Sound p Client h → Sound p Client (Took c UserauthSuccess b ∷ h)
success_taken p c b h s k v = record {
  formed = ((s, λ n. k), v.formed);
  entitled = λ x. refl;
  keyed = λ e. k;
}

-- ---- the two ends of a run

abbrev pub BothFormed : {K : Type 0} → Parties K → List Done → Type 0
BothFormed p run = (side : Side) → AllFormed p (part side run)

pub formed_tail : {K : Type 0} (p : Parties K) (t : Side) (i : Item) (run : List Done) → BothFormed p (By t i ∷ run) → BothFormed p run
formed_tail p Client i run f Client = (f Client).1
formed_tail p Client i run f Server = f Server
formed_tail p Server i run f Client = f Client
formed_tail p Server i run f Server = (f Server).1
