-- What is known of each item that an end or a transport did, whoever its peer is, and of its history between two turns.
use Rattle.std.proofs.Common.{◌≡◌, ℕ, suc, ◌<◌, ◌≤◌, List, [], ◌∷◌, ◌++◌, length, ◌⊎◌, inl, inr, refl, ap, sym, ◌∙◌, arith, subst, cond, ◌==◌, eq-eqb, eqb-true, Bool, true, false, Option, None, Some}
use Rattle.ssh_model.specs.declared.side.Side.{Side}
use Rattle.ssh_model.specs.declared.side.Side.TheVariants.{Client, Server}
use Rattle.ssh_model.specs.declared.request_kind.RequestKind.{RequestKind}
use Rattle.ssh_model.specs.Protocol.Wire.Message.{Msg, Msg.Unimplemented, Msg.Disconnect, Msg.KexInit, Msg.NewKeys, Msg.KexEcdhInit, Msg.KexEcdhReply, Msg.UserauthRequest, Msg.UserauthSuccess, Method, Proposal, Msg.Unknown, message_number}
use Rattle.ssh_model.specs.Protocol.Sessions.Parties.{Parties, settings_of, offer, point_by}
use Rattle.ssh_model.specs.Protocol.Sessions.Items.{Fact, Fact.Accepted, Fact.Authenticated, Credential, credential, kind_of, Item, Item.Fed, Item.SentLine, Item.Sent, Item.Took, Item.TookGuess, Item.Told, Item.Died, has_died, sent, took, messages_sent, messages_taken}
use Rattle.ssh_model.specs.Protocol.Sessions.Epochs.{epoch}
use Rattle.ssh_model.specs.Protocol.KeyExchange.Exchanges.{nth, no_material, no_offer, fed, offers, points, replies, sent_line}
use Rattle.ssh_model.specs.Protocol.Sessions.Phases.{Phase, Phase.Guessed, Phase.Exchanging, Phase.Keying, phase, may_take, outstanding, sent_success, blocked}
use Rattle.ssh_model.specs.Protocol.Authentication.Requests.{is_accepted}
use Rattle.ssh_model.specs.Protocol.Sessions.Turns.{IsEncoded, IsAcceptable, EndRun, number_of}
use Rattle.ssh_model.specs.Protocol.Sessions.TurnClaims.{is_sent_while_blocked}
use Rattle.ssh_model.specs.Protocol.Sessions.AnyLayers.{SentAbove, TookAbove, TransportRun}
use Rattle.ssh_model.specs.Protocol.Sessions.AnyPeer.{IsVerified, IncludesOwn}
use Rattle.ssh_model.proofs.Wire.Payloads.{not_both}
use Rattle.ssh_model.proofs.Sessions.Older.{older_self, nth_same}
use Rattle.ssh_model.proofs.Sessions.EndKeeps.{not_own}

-- a run of an end, or of a transport whatever the layers above it do
abbrev pub RunOf : {K : Type 0} → (ends : Bool) → Parties K → Side → List Item → Type 0
RunOf true p side h = EndRun p side h
RunOf false p side h = TransportRun p side h

-- ---- of an item, after the history

-- a message is taken between two turns
pub record TookAt {K : Type 0} (ends : Bool) (p : Parties K) (side : Side) (h : List Item) (m : Msg) (b : List ℕ) : Type 0 where
  pub run : RunOf ends p side h
  pub alive : has_died h ≡ false
  pub welcome : IsAcceptable p side h m b

-- the layers above a transport took it
pub record AboveAt {K : Type 0} (p : Parties K) (side : Side) (h : List Item) (m : Msg) (b : List ℕ) : Type 0 where
  pub run : TransportRun p side h
  pub above : TookAbove p side h m b

abbrev pub TakenAt : {K : Type 0} → (ends : Bool) → Parties K → Side → List Item → Msg → List ℕ → Type 0
TakenAt ends p side h m b = TookAt ends p side h m b ⊎ ((ends ≡ false) × AboveAt p side h m b)

-- that is no message of the transport
pub below : {K : Type 0} (ends : Bool) (p : Parties K) (side : Side) (h : List Item) (m : Msg) (b : List ℕ) → message_number m < 50 → TakenAt ends p side h m b → TookAt ends p side h m b
below ends p side h m b n (inl w) = w
below ends p side h m b n (inr w) = absurd (omega (arith, n, w.1.above.number, w.1.above.above))

-- the packet after a wrong guess is taken between two turns
pub record GuessAt {K : Type 0} (ends : Bool) (p : Parties K) (side : Side) (h : List Item) (b : List ℕ) : Type 0 where
  pub run : RunOf ends p side h
  pub alive : has_died h ≡ false
  pub guessed : phase p side h ≡ Guessed
  pub may : may_take p side h (number_of b) ≡ true

-- a KEXINIT is the end's own, with the cookie of the next pair
pub record OfferAt {K : Type 0} (p : Parties K) (side : Side) (o : Proposal) (b : List ℕ) (h : List Item) : Type 0 where
  pub offer_is : o ≡ offer p side (length (offers (messages_sent h)) == 0) (nth no_material (length (offers (messages_sent h))) (fed h)).cookie
  pub encoded : IsEncoded (KexInit o) b
  pub room : length (offers (messages_sent h)) < length (fed h)
  pub first : length (offers (messages_sent h)) ≡ 0 → offers (messages_taken h) ≡ []
  pub later : 0 < length (offers (messages_sent h)) → blocked h ≡ false

-- and a point is that of the next secret
pub record PointAt {K : Type 0} (p : Parties K) (side : Side) (q : List ℕ) (h : List Item) : Type 0 where
  pub point_is : q ≡ point_by p side (nth no_material (length (points (messages_sent h))) (fed h)).secret
  pub room : length (points (messages_sent h)) < length (fed h)
  pub offered : 0 < length (offers (messages_sent h))
  pub side_is : side ≡ Client
  pub level : length (points (messages_sent h)) ≡ epoch (sent h)

-- a reply is that of the server, one for each exchange
pub record ReplyAt (side : Side) (h : List Item) : Type 0 where
  pub offered : 0 < length (offers (messages_sent h))
  pub side_is : side ≡ Server
  pub level : length (replies (messages_sent h)) ≡ epoch (sent h)

-- UNIMPLEMENTED is sent under a key
pub record UnimplementedAt (h : List Item) : Type 0 where
  pub offered : 0 < length (offers (messages_sent h))
  pub keyed : 0 < epoch (sent h)

-- an unknown message is one that no blocked end sends, or it is sent under a key
abbrev pub UnknownAt : ℕ → List Item → Type 0
UnknownAt n h = (0 < length (offers (messages_sent h))) × ((is_sent_while_blocked n ≡ false) ⊎ (0 < epoch (sent h)))

-- a request is right, and the first that is
pub record RequestAt {K : Type 0} (p : Parties K) (user service : List ℕ) (method : Method) (before : List Item) : Type 0 where
  pub accepted : is_accepted p before user service method ≡ true
  pub first : sent_success before ≡ false
  pub keyed : 0 < epoch (took before)

-- an end sends SUCCESS for a request that it just took
pub record SuccessAt {K : Type 0} (p : Parties K) (c : Option ℕ) (h : List Item) : Type 0 where
  pub channel_is : c ≡ None
  pub user : List ℕ
  pub service : List ℕ
  pub method : Method
  pub payload : List ℕ
  pub before : List Item
  pub history_is : h ≡ Took None (UserauthRequest user service method) payload ∷ before
  pub request : RequestAt p user service method before

-- and then the user is told of it
pub record AcceptedAt {K : Type 0} (p : Parties K) (user : List ℕ) (by : Credential) (h : List Item) : Type 0 where
  pub service : List ℕ
  pub method : Method
  pub payload : List ℕ
  pub success : List ℕ
  pub before : List Item
  pub history_is : h ≡ Sent None UserauthSuccess success ∷ Took None (UserauthRequest user service method) payload ∷ before
  pub credential_is : by ≡ credential method
  pub request : RequestAt p user service method before

-- a client is told that it is let in, right after it took SUCCESS for the request that was outstanding
pub record AuthenticatedAt (kind : RequestKind) (h : List Item) : Type 0 where
  pub channel : Option ℕ
  pub payload : List ℕ
  pub before : List Item
  pub history_is : h ≡ Took channel UserauthSuccess payload ∷ before
  pub method : Method
  pub outstanding_is : outstanding before ≡ Some method
  pub kind_is : kind ≡ kind_of method

-- a client proves the host before it completes an exchange
abbrev pub ProvenAt : {K : Type 0} → Parties K → Side → List Item → Type 0
ProvenAt p Client h = IsVerified p (epoch (sent h)) h
ProvenAt p Server h = Unit {0}

-- as many points were sent by a client, and replies by a server
abbrev pub spoken : Side → List Item → ℕ
spoken Client h = length (points (messages_sent h))
spoken Server h = length (replies (messages_sent h))

-- NEWKEYS completes an exchange that holds the end's own
pub record NewkeysAt {K : Type 0} (p : Parties K) (side : Side) (h : List Item) : Type 0 where
  pub proven : ProvenAt p side h
  pub own : IncludesOwn p side (epoch (sent h)) h
  pub offered : 0 < length (offers (messages_sent h))
  pub spoke : spoken side h ≡ suc (epoch (sent h))

-- of an end more is known than of a transport alone
abbrev pub Ground : {K : Type 0} → (ends : Bool) → Parties K → Side → Item → List Item → Type 0
Ground ends p side (Took c m b) h = TakenAt ends p side h m b
Ground ends p side (TookGuess b) h = GuessAt ends p side h b
Ground ends p side (Sent c (KexInit o) b) h = OfferAt p side o b h
Ground ends p side (Sent c (KexEcdhInit q) b) h = PointAt p side q h
Ground ends p side (Sent c NewKeys b) h = NewkeysAt p side h
Ground ends p side (Sent c (KexEcdhReply k q s) b) h = ReplyAt side h
Ground ends p side (Sent c (Unimplemented n) b) h = UnimplementedAt h
Ground ends p side (Sent c (Unknown n) b) h = UnknownAt n h
Ground ends p side (Sent c UserauthSuccess b) h = (0 < length (offers (messages_sent h))) × (ends ≡ true → SuccessAt p c h)
Ground ends p side (Sent c m b) h = 0 < length (offers (messages_sent h))
Ground ends p side (Told (Accepted user by)) h = ends ≡ true → AcceptedAt p user by h
Ground ends p side (Told (Authenticated request)) h = (side ≡ Client) × AuthenticatedAt request h
Ground ends p side _ h = Unit {0}

abbrev pub Grounds : {K : Type 0} → (ends : Bool) → Parties K → Side → List Item → Type 0
Grounds ends p side [] = Unit {0}
Grounds ends p side (i ∷ h) = Ground ends p side i h × Grounds ends p side h

-- ---- between turns

-- the points that a client sent, by what is awaited, where so many NEWKEYS were taken
abbrev pub PointsIn : Phase → ℕ → ℕ → Type 0
PointsIn Guessed n t = n ≡ suc t
PointsIn Exchanging n t = n ≡ suc t
PointsIn Keying n t = n ≡ suc t
PointsIn _ n t = n ≡ t

pub record Counted {K : Type 0} (p : Parties K) (h : List Item) : Type 0 where
  pub replied : length (replies (messages_taken h)) ≡ epoch (sent h)
  pub pointed : PointsIn (phase p Client h) (length (points (messages_sent h))) (epoch (took h))

-- DISCONNECT was taken
abbrev pub has_left : List Item → Bool
has_left [] = false
has_left (Took c (Disconnect r d l) b ∷ h) = true
has_left (_ ∷ h) = has_left h

pub record Known {K : Type 0} (ends : Bool) (p : Parties K) (side : Side) (h : List Item) : Type 0 where
  pub grounds : Grounds ends p side h
  pub offered : 0 < length (offers (messages_sent h))
  pub line : sent_line h ≡ (settings_of p side).line
  pub left : has_left h ≡ true → has_died h ≡ true
  pub counted : side ≡ Client → Counted p h
  pub answered : side ≡ Server → length (replies (messages_sent h)) ≡ epoch (sent h)

-- ---- items that keep it

abbrev pub IsStill : Item → Type 0
IsStill (Sent c m b) = ⊥
IsStill (Took c m b) = ⊥
IsStill (TookGuess b) = ⊥
IsStill (SentLine line) = ⊥
IsStill (Fed c s) = ⊥
IsStill (Told (Accepted user by)) = ⊥
IsStill (Told (Authenticated request)) = ⊥
IsStill _ = Unit {0}

-- a sent message of which nothing is kept here
abbrev pub IsPlainSent : Msg → Type 0
IsPlainSent (KexInit o) = ⊥
IsPlainSent NewKeys = ⊥
IsPlainSent (KexEcdhInit q) = ⊥
IsPlainSent (KexEcdhReply k q s) = ⊥
IsPlainSent (Unimplemented n) = ⊥
IsPlainSent (Unknown n) = is_sent_while_blocked n ≡ false
IsPlainSent UserauthSuccess = ⊥
IsPlainSent _ = Unit {0}

-- and one that is taken
abbrev pub IsPlainTaken : Msg → Type 0
IsPlainTaken (Disconnect r d l) = ⊥
IsPlainTaken (KexInit o) = ⊥
IsPlainTaken NewKeys = ⊥
IsPlainTaken (KexEcdhInit q) = ⊥
IsPlainTaken (KexEcdhReply k q s) = ⊥
IsPlainTaken _ = Unit {0}

abbrev pub ArePlain : List Item → Type 0
ArePlain [] = Unit {0}
ArePlain (Sent c m b ∷ l) = IsPlainSent m × ArePlain l
ArePlain (i ∷ l) = IsStill i × ArePlain l

module _ {K : Type 0} (ends : Bool) (p : Parties K) (side : Side) where
  pub add_still : (i : Item) (h : List Item) → IsStill i → Known ends p side h → Known ends p side (i ∷ h)
  add_still (Sent c m b) h q v = elim q [ ]
  add_still (Took c m b) h q v = elim q [ ]
  add_still (TookGuess b) h q v = elim q [ ]
  add_still (SentLine line) h q v = elim q [ ]
  add_still (Fed c s) h q v = elim q [ ]
  add_still (Told (Accepted user by)) h q v = elim q [ ]
  add_still (Told (Authenticated request)) h q v = elim q [ ]
  add_still Died h q v = record { grounds = (tt, v.grounds); offered = v.offered; line = v.line; left = λ e. refl; counted = λ e. let w = v.counted e in record { replied = w.replied; pointed = w.pointed }; answered = v.answered }
  add_still i h q v = record { grounds = (tt, v.grounds); offered = v.offered; line = v.line; left = v.left; counted = λ e. let w = v.counted e in record { replied = w.replied; pointed = w.pointed }; answered = v.answered }

  pub add_fed : (c s : List ℕ) (h : List Item) → Known ends p side h → Known ends p side (Fed c s ∷ h)
  add_fed c s h v = record { grounds = (tt, v.grounds); offered = v.offered; line = v.line; left = v.left; counted = λ e. let w = v.counted e in record { replied = w.replied; pointed = w.pointed }; answered = v.answered }

  pub add_accepted : (user : List ℕ) (by : Credential) (h : List Item) → (ends ≡ true → AcceptedAt p user by h) → Known ends p side h → Known ends p side (Told (Accepted user by) ∷ h)
  add_accepted user by h a v = record { grounds = (a, v.grounds); offered = v.offered; line = v.line; left = v.left; counted = λ e. let w = v.counted e in record { replied = w.replied; pointed = w.pointed }; answered = v.answered }

  pub add_authenticated : (request : RequestKind) (h : List Item) → (side ≡ Client) × AuthenticatedAt request h → Known ends p side h → Known ends p side (Told (Authenticated request) ∷ h)
  add_authenticated request h a v = record { grounds = (a, v.grounds); offered = v.offered; line = v.line; left = v.left; counted = λ e. let w = v.counted e in record { replied = w.replied; pointed = w.pointed }; answered = v.answered }

  pub add_success : (c : Option ℕ) (b : List ℕ) (h : List Item) → (ends ≡ true → SuccessAt p c h) → Known ends p side h → Known ends p side (Sent c UserauthSuccess b ∷ h)
  add_success c b h a v = record { grounds = ((v.offered, a), v.grounds); offered = v.offered; line = v.line; left = v.left; counted = λ e. let w = v.counted e in record { replied = w.replied; pointed = w.pointed }; answered = v.answered }

  pub add_unimplemented : (c : Option ℕ) (n : ℕ) (b : List ℕ) (h : List Item) → 0 < epoch (sent h) → Known ends p side h → Known ends p side (Sent c (Unimplemented n) b ∷ h)
  add_unimplemented c n b h k v = record { grounds = (record { offered = v.offered; keyed = k }, v.grounds); offered = v.offered; line = v.line; left = v.left; counted = λ e. let w = v.counted e in record { replied = w.replied; pointed = w.pointed }; answered = v.answered }

  pub add_unknown : (c : Option ℕ) (n : ℕ) (b : List ℕ) (h : List Item) → (is_sent_while_blocked n ≡ false) ⊎ (0 < epoch (sent h)) → Known ends p side h → Known ends p side (Sent c (Unknown n) b ∷ h)
  add_unknown c n b h k v = record { grounds = ((v.offered, k), v.grounds); offered = v.offered; line = v.line; left = v.left; counted = λ e. let w = v.counted e in record { replied = w.replied; pointed = w.pointed }; answered = v.answered }

  pub add_sent : (c : Option ℕ) (m : Msg) (b : List ℕ) (h : List Item) → IsPlainSent m → Known ends p side h → Known ends p side (Sent c m b ∷ h)
  add_sent c (KexInit o) b h q v = elim q [ ]
  add_sent c NewKeys b h q v = elim q [ ]
  add_sent c (KexEcdhInit x) b h q v = elim q [ ]
  add_sent c (KexEcdhReply k x s) b h q v = elim q [ ]
  add_sent c (Unimplemented n) b h q v = elim q [ ]
  add_sent c (Unknown n) b h q v = add_unknown c n b h (inl q) v
  add_sent c UserauthSuccess b h q v = elim q [ ]
  add_sent c m b h q v = record { grounds = (v.offered, v.grounds); offered = v.offered; line = v.line; left = v.left; counted = λ e. let w = v.counted e in record { replied = w.replied; pointed = w.pointed }; answered = v.answered }

  pub add_taken : (c : Option ℕ) (m : Msg) (b : List ℕ) (h : List Item) → IsPlainTaken m → TakenAt ends p side h m b → Known ends p side h → Known ends p side (Took c m b ∷ h)
  add_taken c (Disconnect r d l) b h q t v = elim q [ ]
  add_taken c (KexInit o) b h q t v = elim q [ ]
  add_taken c NewKeys b h q t v = elim q [ ]
  add_taken c (KexEcdhInit x) b h q t v = elim q [ ]
  add_taken c (KexEcdhReply k x s) b h q t v = elim q [ ]
  add_taken c m b h q t v = record { grounds = (t, v.grounds); offered = v.offered; line = v.line; left = v.left; counted = λ e. let w = v.counted e in record { replied = w.replied; pointed = w.pointed }; answered = v.answered }

  pub add_plain : (items h : List Item) → ArePlain items → Known ends p side h → Known ends p side (items ++ h)
  add_plain [] h q v = v
  add_plain (Sent c m b ∷ l) h q v = add_sent c m b (l ++ h) q.0 (add_plain l h q.1 v)
  add_plain (i ∷ l) h q v = add_still i (l ++ h) q.0 (add_plain l h q.1 v)

  -- ---- messages of the exchange

  pub add_disconnect : (c : Option ℕ) (r : ℕ) (d l b : List ℕ) (f : Fact) (h : List Item) → IsStill (Told f) → TookAt ends p side h (Disconnect r d l) b → Known ends p side h
      → Known ends p side (Died ∷ Told f ∷ Took c (Disconnect r d l) b ∷ h)
  add_disconnect c r d l b (Accepted user by) h q t v = elim q [ ]
  add_disconnect c r d l b (Authenticated request) h q t v = elim q [ ]
  add_disconnect c r d l b f h q t v = record { grounds = (tt, (tt, (inl t, v.grounds))); offered = v.offered; line = v.line; left = λ e. refl; counted = λ e. let w = v.counted e in record { replied = w.replied; pointed = w.pointed }; answered = v.answered }

  -- ---- what the layers above a transport send and take

  pub add_sent_above : (c : Option ℕ) (m : Msg) (b : List ℕ) (h : List Item) → ends ≡ false → SentAbove side h m b → Known ends p side h → Known ends p side (Sent c m b ∷ h)
  add_sent_above c (KexInit o) b h e a v = absurd (not_own (number_of b) 20 refl (sym a.number) a.theirs)
  add_sent_above c NewKeys b h e a v = absurd (not_own (number_of b) 21 refl (sym a.number) a.theirs)
  add_sent_above c (KexEcdhInit x) b h e a v = absurd (not_own (number_of b) 30 refl (sym a.number) a.theirs)
  add_sent_above c (KexEcdhReply k x s) b h e a v = absurd (not_own (number_of b) 31 refl (sym a.number) a.theirs)
  add_sent_above c (Unimplemented n) b h e a v = add_unimplemented c n b h a.keyed v
  add_sent_above c (Unknown n) b h e a v = add_unknown c n b h (inr a.keyed) v
  add_sent_above c UserauthSuccess b h e a v = add_success c b h (λ f. absurd (not_both (sym f ∙ e))) v
  add_sent_above c m b h e a v = add_sent c m b h tt v

  pub add_taken_above : (c : Option ℕ) (m : Msg) (b : List ℕ) (h : List Item) → ends ≡ false → AboveAt p side h m b → Known ends p side h → Known ends p side (Took c m b ∷ h)
  add_taken_above c (Disconnect r d l) b h e a v = absurd (omega (arith, a.above.number, a.above.above))
  add_taken_above c (KexInit o) b h e a v = absurd (omega (arith, a.above.number, a.above.above))
  add_taken_above c NewKeys b h e a v = absurd (omega (arith, a.above.number, a.above.above))
  add_taken_above c (KexEcdhInit x) b h e a v = absurd (omega (arith, a.above.number, a.above.above))
  add_taken_above c (KexEcdhReply k x s) b h e a v = absurd (omega (arith, a.above.number, a.above.above))
  add_taken_above c m b h e a v = add_taken c m b h tt (inr (e, a)) v

-- ---- what an end puts into its exchanges

fed_grows : (c s : List ℕ) (h : List Item) (n : ℕ) → n < length (fed h) → nth no_material n (fed h) ≡ nth no_material n (fed (Fed c s ∷ h))
fed_grows c s h n k = nth_same no_material n (fed h) (fed (Fed c s ∷ h)) (inr (older_self (fed h))) k

module _ {K : Type 0} (ends : Bool) (p : Parties K) (side : Side) where
  -- each KEXINIT has a pair, and each point
  pub offers_fed : (h : List Item) → Grounds ends p side h → length (offers (messages_sent h)) ≤ length (fed h)
  offers_fed [] g = omega arith
  offers_fed (Sent c (KexInit o) b ∷ h) g = omega (arith, g.0.room)
  offers_fed (Sent c m b ∷ h) g = offers_fed h g.1
  offers_fed (Fed c s ∷ h) g = omega (arith, offers_fed h g.1)
  offers_fed (i ∷ h) g = offers_fed h g.1

  pub points_fed : (h : List Item) → Grounds ends p side h → length (points (messages_sent h)) ≤ length (fed h)
  points_fed [] g = omega arith
  points_fed (Sent c (KexEcdhInit q) b ∷ h) g = omega (arith, g.0.room)
  points_fed (Sent c m b ∷ h) g = points_fed h g.1
  points_fed (Fed c s ∷ h) g = omega (arith, points_fed h g.1)
  points_fed (i ∷ h) g = points_fed h g.1

  -- the e-th KEXINIT is the end's own, with the cookie of the e-th pair
  pub own_kexinit : (e : ℕ) (h : List Item) → Grounds ends p side h → e < length (offers (messages_sent h))
      → IsEncoded (KexInit (offer p side (e == 0) (nth no_material e (fed h)).cookie)) (nth no_offer e (offers (messages_sent h))).payload
  own_kexinit e [] g k = absurd (omega (arith, k))
  own_kexinit e (Sent c (KexInit o) b ∷ h) g k = go (e == length (offers (messages_sent h))) refl (own_kexinit e h g.1)
    where
      smaller : (e == length (offers (messages_sent h))) ≡ false → e < length (offers (messages_sent h))
      smaller f = grind (arith, f, k, eq-eqb)

      go : (t : Bool) → (e == length (offers (messages_sent h))) ≡ t
          → (e < length (offers (messages_sent h)) → IsEncoded (KexInit (offer p side (e == 0) (nth no_material e (fed h)).cookie)) (nth no_offer e (offers (messages_sent h))).payload)
          → IsEncoded (KexInit (offer p side (e == 0) (nth no_material e (fed h)).cookie)) (cond t (record { proposal = o; payload = b }) (nth no_offer e (offers (messages_sent h)))).payload
      go true f r =
          let same : e ≡ length (offers (messages_sent h)) = eqb-true e (length (offers (messages_sent h))) f in
          subst (λ x. IsEncoded (KexInit x) b) (g.0.offer_is ∙ ap (λ n. offer p side (n == 0) (nth no_material n (fed h)).cookie) (sym same)) g.0.encoded
      go false f r = r (smaller f)
  own_kexinit e (Fed c s ∷ h) g k =
      subst (λ x. IsEncoded (KexInit (offer p side (e == 0) x.cookie)) (nth no_offer e (offers (messages_sent h))).payload) (fed_grows c s h e (omega (arith, k, offers_fed h g.1))) (own_kexinit e h g.1 k)
  own_kexinit e (Sent c m b ∷ h) g k = own_kexinit e h g.1 k
  own_kexinit e (i ∷ h) g k = own_kexinit e h g.1 k

  pub own_point : (e : ℕ) (h : List Item) → Grounds ends p side h → e < length (points (messages_sent h))
      → nth [] e (points (messages_sent h)) ≡ point_by p side (nth no_material e (fed h)).secret
  own_point e [] g k = absurd (omega (arith, k))
  own_point e (Sent c (KexEcdhInit q) b ∷ h) g k = go (e == length (points (messages_sent h))) refl (own_point e h g.1)
    where
      smaller : (e == length (points (messages_sent h))) ≡ false → e < length (points (messages_sent h))
      smaller f = grind (arith, f, k, eq-eqb)

      go : (t : Bool) → (e == length (points (messages_sent h))) ≡ t
          → (e < length (points (messages_sent h)) → nth [] e (points (messages_sent h)) ≡ point_by p side (nth no_material e (fed h)).secret)
          → cond t q (nth [] e (points (messages_sent h))) ≡ point_by p side (nth no_material e (fed h)).secret
      go true f r =
          let same : e ≡ length (points (messages_sent h)) = eqb-true e (length (points (messages_sent h))) f in
          g.0.point_is ∙ ap (λ n. point_by p side (nth no_material n (fed h)).secret) (sym same)
      go false f r = r (smaller f)
  own_point e (Fed c s ∷ h) g k = own_point e h g.1 k ∙ ap (λ x. point_by p side x.secret) (fed_grows c s h e (omega (arith, k, points_fed h g.1)))
  own_point e (Sent c m b ∷ h) g k = own_point e h g.1 k
  own_point e (i ∷ h) g k = own_point e h g.1 k
