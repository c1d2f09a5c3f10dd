-- The claims on one end, whoever its peer is. Nothing is assumed of the bytes that come to it. Each claim is of every
-- run of one end. A run up to any of its turns is a run too, so each claim holds at every moment. The comment over a
-- claim names the attacks that it excludes (own, if nothing else is said).
use Rattle.std.specs.Prelude.{◌≡◌, ℕ, zero, suc, ◌<◌, ◌≤◌, ◌==◌, ◌||◌, ◌&&◌, nat_le, Bool, true, false, cond, Option, Some, None}
use Rattle.std.specs.Prelude.{List, [], ◌∷◌, ◌++◌, ◌⊎◌, reverse, length}
use Rattle.ssh_model.specs.declared.side.Side.{Side}
use Rattle.ssh_model.specs.declared.side.Side.TheVariants.{Client, Server}
use Rattle.ssh_model.specs.Protocol.Side.{peer}
use Rattle.ssh_model.specs.Protocol.Lists.{IsIn, IsOlder}
use Rattle.ssh_model.specs.Protocol.Wire.Message.{Msg, Msg.Disconnect, Msg.KexInit, Msg.NewKeys, Msg.KexEcdhReply, Msg.UserauthRequest}
use Rattle.ssh_model.specs.Protocol.Wire.Message.{Msg.UserauthSuccess, Method, Method.NoMethod, Method.Password, Method.Publickey}
use Rattle.ssh_model.specs.Protocol.Wire.Message.{message_number}
use Rattle.ssh_model.specs.Protocol.KeyExchange.Exchange.{Inputs, exchange_text, exchange_hash}
use Rattle.ssh_model.specs.Protocol.Sessions.Parties.{Parties, settings_of, is_required, offer, point_by}
use Rattle.ssh_model.specs.Protocol.Sessions.Items.{Credential, credential, Fact.Accepted, Item, Item.Sent, Item.Took, Item.TookGuess, Item.Told, sent}
use Rattle.ssh_model.specs.Protocol.Sessions.Items.{took, messages_taken, Payload, bytes_of}
use Rattle.ssh_model.specs.Protocol.Sessions.Epochs.{epoch}
use Rattle.ssh_model.specs.Protocol.KeyExchange.Exchanges.{nth, no_material, fed, offers, exchange, exchanges, choice, session_id}
use Rattle.ssh_model.specs.Protocol.KeyExchange.Exchanges.{first_taken, is_strict, sending_name, sending_number}
use Rattle.ssh_model.specs.Protocol.Sessions.Phases.{is_wrong_guess, own_names, awaited, is_generic_transport, sent_success}
use Rattle.ssh_model.specs.Protocol.Authentication.Requests.{signed_text, is_accepted}
use Rattle.ssh_model.specs.Protocol.Sessions.Honest.{AreDistinct, SentUnder, cookies}
use Rattle.ssh_model.specs.Protocol.Sessions.Claims.{HasConnection, holds, WindowsAt}
use Rattle.ssh_model.specs.Protocol.Sessions.Turns.{IsEncoded, number_of}
use Rattle.ssh_model.specs.Protocol.Sessions.TurnClaims.{HasNumbers, KeepsToExchange}
use Rattle.ssh_model.specs.Protocol.Sessions.Logins.{NeedsSuccess}
use Rattle.ssh_model.specs.Protocol.Sessions.Bounded.{AnswersFew, KeepsBounds}

-- ---- a server requires authentication

-- The judge of a server lets a request authenticate the user, by the method of the request (RFC 4252 sections 5.2, 7 and
-- 8). `none`: it admits the user without a credential. `password`: the password is right. `publickey`: it knows the
-- key, and the signature is right for the text that begins with the id of the session. No other request authenticates.
abbrev pub Authenticates : {K : Type 0} → Parties K → (session user service : List ℕ) → Method → Type 0
Authenticates p session user service NoMethod = p.admits user ≡ true
Authenticates p session user service (Password password None) = p.password_is_right user password ≡ true
Authenticates p session user service (Publickey algorithm key (Some signature)) =
    (p.knows_key user algorithm key ≡ true)
    × (p.signature_is_right algorithm key (signed_text session user service algorithm key) signature ≡ true)
Authenticates p session user service _ = ⊥

-- The request that a server accepted, found in its history. The server took it under a key, before it sent any SUCCESS,
-- and sent SUCCESS right after it. The request is accepted after the history before it, and it authenticates the user
-- in this very session.
pub record AcceptedRequest {K : Type 0} (p : Parties K) (h : List Item) : Type 0 where
  pub user : List ℕ
  pub service : List ℕ
  pub method : Method
  pub payload : List ℕ
  pub success : List ℕ
  -- the history of the server when it took the request
  pub before : List Item
  pub taken : IsOlder
      (Sent None UserauthSuccess success ∷ Took None (UserauthRequest user service method) payload ∷ before) h
  pub keyed : 0 < epoch (took before)
  pub first : sent_success before ≡ false
  pub accepted : is_accepted p before user service method ≡ true
  pub shown : Authenticates p (session_id (exchanges p Server h)) user service method

-- Two accepted requests are the same one: of the same user and service, by the same method with the same key, signature or
-- password, at the same place of the history.
pub record IsSameRequest {K : Type 0} (p : Parties K) (h : List Item) (a b : AcceptedRequest p h) : Type 0 where
  pub user : a.user ≡ b.user
  pub service : a.service ≡ b.service
  pub method : a.method ≡ b.method
  pub payload : a.payload ≡ b.payload
  pub before : a.before ≡ b.before

-- The server accepted a request of this user, who showed this credential with it.
pub record IsToldOf {K : Type 0} (p : Parties K) (h : List Item) (user : List ℕ) (by : Credential) : Type 0 where
  pub request : AcceptedRequest p h
  pub user_is : request.user ≡ user
  pub credential_is : credential request.method ≡ by

-- A server that sent SUCCESS, sent or took a message numbered 80 or above, or holds a channel has accepted a request.
-- It accepted the request before it took such a message. It accepts one request at most. The user whom it names to its
-- program is the user of that request, and so is the credential: the key that it names is the one whose signature it
-- verified. This excludes a SUCCESS that the client sends (libssh, CVE-2018-10933), messages of the connection that come
-- before authentication (Erlang/OTP, CVE-2025-32433), and a key that was only offered and is taken for the one that
-- authenticated (Go's x/crypto/ssh, CVE-2024-45337).
pub record RequiresAuthentication {K : Type 0} (p : Parties K) (h : List Item) : Type 0 where
  pub success : sent_success h ≡ true → AcceptedRequest p h
  pub messages : (HasConnection (sent h) ⊎ HasConnection (took h)) → AcceptedRequest p h
  pub taken : (channel : Option ℕ) (message : Msg) (payload : List ℕ) (before : List Item) →
      IsOlder (Took channel message payload ∷ before) h → 80 ≤ message_number message → AcceptedRequest p before
  pub channels : (x : ℕ) → holds Server h x ≡ true → AcceptedRequest p h
  pub told : (user : List ℕ) (by : Credential) → IsIn (Told (Accepted user by)) h → IsToldOf p h user by
  pub one : (a b : AcceptedRequest p h) → IsSameRequest p h a b

-- ---- a client verifies hosts

-- The acts of a client right before it completed exchange e. It took the reply of the server. The host trust judges the
-- host key and the signature of that reply right, for the hash of this very exchange. The hashed text holds that key
-- and the point of that reply.
pub record IsVerified {K : Type 0} (p : Parties K) (e : ℕ) (h : List Item) : Type 0 where
  pub host_key : List ℕ
  pub point : List ℕ
  pub signature : List ℕ
  pub payload : List ℕ
  pub before : List Item
  pub reply : h ≡ Took None (KexEcdhReply host_key point signature) payload ∷ before
  pub trusted : p.trusts (choice Client e h).host host_key (exchange_hash (exchange p Client e h)) signature ≡ true
  pub host_key_is : (exchange p Client e h).host_key ≡ host_key
  pub point_is : (exchange p Client e h).server_point ≡ point

-- The host was verified in this way in each exchange that the client completed.
abbrev pub VerifiesEach : {K : Type 0} → Parties K → List Item → Type 0
VerifiesEach p [] = Unit {0}
VerifiesEach p (Sent channel NewKeys payload ∷ h) = IsVerified p (epoch (sent h)) h × VerifiesEach p h
VerifiesEach p (_ ∷ h) = VerifiesEach p h

-- The numbers of services and extensions, 5 to 7, and all numbers from authentication on, 50 and above (RFC 4251 section 7).
abbrev pub is_service_number : ℕ → Bool
is_service_number n = (nat_le 5 n && nat_le n 7) || nat_le 50 n

-- One of these payloads has such a number.
abbrev pub HasServiceMessage : List Payload → Type 0
HasServiceMessage [] = ⊥
HasServiceMessage (payload ∷ l) = (is_service_number (number_of (bytes_of payload)) ≡ true) ⊎ HasServiceMessage l

-- The host was verified in each exchange that the client completed. A client that sent or took a message of a service,
-- of authentication or above has completed an exchange. This excludes a false server, and an attacker in the middle.
-- The host trust did not judge such a host, or judged it for another exchange. The client names no user to it.
pub record VerifiesHosts {K : Type 0} (p : Parties K) (h : List Item) : Type 0 where
  pub each : VerifiesEach p h
  pub messages : (HasServiceMessage (sent h) ⊎ HasServiceMessage (took h)) → 0 < length (exchanges p Client h)

-- ---- each exchange is the end's own

-- The parts of an exchange that the end of this side put in: its line, its KEXINIT and its public point.
abbrev pub own_version : Side → Inputs → List ℕ
own_version Client x = x.client_version
own_version Server x = x.server_version

abbrev pub own_init : Side → Inputs → List ℕ
own_init Client x = x.client_init
own_init Server x = x.server_init

abbrev pub own_point : Side → Inputs → List ℕ
own_point Client x = x.client_point
own_point Server x = x.server_point

-- The hashed text of exchange e holds the line of the end's settings. It holds the KEXINIT with the cookie of the e-th pair
-- that the end was fed. It also holds the public point of the secret of that pair.
pub record IncludesOwn {K : Type 0} (p : Parties K) (side : Side) (e : ℕ) (h : List Item) : Type 0 where
  pub line : own_version side (exchange p side e h) ≡ (settings_of p side).line
  pub pair : e < length (fed h)
  pub kexinit : IsEncoded (KexInit (offer p side (e == 0) (nth no_material e (fed h)).cookie))
      (own_init side (exchange p side e h))
  pub point : own_point side (exchange p side e h) ≡ point_by p side (nth no_material e (fed h)).secret

-- Each exchange that the end completed includes the parts that the end put in, so nobody else can choose its hash or its
-- session id. This excludes that a signature of another session, of a host or of a user, is shown again.
abbrev pub EachIncludesOwn : {K : Type 0} → Parties K → Side → List Item → Type 0
EachIncludesOwn p side [] = Unit {0}
EachIncludesOwn p side (Sent channel NewKeys payload ∷ h) = IncludesOwn p side (epoch (sent h)) h × EachIncludesOwn p side h
EachIncludesOwn p side (_ ∷ h) = EachIncludesOwn p side h

-- ---- in the clear

-- The messages that an end may take in the clear: 1 to 4, KEXINIT, NEWKEYS, and message 30 at a server, 31 at a client.
abbrev pub is_allowed_in_clear : Side → ℕ → Bool
is_allowed_in_clear side n = is_generic_transport n || n == 20 || n == 21 || n == awaited side

-- Until the peer's first NEWKEYS an end took only the messages of the exchange and 1 to 4. Until then it took no EXT_INFO,
-- no request for a service, nothing of authentication. This holds with or without strict key exchange. It excludes messages
-- that are injected into the first exchange and keep their effect after it (AsyncSSH, CVE-2023-46445 and CVE-2023-46446).
abbrev pub TakesOnlyAllowed : Side → List Item → Type 0
TakesOnlyAllowed side [] = Unit {0}
TakesOnlyAllowed side (Took channel message payload ∷ h) =
    (epoch (took h) ≡ 0 → is_allowed_in_clear side (message_number message) ≡ true) × TakesOnlyAllowed side h
TakesOnlyAllowed side (_ ∷ h) = TakesOnlyAllowed side h

-- ---- the first exchange is only the exchange

-- The packets with this one in front, if no NEWKEYS came before it. Otherwise the packets as they are.
abbrev pub until_newkeys : {A : Type 0} → (epoch : ℕ) → A → List A → List A
until_newkeys zero packet packets = packet ∷ packets
until_newkeys (suc e) packet packets = packets

-- The packets that an end took up to the first NEWKEYS, including it, the newest first. A message is given by its number.
-- The packet after a wrong guess, which is not read, is given by None.
abbrev pub taken_in_first_exchange : List Item → List (Option ℕ)
taken_in_first_exchange [] = []
taken_in_first_exchange (Took channel message payload ∷ h) =
    until_newkeys (epoch (took h)) (Some (message_number message)) (taken_in_first_exchange h)
taken_in_first_exchange (TookGuess payload ∷ h) = until_newkeys (epoch (took h)) None (taken_in_first_exchange h)
taken_in_first_exchange (_ ∷ h) = taken_in_first_exchange h

-- the packet after a wrong guess, which is not read
abbrev pub unread : (is_wrong : Bool) → List (Option ℕ)
unread is_wrong = cond is_wrong (None ∷ []) []

-- The packets that an end takes in a first exchange, in order of time. They are KEXINIT, the packet after a wrong guess,
-- message 30 at a server or 31 at a client, and NEWKEYS.
abbrev pub exchange_taken : {K : Type 0} → Parties K → Side → List Item → List (Option ℕ)
exchange_taken p side h =
    Some 20 ∷ (unread (is_wrong_guess (first_taken h) (own_names p side)) ++ (Some (awaited side) ∷ Some 21 ∷ []))

-- The packets are a prefix of these, or a prefix that is not all of them, followed by DISCONNECT.
pub data Follows (all : List (Option ℕ)) : List (Option ℕ) → Type 0 where
  so_far : (packets rest : List (Option ℕ)) → packets ++ rest ≡ all → Follows all packets
  leaves : (packets rest : List (Option ℕ)) (next : Option ℕ) → packets ++ (next ∷ rest) ≡ all →
      Follows all (packets ++ (Some 1 ∷ []))

-- The packets that an end took up to the first NEWKEYS, including it, are a beginning of the exchange, or one and then DISCONNECT.
-- Once NEWKEYS came they are the whole exchange. This excludes packets that are injected into the first exchange so that as many
-- can be dropped after it (Terrapin, CVE-2023-48795).
pub record TakesOnlyExchange {K : Type 0} (p : Parties K) (side : Side) (h : List Item) : Type 0 where
  pub along : Follows (exchange_taken p side h) (reverse (taken_in_first_exchange h))
  pub all : 0 < epoch (took h) → reverse (taken_in_first_exchange h) ≡ exchange_taken p side h

-- If an end requires strict key exchange, key exchange is strict as soon as the end took a KEXINIT. This excludes a
-- peer, or an attacker in the middle, that leaves the marker out so that the session is plain (OpenSSH's PROTOCOL section 1.9).
abbrev pub RequiresStrict : {K : Type 0} → Parties K → Side → List Item → Type 0
RequiresStrict p side h =
    is_required (settings_of p side).strictness ≡ true → 0 < length (offers (messages_taken h)) →
    is_strict side h ≡ true

-- The numbers of the messages that an end sent up to its first NEWKEYS, including it, without DISCONNECT, the newest
-- first.
abbrev pub sent_in_first_exchange : List Item → List ℕ
sent_in_first_exchange [] = []
sent_in_first_exchange (Sent channel (Disconnect reason description language) payload ∷ h) = sent_in_first_exchange h
sent_in_first_exchange (Sent channel message payload ∷ h) =
    until_newkeys (epoch (sent h)) (message_number message) (sent_in_first_exchange h)
sent_in_first_exchange (_ ∷ h) = sent_in_first_exchange h

-- The numbers that an end sends in a first exchange, in order of time: KEXINIT, message 30 of a client or 31 of a server,
-- and NEWKEYS.
abbrev pub exchange_sent : Side → List ℕ
exchange_sent side = 20 ∷ awaited (peer side) ∷ 21 ∷ []

-- The messages that an end sent up to its first NEWKEYS, including it, are those of the exchange and no others, except DISCONNECT.
-- This holds whether key exchange is strict or not. Once NEWKEYS was sent they are the whole exchange. This excludes a name,
-- a password or data sent in the clear.
pub record SendsOnlyExchange (side : Side) (h : List Item) : Type 0 where
  pub along : (rest : List ℕ) × (reverse (sent_in_first_exchange h) ++ rest ≡ exchange_sent side)
  pub all : 0 < epoch (sent h) → reverse (sent_in_first_exchange h) ≡ exchange_sent side

-- ---- no nonce twice

-- The conditions of the claim on nonces: the end was fed no cookie twice, and no two different texts of its own completed
-- exchanges have one hash.
pub record IsFresh {K : Type 0} (p : Parties K) (side : Side) (h : List Item) : Type 0 where
  pub cookies_differ : AreDistinct (cookies h)
  pub hashes : (x y : Inputs) → IsIn x (exchanges p side h) → IsIn y (exchanges p side h) →
      exchange_hash x ≡ exchange_hash y → exchange_text x ≡ exchange_text y

-- No two payloads were sent under one key name and one number, over all epochs that have a key. This excludes two texts
-- under one nonce, which would give away what a stream cipher hides and the key of a tag.
abbrev pub UsesNoNonceTwice : {K : Type 0} → Parties K → Side → List Item → Type 0
UsesNoNonceTwice p side [] = Unit {0}
UsesNoNonceTwice p side (Sent channel message payload ∷ h) =
    (0 < epoch (sent h) →
    (other : List ℕ) → SentUnder p side (sending_name p side h) (sending_number side h) other h → ⊥)
    × UsesNoNonceTwice p side h
UsesNoNonceTwice p side (_ ∷ h) = UsesNoNonceTwice p side h

-- ---- all of it

-- The claims on the transport of an end, whoever its peer is and whatever the layers above it do. They are all of the above
-- except that on authentication, and the claims on numbers and on a blocked end, which are defined elsewhere.
pub record KeepsTransport {K : Type 0} (p : Parties K) (side : Side) (h : List Item) : Type 0 where
  pub hosts : side ≡ Client → VerifiesHosts p h
  pub own : EachIncludesOwn p side h
  pub clear : TakesOnlyAllowed side h
  pub takes_only_exchange : is_strict side h ≡ true → TakesOnlyExchange p side h
  pub sends_only_exchange : SendsOnlyExchange side h
  pub requires_strict : RequiresStrict p side h
  pub nonces : IsFresh p side h → UsesNoNonceTwice p side h
  pub numbers : HasNumbers h
  pub blocked : KeepsToExchange h

-- The claims on an end, whoever its peer is: on its transport, on authentication by its side, on windows, and on what its
-- peer can make it send and keep. The last three are defined elsewhere.
pub record IsGuarded {K : Type 0} (p : Parties K) (side : Side) (h : List Item) : Type 0 where
  pub transport : KeepsTransport p side h
  pub users : side ≡ Server → RequiresAuthentication p h
  pub login : side ≡ Client → NeedsSuccess h
  pub answers : AnswersFew side h
  pub bounds : KeepsBounds p side h
  pub windows : WindowsAt side h
