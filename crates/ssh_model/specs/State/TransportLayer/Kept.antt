-- The state of a transport, and how each message and each ask changes it (RFC 4253, RFC 5656), without a history. One
-- clause or constructor is one row.
use Rattle.std.specs.Prelude.{◌≡◌, ℕ, ◌+◌, ◌<◌, Bool, true, false, not, cond, if◌then◌else◌, ◌==◌, ◌&&◌}
use Rattle.std.specs.Prelude.{◌||◌, nat_le, nat_lt, Option, Some, None, is_some, unwrap_or, List, [], ◌∷◌}
use Rattle.std.specs.Prelude.{length, take, codes}
use Rattle.ssh_model.specs.Protocol.Bounds.{longest_description, most_exchanges, numbers_of_epoch}
use Rattle.ssh_model.specs.declared.side.Side.{Side}
use Rattle.ssh_model.specs.declared.side.Side.TheVariants.{Client, Server}
use Rattle.ssh_model.specs.Protocol.Side.{peer}
use Rattle.ssh_model.specs.Protocol.Wire.DataTypes.{number, is_text}
use Rattle.ssh_model.specs.Protocol.Wire.Message.{Msg, Msg.Ignore, Msg.Unimplemented, Msg.Debug}
use Rattle.ssh_model.specs.Protocol.Wire.Message.{Msg.ServiceRequest, Msg.ServiceAccept, Msg.ExtInfo, Msg.KexInit, Msg.NewKeys}
use Rattle.ssh_model.specs.Protocol.Wire.Message.{Msg.KexEcdhInit, Msg.KexEcdhReply, Msg.Unknown, Extension, Proposal}
use Rattle.ssh_model.specs.Protocol.Wire.Message.{IsPayload}
use Rattle.ssh_model.specs.Protocol.Wire.Sealing.{Crypto}
use Rattle.ssh_model.specs.Protocol.KeyExchange.Choice.{Chosen, Lists}
use Rattle.ssh_model.specs.Protocol.KeyExchange.Exchange.{Inputs, exchange_hash}
use Rattle.ssh_model.specs.Protocol.KeyExchange.Exchanges.{Material, chosen, has_choice, has_marker, key_of}
use Rattle.ssh_model.specs.declared.refusal.Refusal.{Refusal}
use Rattle.ssh_model.specs.declared.refusal.Refusal.TheVariants.{Unexpected}
use Rattle.ssh_model.specs.Protocol.Sessions.Refusals.{Check, Check.RefusedWhere}
use Rattle.ssh_model.specs.declared.refusal.Refusal.TheVariants.{NoCommon, NotStrict, BadPoint, BadHost}
use Rattle.ssh_model.specs.declared.refusal.Refusal.TheVariants.{NoService}
use Rattle.ssh_model.specs.declared.ask_refusal.AskRefusal.{AskRefusal}
use Rattle.ssh_model.specs.declared.ask_refusal.AskRefusal.TheVariants.{NotYet, Busy}
use Rattle.ssh_model.specs.declared.ask_refusal.AskRefusal.TheVariants.{TooLong, WrongSide}
use Rattle.ssh_model.specs.Protocol.Sessions.Parties.{Settings, Agreement, is_required, only_shared, marker_of}
use Rattle.ssh_model.specs.Protocol.Sessions.Parties.{extension_marker_of, offer_of, lists_of}
use Rattle.ssh_model.specs.Protocol.Sessions.Items.{Ask, Ask.AskService, Ask.AskRekey, Ask.AskDisconnect, Fact, Fact.Service}
use Rattle.ssh_model.specs.Protocol.Sessions.Items.{Fact.Ignored, Fact.GotExtensions, Fact.Debugged, Fact.NotImplemented}
use Rattle.ssh_model.specs.Protocol.Sessions.Items.{Encoded, Encoded.EncodedBy}
use Rattle.ssh_model.specs.Protocol.Sessions.Phases.{Phase, Phase.Start, Phase.Guessed, Phase.Exchanging, Phase.Keying}
use Rattle.ssh_model.specs.Protocol.Sessions.Phases.{Phase.Normal, is_normal, is_client, is_wrong_guess, is_generic_transport}
use Rattle.ssh_model.specs.Protocol.Sessions.Phases.{is_allowed_at_first, is_allowed_during_exchange, is_unassigned, awaited}
use Rattle.ssh_model.specs.Protocol.Sessions.Transport.{is_marked}
use Rattle.ssh_model.specs.State.TransportLayer.Directions.{Direction, new_direction, counted, renewed}

-- ---- the state

-- The peer's lines: whether the version line was taken, that line without CR LF, and how many other lines came before
-- it.
pub record Lines : Type 0 where
  pub found : Bool
  pub line : List ℕ
  pub others : ℕ

-- The parts of the exchange under way: the payloads of both KEXINITs, and the secret of this end's point.
pub record Underway : Type 0 where
  pub own : List ℕ
  pub theirs : List ℕ
  pub secret : List ℕ

-- The state of a transport, with keys of this type.
pub record Transport (K : Type 0) : Type 0 where
  pub side : Side
  pub settings : Settings
  pub lines : Lines
  pub sending : Direction K
  pub taking : Direction K
  -- between NEWKEYS sent and NEWKEYS taken: the key under which the transport takes next
  pub pending : Option K
  pub phase : Phase
  -- from this end's KEXINIT until its NEWKEYS
  pub blocked : Bool
  pub underway : Underway
  -- the pair of cookie and secret that is kept for the next KEXINIT, and how many pairs were fed
  pub material : Option Material
  pub fed : ℕ
  -- the session id, after an exchange was completed
  pub session : Option (List ℕ)
  -- whether the first KEXINITs of both ends offer strict key exchange, and whether that of the peer takes extensions
  pub strict : Bool
  pub peer_takes_extensions : Bool
  -- SERVICE_REQUEST was sent by a client or taken by a server, SERVICE_ACCEPT was taken, and USERAUTH_SUCCESS was
  -- sent by a server or taken by a client
  pub requested : Bool
  pub accepted : Bool
  pub authenticated : Bool
  pub dead : Bool

-- The state of a transport after it sent its version line and its first KEXINIT, with this payload and the secret that it
-- was fed.
abbrev pub new_transport : {K : Type 0} → Settings → Side → (secret own : List ℕ) → Transport K
new_transport settings side secret own = record {
  side = side;
  settings = settings;
  lines = record { found = false; line = []; others = 0 };
  sending = counted new_direction;
  taking = new_direction;
  pending = None;
  phase = Start;
  blocked = true;
  underway = record { own = own; theirs = []; secret = secret };
  material = None;
  fed = 1;
  session = None;
  strict = false;
  peer_takes_extensions = false;
  requested = false;
  accepted = false;
  authenticated = false;
  dead = false;
}

-- ---- items that are no rows of their own

-- the state after another line was taken
abbrev pub after_other_line : {K : Type 0} → Transport K → Transport K
after_other_line s = record s { lines = record s.lines { others = s.lines.others + 1 } }

-- the state after the version line was taken
abbrev pub after_line : {K : Type 0} → List ℕ → Transport K → Transport K
after_line line s = record s { lines = record s.lines { found = true; line = line } }

-- the state after a payload other than NEWKEYS was sent
abbrev pub after_sent : {K : Type 0} → Transport K → Transport K
after_sent s = record s { sending = counted s.sending }

-- the state after a payload other than NEWKEYS was taken
abbrev pub after_taken : {K : Type 0} → Transport K → Transport K
after_taken s = record s { taking = counted s.taking }

-- the state after the packet after a wrong guess was taken
abbrev pub after_guess : {K : Type 0} → Transport K → Transport K
after_guess s = record (after_taken s) { phase = Exchanging }

-- the state after a pair of cookie and secret was fed
abbrev pub after_fed : {K : Type 0} → (cookie secret : List ℕ) → Transport K → Transport K
after_fed cookie secret s = record s { material = Some (record { cookie = cookie; secret = secret }); fed = s.fed + 1 }

-- the state after the user was authenticated
abbrev pub after_success : {K : Type 0} → Transport K → Transport K
after_success s = record s { authenticated = true }

-- the state after these bytes were written over the secret of the exchange that is over
abbrev pub after_wiping : {K : Type 0} → (bytes : List ℕ) → Transport K → Transport K
after_wiping bytes s = record s { underway = record s.underway { secret = bytes } }

-- The transport can be fed a pair: it keeps none, is not dead, and was fed fewer than 2^32 - 1 pairs.
abbrev pub can_be_fed : {K : Type 0} → Transport K → Bool
can_be_fed s = not s.dead && not (is_some s.material) && nat_lt s.fed most_exchanges

-- ---- which numbers may be taken

-- the kex names of an end's first KEXINIT, with its markers
abbrev pub first_kex : Settings → Side → List (List ℕ)
first_kex settings side = (offer_of settings side true []).kex

-- EXT_INFO may be taken: the end takes extensions, and this would be the first payload after the peer's first NEWKEYS.
abbrev pub takes_announced : {K : Type 0} → Transport K → Bool
takes_announced s =
    has_marker (extension_marker_of s.side) (first_kex s.settings s.side)
    && (s.taking.epoch == 1 && s.taking.count == 0)

-- A message of a service that may be taken outside an exchange has this number.
abbrev pub takes_service : Side → (requested accepted : Bool) → ℕ → Bool
takes_service Server requested accepted n = n == 5 && not requested
takes_service Client requested accepted n = n == 6 && requested && not accepted

-- The transport takes a message of this number, below 50, in a phase.
abbrev pub takes_in : {K : Type 0} → Phase → Transport K → ℕ → Bool
takes_in Start s n = is_allowed_at_first (is_required s.settings.strictness) n || n == 20
takes_in Guessed s n = nat_le 30 n && nat_le n 49
takes_in Exchanging s n = is_allowed_during_exchange s.strict s.taking.epoch n || n == awaited s.side
takes_in Keying s n = is_allowed_during_exchange s.strict s.taking.epoch n || n == 21
takes_in Normal s n =
    is_generic_transport n || takes_service s.side s.requested s.accepted n || (n == 7 && takes_announced s)
    || (n == 20 && s.authenticated) || is_unassigned n

-- The transport takes a message of this number, below 50.
abbrev pub takes : {K : Type 0} → Transport K → ℕ → Bool
takes s n = takes_in s.phase s n

-- ---- checks

-- the offer of the end in its own KEXINIT, without its cookie and its markers
abbrev pub own_offer : Settings → Side → Proposal
own_offer settings side = offer_of settings side false []

-- Each kind has a name that this end's lists and the peer's lists have in common.
abbrev pub has_choice_with : Side → (own theirs : Lists) → Bool
has_choice_with Client own theirs = has_choice own theirs
has_choice_with Server own theirs = has_choice theirs own

-- the choice from this end's lists and the peer's lists
abbrev pub choice_with : Side → (own theirs : Lists) → Chosen
choice_with Client own theirs = chosen own theirs
choice_with Server own theirs = chosen theirs own

-- This first KEXINIT of the peer makes key exchange strict.
abbrev pub becomes_strict : {K : Type 0} → Transport K → Proposal → Bool
becomes_strict s theirs = has_marker (marker_of s.side) (first_kex s.settings s.side) && is_marked s.side theirs

-- the checks on a KEXINIT, in order, each with its refusal
abbrev pub offer_checks : {K : Type 0} → Transport K → Proposal → List (Check Refusal)
offer_checks s theirs =
    let is_first = s.taking.epoch == 0 in
    RefusedWhere (is_first && is_required s.settings.strictness && not (is_marked s.side theirs)) NotStrict
    ∷ RefusedWhere (is_first && (becomes_strict s theirs && nat_lt 0 s.taking.count)) Unexpected
    ∷ RefusedWhere (not (has_choice_with s.side (lists_of (own_offer s.settings s.side)) (lists_of theirs))) NoCommon
    ∷ RefusedWhere (not s.blocked && not (is_some s.material)) Refusal.NoMaterial ∷ []

-- The result that a secret shares with the peer's point by this agreement, if it is 32 bytes that are not all zero.
abbrev pub shared_with : Agreement → (secret theirs : List ℕ) → Option (List ℕ)
shared_with agreement secret theirs = only_shared (agreement.shared secret theirs)

-- The point has 32 bytes, and gives a shared result.
abbrev pub is_good_point : {K : Type 0} → Agreement → Transport K → (theirs : List ℕ) → Bool
is_good_point agreement s theirs = length theirs == 32 && is_some (shared_with agreement s.underway.secret theirs)

-- the public point of the secret of the exchange under way
abbrev pub own_point : {K : Type 0} → Agreement → Transport K → List ℕ
own_point agreement s = take 32 (agreement.point s.underway.secret)

-- K, from the secret of the exchange under way and the peer's point
abbrev pub shared_value : {K : Type 0} → Agreement → Transport K → (theirs : List ℕ) → ℕ
shared_value agreement s theirs = number (unwrap_or (shared_with agreement s.underway.secret theirs) [])

-- The inputs of the exchange under way, with the host key and the peer's point (RFC 4253 section 8, RFC 5656 section
-- 4).
abbrev pub inputs_with : {K : Type 0} → Side → Agreement → Transport K → (host_key theirs : List ℕ) → Inputs
inputs_with Client agreement s host_key theirs = record {
  client_version = s.settings.line;
  server_version = s.lines.line;
  client_init = s.underway.own;
  server_init = s.underway.theirs;
  host_key = host_key;
  client_point = own_point agreement s;
  server_point = theirs;
  shared = shared_value agreement s theirs;
}
inputs_with Server agreement s host_key theirs = record {
  client_version = s.lines.line;
  server_version = s.settings.line;
  client_init = s.underway.theirs;
  server_init = s.underway.own;
  host_key = host_key;
  client_point = theirs;
  server_point = own_point agreement s;
  shared = shared_value agreement s theirs;
}

-- These algorithms are chosen in the exchange under way, from the kept KEXINIT of the peer.
pub record IsChosen {K : Type 0} (s : Transport K) (c : Chosen) : Type 0 where
  pub theirs : Proposal
  pub read : IsPayload false (KexInit theirs) s.underway.theirs
  pub chosen_is : c ≡ choice_with s.side (lists_of (own_offer s.settings s.side)) (lists_of theirs)

-- The checks on a message of the transport that may be taken. They use an agreement, the trust in the host key of the
-- exchange, and the algorithms that were chosen in that exchange.
abbrev pub message_checks : {K : Type 0} → Agreement → (trusts : List ℕ → List ℕ → List ℕ → List ℕ → Bool) → Chosen →
    Transport K → Msg → List (Check Refusal)
message_checks agreement trusts c s (ServiceRequest service) =
    RefusedWhere (not (is_text service (codes "ssh-userauth"))) NoService ∷ []
message_checks agreement trusts c s (ServiceAccept service) =
    RefusedWhere (not (is_text service (codes "ssh-userauth"))) Unexpected ∷ []
message_checks agreement trusts c s (KexInit theirs) = offer_checks s theirs
message_checks agreement trusts c s (KexEcdhInit q_c) = RefusedWhere (not (is_good_point agreement s q_c)) BadPoint ∷ []
message_checks agreement trusts c s (KexEcdhReply k_s q_s signature) =
    RefusedWhere (not (is_good_point agreement s q_s)) BadPoint
    ∷ RefusedWhere
    (not (trusts c.host k_s (exchange_hash (inputs_with Client agreement s k_s q_s)) signature)) BadHost ∷ []
message_checks agreement trusts c s _ = []

-- the checks on an ask for a message of the transport, in order, each with its refusal
abbrev pub message_ask_checks : {K : Type 0} → Transport K → Ask → List (Check AskRefusal)
message_ask_checks s AskService =
    RefusedWhere (not (is_client s.side)) WrongSide ∷ RefusedWhere (s.taking.epoch == 0) NotYet
    ∷ RefusedWhere s.requested Busy ∷ []
message_ask_checks s AskRekey =
    RefusedWhere (not s.authenticated) NotYet ∷ RefusedWhere (s.blocked || not (is_normal s.phase)) Busy
    ∷ RefusedWhere (not (is_some s.material)) AskRefusal.NoMaterial ∷ []
message_ask_checks s (AskDisconnect description) = RefusedWhere (nat_lt longest_description (length description)) TooLong ∷ []
message_ask_checks s _ = []

-- ---- answers

-- The answer to a message: messages to send with their payloads, the newest first, and a fact to tell, if any.
pub record Answered : Type 0 where
  pub sent : List Encoded
  pub fact : Option Fact

-- an answer that only tells a fact
abbrev pub tells : Fact → Answered
tells fact = record { sent = []; fact = Some fact }

-- an answer that only sends messages
abbrev pub sends : List Encoded → Answered
sends sent = record { sent = sent; fact = None }

-- The peer's KEXINIT may come: none was taken in the exchange under way.
abbrev pub is_between : Phase → Bool
is_between Start = true
is_between Normal = true
is_between _ = false

-- The state after the KEXINIT of the peer was taken, with this payload. The first KEXINIT decides whether key exchange is
-- strict, and whether the peer takes extensions.
abbrev pub after_kexinit : {K : Type 0} → (theirs : Proposal) → (payload : List ℕ) → Transport K → Transport K
after_kexinit theirs payload s = record s {
  taking = counted s.taking;
  phase = cond (is_wrong_guess theirs (own_offer s.settings s.side)) Guessed Exchanging;
  underway = record s.underway { theirs = payload };
  strict = if s.taking.epoch == 0 then becomes_strict s theirs else s.strict;
  peer_takes_extensions =
      if s.taking.epoch == 0 then has_marker (extension_marker_of (peer s.side)) theirs.kex
      else s.peer_takes_extensions;
}

-- The state after this end's own KEXINIT was sent with the pair that was kept.
abbrev pub after_own_kexinit : {K : Type 0} → Material → (payload : List ℕ) → Transport K → Transport K
after_own_kexinit material payload s = record s {
  sending = counted s.sending;
  blocked = true;
  material = None;
  underway = record s.underway { own = payload; secret = material.secret };
}

-- How a message that ends no exchange changes the state, and its answer. The payload is that of the message.
pub data Takes {K : Type 0} (agreement : Agreement) (s : Transport K) (payload : List ℕ) : Msg → Answered →
    Transport K → Type 0 where
  ignore : (body : List ℕ) → Takes agreement s payload (Ignore body) (tells Ignored) (after_taken s)
  unimplemented : (number : ℕ) →
      Takes agreement s payload (Unimplemented number) (tells (NotImplemented number)) (after_taken s)
  debug : (display : Bool) (message language : List ℕ) →
      Takes agreement s payload (Debug display message language) (tells (Debugged display message)) (after_taken s)
  -- RFC 4253 section 11.4: UNIMPLEMENTED has the number of the packet
  unknown : (number : ℕ) (reply : List ℕ) → s.taking.count < numbers_of_epoch →
      Takes agreement s payload (Unknown number) (sends (EncodedBy (Unimplemented s.taking.number) reply ∷ []))
      (after_sent (after_taken s))
  -- RFC 4253 section 10
  service_request : (service reply : List ℕ) → s.side ≡ Server →
      Takes agreement s payload (ServiceRequest service) (sends (EncodedBy (ServiceAccept service) reply ∷ []))
      (record (after_sent (after_taken s)) { requested = true })
  service_accept : (service : List ℕ) → s.side ≡ Client →
      Takes agreement s payload (ServiceAccept service) (tells Service) (record (after_taken s) { accepted = true })
  -- RFC 8308 section 2.3
  extensions : (announced : List Extension) →
      Takes agreement s payload (ExtInfo announced) (tells (GotExtensions announced)) (after_taken s)
  -- a KEXINIT after this end's own, and one that this end answers with its own
  kexinit_at_server : (theirs : Proposal) → s.side ≡ Server → is_between s.phase ≡ true →
      IsPayload false (KexInit theirs) payload → s.blocked ≡ true →
      Takes agreement s payload (KexInit theirs) (sends []) (after_kexinit theirs payload s)
  kexinit_at_client : (theirs : Proposal) (init : List ℕ) → s.side ≡ Client → is_between s.phase ≡ true →
      IsPayload false (KexInit theirs) payload → s.blocked ≡ true →
      Takes agreement s payload (KexInit theirs) (sends (EncodedBy (KexEcdhInit (own_point agreement s)) init ∷ []))
      (after_sent (after_kexinit theirs payload s))
  answered_at_server : (theirs : Proposal) (own : List ℕ) (material : Material) → s.side ≡ Server →
      is_between s.phase ≡ true → IsPayload false (KexInit theirs) payload →
      s.blocked ≡ false → s.material ≡ Some material →
      Takes agreement s payload (KexInit theirs)
      (sends (EncodedBy (KexInit (offer_of s.settings Server false material.cookie)) own ∷ []))
      (after_own_kexinit material own (after_kexinit theirs payload s))
  answered_at_client : (theirs : Proposal) (own init : List ℕ) (material : Material) → s.side ≡ Client →
      is_between s.phase ≡ true → IsPayload false (KexInit theirs) payload →
      s.blocked ≡ false → s.material ≡ Some material →
      Takes agreement s payload (KexInit theirs)
      (sends (EncodedBy (KexEcdhInit (take 32 (agreement.point material.secret))) init
      ∷ EncodedBy (KexInit (offer_of s.settings Client false material.cookie)) own ∷ []))
      (after_sent (after_own_kexinit material own (after_kexinit theirs payload s)))
  -- the new epoch begins, with the key that was made when the exchange was completed
  newkeys : (key : K) → s.phase ≡ Keying → s.pending ≡ Some key →
      Takes agreement s payload NewKeys (sends [])
      (record s { taking = renewed s.strict key (counted s.taking); phase = Normal; pending = None })

-- ---- the end of an exchange

-- The session id after this exchange. It is the hash of this exchange if that is the first.
abbrev pub session_with : {K : Type 0} → Transport K → Inputs → List ℕ
session_with s x = unwrap_or s.session (exchange_hash x)

-- The state after NEWKEYS was sent, which completes the exchange of these inputs and algorithms. Both keys are then made.
abbrev pub after_completion : {K : Type 0} → Crypto K → Inputs → Chosen → Transport K → Transport K
after_completion c x chosen s = record s {
  sending = renewed s.strict (key_of c s.side x (session_with s x) chosen) (counted s.sending);
  pending = Some (key_of c (peer s.side) x (session_with s x) chosen);
  phase = Keying;
  blocked = false;
  session = Some (session_with s x);
}

-- The end sends EXT_INFO right after its NEWKEYS, if that is its first, it has extensions to announce, and the peer takes
-- them (RFC 8308 section 2.4).
abbrev pub is_announcing : {K : Type 0} → Transport K → Bool
is_announcing s = s.sending.epoch == 0 && nat_lt 0 (length s.settings.extensions) && s.peer_takes_extensions

-- The announcement after NEWKEYS, by the state before the exchange ended.
pub data Announces {K : Type 0} (s completed : Transport K) : List Encoded → Transport K → Type 0 where
  extensions : (payload : List ℕ) → is_announcing s ≡ true →
      Announces s completed (EncodedBy (ExtInfo s.settings.extensions) payload ∷ []) (after_sent completed)
  nothing : is_announcing s ≡ false → Announces s completed [] completed

-- the supplied parts of an end that an exchange uses: the agreement, and at a server its host key and signature by
-- algorithm
pub record ExchangeParts : Type 0 where
  pub agreement : Agreement
  pub host_key : List ℕ → List ℕ
  pub host_signature : List ℕ → List ℕ → List ℕ

-- the inputs of the exchange that a server ends with its reply to this point
abbrev pub server_inputs : {K : Type 0} → ExchangeParts → Chosen → Transport K → (q_c : List ℕ) → Inputs
server_inputs parts c s q_c = inputs_with Server parts.agreement s (take 4096 (parts.host_key c.host)) q_c

-- the server's reply to this point
abbrev pub server_reply : {K : Type 0} → ExchangeParts → Chosen → Transport K → (q_c : List ℕ) → Msg
server_reply parts c s q_c =
    KexEcdhReply (take 4096 (parts.host_key c.host)) (own_point parts.agreement s)
    (take 4096 (parts.host_signature c.host (exchange_hash (server_inputs parts c s q_c))))

-- The effect on a transport of the message that ends an exchange. `last` are the messages up to NEWKEYS, and `announced`
-- those announced after it. `completed` is the transport's state right after NEWKEYS, and `new` its state in the end.
-- Messages stand the newest first. The replies that the layers above owe, and the facts that are told, come after these.
pub data Completes {K : Type 0} (crypto : Crypto K) (parts : ExchangeParts) (c : Chosen) (s : Transport K) : Msg →
    (last announced : List Encoded) → (completed new : Transport K) → Type 0 where
  -- RFC 5656 section 4: the server completes the exchange right after its reply
  init : {announced : List Encoded} {new : Transport K} (q_c reply newkeys : List ℕ) → s.side ≡ Server →
      s.phase ≡ Exchanging → IsChosen s c →
      Announces s (after_completion crypto (server_inputs parts c s q_c) c (after_sent (after_taken s))) announced new →
      Completes crypto parts c s (KexEcdhInit q_c)
      (EncodedBy NewKeys newkeys ∷ EncodedBy (server_reply parts c s q_c) reply ∷ []) announced
      (after_completion crypto (server_inputs parts c s q_c) c (after_sent (after_taken s))) new
  -- The client completes the exchange right after it trusted the host.
  reply : {announced : List Encoded} {new : Transport K} (k_s q_s signature newkeys : List ℕ) → s.side ≡ Client →
      s.phase ≡ Exchanging → IsChosen s c →
      Announces s (after_completion crypto (inputs_with Client parts.agreement s k_s q_s) c
      (after_taken s)) announced new →
      Completes crypto parts c s (KexEcdhReply k_s q_s signature) (EncodedBy NewKeys newkeys ∷ []) announced
      (after_completion crypto (inputs_with Client parts.agreement s k_s q_s) c (after_taken s)) new

-- ---- asks

-- The message that an ask for the transport sends, its payload, and the state after it. An ask to disconnect has
-- no row here: it ends the end.
pub data Asks {K : Type 0} (s : Transport K) : Ask → Msg → List ℕ → Transport K → Type 0 where
  service : (payload : List ℕ) → s.side ≡ Client →
      Asks s AskService (ServiceRequest (codes "ssh-userauth")) payload (record (after_sent s) { requested = true })
  rekey : (material : Material) (payload : List ℕ) → s.blocked ≡ false → s.material ≡ Some material →
      Asks s AskRekey (KexInit (offer_of s.settings s.side false material.cookie)) payload
      (after_own_kexinit material payload s)
