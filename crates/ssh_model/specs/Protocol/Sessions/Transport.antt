-- How an end answers the messages of the transport, and the asks for them. One clause or constructor is one row
-- (own, if nothing else is said).
use Rattle.std.specs.Prelude.{◌≡◌, ℕ, suc, Bool, true, false, not, ◌==◌, ◌&&◌, ◌||◌, nat_lt, None, is_some, List, []}
use Rattle.std.specs.Prelude.{◌∷◌, ◌++◌, length, codes}
use Rattle.ssh_model.specs.Protocol.Bounds.{longest_description}
use Rattle.ssh_model.specs.declared.side.Side.{Side}
use Rattle.ssh_model.specs.declared.side.Side.TheVariants.{Client, Server}
use Rattle.ssh_model.specs.Protocol.Side.{peer}
use Rattle.ssh_model.specs.Protocol.Wire.Message.{Msg, Msg.Disconnect, Msg.Ignore, Msg.Unimplemented, Msg.Debug}
use Rattle.ssh_model.specs.Protocol.Wire.Message.{Msg.ServiceRequest, Msg.ServiceAccept, Msg.ExtInfo, Msg.KexInit, Msg.NewKeys}
use Rattle.ssh_model.specs.Protocol.Wire.Message.{Msg.KexEcdhInit, Msg.KexEcdhReply, Msg.Unknown, Extension, Proposal}
use Rattle.ssh_model.specs.Protocol.Wire.DataTypes.{is_text}
use Rattle.ssh_model.specs.Protocol.KeyExchange.Exchange.{exchange_hash}
use Rattle.ssh_model.specs.declared.refusal.Refusal.{Refusal}
use Rattle.ssh_model.specs.declared.refusal.Refusal.TheVariants.{Unexpected, NoCommon}
use Rattle.ssh_model.specs.Protocol.Sessions.Refusals.{Check, Check.RefusedWhere}
use Rattle.ssh_model.specs.declared.refusal.Refusal.TheVariants.{NotStrict, BadPoint, BadHost, NoService}
use Rattle.ssh_model.specs.declared.ask_refusal.AskRefusal.{AskRefusal}
use Rattle.ssh_model.specs.declared.ask_refusal.AskRefusal.TheVariants.{NotYet, Busy, TooLong}
use Rattle.ssh_model.specs.declared.ask_refusal.AskRefusal.TheVariants.{WrongSide}
use Rattle.ssh_model.specs.Protocol.Sessions.Parties.{Parties, is_required, settings_of, shared_by, point_by, host_key_by}
use Rattle.ssh_model.specs.Protocol.Sessions.Parties.{host_signature_by, marker_of, offer, lists_of}
use Rattle.ssh_model.specs.Protocol.Sessions.Items.{Ask, Ask.AskService, Ask.AskRekey, Ask.AskDisconnect, Fact.Completed}
use Rattle.ssh_model.specs.Protocol.Sessions.Items.{Fact.Service, Fact.Ignored, Fact.GotExtensions, Fact.Debugged}
use Rattle.ssh_model.specs.Protocol.Sessions.Items.{Fact.NotImplemented, Fact.Disconnected, Item, Item.Sent, Item.Took}
use Rattle.ssh_model.specs.Protocol.Sessions.Items.{Item.Told, Item.Died, sent, took, messages_sent}
use Rattle.ssh_model.specs.Protocol.Sessions.Epochs.{epoch}
use Rattle.ssh_model.specs.Protocol.KeyExchange.Exchanges.{nth, fed, offers, no_material, exchange, has_marker, first_sent}
use Rattle.ssh_model.specs.Protocol.KeyExchange.Exchanges.{taking_number, peer_takes_extensions, has_choice, choice}
use Rattle.ssh_model.specs.Protocol.Sessions.Phases.{phase, is_normal, is_client, blocked, has_material, own_names}
use Rattle.ssh_model.specs.Protocol.Sessions.Phases.{authenticated, sent_service_request}

-- ---- checks on messages

-- the secret of the exchange that is under way
abbrev pub secret_now : List Item → List ℕ
secret_now h = (nth no_material (epoch (sent h)) (fed h)).secret

-- the cookie of the next KEXINIT
abbrev pub next_cookie : List Item → List ℕ
next_cookie h = (nth no_material (length (offers (messages_sent h))) (fed h)).cookie

-- Each kind has a name that both the peer's proposal and this end's own list (RFC 4253 section 7.1).
abbrev pub can_choose : {K : Type 0} → Parties K → Side → Proposal → Bool
can_choose p Client theirs = has_choice (lists_of (own_names p Client)) (lists_of theirs)
can_choose p Server theirs = has_choice (lists_of theirs) (lists_of (own_names p Server))

-- The KEXINIT carries the marker of the peer's role (OpenSSH's PROTOCOL section 1.9).
abbrev pub is_marked : Side → Proposal → Bool
is_marked side theirs = has_marker (marker_of (peer side)) theirs.kex

-- This first KEXINIT of the peer makes key exchange strict, but it is not the first packet (OpenSSH's PROTOCOL section 1.9).
abbrev pub comes_too_late : Side → List Item → Proposal → Bool
comes_too_late side h theirs =
    has_marker (marker_of side) (first_sent h).kex && is_marked side theirs && nat_lt 0 (length (took h))

-- The checks on a KEXINIT, in order. The marker matters only in the peer's first one. An end that is not blocked needs a
-- pair for the KEXINIT with which it answers (RFC 4253 section 7.1, OpenSSH's PROTOCOL section 1.9, own).
abbrev pub kexinit_checks : {K : Type 0} → Parties K → Side → List Item → Proposal → List (Check Refusal)
kexinit_checks p side h theirs =
    let is_first = epoch (took h) == 0 in
    RefusedWhere (is_first && is_required (settings_of p side).strictness && not (is_marked side theirs)) NotStrict
    ∷ RefusedWhere (is_first && comes_too_late side h theirs) Unexpected
    ∷ RefusedWhere (not (can_choose p side theirs)) NoCommon
    ∷ RefusedWhere (not (blocked h) && not (has_material h)) Refusal.NoMaterial ∷ []

-- The point has 32 bytes, and gives a shared result (RFC 8731 section 3).
abbrev pub is_point : {K : Type 0} → Parties K → Side → List Item → List ℕ → Bool
is_point p side h theirs = length theirs == 32 && is_some (shared_by p side (secret_now h) theirs)

-- the hash of the exchange that this reply ends (RFC 5656 section 4)
abbrev pub hash_with_reply : {K : Type 0} → Parties K → List Item → (k_s q_s signature : List ℕ) → List ℕ
hash_with_reply p h k_s q_s signature =
    exchange_hash (exchange p Client (epoch (sent h)) (Took None (KexEcdhReply k_s q_s signature) [] ∷ h))

-- The client trusts the host key, with the signature of the hash (RFC 5656 section 4).
abbrev pub is_trusted : {K : Type 0} → Parties K → List Item → (k_s q_s signature : List ℕ) → Bool
is_trusted p h k_s q_s signature =
    p.trusts (choice Client (epoch (sent h)) h).host k_s (hash_with_reply p h k_s q_s signature) signature

-- the checks on a message of the transport, in order, each with its refusal (RFC 4253 section 10, RFC 5656 section 4)
abbrev pub transport_checks : {K : Type 0} → Parties K → Side → List Item → Msg → List (Check Refusal)
transport_checks p side h (ServiceRequest service) =
    RefusedWhere (not (is_text service (codes "ssh-userauth"))) NoService ∷ []
transport_checks p side h (ServiceAccept service) =
    RefusedWhere (not (is_text service (codes "ssh-userauth"))) Unexpected ∷ []
transport_checks p side h (KexInit theirs) = kexinit_checks p side h theirs
transport_checks p side h (KexEcdhInit q_c) = RefusedWhere (not (is_point p Server h q_c)) BadPoint ∷ []
transport_checks p side h (KexEcdhReply k_s q_s signature) =
    RefusedWhere (not (is_point p Client h q_s)) BadPoint
    ∷ RefusedWhere (not (is_trusted p h k_s q_s signature)) BadHost ∷ []
transport_checks p side h _ = []

-- ---- answers

-- the server's host key, for the algorithm that is chosen in the exchange under way (RFC 4253 section 7.1)
abbrev pub host_key_now : {K : Type 0} → Parties K → List Item → List ℕ
host_key_now p h = host_key_by p (choice Server (epoch (sent h)) h).host

-- the public point of an end in the exchange that is under way (RFC 5656 section 4)
abbrev pub point_now : {K : Type 0} → Parties K → Side → List Item → List ℕ
point_now p side h = point_by p side (secret_now h)

-- the hash of the exchange that the server's reply ends, for the server to sign (RFC 5656 section 4)
abbrev pub hash_to_sign : {K : Type 0} → Parties K → List Item → (q_c : List ℕ) → List ℕ
hash_to_sign p h q_c =
    exchange_hash (exchange p Server (epoch (sent h))
    (Sent None (KexEcdhReply (host_key_now p h) (point_now p Server h) []) [] ∷ Took None (KexEcdhInit q_c) [] ∷ h))

-- the server's reply: its host key, its point, and its signature of the hash of the exchange (RFC 5656 section 4)
abbrev pub reply_now : {K : Type 0} → Parties K → List Item → (q_c : List ℕ) → Msg
reply_now p h q_c =
    KexEcdhReply (host_key_now p h) (point_now p Server h)
    (host_signature_by p (choice Server (epoch (sent h)) h).host (hash_to_sign p h q_c))

-- The end sends EXT_INFO right after its NEWKEYS, if that is its first, it has extensions to announce, and the peer takes
-- them (RFC 8308 section 2.4).
abbrev pub announces : {K : Type 0} → Parties K → Side → List Item → Bool
announces p side h =
    epoch (sent h) == 0 && nat_lt 0 (length (settings_of p side).extensions) && peer_takes_extensions side h

-- The items are the EXT_INFO if the end announces, and none otherwise (RFC 8308 section 2.4).
pub data IsAnnounced {K : Type 0} (p : Parties K) (side : Side) (h : List Item) : List Item → Type 0 where
  extensions : (payload : List ℕ) → announces p side h ≡ true →
      IsAnnounced p side h (Sent None (ExtInfo (settings_of p side).extensions) payload ∷ [])
  nothing : announces p side h ≡ false → IsAnnounced p side h []

-- The items that the end of this side, with the history h, adds to a message that it took, the newest first. Each message
-- that it sends may have any payload that encodes it (RFC 4253 sections 7, 10 and 11, RFC 5656 section 4).
pub data TransportAnswer {K : Type 0} (p : Parties K) : Side → List Item → Msg → List Item → Type 0 where
  disconnect : {side : Side} {h : List Item} (reason : ℕ) (description language : List ℕ) →
      TransportAnswer p side h (Disconnect reason description language) (Died ∷ Told (Disconnected reason description)
      ∷ [])
  ignore : {side : Side} {h : List Item} (body : List ℕ) → TransportAnswer p side h (Ignore body) (Told Ignored ∷ [])
  unimplemented : {side : Side} {h : List Item} (number : ℕ) →
      TransportAnswer p side h (Unimplemented number) (Told (NotImplemented number) ∷ [])
  debug : {side : Side} {h : List Item} (display : Bool) (message language : List ℕ) →
      TransportAnswer p side h (Debug display message language) (Told (Debugged display message) ∷ [])
  -- RFC 4253 section 11.4: UNIMPLEMENTED has the number of the packet, and is sent while blocked too
  unknown : {side : Side} {h : List Item} (number : ℕ) (payload : List ℕ) →
      TransportAnswer p side h (Unknown number) (Sent None (Unimplemented (taking_number side h)) payload ∷ [])
  service_request : {h : List Item} (service payload : List ℕ) →
      TransportAnswer p Server h (ServiceRequest service) (Sent None (ServiceAccept service) payload ∷ [])
  service_accept : {h : List Item} (service : List ℕ) →
      TransportAnswer p Client h (ServiceAccept service) (Told Service ∷ [])
  -- RFC 8308 section 2.3
  extensions : {side : Side} {h : List Item} (announced : List Extension) →
      TransportAnswer p side h (ExtInfo announced) (Told (GotExtensions announced) ∷ [])
  -- a KEXINIT after this end's own, and one that this end answers with its own
  kexinit_at_server : {h : List Item} (theirs : Proposal) → blocked h ≡ true →
      TransportAnswer p Server h (KexInit theirs) []
  kexinit_at_client : {h : List Item} (theirs : Proposal) (payload : List ℕ) → blocked h ≡ true →
      TransportAnswer p Client h (KexInit theirs) (Sent None (KexEcdhInit (point_now p Client h)) payload ∷ [])
  answered_at_server : {h : List Item} (theirs : Proposal) (payload : List ℕ) → blocked h ≡ false →
      TransportAnswer p Server h (KexInit theirs) (Sent None (KexInit (offer p Server false (next_cookie h))) payload
      ∷ [])
  answered_at_client : {h : List Item} (theirs : Proposal) (own payload : List ℕ) → blocked h ≡ false →
      TransportAnswer p Client h (KexInit theirs)
      (Sent None (KexEcdhInit (point_now p Client h)) payload
      ∷ Sent None (KexInit (offer p Client false (next_cookie h))) own ∷ [])
  newkeys : {side : Side} {h : List Item} → TransportAnswer p side h NewKeys []

-- The items that an end adds to the message with which it completes an exchange. `owed`: the replies that it owes (RFC 4253
-- section 7.3, RFC 8308 section 2.4, own).
pub data CompletingAnswer {K : Type 0} (p : Parties K) (owed : List Item) : Side → List Item → Msg → List Item →
    Type 0 where
  -- RFC 5656 section 4, RFC 4253 section 7.3: the server completes the exchange right after its reply. Then it
  -- announces its extensions and sends the replies that it owes.
  init : {h announced : List Item} (q_c reply newkeys : List ℕ) → IsAnnounced p Server h announced →
      CompletingAnswer p owed Server h (KexEcdhInit q_c)
      (Told (Completed (suc (epoch (sent h))))
      ∷ (owed ++ (announced ++ (Sent None NewKeys newkeys ∷ Sent None (reply_now p h q_c) reply ∷ []))))
  -- The client completes it right after it trusted the host.
  reply : {h announced : List Item} (k_s q_s signature newkeys : List ℕ) → IsAnnounced p Client h announced →
      CompletingAnswer p owed Client h (KexEcdhReply k_s q_s signature)
      (Told (Completed (suc (epoch (sent h)))) ∷ (owed ++ (announced ++ (Sent None NewKeys newkeys ∷ []))))

-- ---- asks

-- the checks on an ask for a message of the transport, in order, each with its refusal
abbrev pub transport_ask_checks : {K : Type 0} → Parties K → Side → List Item → Ask → List (Check AskRefusal)
transport_ask_checks p side h AskService =
    RefusedWhere (not (is_client side)) WrongSide ∷ RefusedWhere (epoch (took h) == 0) NotYet
    ∷ RefusedWhere (sent_service_request h) Busy ∷ []
transport_ask_checks p side h AskRekey =
    RefusedWhere (not (authenticated side h)) NotYet ∷ RefusedWhere (blocked h || not (is_normal (phase p side h))) Busy
    ∷ RefusedWhere (not (has_material h)) AskRefusal.NoMaterial ∷ []
transport_ask_checks p side h (AskDisconnect description) = RefusedWhere (nat_lt longest_description (length description)) TooLong ∷ []
transport_ask_checks p side h _ = []

-- the items that an end adds for an ask that it does not refuse (RFC 4253 sections 9, 10 and 11.1)
pub data TransportAsk {K : Type 0} (p : Parties K) : Side → List Item → Ask → List Item → Type 0 where
  service : {side : Side} {h : List Item} (payload : List ℕ) →
      TransportAsk p side h AskService (Sent None (ServiceRequest (codes "ssh-userauth")) payload ∷ [])
  rekey : {side : Side} {h : List Item} (payload : List ℕ) →
      TransportAsk p side h AskRekey (Sent None (KexInit (offer p side false (next_cookie h))) payload ∷ [])
  disconnect : {side : Side} {h : List Item} (description payload : List ℕ) →
      TransportAsk p side h (AskDisconnect description) (Died ∷ Sent None (Disconnect 11 description []) payload ∷ [])
