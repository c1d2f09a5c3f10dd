-- The exchanges of a session, read off the history of one end, and the key names and keys that follow from them
-- (own, if nothing else is said).
use Rattle.std.specs.Prelude.{ℕ, zero, suc, Bool, false, cond, ◌==◌, ◌&&◌, Option, Some, None, unwrap_or, List, []}
use Rattle.std.specs.Prelude.{◌∷◌, length, find, is_some}
use Rattle.ssh_model.specs.Protocol.Wire.DataTypes.{number, is_text}
use Rattle.ssh_model.specs.declared.side.Side.{Side}
use Rattle.ssh_model.specs.declared.side.Side.TheVariants.{Client, Server}
use Rattle.ssh_model.specs.Protocol.Side.{peer}
use Rattle.ssh_model.specs.Protocol.Wire.Message.{Msg.KexInit, Msg.NewKeys, Msg.KexEcdhInit, Msg.KexEcdhReply, Proposal}
use Rattle.ssh_model.specs.Protocol.Wire.Sealing.{Crypto, Lengths}
use Rattle.ssh_model.specs.Protocol.KeyExchange.Choice.{Lists, Chosen, Kind, Kind.Kex, Kind.HostKey, Kind.EncCs, Kind.EncSc}
use Rattle.ssh_model.specs.Protocol.KeyExchange.Choice.{Kind.MacCs, Kind.MacSc, Kind.CompCs, Kind.CompSc, offered}
use Rattle.ssh_model.specs.Protocol.KeyExchange.Exchange.{Inputs, exchange_hash, derived}
use Rattle.ssh_model.specs.Protocol.Sessions.Parties.{Parties, shared_by, marker_of, extension_marker_of, lists_of}
use Rattle.ssh_model.specs.Protocol.Sessions.Items.{Item, Item.Fed, Item.SentLine, Item.TookLine, Item.Sent, sent, took}
use Rattle.ssh_model.specs.Protocol.Sessions.Items.{Encoded, Encoded.EncodedBy, messages_sent, messages_taken}
use Rattle.ssh_model.specs.Protocol.Sessions.Epochs.{epoch, wire_number}

-- Item n of a list whose newest item is first, counted from 0 at the oldest; `none` if there is no such item.
abbrev pub nth : {A : Type 0} → A → ℕ → List A → A
nth none n [] = none
nth none n (x ∷ l) = cond (n == length l) x (nth none n l)

-- ---- the inputs of the exchanges

-- a pair of cookie and secret that an end was fed
pub record Material : Type 0 where
  pub cookie : List ℕ
  pub secret : List ℕ

-- the default if no pair was fed
abbrev pub no_material : Material
no_material = record { cookie = []; secret = [] }

-- the pairs that an end was fed, the newest first
abbrev pub fed : List Item → List Material
fed [] = []
fed (Fed cookie secret ∷ h) = record { cookie = cookie; secret = secret } ∷ fed h
fed (_ ∷ h) = fed h

-- the version line that an end sent, or nothing
abbrev pub sent_line : List Item → List ℕ
sent_line [] = []
sent_line (SentLine line ∷ h) = line
sent_line (_ ∷ h) = sent_line h

-- the version line that an end took, or nothing
abbrev pub took_line : List Item → List ℕ
took_line [] = []
took_line (TookLine line ∷ h) = line
took_line (_ ∷ h) = took_line h

-- a KEXINIT, with its payload
pub record Offer : Type 0 where
  pub proposal : Proposal
  pub payload : List ℕ

-- the default if there is no such KEXINIT
abbrev pub no_offer : Offer
no_offer = record {
  proposal =
      record {
        cookie = [];
        kex = [];
        host = [];
        enc_cs = [];
        enc_sc = [];
        mac_cs = [];
        mac_sc = [];
        comp_cs = [];
        comp_sc = [];
        lang_cs = [];
        lang_sc = [];
        follows = false;
      };
  payload = [];
}

-- the KEXINITs among messages
abbrev pub offers : List Encoded → List Offer
offers [] = []
offers (EncodedBy (KexInit proposal) payload ∷ l) = record { proposal = proposal; payload = payload } ∷ offers l
offers (_ ∷ l) = offers l

-- the client's points among messages, from each message 30
abbrev pub points : List Encoded → List (List ℕ)
points [] = []
points (EncodedBy (KexEcdhInit q_c) payload ∷ l) = q_c ∷ points l
points (_ ∷ l) = points l

-- the host key, the point and the signature in a reply of the server
pub record Reply : Type 0 where
  pub host_key : List ℕ
  pub point : List ℕ
  pub signature : List ℕ

-- the default if there is no such message 31
abbrev pub no_reply : Reply
no_reply = record { host_key = []; point = []; signature = [] }

-- the replies among messages, from each message 31
abbrev pub replies : List Encoded → List Reply
replies [] = []
replies (EncodedBy (KexEcdhReply k_s q_s signature) payload ∷ l) =
    record { host_key = k_s; point = q_s; signature = signature } ∷ replies l
replies (_ ∷ l) = replies l

-- ---- the exchanges

-- K, from a secret and the peer's point: the shared bytes as an unsigned number (RFC 8731 section 3.1)
abbrev pub shared_number : {K : Type 0} → Parties K → Side → (secret theirs : List ℕ) → ℕ
shared_number p side secret theirs = number (unwrap_or (shared_by p side secret theirs) [])

-- Exchange e of a history, from 0 (RFC 4253 section 8, RFC 5656 section 4). It is read off the two version lines, the
-- e-th KEXINIT sent and taken, and the e-th messages 30 and 31. Its K comes from the e-th secret that the end was fed.
abbrev pub exchange : {K : Type 0} → Parties K → Side → ℕ → List Item → Inputs
exchange p Client e h = record {
  client_version = sent_line h;
  server_version = took_line h;
  client_init = (nth no_offer e (offers (messages_sent h))).payload;
  server_init = (nth no_offer e (offers (messages_taken h))).payload;
  host_key = (nth no_reply e (replies (messages_taken h))).host_key;
  client_point = nth [] e (points (messages_sent h));
  server_point = (nth no_reply e (replies (messages_taken h))).point;
  shared =
      shared_number p Client (nth no_material e (fed h)).secret (nth no_reply e (replies (messages_taken h))).point;
}
exchange p Server e h = record {
  client_version = took_line h;
  server_version = sent_line h;
  client_init = (nth no_offer e (offers (messages_taken h))).payload;
  server_init = (nth no_offer e (offers (messages_sent h))).payload;
  host_key = (nth no_reply e (replies (messages_sent h))).host_key;
  client_point = nth [] e (points (messages_taken h));
  server_point = (nth no_reply e (replies (messages_sent h))).point;
  shared = shared_number p Server (nth no_material e (fed h)).secret (nth [] e (points (messages_taken h)));
}

-- the exchanges that an end completed: its e-th NEWKEYS sent completes the e-th exchange
abbrev pub exchanges : {K : Type 0} → Parties K → Side → List Item → List Inputs
exchanges p side [] = []
exchanges p side (Sent channel NewKeys payload ∷ h) = exchange p side (epoch (sent h)) h ∷ exchanges p side h
exchanges p side (_ ∷ h) = exchanges p side h

-- the default if no such exchange was completed
abbrev pub no_exchange : Inputs
no_exchange =
    record {
      client_version = [];
      server_version = [];
      client_init = [];
      server_init = [];
      host_key = [];
      client_point = [];
      server_point = [];
      shared = 0;
    }

-- ---- settled by the first KEXINITs

-- The marker is one of these names of a list of key exchange methods.
abbrev pub has_marker : (marker : List ℕ) → (names : List (List ℕ)) → Bool
has_marker marker names = is_some (find (λ name. is_text name marker) names)

-- the first KEXINIT that an end sent
abbrev pub first_sent : List Item → Proposal
first_sent h = (nth no_offer 0 (offers (messages_sent h))).proposal

-- the first KEXINIT that an end took
abbrev pub first_taken : List Item → Proposal
first_taken h = (nth no_offer 0 (offers (messages_taken h))).proposal

-- Key exchange is strict if the first KEXINIT of each end carries that end's marker. Otherwise the session is called plain
-- (OpenSSH's PROTOCOL section 1.9).
abbrev pub is_strict : Side → List Item → Bool
is_strict side h =
    has_marker (marker_of side) (first_sent h).kex && has_marker (marker_of (peer side)) (first_taken h).kex

-- the sequence number of the packet that an end sends next (RFC 4253 section 6.4)
abbrev pub sending_number : Side → List Item → ℕ
sending_number side h = wire_number (is_strict side h) (sent h)

-- the sequence number of the packet that an end takes next (RFC 4253 section 6.4)
abbrev pub taking_number : Side → List Item → ℕ
taking_number side h = wire_number (is_strict side h) (took h)

-- This end takes EXT_INFO: its first KEXINIT says so (RFC 8308 section 2.1).
abbrev pub takes_extensions : Side → List Item → Bool
takes_extensions side h = has_marker (extension_marker_of side) (first_sent h).kex

-- The peer takes EXT_INFO: its first KEXINIT says so (RFC 8308 section 2.1).
abbrev pub peer_takes_extensions : Side → List Item → Bool
peer_takes_extensions side h = has_marker (extension_marker_of (peer side)) (first_taken h).kex

-- ---- the session id and the names of keys

-- the session id: the hash of the first exchange (RFC 4253 section 7.2)
abbrev pub session_id : List Inputs → List ℕ
session_id xs = exchange_hash (nth no_exchange 0 xs)

-- The name of a key: its direction, given by the side that sends, the hash of its exchange, and the session id.
pub record KeyName : Type 0 where
  pub from : Side
  pub hash : List ℕ
  pub session : List ℕ

-- The name of a direction's key in epoch e. Epoch 0 has no key. Epoch e + 1 has the key of exchange e.
abbrev pub key_name : Side → ℕ → List Inputs → Option KeyName
key_name from zero xs = None
key_name from (suc e) xs =
    Some (record { from = from; hash = exchange_hash (nth no_exchange e xs); session = session_id xs })

-- ---- the algorithms of an exchange

-- the first of the client's names that the server lists too (RFC 4253 section 7.1)
abbrev pub first_common : List (List ℕ) → List (List ℕ) → Option (List ℕ)
first_common client server = find (λ name. is_some (find (λ other. is_text name other) server)) client

-- the first common name of a kind (RFC 4253 section 7.1)
abbrev pub common : Kind → Lists → Lists → Option (List ℕ)
common kind client server = first_common (offered kind client) (offered kind server)

-- this name, or the empty one if there is none
abbrev pub name_of : Option (List ℕ) → List ℕ
name_of name = unwrap_or name []

-- the first common name of each kind, or the empty name (RFC 4253 section 7.1)
abbrev pub chosen : Lists → Lists → Chosen
chosen client server = record {
  kex = name_of (common Kex client server);
  host = name_of (common HostKey client server);
  enc_cs = name_of (common EncCs client server);
  enc_sc = name_of (common EncSc client server);
  mac_cs = name_of (common MacCs client server);
  mac_sc = name_of (common MacSc client server);
  comp_cs = name_of (common CompCs client server);
  comp_sc = name_of (common CompSc client server);
}

-- Each kind has a common name (RFC 4253 section 7.1).
abbrev pub has_choice : Lists → Lists → Bool
has_choice client server =
    is_some (common Kex client server) && is_some (common HostKey client server)
    && is_some (common EncCs client server) && is_some (common EncSc client server)
    && is_some (common MacCs client server) && is_some (common MacSc client server)
    && is_some (common CompCs client server) && is_some (common CompSc client server)

-- the client's lists in exchange e of a history
abbrev pub client_lists : Side → ℕ → List Item → Lists
client_lists Client e h = lists_of (nth no_offer e (offers (messages_sent h))).proposal
client_lists Server e h = lists_of (nth no_offer e (offers (messages_taken h))).proposal

-- the server's lists in exchange e of a history
abbrev pub server_lists : Side → ℕ → List Item → Lists
server_lists Client e h = lists_of (nth no_offer e (offers (messages_taken h))).proposal
server_lists Server e h = lists_of (nth no_offer e (offers (messages_sent h))).proposal

-- the algorithms chosen in exchange e
abbrev pub choice : Side → ℕ → List Item → Chosen
choice side e h = chosen (client_lists side e h) (server_lists side e h)

-- the default if nothing was chosen
abbrev pub none_chosen : Chosen
none_chosen =
    record { kex = []; host = []; enc_cs = []; enc_sc = []; mac_cs = []; mac_sc = []; comp_cs = []; comp_sc = [] }

-- the algorithms chosen in the exchanges that an end completed
abbrev pub choices : Side → List Item → List Chosen
choices side [] = []
choices side (Sent channel NewKeys payload ∷ h) = choice side (epoch (sent h)) h ∷ choices side h
choices side (_ ∷ h) = choices side h

-- ---- keys (RFC 4253 section 7.2)

-- the letter from which a direction's IV is derived, by the side that sends (RFC 4253 section 7.2)
abbrev pub iv_letter : Side → ℕ
iv_letter Client = 65
iv_letter Server = 66

-- the letter from which a direction's cipher key is derived (RFC 4253 section 7.2)
abbrev pub cipher_letter : Side → ℕ
cipher_letter Client = 67
cipher_letter Server = 68

-- the letter from which a direction's MAC key is derived (RFC 4253 section 7.2)
abbrev pub mac_letter : Side → ℕ
mac_letter Client = 69
mac_letter Server = 70

-- the encryption of a direction, by the side that sends (RFC 4253 section 7.1)
abbrev pub encryption_from : Side → Chosen → List ℕ
encryption_from Client c = c.enc_cs
encryption_from Server c = c.enc_sc

-- the MAC of a direction, by the side that sends (RFC 4253 section 7.1)
abbrev pub mac_from : Side → Chosen → List ℕ
mac_from Client c = c.mac_cs
mac_from Server c = c.mac_sc

-- no bytes of key material
abbrev pub no_lengths : Lengths
no_lengths = record { iv = 0; cipher = 0; mac = 0 }

-- the key of a direction, by its exchange, the session id, and the chosen algorithms (RFC 4253 section 7.2)
abbrev pub key_of : {K : Type 0} → Crypto K → Side → Inputs → List ℕ → Chosen → K
key_of c from x session chosen =
    let enc = encryption_from from chosen in
    let mac = mac_from from chosen in
    let n = unwrap_or (c.lengths enc mac) no_lengths in
    let bytes : ℕ → ℕ → List ℕ = λ letter size. derived x.shared (exchange_hash x) letter session size in
    c.made enc mac (bytes (iv_letter from) n.iv) (bytes (cipher_letter from) n.cipher) (bytes (mac_letter from) n.mac)

-- The key of a direction in epoch e of a history. Epoch 0, before the first NEWKEYS, has no key (RFC 4253 sections 7.2 and
-- 7.3).
abbrev pub key_in : {K : Type 0} → Parties K → Side → (from : Side) → ℕ → List Item → Option K
key_in p side from zero h = None
key_in p side from (suc e) h =
    let xs = exchanges p side h in
    Some (key_of p.crypto from (nth no_exchange e xs) (session_id xs) (nth none_chosen e (choices side h)))

-- the name of the key under which an end sends
abbrev pub sending_name : {K : Type 0} → Parties K → Side → List Item → Option KeyName
sending_name p side h = key_name side (epoch (sent h)) (exchanges p side h)

-- the name of the key under which an end takes
abbrev pub taking_name : {K : Type 0} → Parties K → Side → List Item → Option KeyName
taking_name p side h = key_name (peer side) (epoch (took h)) (exchanges p side h)

-- the key under which an end sends
abbrev pub sending_key : {K : Type 0} → Parties K → Side → List Item → Option K
sending_key p side h = key_in p side side (epoch (sent h)) h

-- the key under which an end takes
abbrev pub taking_key : {K : Type 0} → Parties K → Side → List Item → Option K
taking_key p side h = key_in p side (peer side) (epoch (took h)) h
