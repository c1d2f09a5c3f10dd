-- Histories of the two toy ends, up to the point that an example is about. Payloads are left empty: only messages matter.
use Rattle.std.specs.Prelude.{ℕ, Bool, true, false, Option, Some, None, List, [], ◌∷◌, ◌++◌, take, replicate, codes}
use Rattle.std.specs.List.{filter}
use Rattle.sha2.specs.Sha256.{sha256}
use Rattle.ssh_model.specs.declared.side.Side.{Side}
use Rattle.ssh_model.specs.declared.side.Side.TheVariants.{Client, Server}
use Rattle.ssh_model.specs.Protocol.Side.{peer}
use Rattle.ssh_model.specs.Protocol.Wire.Message.{Msg, Msg.KexInit, Msg.NewKeys, Msg.KexEcdhInit, Msg.KexEcdhReply}
use Rattle.ssh_model.specs.Protocol.Wire.Message.{Msg.ServiceRequest, Msg.ServiceAccept, Msg.UserauthRequest}
use Rattle.ssh_model.specs.Protocol.Wire.Message.{Msg.UserauthFailure, Msg.UserauthSuccess, Msg.ChannelOpen}
use Rattle.ssh_model.specs.Protocol.Wire.Message.{Msg.ChannelOpenConfirmation, Msg.ChannelData, Msg.ChannelEof, Msg.ChannelClose}
use Rattle.ssh_model.specs.Protocol.Wire.Message.{Msg.ChannelRequest, Method.Password, Method.Publickey, Proposal}
use Rattle.ssh_model.specs.declared.refusal.Refusal.{Refusal}
use Rattle.ssh_model.specs.declared.ask_refusal.AskRefusal.{AskRefusal}
use Rattle.ssh_model.specs.declared.request_kind.RequestKind.TheVariants as kind
use Rattle.ssh_model.specs.Protocol.Sessions.Refusals.{first_refusal}
use Rattle.ssh_model.specs.Protocol.Sessions.Parties.{Parties, settings_of, offer}
use Rattle.ssh_model.specs.Protocol.Sessions.Items.{Ask, Ask.AskService, Ask.AskNone, Ask.AskPassword, Ask.AskProbe, Ask.AskSign}
use Rattle.ssh_model.specs.Protocol.Sessions.Items.{Ask.AskOpen, Ask.AskConfirm, Ask.AskRefuse, Ask.AskData, Ask.AskAdjust}
use Rattle.ssh_model.specs.Protocol.Sessions.Items.{Ask.AskEof, Ask.AskClose, Ask.AskRequest, Ask.AskReply, Ask.AskGlobal}
use Rattle.ssh_model.specs.Protocol.Sessions.Items.{Ask.AskGlobalReply, Fact.Completed, Fact.Service, Fact.Accepted}
use Rattle.ssh_model.specs.Protocol.Sessions.Items.{Fact.Authenticated, Fact.Opening, Fact.Opened, Fact.Confirmed, Fact.Closed}
use Rattle.ssh_model.specs.Protocol.Sessions.Items.{Item, Item.Fed, Item.Asked, Item.SentLine, Item.TookLine, Item.Sent}
use Rattle.ssh_model.specs.Protocol.Sessions.Items.{Item.Took, Item.Told}
use Rattle.ssh_model.specs.Protocol.Sessions.Items.{Credential.ByPassword}
use Rattle.ssh_model.specs.Laws.MacOnly.{key_block, mac_only}
use Rattle.ssh_model.specs.Protocol.Wire.Sealing.{Crypto}
use Rattle.ssh_model.specs.Protocol.KeyExchange.Exchange.{Inputs, exchange_hash, derived}
use Rattle.ssh_model.specs.Protocol.KeyExchange.Exchanges.{exchange, exchanges, session_id, mac_letter}
use Rattle.ssh_model.specs.Protocol.Sessions.Phases.{may_take}
use Rattle.ssh_model.specs.Protocol.Authentication.Requests.{signed_text}
use Rattle.ssh_model.specs.Protocol.Sessions.Transport.{hash_to_sign}
use Rattle.ssh_model.specs.Protocol.Sessions.Turns.{answer_checks, ask_checks}
use Rattle.ssh_model.specs.Example.Toys.{toy_settings, naming_toys, toy, toy_key, cookie, secret, from_to}

-- ---- questions to the definitions

-- the numbers that the end may take next
abbrev pub taken_by : Parties (List ℕ) → Side → List Item → List ℕ
taken_by p side h = filter (λ n. may_take p side h n) (from_to 0 255)

-- the numbers that the toys may take next
abbrev pub taken : Side → List Item → List ℕ
taken side h = taken_by toy side h

-- the refusal of a message by the end, if any
abbrev pub refusal_by : Parties (List ℕ) → Side → List Item → Msg → Option Refusal
refusal_by p side h message = first_refusal (answer_checks p side h message)

-- the refusal of a message by a toy, if any
abbrev pub refusal : Side → List Item → Msg → Option Refusal
refusal side h message = refusal_by toy side h message

-- the refusal of an ask by a toy, if any
abbrev pub ask_refusal : Side → List Item → Ask → Option AskRefusal
ask_refusal side h ask = first_refusal (ask_checks toy side h ask)

-- ---- items

-- an item: the end sent this message
abbrev pub says : Msg → Item
says message = Sent None message []

-- an item: the end took this message
abbrev pub hears : Msg → Item
hears message = Took None message []

-- an item: the end sent this message on the channel of this number
abbrev pub says_on : ℕ → Msg → Item
says_on x message = Sent (Some x) message []

-- an item: the end took this message on the channel of this number
abbrev pub hears_on : ℕ → Msg → Item
hears_on x message = Took (Some x) message []

-- ---- the first exchange

-- the version line of a side
abbrev pub line_of : Side → List ℕ
line_of side = (settings_of toy side).line

-- the byte of which the cookie of the first exchange, or of the second, is made
abbrev pub cookie_byte : Side → (first : Bool) → ℕ
cookie_byte Client true = 193
cookie_byte Client false = 162
cookie_byte Server true = 209
cookie_byte Server false = 178

-- the last byte of a secret, of the first exchange or of the second
abbrev pub secret_byte : Side → (first : Bool) → ℕ
secret_byte Client true = 1
secret_byte Client false = 4
secret_byte Server true = 2
secret_byte Server false = 8

-- an item: the pair of the first exchange, or of the second, was fed
abbrev pub feeding : Side → (first : Bool) → Item
feeding side first = Fed (cookie (cookie_byte side first)) (secret (secret_byte side first))

-- the KEXINIT of an exchange
abbrev pub offer_by : Parties (List ℕ) → Side → (first : Bool) → Proposal
offer_by p side first = offer p side first (cookie (cookie_byte side first))

-- the history after the opening: the line and the first KEXINIT were sent
abbrev pub opened_by : Parties (List ℕ) → Side → List Item
opened_by p side = says (KexInit (offer_by p side true)) ∷ SentLine (line_of side) ∷ feeding side true ∷ []

-- the history after the peer's line was taken
abbrev pub lined_by : Parties (List ℕ) → Side → List Item
lined_by p side = TookLine (line_of (peer side)) ∷ opened_by p side

-- the history after the peer's KEXINIT was taken, and a client sent its point
abbrev pub offered_by : Parties (List ℕ) → Side → List Item
offered_by p Client = says (KexEcdhInit (secret 1)) ∷ hears (KexInit (offer_by p Server true)) ∷ lined_by p Client
offered_by p Server = hears (KexInit (offer_by p Client true)) ∷ lined_by p Server

-- the server's reply in the first exchange
abbrev pub first_reply_by : Parties (List ℕ) → Msg
first_reply_by p = KexEcdhReply toy_key (secret 2) (take 4096 (hash_to_sign p (offered_by p Server) (secret 1)))

-- the history after the first exchange was completed
abbrev pub completed_by : Parties (List ℕ) → Side → List Item
completed_by p Client = Told (Completed 1) ∷ says NewKeys ∷ hears (first_reply_by p) ∷ offered_by p Client
completed_by p Server =
    Told (Completed 1) ∷ says NewKeys ∷ says (first_reply_by p) ∷ hears (KexEcdhInit (secret 1)) ∷ offered_by p Server

-- the history after the peer's NEWKEYS was taken
abbrev pub keyed_by : Parties (List ℕ) → Side → List Item
keyed_by p side = hears NewKeys ∷ completed_by p side

-- the KEXINIT of a toy in an exchange; most examples are about the toys
abbrev pub offer_of : Side → (first : Bool) → Proposal
offer_of side first = offer_by toy side first

-- the opening of a toy
abbrev pub opened : Side → List Item
opened side = opened_by toy side

-- a toy after the peer's line
abbrev pub lined : Side → List Item
lined side = lined_by toy side

-- a toy after the peer's KEXINIT
abbrev pub offered : Side → List Item
offered side = offered_by toy side

-- the reply of the toy server in the first exchange
abbrev pub first_reply : Msg
first_reply = first_reply_by toy

-- a toy after the first exchange
abbrev pub completed : Side → List Item
completed side = completed_by toy side

-- a toy after the peer's first NEWKEYS
abbrev pub keyed : Side → List Item
keyed side = keyed_by toy side

-- ---- authentication

-- the service of authentication
abbrev pub userauth : List ℕ
userauth = codes "ssh-userauth"

-- the service of channels
abbrev pub connection : List ℕ
connection = codes "ssh-connection"

-- the history after the client asked for the service
abbrev pub asking : List Item
asking = says (ServiceRequest userauth) ∷ Asked AskService ∷ keyed Client

-- the history after the service was accepted
abbrev pub served : Side → List Item
served Client = Told Service ∷ hears (ServiceAccept userauth) ∷ asking
served Server = says (ServiceAccept userauth) ∷ hears (ServiceRequest userauth) ∷ keyed Server

-- a request with the right password
abbrev pub right_request : Msg
right_request = UserauthRequest (codes "u") connection (Password (codes "p") None)

-- a request with a wrong password
abbrev pub wrong_request : Msg
wrong_request = UserauthRequest (codes "u") connection (Password (codes "q") None)

-- a request that asks whether this key would do
abbrev pub probe : (key : List ℕ) → Msg
probe key = UserauthRequest (codes "u") connection (Publickey (codes "toy") key None)

-- the right signature of the client, under the session id
abbrev pub right_signature : List ℕ
right_signature =
    let session = session_id (exchanges toy Client (served Client)) in
    sha256 (signed_text session (codes "u") connection (codes "toy") (codes "k"))

-- the history after the client sent the right request
abbrev pub requesting : List Item
requesting = says right_request ∷ Asked (AskPassword (codes "u") (codes "p")) ∷ served Client

-- the history after the client asked whether a key would do
abbrev pub probing_client : List Item
probing_client = says (probe (codes "k")) ∷ Asked (AskProbe (codes "u") (codes "toy") (codes "k")) ∷ served Client

-- the history after this number of requests failed
abbrev pub failed : ℕ → List Item
failed n = replicate n (says (UserauthFailure (codes "publickey" ∷ codes "password" ∷ []) false)) ++ served Server

-- the history after the user was authenticated
abbrev pub admitted : Side → List Item
admitted Client = Told (Authenticated kind.Password) ∷ hears UserauthSuccess ∷ requesting
admitted Server = Told (Accepted (codes "u") ByPassword) ∷ says UserauthSuccess ∷ hears right_request ∷ served Server

-- ---- a second exchange

-- the history after the pair of the second exchange was fed
abbrev pub fed_again : Side → List Item
fed_again side = feeding side false ∷ admitted side

-- the history after the end sent its second KEXINIT
abbrev pub rekeying : Side → List Item
rekeying side = says (KexInit (offer_of side false)) ∷ fed_again side

-- the history after the peer's second KEXINIT was taken, and a client sent its point
abbrev pub offered_again : Side → List Item
offered_again Client = says (KexEcdhInit (secret 4)) ∷ hears (KexInit (offer_of Server false)) ∷ rekeying Client
offered_again Server = hears (KexInit (offer_of Client false)) ∷ rekeying Server

-- the history after the message of the second exchange was taken, and NEWKEYS was sent
abbrev pub completed_again : Side → List Item
completed_again Client = says NewKeys ∷ hears (KexEcdhReply toy_key (secret 8) []) ∷ offered_again Client
completed_again Server =
    says NewKeys ∷ says (KexEcdhReply toy_key (secret 8) []) ∷ hears (KexEcdhInit (secret 4)) ∷ offered_again Server

-- ---- a channel: number 3 of the client, with a window of 10 and data of at most 8 bytes, and number 5 of the server,
-- with a window of 20 and data of at most 16 bytes

-- the OPEN of the client
abbrev pub open_message : Msg
open_message = ChannelOpen (codes "session") 3 10 8 []

-- the answer of the server
abbrev pub confirm_message : Msg
confirm_message = ChannelOpenConfirmation 3 5 20 16 []

-- the history after the OPEN was sent and taken
abbrev pub channel_opened : Side → List Item
channel_opened Client = Told (Opening 3) ∷ says_on 3 open_message ∷ admitted Client
channel_opened Server = Told (Opened 5 (codes "session") 10 8 []) ∷ hears_on 5 open_message ∷ admitted Server

-- the history after the channel was confirmed
abbrev pub channel_confirmed : Side → List Item
channel_confirmed Client = Told (Confirmed 3 20 16 []) ∷ hears_on 3 confirm_message ∷ channel_opened Client
channel_confirmed Server = says_on 5 confirm_message ∷ channel_opened Server

-- an item: data for the client that leave 2 bytes of its window
abbrev pub heard_data : Item
heard_data = hears_on 3 (ChannelData 3 (replicate 8 0))

-- an item: EOF for the client
abbrev pub heard_eof : Item
heard_eof = hears_on 3 (ChannelEof 3)

-- an item: a request for the client
abbrev pub heard_request : Item
heard_request = hears_on 3 (ChannelRequest 3 [] true [])

-- the history after the peer said CLOSE while this end was blocked, so that this end owes its CLOSE
abbrev pub closed_by_peer : Side → List Item
closed_by_peer Client =
    Told (Closed 3) ∷ hears_on 3 (ChannelClose 3) ∷ says (KexInit (offer_of Client false)) ∷ feeding Client false
    ∷ channel_confirmed Client
closed_by_peer Server =
    Told (Closed 5) ∷ hears_on 5 (ChannelClose 5) ∷ says (KexInit (offer_of Server false)) ∷ feeding Server false
    ∷ channel_confirmed Server

-- the peer's KEXINIT with a wrong guess, as an end would take it
abbrev pub guessing_by : Parties (List ℕ) → Side → (first : Bool) → Proposal
guessing_by p side first =
    record (offer_by p (peer side) first) { host = codes "x" ∷ codes "toy@example.com" ∷ []; follows = true }

-- the peer's KEXINIT with a wrong guess, as a toy would take it
abbrev pub guessing : Side → (first : Bool) → Proposal
guessing side first = guessing_by toy side first

-- an item: data of the client that leave 4 bytes of the server's window
abbrev pub said_data : Item
said_data = says_on 3 (ChannelData 5 (replicate 16 0))

-- an item: a request of the client
abbrev pub said_request : Item
said_request = says_on 3 (ChannelRequest 5 [] true [])

-- the history of a client with a channel on which the server takes much
abbrev pub wide_channel : List Item
wide_channel = hears_on 3 (ChannelOpenConfirmation 3 5 100000 100000 []) ∷ channel_opened Client

-- ---- asks

-- the asks for authentication
abbrev pub requests : List Ask
requests =
    AskNone (codes "u") ∷ AskPassword (codes "u") (codes "p") ∷ AskProbe (codes "u") (codes "toy") (codes "k")
    ∷ AskSign (codes "u") (codes "toy") (codes "k") ∷ []

-- the asks for messages of the connection
abbrev pub connection_asks : List Ask
connection_asks =
    AskOpen [] 0 1 [] ∷ AskConfirm 3 0 1 [] ∷ AskRefuse 3 1 ∷ AskData 3 None [] ∷ AskData 3 (Some 1) [] ∷ AskAdjust 3 0
    ∷ AskEof 3 ∷ AskClose 3
    ∷ AskRequest 3 [] true [] ∷ AskReply 3 true ∷ AskReply 3 false ∷ AskGlobal [] true [] ∷ AskGlobalReply true []
    ∷ AskGlobalReply false [] ∷ []

-- ---- other parts and settings

-- toys whose server names these methods
abbrev pub with_methods : List (List ℕ) → Parties (List ℕ)
with_methods methods = record toy { server = record (toy_settings (line_of Server)) { methods = methods } }

-- a client that may send many packets before a new exchange is due
abbrev pub patient : Parties (List ℕ)
patient = record toy { client = record (toy_settings (line_of Client)) { epoch_limit = 2147483648 } }

-- a server that knows every key
abbrev pub friendly : Parties (List ℕ)
friendly = record toy { knows_key = λ user algorithm key. true }

-- a sealing with key lengths of its own, whose keys show the bytes that they are made of
abbrev pub plain_crypto : Crypto (List ℕ)
plain_crypto = record mac_only {
  lengths = λ enc mac. Some (record { iv = 2; cipher = 3; mac = 4 });
  made = λ enc mac iv cipher key. iv ++ cipher ++ key;
}

-- a KEXINIT that lists a different encryption and a different MAC for each direction
abbrev pub naming_offer : Side → Proposal
naming_offer side =
    record (offer_by naming_toys side true) {
      enc_cs = codes "a" ∷ [];
      enc_sc = codes "b" ∷ [];
      mac_cs = codes "c"
          ∷ [];
      mac_sc = codes "d" ∷ [];
    }

-- the history after NEWKEYS of both ends, with a different encryption and MAC in each direction
abbrev pub keyed_naming : Side → List Item
keyed_naming side =
    hears NewKeys ∷ says NewKeys ∷ hears (KexInit (naming_offer (peer side))) ∷ opened_by naming_toys side

-- ---- the first exchange of an end, and the key of a direction that it gives

-- the inputs of the first exchange
abbrev pub first_inputs : Side → Inputs
first_inputs side = exchange toy side 0 (completed side)

-- the MAC key of a direction after the first exchange
abbrev pub mac_key : Side → Inputs → List ℕ
mac_key from x = key_block (derived x.shared (exchange_hash x) (mac_letter from) (exchange_hash x) 32)
