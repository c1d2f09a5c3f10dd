-- A run of the two toy ends, byte by byte: an exchange, authentication, a channel with data, and a second exchange
-- while the channel closes. Histories have the newest item first, so each step of the run begins with the turn that it adds.
use Rattle.std.specs.Prelude.{ℕ, Bool, true, false, Some, None, List, [], ◌∷◌, ◌++◌, if◌then◌else◌, codes}
use Rattle.std.specs.List.{join_with_byte}
use Rattle.std.specs.Int.{w32, to_be_bytes}
use Rattle.ssh_model.specs.declared.side.Side.{Side}
use Rattle.ssh_model.specs.declared.side.Side.TheVariants.{Client, Server}
use Rattle.ssh_model.specs.declared.request_kind.RequestKind.TheVariants as kind
use Rattle.ssh_model.specs.Protocol.Side.{part, done_by}
use Rattle.ssh_model.specs.Protocol.Wire.Message.{Msg, Msg.Disconnect, Msg.Ignore, Msg.KexInit, Msg.NewKeys, Msg.KexEcdhInit}
use Rattle.ssh_model.specs.Protocol.Wire.Message.{Msg.KexEcdhReply, Msg.ServiceRequest, Msg.ServiceAccept, Msg.UserauthRequest}
use Rattle.ssh_model.specs.Protocol.Wire.Message.{Msg.UserauthSuccess, Msg.ChannelOpen, Msg.ChannelOpenConfirmation}
use Rattle.ssh_model.specs.Protocol.Wire.Message.{Msg.ChannelData, Msg.ChannelClose, Method.Password}
use Rattle.ssh_model.specs.Protocol.KeyExchange.Exchange.{string_of}
use Rattle.ssh_model.specs.Protocol.Sessions.Items.{Ask.AskService, Ask.AskPassword, Ask.AskRekey, Ask.AskOpen, Ask.AskConfirm}
use Rattle.ssh_model.specs.Protocol.Sessions.Items.{Ask.AskData, Ask.AskClose, Fact.Completed, Fact.Service, Fact.Accepted}
use Rattle.ssh_model.specs.Protocol.Sessions.Items.{Fact.Authenticated, Fact.Opening, Fact.Opened, Fact.Confirmed, Fact.GotData}
use Rattle.ssh_model.specs.Protocol.Sessions.Items.{Fact.Closed, Item, Item.Asked, Item.SentLine, Item.TookLine, Item.Sent}
use Rattle.ssh_model.specs.Protocol.Sessions.Items.{Item.Took, Item.Told, Done}
use Rattle.ssh_model.specs.Protocol.Sessions.Items.{Credential.ByPassword}
use Rattle.ssh_model.specs.Protocol.Sessions.Parties.{Parties}
use Rattle.ssh_model.specs.Protocol.Sessions.Transport.{reply_now}
use Rattle.ssh_model.specs.Example.Toys.{toy, secret}
use Rattle.ssh_model.specs.Example.Histories.{line_of, feeding, offer_by, userauth, right_request, open_message}
use Rattle.ssh_model.specs.Example.Histories.{confirm_message}

-- ---- payloads

-- a name-list
abbrev pub names_of : List (List ℕ) → List ℕ
names_of names = string_of (join_with_byte 44 names)

-- a uint32
abbrev pub uint32_of : ℕ → List ℕ
uint32_of n = to_be_bytes w32 n

-- a boolean
abbrev pub boolean_of : Bool → List ℕ
boolean_of truth = (if truth then 1 else 0) ∷ []

-- fields, one after the other
abbrev pub joined : List (List ℕ) → List ℕ
joined [] = []
joined (field ∷ fields) = field ++ joined fields

-- the payload of a message that occurs in one of the runs
abbrev pub payload_of : Msg → List ℕ
payload_of (KexInit o) =
    joined ((20 ∷ []) ∷ o.cookie ∷ names_of o.kex ∷ names_of o.host ∷ names_of o.enc_cs ∷ names_of o.enc_sc
    ∷ names_of o.mac_cs ∷ names_of o.mac_sc
    ∷ names_of o.comp_cs ∷ names_of o.comp_sc ∷ names_of o.lang_cs ∷ names_of o.lang_sc ∷ boolean_of o.follows
    ∷ uint32_of 0 ∷ [])
payload_of (Disconnect reason description language) =
    joined ((1 ∷ []) ∷ uint32_of reason ∷ string_of description ∷ string_of language ∷ [])
payload_of (Ignore body) = joined ((2 ∷ []) ∷ string_of body ∷ [])
payload_of NewKeys = joined ((21 ∷ []) ∷ [])
payload_of (KexEcdhInit q_c) = joined ((30 ∷ []) ∷ string_of q_c ∷ [])
payload_of (KexEcdhReply k_s q_s signature) =
    joined ((31 ∷ []) ∷ string_of k_s ∷ string_of q_s ∷ string_of signature ∷ [])
payload_of (ServiceRequest service) = joined ((5 ∷ []) ∷ string_of service ∷ [])
payload_of (ServiceAccept service) = joined ((6 ∷ []) ∷ string_of service ∷ [])
payload_of (UserauthRequest user service (Password password None)) =
    joined ((50 ∷ []) ∷ string_of user ∷ string_of service ∷ string_of (codes "password") ∷ boolean_of false
    ∷ string_of password ∷ [])
payload_of UserauthSuccess = joined ((52 ∷ []) ∷ [])
payload_of (ChannelOpen kind sender window max rest) =
    joined ((90 ∷ []) ∷ string_of kind ∷ uint32_of sender ∷ uint32_of window ∷ uint32_of max ∷ rest ∷ [])
payload_of (ChannelOpenConfirmation recipient sender window max rest) =
    joined ((91 ∷ []) ∷ uint32_of recipient ∷ uint32_of sender ∷ uint32_of window ∷ uint32_of max ∷ rest ∷ [])
payload_of (ChannelData recipient body) = joined ((94 ∷ []) ∷ uint32_of recipient ∷ string_of body ∷ [])
payload_of (ChannelClose recipient) = joined ((97 ∷ []) ∷ uint32_of recipient ∷ [])
payload_of _ = []

-- ---- items

-- a message that is sent, with its payload
abbrev pub sends : Msg → Item
sends message = Sent None message (payload_of message)

-- a message that is taken, with its payload
abbrev pub takes : Msg → Item
takes message = Took None message (payload_of message)

-- a message that is sent on the channel of this number, the end's own
abbrev pub sends_on : ℕ → Msg → Item
sends_on x message = Sent (Some x) message (payload_of message)

-- a message that is taken on the channel of this number, the end's own
abbrev pub takes_on : ℕ → Msg → Item
takes_on x message = Took (Some x) message (payload_of message)

-- a KEXINIT of ends with these parts
abbrev pub offer_message_by : Parties (List ℕ) → Side → (first : Bool) → Msg
offer_message_by p side first = KexInit (offer_by p side first)

-- a KEXINIT of the toys
abbrev pub offer_message : Side → (first : Bool) → Msg
offer_message side first = offer_message_by toy side first

-- ---- the run

-- the opening of an end with these parts
abbrev pub start_by : Parties (List ℕ) → Side → List Item
start_by p side = sends (offer_message_by p side true) ∷ SentLine (line_of side) ∷ feeding side true ∷ []

-- the opening of a toy
abbrev pub start_of : Side → List Item
start_of side = start_by toy side

-- the data of the channel
abbrev pub data_message : Msg
data_message = ChannelData 5 (codes "hi")

-- turns of the run, each over those before it
abbrev pub d0 : List Done
d0 = done_by Server (start_of Server) ++ done_by Client (start_of Client)

abbrev pub d1 : List Done
d1 = done_by Server (TookLine (line_of Client) ∷ []) ++ d0

abbrev pub d2 : List Done
d2 = done_by Client (TookLine (line_of Server) ∷ []) ++ d1

abbrev pub d3 : List Done
d3 = done_by Server (takes (offer_message Client true) ∷ []) ++ d2

abbrev pub d4 : List Done
d4 = done_by Client (sends (KexEcdhInit (secret 1)) ∷ takes (offer_message Server true) ∷ []) ++ d3

-- the server's reply in the first exchange, and the next turns of the run
abbrev pub first_reply_message : Msg
first_reply_message = reply_now toy (part Server d4) (secret 1)

abbrev pub d5 : List Done
d5 =
    done_by Server (Told (Completed 1) ∷ sends NewKeys ∷ sends first_reply_message ∷ takes (KexEcdhInit (secret 1))
    ∷ []) ++ d4

abbrev pub d6 : List Done
d6 = done_by Client (Told (Completed 1) ∷ sends NewKeys ∷ takes first_reply_message ∷ []) ++ d5

abbrev pub d7 : List Done
d7 = done_by Client (takes NewKeys ∷ []) ++ d6

abbrev pub d8 : List Done
d8 = done_by Server (takes NewKeys ∷ []) ++ d7

abbrev pub d9 : List Done
d9 = done_by Client (sends (ServiceRequest userauth) ∷ Asked AskService ∷ []) ++ d8

abbrev pub d10 : List Done
d10 = done_by Server (sends (ServiceAccept userauth) ∷ takes (ServiceRequest userauth) ∷ []) ++ d9

abbrev pub d11 : List Done
d11 = done_by Client (Told Service ∷ takes (ServiceAccept userauth) ∷ []) ++ d10

abbrev pub d12 : List Done
d12 = done_by Client (sends right_request ∷ Asked (AskPassword (codes "u") (codes "p")) ∷ []) ++ d11

abbrev pub d13 : List Done
d13 = done_by Server (Told (Accepted (codes "u") ByPassword) ∷ sends UserauthSuccess ∷ takes right_request ∷ []) ++ d12

abbrev pub d14 : List Done
d14 = done_by Client (Told (Authenticated kind.Password) ∷ takes UserauthSuccess ∷ []) ++ d13

abbrev pub d15 : List Done
d15 =
    done_by Client (Told (Opening 3) ∷ sends_on 3 open_message ∷ Asked (AskOpen (codes "session") 10 8 []) ∷ []) ++ d14

abbrev pub d16 : List Done
d16 = done_by Server (Told (Opened 5 (codes "session") 10 8 []) ∷ takes_on 5 open_message ∷ []) ++ d15

abbrev pub d17 : List Done
d17 = done_by Server (sends_on 5 confirm_message ∷ Asked (AskConfirm 5 20 16 []) ∷ []) ++ d16

abbrev pub d18 : List Done
d18 = done_by Client (Told (Confirmed 3 20 16 []) ∷ takes_on 3 confirm_message ∷ []) ++ d17

abbrev pub d19 : List Done
d19 = done_by Client (sends_on 3 data_message ∷ Asked (AskData 3 None (codes "hi")) ∷ []) ++ d18

abbrev pub d20 : List Done
d20 = done_by Server (Told (GotData 5 None (codes "hi")) ∷ takes_on 5 data_message ∷ []) ++ d19

abbrev pub d21 : List Done
d21 = done_by Client (feeding Client false ∷ []) ++ d20

abbrev pub d22 : List Done
d22 = done_by Server (feeding Server false ∷ []) ++ d21

abbrev pub d23 : List Done
d23 = done_by Client (sends (offer_message Client false) ∷ Asked AskRekey ∷ []) ++ d22

abbrev pub d24 : List Done
d24 = done_by Server (sends_on 5 (ChannelClose 3) ∷ Asked (AskClose 5) ∷ []) ++ d23

abbrev pub d25 : List Done
d25 = done_by Client (Told (Closed 3) ∷ takes_on 3 (ChannelClose 3) ∷ []) ++ d24

abbrev pub d26 : List Done
d26 = done_by Server (sends (offer_message Server false) ∷ takes (offer_message Client false) ∷ []) ++ d25

abbrev pub d27 : List Done
d27 = done_by Client (sends (KexEcdhInit (secret 4)) ∷ takes (offer_message Server false) ∷ []) ++ d26

-- the server's reply in the second exchange, and the last turns of the run
abbrev pub second_reply_message : Msg
second_reply_message = reply_now toy (part Server d27) (secret 4)

abbrev pub d28 : List Done
d28 =
    done_by Server (Told (Completed 2) ∷ sends NewKeys ∷ sends second_reply_message ∷ takes (KexEcdhInit (secret 4))
    ∷ []) ++ d27

abbrev pub d29 : List Done
d29 =
    done_by Client (Told (Completed 2) ∷ sends_on 3 (ChannelClose 5) ∷ sends NewKeys ∷ takes second_reply_message ∷ [])
    ++ d28

abbrev pub d30 : List Done
d30 = done_by Client (takes NewKeys ∷ []) ++ d29

abbrev pub d31 : List Done
d31 = done_by Server (takes NewKeys ∷ []) ++ d30

abbrev pub d32 : List Done
d32 = done_by Server (Told (Closed 5) ∷ takes_on 5 (ChannelClose 5) ∷ []) ++ d31

-- the whole run
abbrev pub session : List Done
session = d32
