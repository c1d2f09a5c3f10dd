-- A run of two toy ends without strict key exchange. A prefix of the packets that the server sent under its keys is
-- lost. An IGNORE that nobody sent comes to the client before there are keys. In the client's count of packets it stands
-- in for the lost packet.
use Rattle.std.specs.Prelude.{true, List, [], ◌∷◌, ◌++◌, codes}
use Rattle.ssh_model.specs.declared.side.Side.TheVariants.{Client, Server}
use Rattle.ssh_model.specs.Protocol.Side.{part, done_by}
use Rattle.ssh_model.specs.Protocol.Wire.Message.{Msg, Msg.Disconnect, Msg.Ignore, Msg.NewKeys, Msg.KexEcdhInit}
use Rattle.ssh_model.specs.Protocol.Wire.Message.{Msg.ServiceRequest, Msg.ServiceAccept}
use Rattle.ssh_model.specs.Protocol.Sessions.Items.{Ask.AskService, Ask.AskDisconnect, Fact.Completed, Fact.Ignored}
use Rattle.ssh_model.specs.Protocol.Sessions.Items.{Fact.Disconnected, Item.Asked, Item.TookLine, Item.Told, Item.Died, Done}
use Rattle.ssh_model.specs.Protocol.Sessions.Transport.{reply_now}
use Rattle.ssh_model.specs.Example.Toys.{plain, secret}
use Rattle.ssh_model.specs.Example.Histories.{line_of, userauth}
use Rattle.ssh_model.specs.Example.Run.{sends, takes, offer_message_by, start_by}

-- turns of the run, each over those before it
abbrev pub plain0 : List Done
plain0 = done_by Server (start_by plain Server) ++ done_by Client (start_by plain Client)

abbrev pub plain1 : List Done
plain1 = done_by Server (TookLine (line_of Client) ∷ []) ++ plain0

abbrev pub plain2 : List Done
plain2 = done_by Client (TookLine (line_of Server) ∷ []) ++ plain1

-- the turn that takes the IGNORE that nobody sent, and the next turns
abbrev pub plain3 : List Done
plain3 = done_by Client (Told Ignored ∷ takes (Ignore []) ∷ []) ++ plain2

abbrev pub plain4 : List Done
plain4 = done_by Server (takes (offer_message_by plain Client true) ∷ []) ++ plain3

abbrev pub plain5 : List Done
plain5 = done_by Client (sends (KexEcdhInit (secret 1)) ∷ takes (offer_message_by plain Server true) ∷ []) ++ plain4

-- the reply of the server, and the next turns
abbrev pub plain_reply : Msg
plain_reply = reply_now plain (part Server plain5) (secret 1)

abbrev pub plain6 : List Done
plain6 =
    done_by Server (Told (Completed 1) ∷ sends NewKeys ∷ sends plain_reply ∷ takes (KexEcdhInit (secret 1)) ∷ [])
    ++ plain5

abbrev pub plain7 : List Done
plain7 = done_by Client (Told (Completed 1) ∷ sends NewKeys ∷ takes plain_reply ∷ []) ++ plain6

abbrev pub plain8 : List Done
plain8 = done_by Client (takes NewKeys ∷ []) ++ plain7

abbrev pub plain9 : List Done
plain9 = done_by Server (takes NewKeys ∷ []) ++ plain8

abbrev pub plain10 : List Done
plain10 = done_by Client (sends (ServiceRequest userauth) ∷ Asked AskService ∷ []) ++ plain9

-- the turn that sends the packet that is then lost
abbrev pub plain11 : List Done
plain11 = done_by Server (sends (ServiceAccept userauth) ∷ takes (ServiceRequest userauth) ∷ []) ++ plain10

-- the DISCONNECT of the server, and the turn that sends it
abbrev pub farewell : Msg
farewell = Disconnect 11 (codes "bye") []

abbrev pub plain12 : List Done
plain12 = done_by Server (Died ∷ sends farewell ∷ Asked (AskDisconnect (codes "bye")) ∷ []) ++ plain11

-- the whole run: the client takes the packet after the lost one
abbrev pub plain_session : List Done
plain_session = done_by Client (Died ∷ Told (Disconnected 11 (codes "bye")) ∷ takes farewell ∷ []) ++ plain12
