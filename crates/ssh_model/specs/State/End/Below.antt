-- The effect of turns of the transport alone on the layers above it (own).
use Rattle.std.specs.Prelude.{List, [], ◌∷◌}
use Rattle.ssh_model.specs.Protocol.Wire.Message.{Msg.NewKeys, Msg.ServiceAccept}
use Rattle.ssh_model.specs.Protocol.Sessions.Items.{Item, Item.Sent, Item.Took}
use Rattle.ssh_model.specs.State.Authentication.Kept.{opened_client, opened_server}
use Rattle.ssh_model.specs.State.TransportLayer.Summary.{IsTransportMessage}
use Rattle.ssh_model.specs.State.End.State.{Authentication, Authentication.OfServer, Authentication.OfClient}

-- Any item except a message of a layer above, and except NEWKEYS sent, after which the owed replies are sent.
abbrev pub IsBelow : Item → Type 0
IsBelow (Sent channel NewKeys payload) = ⊥
IsBelow (Sent channel message payload) = IsTransportMessage message
IsBelow (Took channel message payload) = IsTransportMessage message
IsBelow _ = Unit {0}

-- The same of all items of a list.
abbrev pub AreBelow : List Item → Type 0
AreBelow [] = Unit {0}
AreBelow (i ∷ items) = IsBelow i × AreBelow items

-- SERVICE_ACCEPT opens authentication, sent at a server and taken at a client.
abbrev pub opened_by : Item → Authentication → Authentication
opened_by (Sent channel (ServiceAccept service) payload) (OfServer server) = OfServer (opened_server server)
opened_by (Took channel (ServiceAccept service) payload) (OfClient client) = OfClient (opened_client client)
opened_by item authentication = authentication

-- the state of authentication after all these items, the newest first
abbrev pub opened_by_all : List Item → Authentication → Authentication
opened_by_all [] authentication = authentication
opened_by_all (i ∷ items) authentication = opened_by i (opened_by_all items authentication)
