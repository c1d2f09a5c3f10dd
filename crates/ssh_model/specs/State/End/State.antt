-- The state of an end of a session: the states of its transport, its authentication and its channels (own).
use Rattle.std.specs.Prelude.{ℕ, Bool, false, cond, nat_lt, nat_le, unwrap_or, List, [], ◌∷◌, ◌++◌}
use Rattle.ssh_model.specs.declared.side.Side.{Side}
use Rattle.ssh_model.specs.declared.side.Side.TheVariants.{Client, Server}
use Rattle.ssh_model.specs.Protocol.Wire.Message.{Msg, Msg.ServiceRequest, Msg.ServiceAccept, Msg.UserauthSuccess}
use Rattle.ssh_model.specs.declared.refusal.Refusal.{Refusal}
use Rattle.ssh_model.specs.Protocol.Sessions.Refusals.{Check}
use Rattle.ssh_model.specs.Protocol.Sessions.Parties.{Parties, Settings, settings_of}
use Rattle.ssh_model.specs.Protocol.Sessions.Items.{Item, Item.Sent}
use Rattle.ssh_model.specs.Protocol.Authentication.Requests.{judge_of}
use Rattle.ssh_model.specs.State.Authentication.Kept as kept
use Rattle.ssh_model.specs.State.Authentication.Kept.{client_takes, is_key_probe, new_client, new_server, opened_client}
use Rattle.ssh_model.specs.State.Authentication.Kept.{opened_server, server_checks, server_takes}
use Rattle.ssh_model.specs.State.Channels.Kept.{Channels, no_channels, take_checks}
use Rattle.ssh_model.specs.State.TransportLayer.Kept.{Transport, after_sent, after_success, after_taken, new_transport}

-- the state of authentication, of a server or of a client
pub data Authentication : Type 0 where
  OfServer : kept.Server → Authentication
  OfClient : kept.Client → Authentication

-- the states of the three layers of an end
pub record EndState (K : Type 0) : Type 0 where
  pub transport : Transport K
  pub authentication : Authentication
  pub channels : Channels

-- ---- the opening

-- the state before any ask or request
abbrev pub new_authentication : Side → Authentication
new_authentication Server = OfServer new_server
new_authentication Client = OfClient new_client

-- The state of an end after it sent its version line and its first KEXINIT, with this payload and the secret that it was
-- fed.
abbrev pub new_end : {K : Type 0} → Settings → Side → (secret own : List ℕ) → EndState K
new_end settings side secret own = record {
  transport = new_transport settings side secret own;
  authentication = new_authentication side;
  channels = no_channels;
}

-- ---- the messages that the layers above the transport take

-- the session id, once an exchange is completed
abbrev pub session_of : {K : Type 0} → EndState K → List ℕ
session_of e = unwrap_or e.transport.session []

-- A key probe is outstanding; a server has none.
abbrev pub probes : Authentication → Bool
probes (OfServer server) = false
probes (OfClient client) = is_key_probe client.outstanding

-- Authentication takes a message of this number, from 50 to 79.
abbrev pub takes_authentication : Authentication → ℕ → Bool
takes_authentication (OfServer server) number = server_takes server number
takes_authentication (OfClient client) number = client_takes client number

-- The layers above take a message of this number, from 50 on, outside an exchange.
abbrev pub takes_above : {K : Type 0} → EndState K → ℕ → Bool
takes_above e number =
    cond (nat_lt number 80) (takes_authentication e.authentication number) e.transport.authenticated

-- the checks on a message in authentication
abbrev pub authentication_refuses : {K : Type 0} → Parties K → (session : List ℕ) → Authentication → Msg →
    List (Check Refusal)
authentication_refuses p session (OfServer server) message =
    server_checks (judge_of p) p.server.tries p.server.methods session server message
authentication_refuses p session (OfClient client) message = []

-- the checks on a message in the layers above, which they may take
abbrev pub above_checks : {K : Type 0} → Parties K → EndState K → Msg → List (Check Refusal)
above_checks p e message =
    authentication_refuses p (session_of e) e.authentication message
    ++ take_checks e.transport.blocked e.channels message

-- ---- the effect of their messages on the transport

-- The transport after a message of a layer above was taken. A client is authenticated by USERAUTH_SUCCESS.
abbrev pub after_above : {K : Type 0} → Side → Msg → Transport K → Transport K
after_above Client UserauthSuccess s = after_success (after_taken s)
after_above side message s = after_taken s

-- The transport after an item of a layer above. A server authenticates the user by USERAUTH_SUCCESS.
abbrev pub after_item : {K : Type 0} → Side → Item → Transport K → Transport K
after_item Server (Sent channel UserauthSuccess payload) s = after_success (after_sent s)
after_item side (Sent channel message payload) s = after_sent s
after_item side _ s = s

-- the transport after all these items, the newest first
abbrev pub after_items : {K : Type 0} → Side → List Item → Transport K → Transport K
after_items side [] s = s
after_items side (i ∷ items) s = after_item side i (after_items side items s)

-- ---- the effect of the transport's messages on authentication

-- SERVICE_REQUEST opens authentication at a server. SERVICE_ACCEPT, which answers it, opens authentication at a client.
abbrev pub after_service : Msg → Authentication → Authentication
after_service (ServiceRequest service) (OfServer server) = OfServer (opened_server server)
after_service (ServiceAccept service) (OfClient client) = OfClient (opened_client client)
after_service message authentication = authentication

-- So many packets were sent in this epoch that a new exchange is due.
abbrev pub is_due : {K : Type 0} → Parties K → Side → EndState K → Bool
is_due p side e = nat_le (settings_of p side).epoch_limit e.transport.sending.count
