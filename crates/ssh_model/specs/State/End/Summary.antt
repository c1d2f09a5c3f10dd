-- When the state of an end sums up its history, and the effect of a turn on both (own).
use Rattle.std.specs.Prelude.{◌≡◌, ℕ, false, None, List, ◌++◌, ◌≤◌, length}
use Rattle.ssh_model.specs.Protocol.Bounds.{most_owed_replies}
use Rattle.ssh_model.specs.declared.side.Side.{Side}
use Rattle.ssh_model.specs.declared.side.Side.TheVariants.{Client, Server}
use Rattle.ssh_model.specs.Protocol.Sessions.Parties.{Parties}
use Rattle.ssh_model.specs.Protocol.Sessions.Items.{Item}
use Rattle.ssh_model.specs.Protocol.Sessions.Events.{PutsOut}
use Rattle.ssh_model.specs.Protocol.Sessions.Phases.{outstanding}
use Rattle.ssh_model.specs.Protocol.Sessions.Turns.{IsOpening}
use Rattle.ssh_model.specs.State.Authentication.Kept as kept
use Rattle.ssh_model.specs.State.Authentication.Summary.{ServerSumsUp, ClientSumsUp}
use Rattle.ssh_model.specs.Protocol.Channels.Connection.{owed_replies}
use Rattle.ssh_model.specs.State.Channels.Kept.{Channels}
use Rattle.ssh_model.specs.State.Channels.Summary as channel_layer
use Rattle.ssh_model.specs.State.TransportLayer.Summary as transport_layer
use Rattle.ssh_model.specs.State.End.State.{Authentication, Authentication.OfServer, Authentication.OfClient, EndState}

-- A server's authentication sums up its history, in which no request of its own is outstanding.
pub record ServerKeeps (history : List Item) (server : kept.Server) : Type 0 where
  pub sums : ServerSumsUp history server
  pub none_made : outstanding history ≡ None

-- The state of authentication of the end of this side sums up its history.
abbrev pub AuthenticationSumsUp : Side → List Item → Authentication → Type 0
AuthenticationSumsUp Server history (OfServer server) = ServerKeeps history server
AuthenticationSumsUp Client history (OfClient client) = ClientSumsUp history client
AuthenticationSumsUp side history authentication = ⊥

-- Between turns both layers above the transport sum up the history, and no more replies are owed than the bound allows.
pub record AboveSumsUp (side : Side) (history : List Item) (authentication : Authentication)
    (channels : Channels) : Type 0 where
  pub authentication_sums : AuthenticationSumsUp side history authentication
  pub channels_sum : channel_layer.SumsUp side history (owed_replies side history) channels
  pub few_owed : length channels.owed ≤ most_owed_replies

-- The state of an end sums up its history. Nothing more is said of a dead end.
pub record EndSumsUp {K : Type 0} (p : Parties K) (side : Side) (history : List Item) (e : EndState K) : Type 0 where
  pub transport : transport_layer.SumsUp p side history e.transport
  pub above : e.transport.dead ≡ false → AboveSumsUp side history e.authentication e.channels

-- A turn by this rule adds these items, the new state sums up the history with them, and the end puts out these bytes.
pub record EndTurned {K : Type 0} (p : Parties K) (side : Side) (history : List Item) (Rule : List Item → Type 0)
    (items : List Item) (more : List ℕ) (new : EndState K) : Type 0 where
  pub turn : Rule items
  pub sums : EndSumsUp p side (items ++ history) new
  pub puts : (bytes : List ℕ) → PutsOut p side history bytes → PutsOut p side (items ++ history) (bytes ++ more)

-- An end has opened with these items and these bytes, and its state sums them up.
pub record HasOpened {K : Type 0} (p : Parties K) (side : Side) (items : List Item) (bytes : List ℕ)
    (e : EndState K) : Type 0 where
  pub opening : IsOpening p side items
  pub sums : EndSumsUp p side items e
  pub puts : PutsOut p side items bytes
