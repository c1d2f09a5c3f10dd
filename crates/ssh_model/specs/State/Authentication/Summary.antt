-- When a layer of authentication sums up a history, and how its rows are rows of a session (own).
use Rattle.std.specs.Prelude.{◌≡◌, ℕ, Option, Some, None, option_map, List, [], ◌∷◌, ◌++◌}
use Rattle.ssh_model.specs.declared.side.Side.TheVariants.{Client, Server}
use Rattle.ssh_model.specs.Protocol.Wire.Message.{Msg, Msg.ServiceAccept, Msg.UserauthRequest, Msg.UserauthFailure}
use Rattle.ssh_model.specs.Protocol.Wire.Message.{Msg.UserauthSuccess, Msg.UserauthPkOk}
use Rattle.ssh_model.specs.Protocol.Sessions.Parties.{Parties}
use Rattle.ssh_model.specs.Protocol.Sessions.Items.{Ask, Fact, Item, Item.Sent, Item.Took, Item.Told, Item.Asked, kind_of}
use Rattle.ssh_model.specs.Protocol.Sessions.Phases.{sent_service_accept, took_service_accept, sent_success, took_success}
use Rattle.ssh_model.specs.Protocol.Sessions.Phases.{failures, outstanding}
use Rattle.ssh_model.specs.Protocol.Authentication.Rows.{AuthenticationAnswer, AuthenticationAsk}
use Rattle.ssh_model.specs.State.Authentication.Kept as kept
use Rattle.ssh_model.specs.State.Authentication.Kept.{Answered}

-- ---- the summaries

-- The state of the server sums up its history.
pub record ServerSumsUp (history : List Item) (server : kept.Server) : Type 0 where
  pub opened : server.opened ≡ sent_service_accept history
  pub failed : server.failures ≡ failures history
  pub authenticated : server.authenticated ≡ sent_success history

-- The state of the client sums up its history.
pub record ClientSumsUp (history : List Item) (client : kept.Client) : Type 0 where
  pub opened : client.opened ≡ took_service_accept history
  pub requested : client.outstanding ≡ option_map kind_of (outstanding history)
  pub authenticated : client.authenticated ≡ took_success history

-- ---- rows

-- these items, and on top the fact that is told, if there is one
abbrev pub told_over : Option Fact → List Item → List Item
told_over None items = items
told_over (Some fact) items = Told fact ∷ items

-- the item of the message that is sent, if there is one, with this payload
abbrev pub sent_with : List ℕ → Option Msg → List Item
sent_with payload None = []
sent_with payload (Some message) = Sent None message payload ∷ []

-- all items of an answer, with the payload that encodes its message
abbrev pub items_of : List ℕ → Answered → List Item
items_of payload answered = told_over answered.fact (sent_with payload answered.message)

-- The server's answer is an answer of a session, whichever payloads encode the messages. Its new state sums up the history
-- with that answer.
pub record ServerAccepts {K : Type 0} (p : Parties K) (history : List Item) (message : Msg) (answered : Answered)
    (server : kept.Server) : Type 0 where
  pub answer : (payload : List ℕ) → AuthenticationAnswer p Server history message (items_of payload answered)
  pub sums : (taken payload : List ℕ) →
      ServerSumsUp (items_of payload answered ++ (Took None message taken ∷ history)) server

-- the same for a client
pub record ClientAccepts {K : Type 0} (p : Parties K) (history : List Item) (message : Msg) (answered : Answered)
    (client : kept.Client) : Type 0 where
  pub answer : (payload : List ℕ) → AuthenticationAnswer p Client history message (items_of payload answered)
  pub sums : (taken payload : List ℕ) →
      ClientSumsUp (items_of payload answered ++ (Took None message taken ∷ history)) client

-- The message that a client sends on an ask is one that a session sends. The client's new state sums up the history with it.
pub record ClientAllows {K : Type 0} (p : Parties K) (history : List Item) (ask : Ask) (message : Msg)
    (client : kept.Client) : Type 0 where
  pub row : (payload : List ℕ) → AuthenticationAsk p Client history ask (Sent None message payload ∷ [])
  pub sums : (payload : List ℕ) → ClientSumsUp (Sent None message payload ∷ Asked ask ∷ history) client

-- ---- items of other layers

-- an item that changes nothing in a server's state here: any except SERVICE_ACCEPT, FAILURE and SUCCESS sent
abbrev pub LeavesServer : Item → Type 0
LeavesServer (Sent channel (ServiceAccept service) payload) = ⊥
LeavesServer (Sent channel (UserauthFailure methods partial) payload) = ⊥
LeavesServer (Sent channel UserauthSuccess payload) = ⊥
LeavesServer _ = Unit {0}

-- an item that changes nothing in a client's state here: any except a request sent, and SERVICE_ACCEPT and the answers taken
abbrev pub LeavesClient : Item → Type 0
LeavesClient (Sent channel (UserauthRequest user service how) payload) = ⊥
LeavesClient (Took channel (ServiceAccept service) payload) = ⊥
LeavesClient (Took channel (UserauthFailure methods partial) payload) = ⊥
LeavesClient (Took channel UserauthSuccess payload) = ⊥
LeavesClient (Took channel (UserauthPkOk algorithm key) payload) = ⊥
LeavesClient _ = Unit {0}
