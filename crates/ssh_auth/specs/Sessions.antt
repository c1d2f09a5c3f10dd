-- A server and a client of authentication in a session (own).
use Rattle.std.specs.Prelude.{◌≡◌, ℕ, None, List, ◌∷◌}
use Rattle.ssh_model.specs.declared.side.Side.TheVariants.{Server}
use Rattle.ssh_model.specs.Protocol.Wire.Message.{Msg, Msg.Unimplemented}
use Rattle.ssh_model.specs.Protocol.Sessions.Parties.{Parties}
use Rattle.ssh_model.specs.Protocol.Sessions.Items.{Item, Item.Sent, Item.Took}
use Rattle.ssh_model.specs.Protocol.KeyExchange.Exchanges.{exchanges, session_id}
use Rattle.ssh_model.specs.Protocol.Authentication.Requests.{Judge, judge_of}
use Rattle.ssh_model.specs.State.Authentication.Kept as kept
use Rattle.ssh_model.specs.State.Authentication.Summary.{ClientAccepts, ClientSumsUp, ServerAccepts, ServerSumsUp}
use Rattle.ssh_auth.specs.Serving as serving
use Rattle.ssh_auth.specs.Serving.{IsUnknown, answered}
use Rattle.ssh_auth.specs.Asking.{client_answered}
use Rattle.ssh_auth.specs.declared.answer.ServerAnswer.{ServerAnswer}
use Rattle.ssh_auth.specs.declared.answer.ServerAnswer.TheVariants as server_answer
use Rattle.ssh_auth.specs.declared.answer.ClientAnswer.{ClientAnswer}
use Rattle.ssh_auth.specs.declared.answer.ClientAnswer.TheVariants as client_answer

-- ---- a server

-- The server's state sums up the history of its end. Its judge, its settings and its session id are those of the session.
pub record IsServerOf {K : Type 0} (p : Parties K) (history : List Item) (judge : Judge) (session : List ℕ) (server : serving.Server) : Type 0 where
  pub judge_is : judge_of p ≡ judge
  pub tries_is : p.server.tries ≡ server.tries
  pub methods_is : p.server.methods ≡ server.methods
  pub session_is : session_id (exchanges p Server history) ≡ session
  pub sums : ServerSumsUp history server.kept

-- An unknown message was taken and answered by UNIMPLEMENTED, and the server sums up the history with them.
pub record ServerPasses (history : List Item) (message : Msg) (new : kept.Server) : Type 0 where
  pub unknown : IsUnknown message
  pub sums : (number : ℕ) (taken payload : List ℕ) → ServerSumsUp (Sent None (Unimplemented number) payload ∷ Took None message taken ∷ history) new

-- The server gives an answer of a session, and its new state sums up the history with the message and the answer.
abbrev pub ServerTurns : {K : Type 0} → Parties K → List Item → Msg → (methods : List (List ℕ)) → ServerAnswer → kept.Server → Type 0
ServerTurns p history message methods server_answer.Unimplemented new = ServerPasses history message new
ServerTurns p history message methods given new = ServerAccepts p history message (answered methods message given) new

-- ---- a client

-- An unknown message was taken and answered by UNIMPLEMENTED, and the client sums up the history with them.
pub record ClientPasses (history : List Item) (message : Msg) (new : kept.Client) : Type 0 where
  pub unknown : IsUnknown message
  pub sums : (number : ℕ) (taken payload : List ℕ) → ClientSumsUp (Sent None (Unimplemented number) payload ∷ Took None message taken ∷ history) new

-- The client tells a fact of a session, and its new state sums up the history with the message and the fact.
abbrev pub ClientTurns : {K : Type 0} → Parties K → List Item → Msg → ClientAnswer → kept.Client → Type 0
ClientTurns p history message client_answer.Unimplemented new = ClientPasses history message new
ClientTurns p history message given new = ClientAccepts p history message (client_answered message given) new
