-- The state of an end for the authentication of its user, by its role.
use Rattle.std.specs.Prelude.{◌≡◌, ℕ, Bool, false, Option, None, List, []}
use Rattle.ssh_model.specs.declared.side.Side.{Side}
use Rattle.ssh_model.specs.declared.side.Side.TheVariants.{Client, Server}
use Rattle.ssh_model.specs.Protocol.Authentication.Requests.{Judge}
use Rattle.ssh_model.specs.Protocol.Sessions.Refusals.{Check}
use Rattle.ssh_model.specs.Protocol.Wire.Message.{Msg, message_number}
use Rattle.ssh_model.specs.State.Authentication.Kept.{ServerTakes, client_takes}
use Rattle.ssh_model.specs.State.Authentication.Kept.{new_client, new_server, opened_client, opened_server, server_checks}
use Rattle.ssh_model.specs.State.End.State as state
use Rattle.ssh_model.specs.State.End.State.{Authentication, Authentication.OfClient, Authentication.OfServer, takes_authentication}
use Rattle.ssh_model.specs.declared.refusal.Refusal.{Refusal}
use Rattle.ssh_auth.specs.Asking.{ClientAnswers, KnownRow}
use Rattle.ssh_auth.specs.Serving as serving
use Rattle.ssh_auth.specs.Serving.{NeedsText, ServerAnswers, ServerRefuses, answered, reply_by}
use Rattle.ssh_auth.specs.declared.answer.ServerAnswer.{ServerAnswer}
use Rattle.ssh_end_machine.specs.declared.layers.answer.LayerAnswer.{LayerAnswer}
use Rattle.ssh_end_machine.specs.declared.layers.answer.LayerAnswer.TheVariants as answer
use Rattle.ssh_types.specs.declared.call_error.CallError.{CallError}
use Rattle.ssh_end_machine.specs.declared.layers.login.Login.{Login}
use Rattle.ssh_end_machine.specs.declared.layers.login.Login.TheVariants as login

-- the role
abbrev pub side_of : Login → Side
side_of (login.Server server) = Server
side_of (login.Client client) = Client

-- the same as an end of a session keeps it
abbrev pub authentication_of : Login → Authentication
authentication_of (login.Server server) = OfServer server.kept
authentication_of (login.Client client) = OfClient client

-- the state before authentication is opened; a server lets this many requests fail, and names these methods
abbrev pub new_login : Side → (tries : ℕ) → (methods : List (List ℕ)) → Login
new_login Server tries methods = login.Server (record { tries = tries; methods = methods; kept = new_server })
new_login Client tries methods = login.Client new_client

-- once SERVICE_ACCEPT was sent, or was taken
abbrev pub opened : Login → Login
opened (login.Server server) = login.Server (record server { kept = opened_server server.kept })
opened (login.Client client) = login.Client (opened_client client)

-- a key probe is outstanding
abbrev pub probes : Login → Bool
probes kept = state.probes (authentication_of kept)

-- ---- a message

-- which numbers are taken
abbrev pub login_takes : Login → ℕ → Bool
login_takes kept number = takes_authentication (authentication_of kept) number

-- the checks on a message that may be taken
abbrev pub login_checks : Judge → (session : List ℕ) → Login → Msg → List (Check Refusal)
login_checks judge session (login.Server server) message =
    server_checks judge server.tries server.methods session server.kept message
login_checks judge session (login.Client client) message = []

-- A server took it.
pub record ServerTook (judge : Judge) (session : List ℕ) (old : serving.Server) (message : Msg) (given : ServerAnswer)
    (new : serving.Server) : Type 0 where
  pub row : ServerTakes judge old.methods session old.kept message (answered old.methods message given) new.kept
  pub tries : new.tries ≡ old.tries
  pub methods : new.methods ≡ old.methods

-- the effect of a message that is taken
abbrev pub LoginRow : Judge → (session : List ℕ) → Login → Msg → LayerAnswer → Login → Type 0
LoginRow judge session (login.Server old) message (answer.Server given) (login.Server new) =
    ServerTook judge session old message given new
LoginRow judge session (login.Client old) message (answer.Client given) (login.Client new) =
    KnownRow old message given new
LoginRow judge session old message given new = ⊥

-- the effect of any message that is not refused
abbrev pub LoginAnswers : Judge → (session : List ℕ) → Login → Msg → LayerAnswer → Login → Type 0
LoginAnswers judge session (login.Server old) message (answer.Server given) (login.Server new) =
    ServerAnswers judge session old message given new
LoginAnswers judge session (login.Client old) message (answer.Client given) (login.Client new) =
    ClientAnswers old message given new
LoginAnswers judge session old message given new = ⊥

-- why nothing is done
abbrev pub LoginFails : Judge → (session : List ℕ) → Login → Msg → CallError Refusal → Type 0
LoginFails judge session (login.Server old) message given = ServerRefuses judge session old message given
LoginFails judge session (login.Client old) message given = client_takes old (message_number message) ≡ false

-- Memory is needed for the text that a signature covers. No message that comes in one packet has such a text.
abbrev pub NeedsSignedText : Judge → (session : List ℕ) → Login → Msg → Type 0
NeedsSignedText judge session (login.Server server) message = NeedsText judge session server message
NeedsSignedText judge session (login.Client client) message = ⊥

-- the message that is sent at once for an answer
abbrev pub login_message : Login → LayerAnswer → Option Msg
login_message (login.Server server) (answer.Server given) = reply_by server.methods given
login_message old given = None
