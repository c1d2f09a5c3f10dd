-- The rows of this crate as turns of a session.
use Rattle.std.proofs.Common.{◌≡◌, ℕ, List, ◌∷◌, sym, subst}
use Rattle.std.specs.Prelude.{None}
use Rattle.ssh_model.specs.declared.side.Side.TheVariants.{Client, Server}
use Rattle.ssh_model.specs.Protocol.Wire.Message.{Msg, Msg.Unimplemented, Msg.Unknown}
use Rattle.ssh_model.specs.Protocol.Sessions.Parties.{Parties, user_signature_by}
use Rattle.ssh_model.specs.Protocol.Sessions.Refusals.{first_refusal}
use Rattle.ssh_model.specs.Protocol.Sessions.Items.{Ask, Item, Item.Sent, Item.Took}
use Rattle.ssh_model.specs.Protocol.KeyExchange.Exchanges.{exchanges, session_id}
use Rattle.ssh_model.specs.Protocol.Authentication.Requests.{Judge, judge_of}
use Rattle.ssh_model.specs.Protocol.Authentication.Rows.{authentication_checks}
use Rattle.ssh_model.specs.State.Authentication.Kept as kept
use Rattle.ssh_model.specs.State.Authentication.Kept.{Answered, ClientSends, ClientTakes, ServerTakes, server_checks}
use Rattle.ssh_model.specs.State.Authentication.Summary.{ClientAccepts, ClientAllows, ClientSumsUp, LeavesClient, LeavesServer, ServerAccepts, ServerSumsUp}
use Rattle.ssh_auth.specs.Serving as serving
use Rattle.ssh_auth.specs.Serving.{IsUnknown, ServerAnswers, answered}
use Rattle.ssh_auth.specs.Asking.{ClientAnswers, ClientAsks, client_answered, short_signature}
use Rattle.ssh_auth.specs.Sessions.{ClientPasses, ClientTurns, IsServerOf, ServerPasses, ServerTurns}
use Rattle.ssh_auth.specs.declared.answer.ServerAnswer.{ServerAnswer}
use Rattle.ssh_auth.specs.declared.answer.ServerAnswer.TheVariants as server_answer
use Rattle.ssh_auth.specs.declared.answer.ClientAnswer.{ClientAnswer}
use Rattle.ssh_auth.specs.declared.answer.ClientAnswer.TheVariants as client_answer

-- ---- a server

-- the laws of the model
abbrev ServersAccept : (K : Type 0) → Type 0
ServersAccept K = (p : Parties K) (history : List Item) (server : kept.Server) → ServerSumsUp history server → (message : Msg) (answered : Answered) (new : kept.Server)
    → ServerTakes (judge_of p) p.server.methods (session_id (exchanges p Server history)) server message answered new → ServerAccepts p history message answered new

abbrev ServersRefuse : (K : Type 0) → Type 0
ServersRefuse K = (p : Parties K) (history : List Item) (server : kept.Server) → ServerSumsUp history server → (message : Msg)
    → first_refusal (authentication_checks p Server history message) ≡ first_refusal (server_checks (judge_of p) p.server.tries p.server.methods (session_id (exchanges p Server history)) server message)

abbrev ServersKeep : Type 0
ServersKeep = (history : List Item) (server : kept.Server) (item : Item) → LeavesServer item → ServerSumsUp history server → ServerSumsUp (item ∷ history) server

pub server_refused : {K : Type 0} → ServersRefuse K → (p : Parties K) (history : List Item) (judge : Judge) (session : List ℕ) (server : serving.Server) → IsServerOf p history judge session server → (message : Msg)
    → first_refusal (authentication_checks p Server history message) ≡ first_refusal (server_checks judge server.tries server.methods session server.kept message)
server_refused law p history judge session server is message =
    subst (λ j. Refused j server.tries server.methods session) is.judge_is
    (subst (λ t. Refused (judge_of p) t server.methods session) is.tries_is
    (subst (λ m. Refused (judge_of p) p.server.tries m session) is.methods_is
    (subst (λ s. Refused (judge_of p) p.server.tries p.server.methods s) is.session_is (law p history server.kept is.sums message))))
  where
    Refused : Judge → ℕ → List (List ℕ) → List ℕ → Type 0
    Refused j t m s = first_refusal (authentication_checks p Server history message) ≡ first_refusal (server_checks j t m s server.kept message)

passes : ServersKeep → (history : List Item) (server : kept.Server) (message : Msg) → ServerSumsUp history server → IsUnknown message → ServerPasses history message server
passes keep history server (Unknown number) sums unknown = record {
  unknown = unknown;
  sums = λ answer taken payload. keep (Took None (Unknown number) taken ∷ history) server (Sent None (Unimplemented answer) payload) tt (keep history server (Took None (Unknown number) taken) tt sums);
}
passes keep history server _ sums unknown = absurd unknown

pub server_answered : {K : Type 0} → ServersAccept K → ServersKeep → (p : Parties K) (history : List Item) (judge : Judge) (session : List ℕ) (old : serving.Server) → IsServerOf p history judge session old
    → (message : Msg) (given : ServerAnswer) (new : serving.Server) → ServerAnswers judge session old message given new → ServerTurns p history message old.methods given new.kept
server_answered {K} law keep p history judge session old is message given new row = go given row
  where
    taken : (given : Answered) → ServerTakes judge old.methods session old.kept message given new.kept → ServerAccepts p history message given new.kept
    taken given takes =
        law p history old.kept is.sums message given new.kept
        (subst (λ j. ServerTakes j p.server.methods (session_id (exchanges p Server history)) old.kept message given new.kept) (sym is.judge_is)
        (subst (λ m. ServerTakes judge m (session_id (exchanges p Server history)) old.kept message given new.kept) (sym is.methods_is)
        (subst (λ s. ServerTakes judge old.methods s old.kept message given new.kept) (sym is.session_is) takes)))

    go : (given : ServerAnswer) → ServerAnswers judge session old message given new → ServerTurns p history message old.methods given new.kept
    go server_answer.Unimplemented row = subst (λ n. ServerPasses history message n) (sym row.row.1) (passes keep history old.kept message is.sums row.row.0)
    go server_answer.Ignored row = taken (answered old.methods message server_answer.Ignored) row.row
    go server_answer.Accepted row = taken (answered old.methods message server_answer.Accepted) row.row
    go (server_answer.KeyOk algorithm key) row = taken (answered old.methods message (server_answer.KeyOk algorithm key)) row.row
    go server_answer.Failed row = taken (answered old.methods message server_answer.Failed) row.row

-- ---- a client

abbrev ClientsAccept : (K : Type 0) → Type 0
ClientsAccept K = (p : Parties K) (history : List Item) (client : kept.Client) → ClientSumsUp history client → (message : Msg) (answered : Answered) (new : kept.Client)
    → ClientTakes client message answered new → ClientAccepts p history message answered new

abbrev ClientsKeep : Type 0
ClientsKeep = (history : List Item) (client : kept.Client) (item : Item) → LeavesClient item → ClientSumsUp history client → ClientSumsUp (item ∷ history) client

client_passes : ClientsKeep → (history : List Item) (client : kept.Client) (message : Msg) → ClientSumsUp history client → IsUnknown message → ClientPasses history message client
client_passes keep history client (Unknown number) sums unknown = record {
  unknown = unknown;
  sums = λ answer taken payload. keep (Took None (Unknown number) taken ∷ history) client (Sent None (Unimplemented answer) payload) tt (keep history client (Took None (Unknown number) taken) tt sums);
}
client_passes keep history client _ sums unknown = absurd unknown

pub client_told : {K : Type 0} → ClientsAccept K → ClientsKeep → (p : Parties K) (history : List Item) (old : kept.Client) → ClientSumsUp history old
    → (message : Msg) (given : ClientAnswer) (new : kept.Client) → ClientAnswers old message given new → ClientTurns p history message given new
client_told law keep p history old sums message given new row = go given row
  where
    go : (given : ClientAnswer) → ClientAnswers old message given new → ClientTurns p history message given new
    go client_answer.Unimplemented row = subst (λ n. ClientPasses history message n) (sym row.row.1) (client_passes keep history old message sums row.row.0)
    go client_answer.Failed row = law p history old sums message (client_answered message client_answer.Failed) new row.row.row
    go (client_answer.Authenticated request) row = law p history old sums message (client_answered message (client_answer.Authenticated request)) new row.row.row
    go client_answer.Banner row = law p history old sums message (client_answered message client_answer.Banner) new row.row.row
    go client_answer.KeyOk row = law p history old sums message (client_answered message client_answer.KeyOk) new row.row.row

abbrev ClientsAllow : (K : Type 0) → Type 0
ClientsAllow K = (p : Parties K) (history : List Item) (client : kept.Client) → ClientSumsUp history client → (ask : Ask) (message : Msg) (new : kept.Client)
    → ClientSends (user_signature_by p) (session_id (exchanges p Client history)) client ask message new → ClientAllows p history ask message new

pub client_asked : {K : Type 0} → ClientsAllow K → (p : Parties K) (history : List Item) (signature : (user algorithm key text : List ℕ) → List ℕ) (session : List ℕ) (old : kept.Client)
    → p.user_signature ≡ signature → session_id (exchanges p Client history) ≡ session → ClientSumsUp history old → (ask : Ask) (message : Msg) (new : kept.Client)
    → ClientAsks signature session old ask message new → ClientAllows p history ask message new
client_asked law p history signature session old signs id sums ask message new row =
    law p history old sums ask message new
    (subst (λ (f : (user algorithm key text : List ℕ) → List ℕ). ClientSends (short_signature f) (session_id (exchanges p Client history)) old ask message new) (sym signs)
    (subst (λ s. ClientSends (short_signature signature) s old ask message new) (sym id) row.row))
