-- The state of a layer of authentication, and how each message and each ask changes it (RFC 4252), without a history. One
-- clause or constructor is one row.
use Rattle.std.specs.Prelude.{◌≡◌, ℕ, ◌+◌, Bool, true, false, not, ◌==◌, ◌&&◌, ◌||◌, nat_le, Option, Some, None, is_some, List}
use Rattle.std.specs.Prelude.{[], ◌∷◌, codes}
use Rattle.ssh_model.specs.Protocol.Wire.Message.{Msg, Msg.UserauthRequest, Msg.UserauthFailure, Msg.UserauthSuccess}
use Rattle.ssh_model.specs.Protocol.Wire.Message.{Msg.UserauthBanner, Msg.UserauthPkOk, Method, Method.NoMethod}
use Rattle.ssh_model.specs.Protocol.Wire.Message.{Method.Password, Method.Publickey}
use Rattle.ssh_model.specs.declared.refusal.Refusal.{Refusal}
use Rattle.ssh_model.specs.declared.refusal.Refusal.TheVariants.{TooManyTries}
use Rattle.ssh_model.specs.declared.ask_refusal.AskRefusal.{AskRefusal}
use Rattle.ssh_model.specs.declared.request_kind.RequestKind.{RequestKind}
use Rattle.ssh_model.specs.declared.request_kind.RequestKind.TheVariants as kind
use Rattle.ssh_model.specs.Protocol.Sessions.Refusals.{Check, Check.RefusedWhere}
use Rattle.ssh_model.specs.Protocol.Sessions.Items.{Ask, Ask.AskNone, Ask.AskPassword, Ask.AskProbe, Ask.AskSign, Fact}
use Rattle.ssh_model.specs.Protocol.Sessions.Items.{Fact.Accepted, Fact.Authenticated, Fact.Failed, Fact.Banner, Fact.KeyOk}
use Rattle.ssh_model.specs.Protocol.Sessions.Items.{Fact.Ignored, credential}
use Rattle.ssh_model.specs.Protocol.Sessions.Sizes.{request_size}
use Rattle.ssh_model.specs.Protocol.Sessions.Phases.{is_unassigned}
use Rattle.ssh_model.specs.Protocol.Authentication.Requests.{Judge, accepts, approves, fails, signed_text}
use Rattle.ssh_model.specs.Protocol.Authentication.Rows.{request_checks, password_size, probe_size, sign_size}

-- ---- a server

-- The state of a server: whether SERVICE_ACCEPT was sent, how many requests failed, and whether SUCCESS was sent.
pub record Server : Type 0 where
  pub opened : Bool
  pub failures : ℕ
  pub authenticated : Bool

-- a server before SERVICE_ACCEPT
abbrev pub new_server : Server
new_server = record { opened = false; failures = 0; authenticated = false }

-- the server after it sent SERVICE_ACCEPT, otherwise unchanged
abbrev pub opened_server : Server → Server
opened_server server = record server { opened = true }

-- The server takes a message of this number, from 50 to 79.
abbrev pub server_takes : Server → ℕ → Bool
server_takes server number = (number == 50 && server.opened) || is_unassigned number

-- The answer to a message: a message to send, and a fact to tell, if any.
pub record Answered : Type 0 where
  pub message : Option Msg
  pub fact : Option Fact

-- an answer that only tells a fact
abbrev pub told : Fact → Answered
told fact = record { message = None; fact = Some fact }

-- an answer that only sends a message
abbrev pub replied : Msg → Answered
replied message = record { message = Some message; fact = None }

-- the checks on a message at a server, with a judge, the tries, the methods that the server names, and the session id
abbrev pub server_checks : Judge → (tries : ℕ) → (methods : List (List ℕ)) → (session : List ℕ) → Server → Msg →
    List (Check Refusal)
server_checks judge tries methods session server (UserauthRequest user service method) =
    RefusedWhere (not server.authenticated && fails judge methods session user service method
    && nat_le tries server.failures) TooManyTries ∷ []
server_checks judge tries methods session server _ = []

-- How a server answers a request, and its state after it, by its judge, its methods and the session id. One constructor is one row.
pub data ServerTakes (judge : Judge) (methods : List (List ℕ)) (session : List ℕ) (server : Server) : Msg → Answered →
    Server → Type 0 where
  -- RFC 4252 section 5: after SUCCESS further requests are ignored
  too_late : (user service : List ℕ) (method : Method) → server.authenticated ≡ true →
      ServerTakes judge methods session server (UserauthRequest user service method) (told Ignored) server
  accepted : (user service : List ℕ) (method : Method) → server.authenticated ≡ false →
      accepts judge methods session user service method ≡ true →
      ServerTakes judge methods session server (UserauthRequest user service method)
      (record { message = Some UserauthSuccess; fact = Some (Accepted user (credential method)) }) (record server { authenticated = true })
  -- RFC 4252 section 7
  probed : (user service algorithm key : List ℕ) → server.authenticated ≡ false →
      approves judge methods user service (Publickey algorithm key None) ≡ true →
      ServerTakes judge methods session server (UserauthRequest user service (Publickey algorithm key None))
      (replied (UserauthPkOk algorithm key)) server
  failed : (user service : List ℕ) (method : Method) → server.authenticated ≡ false →
      fails judge methods session user service method ≡ true →
      ServerTakes judge methods session server (UserauthRequest user service method)
      (replied (UserauthFailure methods false)) (record server { failures = server.failures + 1 })

-- ---- a client

-- The request that is not answered yet asks whether a key would do.
abbrev pub is_key_probe : Option RequestKind → Bool
is_key_probe (Some kind.Probe) = true
is_key_probe _ = false

-- The state of a client: whether SERVICE_ACCEPT was taken, what kind of a request is outstanding, and whether SUCCESS was taken.
pub record Client : Type 0 where
  pub opened : Bool
  pub outstanding : Option RequestKind
  pub authenticated : Bool

-- a client before SERVICE_ACCEPT
abbrev pub new_client : Client
new_client = record { opened = false; outstanding = None; authenticated = false }

-- the client after it took SERVICE_ACCEPT, otherwise unchanged
abbrev pub opened_client : Client → Client
opened_client client = record client { opened = true }

-- The client takes a message of this number, from 50 to 79.
abbrev pub client_takes : Client → ℕ → Bool
client_takes client number =
    ((number == 51 || number == 52) && is_some client.outstanding)
    || (number == 53 && client.opened && not client.authenticated)
    || (number == 60 && is_key_probe client.outstanding)
    || is_unassigned number

-- What a client tells on a message, and its state after it. One constructor is one row.
pub data ClientTakes (client : Client) : Msg → Answered → Client → Type 0 where
  failure : (methods : List (List ℕ)) (partial : Bool) →
      ClientTakes client (UserauthFailure methods partial) (told (Failed methods partial))
      (record client { outstanding = None })
  success : (request : RequestKind) → client.outstanding ≡ Some request →
      ClientTakes client UserauthSuccess (told (Authenticated request))
      (record client { outstanding = None; authenticated = true })
  banner : (message language : List ℕ) →
      ClientTakes client (UserauthBanner message language) (told (Banner message)) client
  key_ok : (algorithm key : List ℕ) →
      ClientTakes client (UserauthPkOk algorithm key)
      (told (KeyOk algorithm key)) (record client { outstanding = None })

-- the checks on an ask of the client, in order, each with its refusal
abbrev pub client_checks : Client → Ask → List (Check AskRefusal)
client_checks client (AskNone user) =
    request_checks client.opened (is_some client.outstanding) client.authenticated
    (request_size user (codes "none"))
client_checks client (AskPassword user password) =
    request_checks client.opened (is_some client.outstanding) client.authenticated (password_size user password)
client_checks client (AskProbe user algorithm key) =
    request_checks client.opened (is_some client.outstanding) client.authenticated
    (probe_size user algorithm key)
client_checks client (AskSign user algorithm key) =
    request_checks client.opened (is_some client.outstanding) client.authenticated (sign_size user algorithm key)
client_checks client _ = []

-- this user's request for ssh-connection with this method
abbrev pub request_by : (user : List ℕ) → Method → Msg
request_by user method = UserauthRequest user (codes "ssh-connection") method

-- The message that a client sends for an ask, with a signer of texts and the session id. One constructor is one row.
pub data ClientSends (signature : (user algorithm key text : List ℕ) → List ℕ) (session : List ℕ)
    (client : Client) : Ask → Msg → Client → Type 0 where
  none : (user : List ℕ) →
      ClientSends signature session client (AskNone user) (request_by user NoMethod)
      (record client { outstanding = Some kind.Nothing })
  password : (user word : List ℕ) →
      ClientSends signature session client (AskPassword user word) (request_by user (Password word None))
      (record client { outstanding = Some kind.Password })
  probe : (user algorithm key : List ℕ) →
      ClientSends signature session client (AskProbe user algorithm key)
      (request_by user (Publickey algorithm key None)) (record client { outstanding = Some kind.Probe })
  sign : (user algorithm key : List ℕ) →
      ClientSends signature session client (AskSign user algorithm key)
      (request_by user
      (Publickey algorithm key
      (Some (signature user algorithm key (signed_text session user (codes "ssh-connection") algorithm key)))))
      (record client { outstanding = Some kind.Signature })
