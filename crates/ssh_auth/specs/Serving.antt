-- The state of a server of authentication, and how it answers a message (RFC 4252).
use Rattle.std.specs.Prelude.{◌≡◌, ℕ, ◌<◌, ◌≤◌, ◌+◌, Bool, true, false, not, Option, Some, None, List, ◌∷◌, length, codes}
use Rattle.ssh_model.specs.Protocol.Bounds.{longest_algorithm_name, longest_user_key}
use Rattle.ssh_model.specs.Laws.Bounds.{longest_methods}
use Rattle.ssh_model.specs.Protocol.Wire.DataTypes.{IsNameText}
use Rattle.ssh_model.specs.Protocol.Wire.Message.{Msg, Msg.UserauthRequest, Msg.UserauthFailure, Msg.UserauthSuccess, Msg.UserauthPkOk, Msg.Unknown, Method, Method.Publickey, message_number}
use Rattle.ssh_model.specs.declared.refusal.Refusal.{Refusal}
use Rattle.ssh_model.specs.declared.refusal.Refusal.TheVariants.{Unexpected}
use Rattle.ssh_model.specs.Protocol.Sessions.Refusals.{Check, Check.RefusedWhere, first_refusal}
use Rattle.ssh_model.specs.Protocol.Sessions.Items.{Fact, Fact.Ignored}
use Rattle.ssh_model.specs.Protocol.Authentication.Requests.{Judge, accepts, approves, fails, is_configured, is_for_connection, is_known_key}
use Rattle.ssh_model.specs.Protocol.Authentication.Requests.{signed_text}
use Rattle.ssh_model.specs.State.Authentication.Kept as kept
use Rattle.ssh_model.specs.State.Authentication.Kept.{Answered, ServerTakes, server_checks, server_takes}
use Rattle.ssh_types.specs.Names.{names_of}
use Rattle.ssh_auth.specs.Facts.{accepted_by}
use Rattle.ssh_auth.specs.Texts.{longest_text}
use Rattle.ssh_auth.specs.declared.answer.ServerAnswer.{ServerAnswer}
use Rattle.ssh_auth.specs.declared.answer.ServerAnswer.TheVariants as answer
use Rattle.ssh_types.specs.declared.call_error.CallError.{CallError}
use Rattle.ssh_types.specs.declared.call_error.CallError.TheVariants.{Refused, Memory}

-- ---- its state

-- How many requests may fail, the methods that it names, and the state of a server in the model.
pub record Server : Type 0 where
  pub tries : ℕ
  pub methods : List (List ℕ)
  pub kept : kept.Server

-- a server by its fields, the methods as one text
abbrev pub server_of : (tries : ℕ) → (methods : List ℕ) → (opened : Bool) → (failures : ℕ) → (authenticated : Bool) → Server
server_of tries methods opened failures authenticated = record {
  tries = tries;
  methods = names_of methods;
  kept = record { opened = opened; failures = failures; authenticated = authenticated };
}

-- The text is that of a list that can be written, and there is room for the text that a signature covers.
pub record IsMade (text : List ℕ) (room : ℕ) : Type 0 where
  pub names : IsNameText (names_of text) text
  pub short : length text ≤ longest_methods
  pub room_is : longest_text ≤ room

-- ---- its answer

-- the message that is sent; the layer below knows the number of an UNIMPLEMENTED
abbrev pub reply_by : (methods : List (List ℕ)) → ServerAnswer → Option Msg
reply_by methods answer.Accepted = Some UserauthSuccess
reply_by methods (answer.KeyOk algorithm key) = Some (UserauthPkOk algorithm.now key.now)
reply_by methods answer.Failed = Some (UserauthFailure methods false)
reply_by methods given = None

-- the fact that is told of a message with this answer
abbrev pub fact_with : Msg → ServerAnswer → Option Fact
fact_with message answer.Ignored = Some Ignored
fact_with message answer.Accepted = accepted_by message
fact_with message given = None

-- the message that is sent and the fact that is told
abbrev pub answered : (methods : List (List ℕ)) → Msg → ServerAnswer → Answered
answered methods message given = record { message = reply_by methods given; fact = fact_with message given }

-- The number of the message is unknown.
abbrev pub IsUnknown : Msg → Type 0
IsUnknown (Unknown number) = Unit {0}
IsUnknown message = ⊥

-- The answer is that of the message's row, and this is the state then.
abbrev pub IsServerRow : Judge → (session : List ℕ) → Server → Msg → ServerAnswer → kept.Server → Type 0
IsServerRow judge session server message answer.Unimplemented new = IsUnknown message × (new ≡ server.kept)
IsServerRow judge session server message given new = ServerTakes judge server.methods session server.kept message (answered server.methods message given) new

-- The message that is sent for an answer is short enough: it is no longer than a known key may be.
abbrev pub IsShortAnswer : ServerAnswer → Type 0
IsShortAnswer (answer.KeyOk algorithm key) = (length algorithm.now ≤ longest_algorithm_name) × (length key.now ≤ longest_user_key)
IsShortAnswer given = Unit {0}

-- the refusals of a message: of a number that may not be taken, and then the checks of the rows
abbrev pub server_refusals : Judge → (session : List ℕ) → Server → Msg → List (Check Refusal)
server_refusals judge session server message =
    RefusedWhere (not (server_takes server.kept (message_number message))) Unexpected ∷ server_checks judge server.tries server.methods session server.kept message

-- The server gives this answer to the message, and has this state then.
pub record ServerAnswers (judge : Judge) (session : List ℕ) (old : Server) (message : Msg) (given : ServerAnswer) (new : Server) : Type 0 where
  pub unrefused : first_refusal (server_refusals judge session old message) ≡ None
  pub tries : new.tries ≡ old.tries
  pub methods : new.methods ≡ old.methods
  pub row : IsServerRow judge session old message given new.kept

-- ---- the judgement of a request before it is counted

-- The signature of a request is due to be checked: the request is for ssh-connection, by a method that the server names and a
-- key that it knows. The text that the signature covers has more bytes than there is room for.
pub record IsTooLong (room : ℕ) (judge : Judge) (methods : List (List ℕ)) (session user service algorithm key : List ℕ) : Type 0 where
  pub connection : is_for_connection service ≡ true
  pub configured : is_configured methods (codes "publickey") ≡ true
  pub known : is_known_key judge user algorithm key ≡ true
  pub long : room < length (signed_text session user service algorithm key)

abbrev pub LacksRoom : (room : ℕ) → Judge → (methods : List (List ℕ)) → (session user service : List ℕ) → Method → Type 0
LacksRoom room judge methods session user service (Publickey algorithm key (Some signature)) =
    IsTooLong room judge methods session user service algorithm key
LacksRoom room judge methods session user service how = ⊥

abbrev pub IsJudged : Judge → (methods : List (List ℕ)) → (session user service : List ℕ) → Method → ServerAnswer → Type 0
IsJudged judge methods session user service how answer.Accepted = accepts judge methods session user service how ≡ true
IsJudged judge methods session user service how (answer.KeyOk algorithm key) =
    (how ≡ Publickey algorithm.now key.now None) × (approves judge methods user service how ≡ true)
IsJudged judge methods session user service how answer.Failed = fails judge methods session user service how ≡ true
IsJudged judge methods session user service how given = ⊥

-- ---- requests without an answer

-- The text that a signature covers has more bytes than that of a request that comes in one packet. The request came in time.
pub record HasLongText (judge : Judge) (session : List ℕ) (server : Server) (user service algorithm key : List ℕ) : Type 0 where
  pub opened : server.kept.opened ≡ true
  pub in_time : server.kept.authenticated ≡ false
  pub due : IsTooLong longest_text judge server.methods session user service algorithm key

-- The server asks for memory for that text.
abbrev pub NeedsText : Judge → (session : List ℕ) → Server → Msg → Type 0
NeedsText judge session server (UserauthRequest user service (Publickey algorithm key (Some signature))) =
    HasLongText judge session server user service algorithm key
NeedsText judge session server message = ⊥

abbrev pub ServerRefuses : Judge → (session : List ℕ) → Server → Msg → CallError Refusal → Type 0
ServerRefuses judge session server message (Refused refusal) = first_refusal (server_refusals judge session server message) ≡ Some refusal
ServerRefuses judge session server message Memory = NeedsText judge session server message

-- The state after a judged request: the user is authenticated, or the failure is counted.
abbrev pub settled : Server → ServerAnswer → Server
settled server answer.Accepted = record server { kept = record server.kept { authenticated = true } }
settled server answer.Failed = record server { kept = record server.kept { failures = server.kept.failures + 1 } }
settled server given = server
