-- How a client of authentication answers a message and an ask (RFC 4252).
use Rattle.std.specs.Prelude.{◌≡◌, ℕ, Bool, true, false, Option, Some, None, List, take, codes}
use Rattle.ssh_model.specs.Protocol.Wire.Message as model
use Rattle.ssh_model.specs.Protocol.Wire.Message.{Msg, Method.NoMethod, Method.Password, Method.Publickey, message_number}
use Rattle.ssh_model.specs.Protocol.Sessions.Refusals.{first_refusal}
use Rattle.ssh_model.specs.Protocol.Sessions.Items.{Ask, Ask.AskNone, Ask.AskPassword, Ask.AskProbe, Ask.AskSign, Fact, Fact.Authenticated}
use Rattle.ssh_model.specs.Protocol.Sessions.Sizes.{request_size}
use Rattle.ssh_model.specs.Protocol.Authentication.Rows.{password_size, probe_size, sign_size}
use Rattle.ssh_model.specs.State.Authentication.Kept as kept
use Rattle.ssh_model.specs.State.Authentication.Kept.{Answered, Client, ClientSends, ClientTakes, client_checks, client_takes}
use Rattle.ssh_auth.specs.Facts.{fact_by}
use Rattle.ssh_auth.specs.Serving.{IsUnknown}
use Rattle.ssh_auth.specs.declared.answer.ClientAnswer.{ClientAnswer}
use Rattle.ssh_auth.specs.declared.answer.ClientAnswer.TheVariants as answer
use Rattle.ssh_auth.specs.declared.ask.UserAsk.{UserAsk}
use Rattle.ssh_auth.specs.declared.ask.UserAsk.TheVariants as ask
use Rattle.ssh_model.specs.declared.ask_refusal.AskRefusal.{AskRefusal}
use Rattle.ssh_model.specs.declared.request_kind.RequestKind.{RequestKind}
use Rattle.ssh_types.specs.declared.call_error.CallError.{CallError}
use Rattle.ssh_types.specs.declared.call_error.CallError.TheVariants.{Refused, Memory}
use Rattle.ssh_auth.specs.declared.signature.Signature.{Signature}
use Rattle.ssh_auth.specs.declared.request.RequestMethod.{RequestMethod}
use Rattle.ssh_auth.specs.declared.request.RequestMethod.TheVariants as method

-- ---- its state

-- a client by its fields
abbrev pub client_of : (opened : Bool) → (outstanding : Option RequestKind) → (authenticated : Bool) → Client
client_of opened outstanding authenticated = record { opened = opened; outstanding = outstanding; authenticated = authenticated }

-- ---- its answer to a message

-- The answer belongs to a message of this kind.
abbrev pub is_answer_to : Msg → ClientAnswer → Bool
is_answer_to (model.UserauthFailure methods partial) answer.Failed = true
is_answer_to model.UserauthSuccess (answer.Authenticated request) = true
is_answer_to (model.UserauthBanner message language) answer.Banner = true
is_answer_to (model.UserauthPkOk algorithm key) answer.KeyOk = true
is_answer_to message given = false

-- the fact of a message with this answer
abbrev pub client_fact : Msg → ClientAnswer → Option Fact
client_fact message (answer.Authenticated request) = Some (Authenticated request)
client_fact message given = fact_by message

-- what the answer says of a message
abbrev pub client_answered : Msg → ClientAnswer → Answered
client_answered message given = record { message = None; fact = client_fact message given }

-- The answer belongs to this message, and this is its row.
pub record KnownRow (client : Client) (message : Msg) (given : ClientAnswer) (new : Client) : Type 0 where
  pub kind : is_answer_to message given ≡ true
  pub row : ClientTakes client message (client_answered message given) new

-- The answer is that of the message's row, and this is the state then. The layer below knows the number of an UNIMPLEMENTED.
abbrev pub IsClientRow : Client → Msg → ClientAnswer → Client → Type 0
IsClientRow client message answer.Unimplemented new = IsUnknown message × (new ≡ client)
IsClientRow client message given new = KnownRow client message given new

-- The client takes the message, gives this answer to it, and has this state then.
pub record ClientAnswers (old : Client) (message : Msg) (given : ClientAnswer) (new : Client) : Type 0 where
  pub unrefused : client_takes old (message_number message) ≡ true
  pub row : IsClientRow old message given new

-- ---- its answer to an ask

abbrev pub ask_of : UserAsk → Ask
ask_of (ask.None user) = AskNone user.now
ask_of (ask.Password user password) = AskPassword user.now password.now
ask_of (ask.Probe user algorithm key) = AskProbe user.now algorithm.now key.now
ask_of (ask.Sign user algorithm key) = AskSign user.now algorithm.now key.now

-- the bytes of the request's payload, counted with a signature of 4,096 bytes
abbrev pub ask_size : UserAsk → ℕ
ask_size (ask.None user) = request_size user.now (codes "none")
ask_size (ask.Password user password) = password_size user.now password.now
ask_size (ask.Probe user algorithm key) = probe_size user.now algorithm.now key.now
ask_size (ask.Sign user algorithm key) = sign_size user.now algorithm.now key.now

-- the request that is to be sent, and its parts
abbrev pub signature_in : Signature → List ℕ
signature_in signature = take signature.length signature.bytes

abbrev pub method_in : RequestMethod → model.Method
method_in method.None = NoMethod
method_in (method.Password password) = Password password.now None
method_in (method.Probe algorithm key) = Publickey algorithm.now key.now None
method_in (method.Signed algorithm key signature) = Publickey algorithm.now key.now (Some (signature_in signature))

-- the signatures, cut off after 4,096 bytes
abbrev pub short_signature : ((user algorithm key text : List ℕ) → List ℕ) → (user algorithm key text : List ℕ) → List ℕ
short_signature signature user algorithm key text = take 4096 (signature user algorithm key text)

-- The client sends the request on this ask, and has this state then.
pub record ClientAsks (signature : (user algorithm key text : List ℕ) → List ℕ) (session : List ℕ) (old : Client) (asked : Ask) (request : Msg) (new : Client) : Type 0 where
  pub unrefused : first_refusal (client_checks old asked) ≡ None
  pub row : ClientSends (short_signature signature) session old asked request new

-- The ask needs a signature.
abbrev pub IsSigned : Ask → Type 0
IsSigned (AskSign user algorithm key) = Unit {0}
IsSigned asked = ⊥

abbrev pub ClientRefuses : Client → Ask → CallError AskRefusal → Type 0
ClientRefuses client asked (Refused refusal) = first_refusal (client_checks client asked) ≡ Some refusal
ClientRefuses client asked Memory = IsSigned asked × (first_refusal (client_checks client asked) ≡ None)
