-- What C is answered by an end whose program answers in its own time, and what it is shown of what is asked.
--     TakesIn                          bytes are taken, or held back
--     Shown, nothing_asked             what is asked, as it is shown
--     ShowsAsked                       what an end asks is shown
--     AnswersRequest, AnswersHost      what the program says is added, at a server and at a client
--     AnswersIn                        at an end of either role
use Rattle.std.specs.Prelude.{◌≡◌, if◌then◌else◌, ℕ, ℤ, Bool, true, false, List, [], Option, Result, None, Some, negsuc, pos}
use Rattle.ssh_model.specs.Protocol.Sessions.Phases.{Phase.Exchanging}
use Rattle.ssh_model.specs.Protocol.Wire.Message.{IsPayload, Method, Method.NoMethod, Method.Password, Method.Publickey}
use Rattle.ssh_model.specs.Protocol.Wire.Message.{Msg.KexEcdhReply, Msg.UserauthRequest}
use Rattle.ssh_transport_machine.specs.Peeking.{AwaitsHost}
use Rattle.ssh_transport_machine.specs.State.{State}
use Rattle.ssh_end_machine.specs.declared.asking.outcome.Fault.{Fault}
use Rattle.ssh_held.specs.Book.{awaits_signature}
use Rattle.ssh_held.specs.HeldHosts.{signed_with}
use Rattle.ssh_held.specs.Hosts.{Signed}
use Rattle.ssh_held.specs.declared.taken.Taken.{Taken}
use Rattle.divrelca.specs.Parts.Ed25519.{is_name}
use Rattle.divrelca.specs.declared.parts.packet_key.PacketKey.{PacketKey}
use Rattle.divrelca_c.specs.Codes.{code_held, count_held}
use Rattle.divrelca_c.specs.Embedded.Deciding.{Answered, HoldsBack, HostAnswered, IsUndecided, IsUnknownHost, OnlyHosts, OnlyUsers}
use Rattle.divrelca_c.specs.Embedded.Deciding.{StandsSettled, StandsTrusting, TakesKnown, TakesOr, TakesSettled, hash_of, is_open, payload_of}
use Rattle.divrelca_c.specs.Embedded.Ends.{Client, Server}
use Rattle.divrelca_c.specs.declared.embedded.any_end.AnyEnd.{AnyEnd}
use Rattle.divrelca_c.specs.declared.embedded.any_end.AnyEnd.TheVariants as any
use Rattle.divrelca_c.specs.declared.wanted.DvWanted.{DvWanted}

-- ---- bytes

-- The end holds the bytes back or takes them, and this is what C is answered for it.
pub record TakesHeld (Holds : Type 0) (Takes : Result ℕ Fault → Type 0) (count : ℕ) (code : ℤ) : Type 0 where
  pub given : Result Taken Fault
  pub takes : TakesOr Holds Takes given
  pub code_is : code ≡ code_held given
  pub count_is : count ≡ count_held given

abbrev pub TakesIn : (bytes : List ℕ) → (count : ℕ) → (code : ℤ) → (old new : AnyEnd) → Type 0
TakesIn bytes count code (any.Server old) (any.Server new) =
    TakesHeld (HoldsBack (IsUndecided old.end.role.own.judge old.end.machine bytes) old new) (λ done. TakesSettled old bytes done new) count code
TakesIn bytes count code (any.Client old) (any.Client new) =
    TakesHeld (HoldsBack (IsUnknownHost old.end.role.exchange.host_trust old.end.machine bytes (hash_of new.ahead)) old new)
    (λ done. TakesKnown old bytes done new) count code
TakesIn bytes count code _ _ = ⊥

-- ---- what is asked

-- the number of what is asked, the user's name, the algorithm, the password or the key, the signed hash, and the signature
pub record Shown : Type 0 where
  pub kind : ℕ
  pub user : List ℕ
  pub algorithm : List ℕ
  pub text : List ℕ
  pub hash : List ℕ
  pub signature : List ℕ

abbrev pub shown_in : DvWanted → Shown
shown_in wanted = record {
  kind = wanted.kind;
  user = wanted.user.now;
  algorithm = wanted.algorithm.now;
  text = wanted.text.now;
  hash = wanted.hash.now;
  signature = wanted.signature.now;
}

-- no signature is asked about
abbrev pub shown : (kind : ℕ) → (user algorithm text : List ℕ) → Shown
shown kind user algorithm text = record { kind = kind; user = user; algorithm = algorithm; text = text; hash = []; signature = [] }

abbrev pub nothing_asked : Shown
nothing_asked = shown 0 [] [] []

-- a signature by this key of a user
abbrev pub signature_shown : (user algorithm key signature : List ℕ) → Shown
signature_shown user algorithm key signature = record (shown 5 user algorithm key) { signature = signature }

-- A request of this user with this method. Of a signed one the key is shown, or the signature if that is what is missing.
abbrev pub request_shown : (awaits_signature : Bool) → (user : List ℕ) → Method → Shown
request_shown awaits_signature user NoMethod = shown 1 user [] []
request_shown awaits_signature user (Password word None) = shown 2 user [] word
request_shown awaits_signature user (Publickey algorithm key None) = shown 3 user algorithm key
request_shown awaits_signature user (Publickey algorithm key (Some signature)) =
    if awaits_signature then signature_shown user algorithm key signature else shown 3 user algorithm key
request_shown awaits_signature user _ = nothing_asked

-- a host key under this algorithm, or a signature of a hash by it
abbrev pub host_shown : (algorithm key : List ℕ) → Option Signed → Shown
host_shown algorithm key None = shown 4 [] algorithm key
host_shown algorithm key (Some signed) =
    record { kind = 6; user = []; algorithm = algorithm; text = key; hash = signed.hash; signature = signed.signature }

-- The host key of the payload is shown, under the algorithm of the exchange that is under way. If there is a hash, it is shown with the signature
-- of the payload.
pub record ShowsHost (machine : State PacketKey) (payload : List ℕ) (hash : Option (List ℕ)) (shown : Shown) : Type 0 where
  pub host : machine.kept.dead ≡ false → machine.kept.phase ≡ Exchanging → (key point signature : List ℕ) →
      IsPayload false (KexEcdhReply key point signature) payload → shown ≡ host_shown shown.algorithm key (signed_with hash signature)
  pub awaited : shown.kind ≡ 4 → AwaitsHost machine.kept shown.algorithm
  pub signed : shown.kind ≡ 6 → AwaitsHost machine.kept shown.algorithm

-- What an end asks its program is shown, and that it asks nothing where it does not.
abbrev pub ShowsAsked : AnyEnd → Shown → Type 0
ShowsAsked (any.Server end) shown = (is_open end.ahead ≡ false → shown ≡ nothing_asked) × (is_open end.ahead ≡ true →
    (user service : List ℕ) (method : Method) → IsPayload false (UserauthRequest user service method) (payload_of end.ahead) →
    shown ≡ request_shown (awaits_signature is_name end.end.role.own.judge.book.list.items user method) user method)
ShowsAsked (any.Client end) shown = (is_open end.ahead ≡ false → shown ≡ nothing_asked) × (is_open end.ahead ≡ true →
    ShowsHost end.end.machine (payload_of end.ahead) (hash_of end.ahead) shown)

-- ---- answers

-- Where the code is 0, what the program says on the request that the server asked it about is added. It is 311 where nothing is asked, and
-- then nothing changes.
pub record AnswersRequest (accepts : Bool) (code : ℤ) (old new : Server) : Type 0 where
  pub answered : code ≡ pos 0 → Answered accepts old new
  pub unchanged : code ≡ pos 311 → new ≡ old
  pub unasked : is_open old.ahead ≡ false → code ≡ pos 311
  pub memory : (code ≡ pos 0 → ⊥) → (code ≡ pos 311 → ⊥) → code ≡ negsuc 0
  pub kept : (code ≡ pos 0 → ⊥) → new.end.role.own.judge.book.list.items ≡ old.end.role.own.judge.book.list.items
  pub entries : new.end.role.own.judge.list ≡ old.end.role.own.judge.list
  pub stands : code ≡ pos 0 → StandsSettled old new
  pub rest : OnlyUsers old new
  pub same : new ≡ record old { end = new.end; ahead = new.ahead }

-- The same of the host key, or of its signature, that a client asked it about.
pub record AnswersHost (accepts : Bool) (code : ℤ) (old new : Client) : Type 0 where
  pub answered : code ≡ pos 0 → HostAnswered accepts old new
  pub unchanged : code ≡ pos 311 → new ≡ old
  pub unasked : is_open old.ahead ≡ false → code ≡ pos 311
  pub memory : (code ≡ pos 0 → ⊥) → (code ≡ pos 311 → ⊥) → code ≡ negsuc 0
  pub kept : (code ≡ pos 0 → ⊥) → new.end.role.exchange.host_trust.book.list.items ≡ old.end.role.exchange.host_trust.book.list.items
  pub keys : new.end.role.exchange.host_trust.keys ≡ old.end.role.exchange.host_trust.keys
  pub stands : code ≡ pos 0 → StandsTrusting old new
  pub rest : OnlyHosts old new
  pub same : new ≡ record old { end = new.end; ahead = new.ahead }

abbrev pub AnswersIn : (accepts : Bool) → (code : ℤ) → (old new : AnyEnd) → Type 0
AnswersIn accepts code (any.Server old) (any.Server new) = AnswersRequest accepts code old new
AnswersIn accepts code (any.Client old) (any.Client new) = AnswersHost accepts code old new
AnswersIn accepts code _ _ = ⊥
