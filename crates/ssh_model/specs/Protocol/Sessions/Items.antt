-- The items of two ends of a session, in one list with their sides, the newest first, so that "earlier" means the tail. An ask to
-- an end, a report to its user, and a message that it sends or takes are values of their own (own, if nothing else is said).
use Rattle.std.specs.Prelude.{ℕ, Bool, List, [], ◌∷◌, Option, Some, None, true, false}
use Rattle.ssh_model.specs.Protocol.Side.{DoneBy}
use Rattle.ssh_model.specs.Protocol.Wire.Message.{Extension, Msg, Msg.NewKeys, Method, Method.Password}
use Rattle.ssh_model.specs.Protocol.Wire.Message.{Method.Publickey}
use Rattle.ssh_model.specs.declared.refusal.Refusal.{Refusal}
use Rattle.ssh_model.specs.declared.request_kind.RequestKind.{RequestKind}
use Rattle.ssh_model.specs.declared.request_kind.RequestKind.TheVariants as kind
use Rattle.ssh_model.specs.declared.ask_refusal.AskRefusal.{AskRefusal}

-- ---- asks

-- an ask of the user to an end; channels are named by the end's own numbers
pub data Ask : Type 0 where
  AskService : Ask
  AskNone : (user : List ℕ) → Ask
  AskPassword : (user password : List ℕ) → Ask
  -- whether the key would do
  AskProbe : (user algorithm key : List ℕ) → Ask
  AskSign : (user algorithm key : List ℕ) → Ask
  AskRekey : Ask
  AskOpen : (kind : List ℕ) (window most : ℕ) (rest : List ℕ) → Ask
  AskConfirm : (channel window most : ℕ) (rest : List ℕ) → Ask
  AskRefuse : (channel reason : ℕ) → Ask
  -- with the type if it is extended data
  AskData : (channel : ℕ) (kind : Option ℕ) (body : List ℕ) → Ask
  AskAdjust : (channel bytes : ℕ) → Ask
  AskEof : (channel : ℕ) → Ask
  AskClose : (channel : ℕ) → Ask
  AskRequest : (channel : ℕ) (name : List ℕ) (want : Bool) (rest : List ℕ) → Ask
  AskReply : (channel : ℕ) (answer : Bool) → Ask
  AskGlobal : (name : List ℕ) (want : Bool) (rest : List ℕ) → Ask
  AskGlobalReply : (answer : Bool) (rest : List ℕ) → Ask
  AskDisconnect : (description : List ℕ) → Ask

-- ---- what a user shows

-- By what a server let a user in: nothing, a password, or a signature by this key under this algorithm (RFC 4252 sections 5.2,
-- 8 and 7). It holds no password and no signature, so a program may log it.
pub data Credential : Type 0 where
  NoCredential : Credential
  ByPassword : Credential
  ByKey : (algorithm key : List ℕ) → Credential

-- the credential of a request that was accepted, by its method
abbrev pub credential : Method → Credential
credential (Password password new) = ByPassword
credential (Publickey algorithm key signature) = ByKey algorithm key
credential _ = NoCredential

-- what a client's request showed, by its method (RFC 4252 sections 5.2, 7 and 8)
abbrev pub kind_of : Method → RequestKind
kind_of (Password password new) = kind.Password
kind_of (Publickey algorithm key None) = kind.Probe
kind_of (Publickey algorithm key (Some signature)) = kind.Signature
kind_of _ = kind.Nothing

-- ---- reports

-- a report of an end to its user
pub data Fact : Type 0 where
  -- The exchange at this position, counted from 1, is completed.
  Completed : (position : ℕ) → Fact
  Service : Fact
  -- A server let this user in, by this credential.
  Accepted : (user : List ℕ) (credential : Credential) → Fact
  -- A client is let in, by a request of this kind.
  Authenticated : (request : RequestKind) → Fact
  Failed : (methods : List (List ℕ)) (partial : Bool) → Fact
  Banner : (message : List ℕ) → Fact
  KeyOk : (algorithm key : List ℕ) → Fact
  Ignored : Fact
  GotExtensions : (extensions : List Extension) → Fact
  Debugged : (display : Bool) (message : List ℕ) → Fact
  NotImplemented : (number : ℕ) → Fact
  Disconnected : (reason : ℕ) (description : List ℕ) → Fact
  Global : (name : List ℕ) (want : Bool) (rest : List ℕ) → Fact
  GlobalDone : (answer : Bool) (rest : List ℕ) → Fact
  Opening : (channel : ℕ) → Fact
  Opened : (channel : ℕ) (kind : List ℕ) (window most : ℕ) (rest : List ℕ) → Fact
  Confirmed : (channel window most : ℕ) (rest : List ℕ) → Fact
  OpenFailed : (channel reason : ℕ) (description : List ℕ) → Fact
  GotData : (channel : ℕ) (kind : Option ℕ) (body : List ℕ) → Fact
  Adjusted : (channel bytes : ℕ) → Fact
  Ended : (channel : ℕ) → Fact
  Closed : (channel : ℕ) → Fact
  Requested : (channel : ℕ) (name : List ℕ) (want : Bool) (rest : List ℕ) → Fact
  RequestDone : (channel : ℕ) (answer : Bool) → Fact

-- ---- the items of one end

-- Lines are without CR LF. A message that belongs to a channel has the end's own number of that channel, and every message
-- has the payload that encodes it. The packet after a wrong guess is not read, so it has no message.
pub data Item : Type 0 where
  Fed : (cookie secret : List ℕ) → Item
  Asked : (ask : Ask) → Item
  AskRefused : (refusal : AskRefusal) → Item
  SentLine : (line : List ℕ) → Item
  TookLine : (line : List ℕ) → Item
  TookOtherLine : (line : List ℕ) → Item
  Sent : (channel : Option ℕ) (message : Msg) (payload : List ℕ) → Item
  Took : (channel : Option ℕ) (message : Msg) (payload : List ℕ) → Item
  TookGuess : (payload : List ℕ) → Item
  Told : (fact : Fact) → Item
  -- with the payload of the refused unit, if it was opened
  Refused : (refusal : Refusal) (payload : Option (List ℕ)) → Item
  Died : Item

-- an item of one side
abbrev pub Done : Type 0
Done = DoneBy Item

-- The end died.
abbrev pub has_died : List Item → Bool
has_died [] = false
has_died (Died ∷ h) = true
has_died (_ ∷ h) = has_died h

-- ---- the payloads of a direction

-- A payload is NEWKEYS or another: an epoch of a direction lies between two of its NEWKEYS.
pub data Payload : Type 0 where
  NewkeysOf : (bytes : List ℕ) → Payload
  OtherOf : (bytes : List ℕ) → Payload

-- the bytes of a payload
abbrev pub bytes_of : Payload → List ℕ
bytes_of (NewkeysOf bytes) = bytes
bytes_of (OtherOf bytes) = bytes

-- the payloads that an end sent
abbrev pub sent : List Item → List Payload
sent [] = []
sent (Sent channel NewKeys payload ∷ h) = NewkeysOf payload ∷ sent h
sent (Sent channel message payload ∷ h) = OtherOf payload ∷ sent h
sent (_ ∷ h) = sent h

-- the payloads that an end took
abbrev pub took : List Item → List Payload
took [] = []
took (Took channel NewKeys payload ∷ h) = NewkeysOf payload ∷ took h
took (Took channel message payload ∷ h) = OtherOf payload ∷ took h
took (TookGuess payload ∷ h) = OtherOf payload ∷ took h
took (_ ∷ h) = took h

-- ---- the messages of a direction

-- a message, with its payload
pub data Encoded : Type 0 where
  EncodedBy : (message : Msg) (payload : List ℕ) → Encoded

-- the messages that an end sent, each with its payload
abbrev pub messages_sent : List Item → List Encoded
messages_sent [] = []
messages_sent (Sent channel message payload ∷ h) = EncodedBy message payload ∷ messages_sent h
messages_sent (_ ∷ h) = messages_sent h

-- the messages that an end took, each with its payload
abbrev pub messages_taken : List Item → List Encoded
messages_taken [] = []
messages_taken (Took channel message payload ∷ h) = EncodedBy message payload ∷ messages_taken h
messages_taken (_ ∷ h) = messages_taken h
