-- The messages of SSH: which payload is which message. A payload is the message number as one byte, and then
-- the fields of the message in their order, with nothing left over.
use Rattle.std.specs.Prelude.{◌≡◌, ◌≢◌, ℕ, Bool, true, false, not, nat_le, ◌==◌, ◌&&◌, ◌||◌, if◌then◌else◌, IsTrue}
use Rattle.std.specs.Prelude.{Option, Some, None, List, [], ◌∷◌, ◌++◌, length, codes}
use Rattle.ssh_model.specs.Protocol.Wire.DataTypes.{IsByte, IsBoolean, IsWrittenBoolean, IsUint32, IsString, IsNameList}

-- ---- the messages

-- the method of a request for authentication (RFC 4252 sections 5.2, 7 and 8)
pub data Method : Type 0 where
  NoMethod : Method
  Password : (password : List ℕ) (new_password : Option (List ℕ)) → Method
  Publickey : (algorithm key : List ℕ) (signature : Option (List ℕ)) → Method
  Other : (name rest : List ℕ) → Method

-- the offer of an end at the start of a key exchange (RFC 4253 section 7.1): cs is from client to server, sc back
pub record Proposal : Type 0 where
  pub cookie : List ℕ
  pub kex : List (List ℕ)
  pub host : List (List ℕ)
  pub enc_cs : List (List ℕ)
  pub enc_sc : List (List ℕ)
  pub mac_cs : List (List ℕ)
  pub mac_sc : List (List ℕ)
  pub comp_cs : List (List ℕ)
  pub comp_sc : List (List ℕ)
  pub lang_cs : List (List ℕ)
  pub lang_sc : List (List ℕ)
  pub follows : Bool

-- an extension that an end announces (RFC 8308 section 2.3)
pub record Extension : Type 0 where
  pub name : List ℕ
  pub value : List ℕ

-- A message, as values without the places of its texts in a payload. A text is a list of bytes, a name-list a list of names
-- (RFC 4250 section 4.1.2, RFC 5656 section 7.1, RFC 8308 section 2.3).
pub data Msg : Type 0 where
  Disconnect : (reason : ℕ) (description language : List ℕ) → Msg
  Ignore : (body : List ℕ) → Msg
  Unimplemented : (number : ℕ) → Msg
  Debug : (display : Bool) (message language : List ℕ) → Msg
  ServiceRequest : (service : List ℕ) → Msg
  ServiceAccept : (service : List ℕ) → Msg
  ExtInfo : (extensions : List Extension) → Msg
  KexInit : (proposal : Proposal) → Msg
  NewKeys : Msg
  KexEcdhInit : (q_c : List ℕ) → Msg
  KexEcdhReply : (k_s q_s signature : List ℕ) → Msg
  UserauthRequest : (user service : List ℕ) (method : Method) → Msg
  UserauthFailure : (methods : List (List ℕ)) (partial : Bool) → Msg
  UserauthSuccess : Msg
  UserauthBanner : (message language : List ℕ) → Msg
  UserauthPkOk : (algorithm key : List ℕ) → Msg
  GlobalRequest : (name : List ℕ) (want : Bool) (rest : List ℕ) → Msg
  RequestSuccess : (rest : List ℕ) → Msg
  RequestFailure : Msg
  ChannelOpen : (kind : List ℕ) (sender window max : ℕ) (rest : List ℕ) → Msg
  ChannelOpenConfirmation : (recipient sender window max : ℕ) (rest : List ℕ) → Msg
  ChannelOpenFailure : (recipient reason : ℕ) (description language : List ℕ) → Msg
  ChannelWindowAdjust : (recipient bytes : ℕ) → Msg
  ChannelData : (recipient : ℕ) (body : List ℕ) → Msg
  ChannelExtendedData : (recipient kind : ℕ) (body : List ℕ) → Msg
  ChannelEof : (recipient : ℕ) → Msg
  ChannelClose : (recipient : ℕ) → Msg
  ChannelRequest : (recipient : ℕ) (name : List ℕ) (want : Bool) (rest : List ℕ) → Msg
  ChannelSuccess : (recipient : ℕ) → Msg
  ChannelFailure : (recipient : ℕ) → Msg
  Unknown : (number : ℕ) → Msg

-- ---- fields one after the other

-- The bytes are those of the first field, and then those of the second (own).
pub record Then (First Second : List ℕ → Type 0) (bytes : List ℕ) : Type 0 where
  pub front : List ℕ
  pub back : List ℕ
  pub first : First front
  pub second : Second back
  pub parts : bytes ≡ front ++ back

infixr 5 ◌▸◌
-- a field, and then the fields after it (own)
abbrev pub ◌▸◌ : (List ℕ → Type 0) → (List ℕ → Type 0) → List ℕ → Type 0
First ▸ Second = Then First Second

-- nothing is left over (own)
abbrev pub IsEnd : List ℕ → Type 0
IsEnd bytes = bytes ≡ []

-- all that is left, possibly nothing (own)
abbrev pub IsRest : List ℕ → List ℕ → Type 0
IsRest rest bytes = bytes ≡ rest

-- any bytes (own)
abbrev pub IsAny : List ℕ → Type 0
IsAny bytes = Unit {0}

-- the 16 bytes of a cookie (RFC 4253 section 7.1)
pub record IsCookie (cookie bytes : List ℕ) : Type 0 where
  pub same : bytes ≡ cookie
  pub count : length bytes ≡ 16

-- The name of the method is none of the three that are known (own).
pub record IsOther (name : List ℕ) : Type 0 where
  pub not_none : name ≢ codes "none"
  pub not_password : name ≢ codes "password"
  pub not_publickey : name ≢ codes "publickey"

-- a string with such a name (own)
pub record IsOtherName (name bytes : List ℕ) : Type 0 where
  pub other : IsOther name
  pub string : IsString name bytes

-- ---- the rows. The encoding of a boolean is a parameter: a reader takes any byte but 0 as TRUE, and a writer writes 1.

-- the fields of a request for authentication from the method name on (RFC 4252 sections 5.2, 7 and 8)
abbrev pub IsMethod : (Bool → List ℕ → Type 0) → Method → List ℕ → Type 0
-- RFC 4252 section 5.2
IsMethod IsTruth NoMethod = IsString (codes "none") ▸ IsEnd
-- RFC 4252 section 8
IsMethod IsTruth (Password password None) = IsString (codes "password") ▸ IsTruth false ▸ IsString password ▸ IsEnd
IsMethod IsTruth (Password password (Some new)) =
    IsString (codes "password") ▸ IsTruth true ▸ IsString password ▸ IsString new ▸ IsEnd
-- RFC 4252 section 7
IsMethod IsTruth (Publickey algorithm key None) =
    IsString (codes "publickey") ▸ IsTruth false ▸ IsString algorithm ▸ IsString key ▸ IsEnd
IsMethod IsTruth (Publickey algorithm key (Some signature)) =
    IsString (codes "publickey") ▸ IsTruth true ▸ IsString algorithm ▸ IsString key ▸ IsString signature ▸ IsEnd
-- RFC 4252 section 5: the fields of any other method are its own
IsMethod IsTruth (Other name rest) = IsOtherName name ▸ IsRest rest

-- a cookie, ten name-lists, a boolean, and a uint32 reserved for later, which has to be 0 (RFC 4253 section 7.1)
abbrev pub IsProposal : (Bool → List ℕ → Type 0) → Proposal → List ℕ → Type 0
IsProposal IsTruth p =
    IsCookie p.cookie ▸ IsNameList p.kex ▸ IsNameList p.host ▸ IsNameList p.enc_cs ▸ IsNameList p.enc_sc
    ▸ IsNameList p.mac_cs ▸ IsNameList p.mac_sc ▸ IsNameList p.comp_cs ▸ IsNameList p.comp_sc ▸ IsNameList p.lang_cs
    ▸ IsNameList p.lang_sc ▸ IsTruth p.follows ▸ IsUint32 0 ▸ IsEnd

-- name and value of each extension, and nothing after the last (RFC 8308 section 2.3)
abbrev pub IsExtensions : List Extension → List ℕ → Type 0
IsExtensions [] = IsEnd
IsExtensions (extension ∷ extensions) = IsString extension.name ▸ IsString extension.value ▸ IsExtensions extensions

-- The fields of each message, in their order (RFC 4252 sections 5 and 7, RFC 4253 sections 7, 10 and 11, RFC 4254 sections 4
-- and 5, RFC 5656 section 4, RFC 8308 section 2.3).
abbrev pub IsRow : (Bool → List ℕ → Type 0) → Msg → List ℕ → Type 0
-- RFC 4253 section 11.1
IsRow IsTruth (Disconnect reason description language) =
    IsByte 1 ▸ IsUint32 reason ▸ IsString description ▸ IsString language ▸ IsEnd
-- RFC 4253 section 11.2
IsRow IsTruth (Ignore body) = IsByte 2 ▸ IsString body ▸ IsEnd
-- RFC 4253 section 11.4
IsRow IsTruth (Unimplemented number) = IsByte 3 ▸ IsUint32 number ▸ IsEnd
-- RFC 4253 section 11.3
IsRow IsTruth (Debug display message language) =
    IsByte 4 ▸ IsTruth display ▸ IsString message ▸ IsString language ▸ IsEnd
-- RFC 4253 section 10
IsRow IsTruth (ServiceRequest service) = IsByte 5 ▸ IsString service ▸ IsEnd
IsRow IsTruth (ServiceAccept service) = IsByte 6 ▸ IsString service ▸ IsEnd
-- RFC 8308 section 2.3: how many extensions there are, and these
IsRow IsTruth (ExtInfo extensions) = IsByte 7 ▸ IsUint32 (length extensions) ▸ IsExtensions extensions
-- RFC 4253 section 7.1
IsRow IsTruth (KexInit proposal) = IsByte 20 ▸ IsProposal IsTruth proposal
-- RFC 4253 section 7.3
IsRow IsTruth NewKeys = IsByte 21 ▸ IsEnd
-- RFC 5656 section 4
IsRow IsTruth (KexEcdhInit q_c) = IsByte 30 ▸ IsString q_c ▸ IsEnd
IsRow IsTruth (KexEcdhReply k_s q_s signature) = IsByte 31 ▸ IsString k_s ▸ IsString q_s ▸ IsString signature ▸ IsEnd
-- RFC 4252 section 5
IsRow IsTruth (UserauthRequest user service method) =
    IsByte 50 ▸ IsString user ▸ IsString service ▸ IsMethod IsTruth method
-- RFC 4252 section 5.1
IsRow IsTruth (UserauthFailure methods partial) = IsByte 51 ▸ IsNameList methods ▸ IsTruth partial ▸ IsEnd
IsRow IsTruth UserauthSuccess = IsByte 52 ▸ IsEnd
-- RFC 4252 section 5.4
IsRow IsTruth (UserauthBanner message language) = IsByte 53 ▸ IsString message ▸ IsString language ▸ IsEnd
-- RFC 4252 section 7
IsRow IsTruth (UserauthPkOk algorithm key) = IsByte 60 ▸ IsString algorithm ▸ IsString key ▸ IsEnd
-- RFC 4254 section 4
IsRow IsTruth (GlobalRequest name want rest) = IsByte 80 ▸ IsString name ▸ IsTruth want ▸ IsRest rest
IsRow IsTruth (RequestSuccess rest) = IsByte 81 ▸ IsRest rest
IsRow IsTruth RequestFailure = IsByte 82 ▸ IsEnd
-- RFC 4254 section 5.1
IsRow IsTruth (ChannelOpen kind sender window max rest) =
    IsByte 90 ▸ IsString kind ▸ IsUint32 sender ▸ IsUint32 window ▸ IsUint32 max ▸ IsRest rest
IsRow IsTruth (ChannelOpenConfirmation recipient sender window max rest) =
    IsByte 91 ▸ IsUint32 recipient ▸ IsUint32 sender ▸ IsUint32 window ▸ IsUint32 max ▸ IsRest rest
IsRow IsTruth (ChannelOpenFailure recipient reason description language) =
    IsByte 92 ▸ IsUint32 recipient ▸ IsUint32 reason ▸ IsString description ▸ IsString language ▸ IsEnd
-- RFC 4254 section 5.2
IsRow IsTruth (ChannelWindowAdjust recipient bytes) = IsByte 93 ▸ IsUint32 recipient ▸ IsUint32 bytes ▸ IsEnd
IsRow IsTruth (ChannelData recipient body) = IsByte 94 ▸ IsUint32 recipient ▸ IsString body ▸ IsEnd
IsRow IsTruth (ChannelExtendedData recipient kind body) =
    IsByte 95 ▸ IsUint32 recipient ▸ IsUint32 kind ▸ IsString body ▸ IsEnd
-- RFC 4254 section 5.3
IsRow IsTruth (ChannelEof recipient) = IsByte 96 ▸ IsUint32 recipient ▸ IsEnd
IsRow IsTruth (ChannelClose recipient) = IsByte 97 ▸ IsUint32 recipient ▸ IsEnd
-- RFC 4254 section 5.4
IsRow IsTruth (ChannelRequest recipient name want rest) =
    IsByte 98 ▸ IsUint32 recipient ▸ IsString name ▸ IsTruth want ▸ IsRest rest
IsRow IsTruth (ChannelSuccess recipient) = IsByte 99 ▸ IsUint32 recipient ▸ IsEnd
IsRow IsTruth (ChannelFailure recipient) = IsByte 100 ▸ IsUint32 recipient ▸ IsEnd
-- RFC 4253 section 11.4: a number that no known message has, and any bytes after it
IsRow IsTruth (Unknown number) = IsByte number ▸ IsAny

-- ---- which message a payload is

-- the numbers of the rows above (RFC 4250 section 4.1.2, RFC 5656 section 7.1, RFC 8308 section 2.3)
abbrev pub is_known : ℕ → Bool
is_known n =
    (nat_le 1 n && nat_le n 7) || (nat_le 20 n && nat_le n 21) || (nat_le 30 n && nat_le n 31)
    || (nat_le 50 n && nat_le n 53) || (n == 60)
    || (nat_le 80 n && nat_le n 82) || (nat_le 90 n && nat_le n 100)

-- a number that no row has; 60 is known only while a client waits for the answer to a key probe (RFC 4252 section 7)
abbrev pub is_unknown : (probing : Bool) → ℕ → Bool
is_unknown probing n = if n == 60 then not probing else not (is_known n)

-- 60 is USERAUTH_PK_OK only while a client waits for the answer to a key probe (RFC 4252 section 7). Other methods
-- of authentication give that number to other messages.
abbrev pub FitsContext : (probing : Bool) → Msg → Type 0
FitsContext probing (UserauthPkOk algorithm key) = IsTrue probing
FitsContext probing (Unknown number) = IsTrue (is_unknown probing number)
FitsContext probing m = Unit {0}

-- The payload is the message. `probing`: the end that reads it waits for the answer to a key probe (own).
pub record IsPayload (probing : Bool) (m : Msg) (payload : List ℕ) : Type 0 where
  pub context : FitsContext probing m
  pub row : IsRow IsBoolean m payload

-- The payload is the message as it is written (own).
abbrev pub IsWrittenPayload : Msg → List ℕ → Type 0
IsWrittenPayload m payload = IsRow IsWrittenBoolean m payload

-- ---- numbers and names

-- the number of a message (RFC 4250 section 4.1.2, RFC 5656 section 7.1, RFC 8308 section 2.3)
abbrev pub message_number : Msg → ℕ
message_number (Disconnect reason description language) = 1
message_number (Ignore body) = 2
message_number (Unimplemented number) = 3
message_number (Debug display message language) = 4
message_number (ServiceRequest service) = 5
message_number (ServiceAccept service) = 6
message_number (ExtInfo extensions) = 7
message_number (KexInit proposal) = 20
message_number NewKeys = 21
message_number (KexEcdhInit q_c) = 30
message_number (KexEcdhReply k_s q_s signature) = 31
message_number (UserauthRequest user service _) = 50
message_number (UserauthFailure methods partial) = 51
message_number UserauthSuccess = 52
message_number (UserauthBanner message language) = 53
message_number (UserauthPkOk algorithm key) = 60
message_number (GlobalRequest name want rest) = 80
message_number (RequestSuccess rest) = 81
message_number RequestFailure = 82
message_number (ChannelOpen kind sender window max rest) = 90
message_number (ChannelOpenConfirmation recipient sender window max rest) = 91
message_number (ChannelOpenFailure recipient reason description language) = 92
message_number (ChannelWindowAdjust recipient bytes) = 93
message_number (ChannelData recipient body) = 94
message_number (ChannelExtendedData recipient kind body) = 95
message_number (ChannelEof recipient) = 96
message_number (ChannelClose recipient) = 97
message_number (ChannelRequest recipient name want rest) = 98
message_number (ChannelSuccess recipient) = 99
message_number (ChannelFailure recipient) = 100
message_number (Unknown number) = number

-- the name of a number, without SSH_MSG_ (RFC 4250 section 4.1.2, RFC 5656 section 7.1, RFC 8308 section 2.3)
abbrev pub message_name : ℕ → List ℕ
message_name n =
    if n == 1 then codes "DISCONNECT"
    else if n == 2 then codes "IGNORE"
    else if n == 3 then codes "UNIMPLEMENTED"
    else if n == 4 then codes "DEBUG"
    else if n == 5 then codes "SERVICE_REQUEST"
    else if n == 6 then codes "SERVICE_ACCEPT"
    else if n == 7 then codes "EXT_INFO"
    else if n == 20 then codes "KEXINIT"
    else if n == 21 then codes "NEWKEYS"
    else if n == 30 then codes "KEX_ECDH_INIT"
    else if n == 31 then codes "KEX_ECDH_REPLY"
    else if n == 50 then codes "USERAUTH_REQUEST"
    else if n == 51 then codes "USERAUTH_FAILURE"
    else if n == 52 then codes "USERAUTH_SUCCESS"
    else if n == 53 then codes "USERAUTH_BANNER"
    else if n == 60 then codes "USERAUTH_PK_OK"
    else if n == 80 then codes "GLOBAL_REQUEST"
    else if n == 81 then codes "REQUEST_SUCCESS"
    else if n == 82 then codes "REQUEST_FAILURE"
    else if n == 90 then codes "CHANNEL_OPEN"
    else if n == 91 then codes "CHANNEL_OPEN_CONFIRMATION"
    else if n == 92 then codes "CHANNEL_OPEN_FAILURE"
    else if n == 93 then codes "CHANNEL_WINDOW_ADJUST"
    else if n == 94 then codes "CHANNEL_DATA"
    else if n == 95 then codes "CHANNEL_EXTENDED_DATA"
    else if n == 96 then codes "CHANNEL_EOF"
    else if n == 97 then codes "CHANNEL_CLOSE"
    else if n == 98 then codes "CHANNEL_REQUEST"
    else if n == 99 then codes "CHANNEL_SUCCESS"
    else if n == 100 then codes "CHANNEL_FAILURE"
    else codes "UNKNOWN"
