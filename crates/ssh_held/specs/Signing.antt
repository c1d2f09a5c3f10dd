-- The signatures that a program gave for the texts that a client's user signs, and what a client then signs.
use Rattle.std.specs.Prelude.{◌≡◌, ◌+◌, ◌^◌, ◌&&◌, ◌||◌, ℕ, Bool, false, true, List, [], ◌∷◌, ◌++◌, Option, Some, codes, cond, find, is_some, length, nat_le, nat_lt, option_map, take, unwrap_or}
use Rattle.ssh_model.specs.Laws.Supplied.{EachSigned, SignsSettled, text_to_sign}
use Rattle.ssh_model.specs.Protocol.Authentication.Requests.{signed_text}
use Rattle.ssh_model.specs.Protocol.Lists.{IsIn}
use Rattle.ssh_model.specs.Protocol.Sessions.Items.{Ask, Ask.AskSign, Item}
use Rattle.ssh_model.specs.Protocol.Sessions.Parties.{Agreement, Parties}
use Rattle.ssh_model.specs.Protocol.Wire.DataTypes.{is_text}
use Rattle.ssh_model.specs.Protocol.Wire.Sealing.{Crypto}
use Rattle.ssh_transport_machine.specs.Replies.{Trusts}
use Rattle.ssh_end_machine.specs.Asking.{UserSignatures}
use Rattle.ssh_end_machine.specs.Ends.{EndValue}
use Rattle.ssh_end_machine.specs.Parts.{ClientRole}
use Rattle.ssh_end_machine.specs.Supplying.{ClientEndAt}
use Rattle.ssh_held.specs.declared.signing.GivenSignature.{GivenSignature}
use Rattle.ssh_held.specs.declared.signing.GivenSignatures.{GivenSignatures}

-- ---- signatures

-- It has a byte at least, and 4,096 at most.
abbrev pub is_sized : List ℕ → Bool
is_sized signature = nat_lt 0 (length signature) && nat_le (length signature) 4096

-- The signature was given for this text, by this key under this algorithm.
abbrev pub is_for_text : (algorithm key text : List ℕ) → GivenSignature → Bool
is_for_text algorithm key text given =
    is_text given.algorithm.items algorithm && is_text given.key.items key && is_text given.text.items text

-- The signature that a program gave for a text, if it gave one. The first one counts.
abbrev pub given_for : List GivenSignature → (algorithm key text : List ℕ) → Option (List ℕ)
given_for list algorithm key text = option_map (λ given. given.signature.items) (find (is_for_text algorithm key text) list)

-- A client's own signer signs the text: it gives a byte at least.
abbrev pub is_own : UserSignatures → (user algorithm key text : List ℕ) → Bool
is_own own user algorithm key text = nat_lt 0 (length (own user algorithm key text))

-- The signatures of a client's user. Its own signer comes first. What it does not sign has the signature that the program gave, or none.
abbrev pub signature_by : (own : UserSignatures) → List GivenSignature → UserSignatures
signature_by own list user algorithm key text =
    cond (is_own own user algorithm key text) (own user algorithm key text) (take 4096 (unwrap_or (given_for list algorithm key text) []))

-- A signature of the text is known: by its own signer, or since the program gave one.
abbrev pub is_signed : (own : UserSignatures) → List GivenSignature → (user algorithm key text : List ℕ) → Bool
is_signed own list user algorithm key text = is_own own user algorithm key text || is_some (given_for list algorithm key text)

-- the same of the signer of a client, by what its own signer gives
abbrev pub signatures_of : {U : Type 0} → (own : U → UserSignatures) → GivenSignatures U → UserSignatures
signatures_of own signer = signature_by (own signer.own) signer.list.items

abbrev pub is_known_to : {U : Type 0} → (own : U → UserSignatures) → GivenSignatures U → (user algorithm key text : List ℕ) → Bool
is_known_to own signer = is_signed (own signer.own) signer.list.items

-- the parties whose client's user signs so
abbrev pub signing : {K : Type 0} → UserSignatures → Parties K → Parties K
signing signatures p = record p { user_signature = signatures }

abbrev pub signing_by : {K U : Type 0} → (own : U → UserSignatures) → GivenSignatures U → Parties K → Parties K
signing_by own signer p = signing (signatures_of own signer) p

-- ---- the text of now

-- the text that a client signs with which this user logs in by this key, in a session of this id, if it has one (RFC 4252 section 7)
abbrev pub text_in : (session : Option (List ℕ)) → (user algorithm key : List ℕ) → Option (List ℕ)
text_in session user algorithm key = option_map (λ id. signed_text id user (codes "ssh-connection") algorithm key) session

-- Each of its parts fits into the string that it is put in.
abbrev pub are_short : (user algorithm key : List ℕ) → Bool
are_short user algorithm key =
    nat_lt (length user) (2 ^ 32) && nat_lt (length algorithm) (2 ^ 32) && nat_lt (length key) (2 ^ 32)

-- It fits into so many bytes. Besides the user, the algorithm and the key it has a session id of 32 bytes and 49 of its own.
abbrev pub fits : (room : ℕ) → (user algorithm key : List ℕ) → Bool
fits room user algorithm key = are_short user algorithm key && nat_le (81 + length user + length algorithm + length key) room

-- The most bytes of a text that a client signs: a packet has no room for a login with a longer one.
abbrev pub longest_text : ℕ
longest_text = 35036

-- The text of the login is settled by this test, in a session of this id. Where it has no id there is no text.
abbrev pub is_known_in : (settled : (user algorithm key text : List ℕ) → Bool) → (session : Option (List ℕ)) → (user algorithm key : List ℕ) → Bool
is_known_in settled session user algorithm key =
    unwrap_or (option_map (λ text. settled user algorithm key text) (text_in session user algorithm key)) false

-- If an ask is one for a login by key, it is so of its text.
abbrev pub IsSettledAsk : (settled : (user algorithm key text : List ℕ) → Bool) → (session : Option (List ℕ)) → Ask → Type 0
IsSettledAsk settled session (AskSign user algorithm key) = is_known_in settled session user algorithm key ≡ true
IsSettledAsk settled session asked = Unit {0}

-- What was given is this signature of the text of this login, in a session of this id. It comes after those that there were.
pub record AddsSignature (session : Option (List ℕ)) (user algorithm key signature : List ℕ) (old new : List GivenSignature) : Type 0 where
  pub given : GivenSignature
  pub added : new ≡ old ++ given ∷ []
  pub algorithm_is : given.algorithm.items ≡ algorithm
  pub key_is : given.key.items ≡ key
  pub text_is : text_in session user algorithm key ≡ Some given.text.items
  pub signature_is : given.signature.items ≡ signature

-- ---- a place

-- The client stands after this history, as that of these parties with the signatures of its signer. Each text that it signed is known to it.
pub record SigningAt {P U S F A T K : Type 0} (c : Crypto K) (does : A → Agreement) (judged : T → Trusts) (own : U → UserSignatures)
    (p : Parties K) (client : EndValue K (ClientRole P (GivenSignatures U) S F A T K) F) (history : List Item) : Type 0 where
  pub place : ClientEndAt c does judged (signatures_of own) (signing_by own client.role.own.signer p) history client
  pub known : SignsSettled (signing_by own client.role.own.signer p) (is_known_to own client.role.own.signer) history

-- ---- what was sent

-- The signature is that of a client's own signer over the text, or one that the program gave for this very text, by this key under this
-- algorithm. It is cut off after 4,096 bytes.
pub data IsOwnOrGiven (own : UserSignatures) (list : List GivenSignature) (user algorithm key text signature : List ℕ) : Type 0 where
  by_own : is_own own user algorithm key text ≡ true → signature ≡ take 4096 (own user algorithm key text) →
      IsOwnOrGiven own list user algorithm key text signature
  by_program : (given : GivenSignature) → IsIn given list → is_for_text algorithm key text given ≡ true →
      signature ≡ take 4096 given.signature.items → IsOwnOrGiven own list user algorithm key text signature

-- That holds of each request with a signature that was sent, over the text of that moment.
abbrev pub EachOwnOrGiven : {K : Type 0} → Parties K → (own : UserSignatures) → List GivenSignature → List Item → Type 0
EachOwnOrGiven p own list h =
    EachSigned (λ before user service algorithm key signature.
    IsOwnOrGiven own list user algorithm key (text_to_sign p before user algorithm key) signature) h
