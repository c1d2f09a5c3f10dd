-- When a run of two ends is honest: the assumptions on tags, signatures, hashes and cookies (own).
use Rattle.std.specs.Prelude.{◌≡◌, ℕ, ◌<◌, List, [], ◌∷◌, ◌⊎◌, Option, Some}
use Rattle.ssh_model.specs.declared.side.Side.{Side}
use Rattle.ssh_model.specs.declared.side.Side.TheVariants.{Client, Server}
use Rattle.ssh_model.specs.Protocol.Side.{peer, DoneBy.By, part}
use Rattle.ssh_model.specs.Protocol.Lists.{IsIn}
use Rattle.ssh_model.specs.Protocol.Wire.Message.{Msg.NewKeys, Msg.KexEcdhReply}
use Rattle.ssh_model.specs.Protocol.KeyExchange.Exchange.{Inputs, exchange_text, exchange_hash}
use Rattle.ssh_model.specs.Protocol.Sessions.Parties.{Parties}
use Rattle.ssh_model.specs.Protocol.Sessions.Items.{Item, Item.Fed, Item.Sent, Item.Took, Item.TookGuess, Item.Refused, Done}
use Rattle.ssh_model.specs.Protocol.Sessions.Items.{sent, took}
use Rattle.ssh_model.specs.Protocol.Sessions.Epochs.{epoch}
use Rattle.ssh_model.specs.Protocol.KeyExchange.Exchanges.{KeyName, exchange, exchanges, sending_name, taking_name}
use Rattle.ssh_model.specs.Protocol.KeyExchange.Exchanges.{sending_number, taking_number}

-- No value stands twice in the list.
abbrev pub AreDistinct : {A : Type 0} → List A → Type 0
AreDistinct [] = Unit {0}
AreDistinct (x ∷ l) = (IsIn x l → ⊥) × AreDistinct l

-- The end sent this payload under this key name and number.
abbrev pub SentUnder : {K : Type 0} → Parties K → Side → Option KeyName → ℕ → List ℕ → List Item → Type 0
SentUnder p side name n payload [] = ⊥
SentUnder p side name n payload (Sent channel message other ∷ h) =
    (payload ≡ other) × (name ≡ sending_name p side h) × (n ≡ sending_number side h) ⊎ SentUnder p side name n payload h
SentUnder p side name n payload (_ ∷ h) = SentUnder p side name n payload h

-- An end opened this payload after this run. If it did so under a key, the peer had sent the payload under the key name
-- and the number under which it was opened.
abbrev pub WasSent : {K : Type 0} → Parties K → Side → List ℕ → List Done → Type 0
WasSent p side payload run =
    0 < epoch (took (part side run)) →
    SentUnder p (peer side) (taking_name p side (part side run)) (taking_number side (part side run)) payload
    (part (peer side) run)

-- A good tag belongs only to a payload that the peer had sealed. This is assumed whether the payload was taken or refused.
abbrev pub TagsHold : {K : Type 0} → Parties K → List Done → Type 0
TagsHold p [] = Unit {0}
TagsHold p (By side (Took channel message payload) ∷ run) = WasSent p side payload run × TagsHold p run
TagsHold p (By side (TookGuess payload) ∷ run) = WasSent p side payload run × TagsHold p run
TagsHold p (By side (Refused refusal (Some payload)) ∷ run) = WasSent p side payload run × TagsHold p run
TagsHold p (_ ∷ run) = TagsHold p run

-- the exchanges whose reply the server sent
abbrev pub signed : {K : Type 0} → Parties K → List Item → List Inputs
signed p [] = []
signed p (Sent channel (KexEcdhReply k_s q_s signature) payload ∷ h) =
    exchange p Server (epoch (sent h)) (Sent channel (KexEcdhReply k_s q_s signature) payload ∷ h) ∷ signed p h
signed p (_ ∷ h) = signed p h

-- One of these exchanges has this hash.
abbrev pub HasHash : List ℕ → List Inputs → Type 0
HasHash hash xs = (x : Inputs) × IsIn x xs × (exchange_hash x ≡ hash)

-- The server signed whatever the client trusted: the hash of each exchange that the client completed is the hash of an
-- exchange whose reply the server had sent.
abbrev pub SignaturesHold : {K : Type 0} → Parties K → List Done → Type 0
SignaturesHold p [] = Unit {0}
SignaturesHold p (By Client (Sent channel NewKeys payload) ∷ run) =
    let client = part Client run in
    HasHash (exchange_hash (exchange p Client (epoch (sent client)) client)) (signed p (part Server run))
    × SignaturesHold p run
SignaturesHold p (_ ∷ run) = SignaturesHold p run

-- One of the two ends completed this exchange.
abbrev pub IsCompleted : {K : Type 0} → Parties K → Inputs → List Done → Type 0
IsCompleted p x run = IsIn x (exchanges p Client (part Client run)) ⊎ IsIn x (exchanges p Server (part Server run))

-- the cookies that an end was fed
abbrev pub cookies : List Item → List (List ℕ)
cookies [] = []
cookies (Fed cookie secret ∷ h) = cookie ∷ cookies h
cookies (_ ∷ h) = cookies h

-- The assumptions on a run: nobody forged a tag, a signature or a hash, and the user fed no cookie twice.
pub record IsHonest {K : Type 0} (p : Parties K) (run : List Done) : Type 0 where
  pub tags : TagsHold p run
  pub signatures : SignaturesHold p run
  -- no two texts of completed exchanges have one hash
  pub hashes : (x y : Inputs) → IsCompleted p x run → IsCompleted p y run → exchange_hash x ≡ exchange_hash y →
      exchange_text x ≡ exchange_text y
  -- no end was fed one cookie twice
  pub cookies_differ : (side : Side) → AreDistinct (cookies (part side run))
