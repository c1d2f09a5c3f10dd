-- What a transport puts out and refuses in a turn, from its state, and the turns of a session that this gives (own).
use Rattle.std.specs.Prelude.{◌≡◌, ℕ, ◌≤◌, ◌<◌, Bool, true, false, Option, Some, None, List, [], ◌∷◌, ◌++◌}
use Rattle.ssh_model.specs.declared.side.Side.{Side}
use Rattle.ssh_model.specs.Protocol.Wire.Message.{Msg, Msg.Disconnect, IsPayload}
use Rattle.ssh_model.specs.Protocol.Wire.Sealing.{Crypto, IsSealed}
use Rattle.ssh_model.specs.Protocol.KeyExchange.Choice.{Chosen}
use Rattle.ssh_model.specs.declared.refusal.Refusal.{Refusal}
use Rattle.ssh_model.specs.declared.refusal.Refusal.TheVariants.{Unexpected, BadMessage}
use Rattle.ssh_model.specs.Protocol.Sessions.Refusals.{first_refusal}
use Rattle.ssh_model.specs.Protocol.Sessions.Refusals.{refusal_name, refusal_reason}
use Rattle.ssh_model.specs.Protocol.Sessions.Parties.{Parties, Agreement}
use Rattle.ssh_model.specs.Protocol.Sessions.Items.{Ask, Ask.AskService, Ask.AskRekey, Ask.AskDisconnect, Fact.Completed, Item}
use Rattle.ssh_model.specs.Protocol.Sessions.Items.{Item.Took, Item.Told, Item.Refused, Item.Died, Encoded, Encoded.EncodedBy}
use Rattle.ssh_model.specs.Protocol.Sessions.Events.{PutsOut}
use Rattle.ssh_model.specs.Protocol.Sessions.Phases.{Phase.Guessed, is_normal}
use Rattle.ssh_model.specs.Protocol.Sessions.Turns.{AreNumbered, AreEncoded, AsksTurn, IsEncoded, OnPayload, Refuses, IsAcceptable}
use Rattle.ssh_model.specs.Protocol.Sessions.Turns.{number_of}
use Rattle.ssh_model.specs.Protocol.Sessions.Transport.{CompletingAnswer}
use Rattle.ssh_model.specs.State.TransportLayer.Directions.{Direction, counted}
use Rattle.ssh_model.specs.State.TransportLayer.Kept.{Transport, message_checks, takes}
use Rattle.ssh_model.specs.State.TransportLayer.Summary.{IsAwaited, IsTransportMessage, SumsUp, items_sent}
use Rattle.ssh_model.specs.Protocol.Bounds.{numbers_of_epoch}

-- ---- packets

-- a direction after one packet for each of these
abbrev pub counted_by : {K A : Type 0} → List A → Direction K → Direction K
counted_by [] direction = direction
counted_by (x ∷ l) direction = counted (counted_by l direction)

-- These messages, the newest first, were put out one after the other under one key, each sealed under the number of its
-- place.
pub data PutsPackets {K : Type 0} (c : Crypto K) (direction : Direction K) : List Encoded → List ℕ → Type 0 where
  nothing : PutsPackets c direction [] []
  packet : {l : List Encoded} {bytes : List ℕ} (message : Msg) (payload wire : List ℕ) →
      PutsPackets c direction l bytes → IsEncoded message payload →
      (counted_by l direction).count < numbers_of_epoch →
      IsSealed c (counted_by l direction).key (counted_by l direction).number payload wire →
      PutsPackets c direction (EncodedBy message payload ∷ l) (bytes ++ wire)

-- The messages sent among these items, done after a history, have payloads that encode them, and numbers of their own. They
-- are put out as these bytes.
pub record PutOut {K : Type 0} (p : Parties K) (side : Side) (history items : List Item) (more : List ℕ) : Type 0 where
  pub encoded : AreEncoded items
  pub numbered : AreNumbered items history
  pub puts : (bytes : List ℕ) → PutsOut p side history bytes → PutsOut p side (items ++ history) (bytes ++ more)

-- ---- payloads

-- The payload has a number below 50 that may be taken, it does not follow a wrong guess, and it is this message.
pub record Reads {K : Type 0} (s : Transport K) (message : Msg) (payload : List ℕ) : Type 0 where
  pub below : number_of payload < 50
  pub taken : takes s (number_of payload) ≡ true
  pub no_guess : s.phase ≡ Guessed → ⊥
  pub message_is : IsPayload false message payload
  pub of_transport : IsTransportMessage message

-- A transport refuses a payload: for its number, because it is no message, or by a check on its message. It refuses a number
-- from 50 on only in an exchange, and leaves all else to the layers above.
pub data IsRefused {K : Type 0} (agreement : Agreement) (trusts : List ℕ → List ℕ → List ℕ → List ℕ → Bool)
    (s : Transport K) (payload : List ℕ) : Refusal → Type 0 where
  unexpected : number_of payload < 50 → takes s (number_of payload) ≡ false →
      IsRefused agreement trusts s payload Unexpected
  out_of_place : 50 ≤ number_of payload → is_normal s.phase ≡ false → IsRefused agreement trusts s payload Unexpected
  bad_message : number_of payload < 50 → takes s (number_of payload) ≡ true → (s.phase ≡ Guessed → ⊥) →
      ((message : Msg) → IsPayload false message payload → ⊥) →
      IsRefused agreement trusts s payload BadMessage
  refused : (message : Msg) (c : Chosen) (refusal : Refusal) → Reads s message payload → IsAwaited s c message →
      first_refusal (message_checks agreement trusts c s message) ≡ Some refusal →
      IsRefused agreement trusts s payload refusal

-- The messages and bytes that are put out when the peer is refused. There are none if the refusal has no reason code or the
-- numbers are spent. Otherwise it is a DISCONNECT.
pub data SaysWhy {K : Type 0} (c : Crypto K) (s : Transport K) (refusal : Refusal) : List Encoded → List ℕ →
    Type 0 where
  silently : refusal_reason refusal ≡ None → SaysWhy c s refusal [] []
  spent : s.sending.count ≡ numbers_of_epoch → SaysWhy c s refusal [] []
  said : {more : List ℕ} (reason : ℕ) (payload : List ℕ) → refusal_reason refusal ≡ Some reason →
      PutsPackets c s.sending (EncodedBy (Disconnect reason (refusal_name refusal) []) payload ∷ []) more →
      SaysWhy c s refusal (EncodedBy (Disconnect reason (refusal_name refusal) []) payload ∷ []) more

-- the items of a refusal
abbrev pub refusal_items : Refusal → Option (List ℕ) → List Encoded → List Item
refusal_items refusal payload l = Died ∷ (items_sent l ++ (Refused refusal payload ∷ []))

-- A refusal without a payload gives these items, the new state sums up the history with them, and these bytes are put out.
pub record UnitRefused {K : Type 0} (p : Parties K) (side : Side) (history : List Item) (items : List Item)
    (refusal : Refusal) (more : List ℕ) (new : Transport K) : Type 0 where
  pub refuses : Refuses history refusal None items
  pub sums : SumsUp p side (items ++ history) new
  pub puts : (bytes : List ℕ) → PutsOut p side history bytes → PutsOut p side (items ++ history) (bytes ++ more)

-- A payload gives these items in a session, the new state sums up the history with them, and these bytes are put out.
pub record Turned {K : Type 0} (p : Parties K) (side : Side) (history : List Item) (payload : List ℕ)
    (items : List Item) (more : List ℕ) (new : Transport K) : Type 0 where
  pub turn : OnPayload p side history payload items
  pub sums : SumsUp p side (items ++ history) new
  pub puts : (bytes : List ℕ) → PutsOut p side history bytes → PutsOut p side (items ++ history) (bytes ++ more)

-- A payload ends an exchange with these items, whatever replies are owed after them. They are the items up to NEWKEYS,
-- and any announcement after it. The transport `new` sums up the history so far. These bytes are put out.
pub record EndedBy {K : Type 0} (p : Parties K) (side : Side) (history : List Item) (message : Msg) (payload : List ℕ)
    (position : ℕ) (items : List Item) (more : List ℕ) (new : Transport K) : Type 0 where
  pub welcomes : IsAcceptable p side history message payload
  pub answer : (owed : List Item) →
      CompletingAnswer p owed side history message (Told (Completed position) ∷ (owed ++ items))
  pub sums : SumsUp p side (items ++ (Took None message payload ∷ history)) new
  pub out : PutOut p side (Took None message payload ∷ history) items more

-- An ask gives these items in a session, the new state sums up the history with them, and these bytes are put out.
pub record AskTurned {K : Type 0} (p : Parties K) (side : Side) (history : List Item) (ask : Ask) (items : List Item)
    (more : List ℕ) (new : Transport K) : Type 0 where
  pub turn : AsksTurn p side history ask items
  pub sums : SumsUp p side (items ++ history) new
  pub puts : (bytes : List ℕ) → PutsOut p side history bytes → PutsOut p side (items ++ history) (bytes ++ more)

-- an ask for a message of the transport
abbrev pub IsTransportAsk : Ask → Type 0
IsTransportAsk AskService = Unit {0}
IsTransportAsk AskRekey = Unit {0}
IsTransportAsk (AskDisconnect description) = Unit {0}
IsTransportAsk _ = ⊥
