-- Where a transport stands in a run of its own, whatever the layers above it do, and where each of its calls takes it. A
-- history has the newest item first.
use Rattle.std.specs.Prelude.{◌≡◌, ◌<◌, ◌++◌, ℕ, Bool, true, false, cond, Option, None, Some, List, [], ◌∷◌}
use Rattle.ssh_model.specs.Protocol.Channels.Connection.{AreReplies, owed_replies}
use Rattle.ssh_model.specs.Protocol.Sessions.AnyLayers as layers
use Rattle.ssh_model.specs.Protocol.Sessions.AnyLayers.{TransportRun, is_of_user}
use Rattle.ssh_model.specs.Protocol.Sessions.AnyPeer.{KeepsTransport}
use Rattle.ssh_model.specs.Protocol.Sessions.Events.{PutsOut}
use Rattle.ssh_model.specs.Protocol.Sessions.Items.{Ask, Ask.AskDisconnect, Ask.AskRekey, Ask.AskService, Encoded, Item}
use Rattle.ssh_model.specs.Protocol.Sessions.Items.{Item.Died, Item.Fed, Item.Refused, Item.Sent, Item.Took, messages_sent}
use Rattle.ssh_model.specs.Protocol.Sessions.Parties.{AreLawful, Parties}
use Rattle.ssh_model.specs.Protocol.Sessions.Transport.{CompletingAnswer}
use Rattle.ssh_model.specs.Protocol.Sessions.Turns.{AreEncoded, AreNumbered, AsksTurn, FeedsTurn, OnPayload}
use Rattle.ssh_model.specs.Protocol.Sessions.Turns.{OnUnit, Refuses, IsAcceptable}
use Rattle.ssh_model.specs.Protocol.Sessions.Turns.{number_of, stage}
use Rattle.ssh_model.specs.Protocol.Wire.Message.{Msg, Msg.UserauthSuccess, message_number}
use Rattle.ssh_model.specs.Protocol.Wire.Outcome.{Outcome.Opens}
use Rattle.ssh_model.specs.Protocol.Wire.Unit.{IsUnit}
use Rattle.ssh_model.specs.State.TransportLayer.Kept.{Transport, after_success}
use Rattle.ssh_model.specs.State.TransportLayer.Summary.{SumsUp}
use Rattle.ssh_model.specs.declared.refusal.Refusal.{Refusal}
use Rattle.ssh_model.specs.declared.refusal.Refusal.TheVariants.{NumberSpent}
use Rattle.ssh_model.specs.declared.side.Side.{Side}
use Rattle.ssh_model.specs.declared.side.Side.TheVariants.{Client, Server}
use Rattle.ssh_transport_machine.specs.Answering.{IsQuiet}
use Rattle.ssh_transport_machine.specs.Puts.{Outs, payloads_of}
use Rattle.ssh_transport_machine.specs.State.{State}
use Rattle.ssh_transport_machine.specs.declared.machine.sending.SendOutcome.{SendOutcome}
use Rattle.ssh_transport_machine.specs.declared.machine.sending.SendOutcome.TheVariants.{Done, Spent}
use Rattle.ssh_transport.specs.Shown.{AskShows, IsOpening, opening}
use Rattle.ssh_transport.specs.declared.outcome.AskTurn.{AskTurn}
use Rattle.ssh_transport.specs.declared.outcome.TransportAsk.{TransportAsk}
use Rattle.ssh_transport.specs.declared.outcome.TransportAsk.TheVariants as ask
use Rattle.ssh_transport.specs.declared.outcome.TransportFault.{TransportFault}
use Rattle.ssh_transport.specs.declared.outcome.TransportFault.TheVariants as fault
use Rattle.ssh_transport.specs.declared.outcome.TransportTurn.{TransportTurn}
use Rattle.ssh_transport.specs.declared.outcome.TransportTurn.TheVariants as outcome

-- ---- a place

-- The transport of this side of lawful parties stands after this history of a run of its own. Its parts are those that the
-- parties have for it. What it keeps sums up the history. Whoever its peer is, and whatever the layers above it do, it keeps to
-- what a transport keeps to.
pub record TransportStandsAfter {K : Type 0} (p : Parties K) (side : Side) (parts : Type 0) (history : List Item)
    (kept : Transport K) : Type 0 where
  pub lawful : AreLawful p
  pub parts_are : parts
  pub sums : SumsUp p side history kept
  pub run : TransportRun p side history
  pub guarded : KeepsTransport p side history

-- Nothing was put out, and the transport stands where it stood.
pub record Stayed {K : Type 0} (p : Parties K) (side : Side) (parts : Type 0) (history : List Item) (new : Transport K)
    (o : Outs) : Type 0 where
  pub quiet : IsQuiet o
  pub place : TransportStandsAfter p side parts history new

-- These items are a turn of such a run. The bytes put out and the payloads listed are theirs, and the transport stands after
-- them.
pub record WentOn {K : Type 0} (p : Parties K) (side : Side) (parts : Type 0) (history items : List Item)
    (new : Transport K) (o : Outs) : Type 0 where
  pub turn : layers.TransportTurn p side history items
  pub more : List ℕ
  pub puts : (bytes : List ℕ) → PutsOut p side history bytes → PutsOut p side (items ++ history) (bytes ++ more)
  pub out : o.after ≡ o.before ++ more
  pub lists : o.payloads_after ≡ o.payloads_before ++ payloads_of (messages_sent items)
  pub place : TransportStandsAfter p side parts (items ++ history) new

-- where a call left the transport that failed: it is over by that, or it was over before
abbrev pub FailedTo : {K : Type 0} → Parties K → Side → (parts : Type 0) → List Item → TransportFault → Transport K → Type 0
FailedTo p side parts history fault.Memory new = TransportStandsAfter p side parts (Died ∷ history) new
FailedTo p side parts history fault.Dead new = TransportStandsAfter p side parts history new

-- The message is USERAUTH_SUCCESS.
abbrev pub is_success : Msg → Bool
is_success UserauthSuccess = true
is_success _ = false

-- What is kept once the layers above took or sent this message: of USERAUTH_SUCCESS they tell the transport by
-- `authenticated`.
abbrev pub told_of : {K : Type 0} → Msg → Transport K → Transport K
told_of message kept = cond (is_success message) (after_success kept) kept

-- ---- the opening

-- A transport that was made stands after its opening: it was fed this pair, and put out its version line and its first
-- KEXINIT.
pub record MadeAt {K : Type 0} (p : Parties K) (side : Side) (parts : Type 0) (cookie secret : List ℕ) (new : Transport K)
    (o : Outs) : Type 0 where
  pub opened : IsOpening p side cookie secret new o
  pub place : TransportStandsAfter p side parts (opening p side cookie secret opened.payload) new

-- ---- bytes of the peer

-- What a transport makes of the bytes of one line or one packet: what an end does. An exchange is completed without the replies
-- that an end would owe. Where an end has too few numbers left for that, whatever replies it owes, the transport is over.
pub data OnBytes {K : Type 0} (p : Parties K) (side : Side) (h : List Item) (unit : List ℕ) : List Item → Type 0 where
  as_an_end : {items : List Item} → OnUnit p side h unit items → OnBytes p side h unit items
  completes : {items : List Item} (message : Msg) (payload : List ℕ) → IsUnit p.crypto (stage p side h) unit (Opens payload) →
      IsAcceptable p side h message payload → CompletingAnswer p [] side h message items → AreEncoded items →
      AreNumbered items (Took None message payload ∷ h) → OnBytes p side h unit (items ++ Took None message payload ∷ [])
  spends : (payload : List ℕ) → IsUnit p.crypto (stage p side h) unit (Opens payload) →
      ((owed : List Item) → AreReplies (owed_replies side h) owed → AreEncoded owed →
      OnPayload p side h payload (Died ∷ Refused NumberSpent (Some payload) ∷ [])) → OnBytes p side h unit (Died ∷ [])

-- The bytes are one line or one packet, and the transport stands after what it made of it.
pub record TookBytes {K : Type 0} (p : Parties K) (side : Side) (parts : Type 0) (history : List Item) (bytes : List ℕ)
    (new : Transport K) (o : Outs) : Type 0 where
  pub items : List Item
  pub of_bytes : OnBytes p side history bytes items
  pub went : WentOn p side parts history items new o

-- The layers above may take the payload for this message: it has its number. USERAUTH_SUCCESS is taken by a client alone, which
-- asked for the service before.
pub record MayTake {K : Type 0} (side : Side) (kept : Transport K) (message : Msg) (payload : List ℕ) : Type 0 where
  pub number : message_number message ≡ number_of payload
  pub success : message ≡ UserauthSuccess → side ≡ Client
  pub service : message ≡ UserauthSuccess → kept.requested ≡ true

-- The bytes are a packet of this payload, which is for the layers above. Whichever message they may take it for, the transport
-- stands after that was taken. One that they refuse they may take for an unknown message of its number.
pub record IsForAbove {K : Type 0} (p : Parties K) (side : Side) (parts : Type 0) (history : List Item) (bytes payload : List ℕ)
    (new : Transport K) (o : Outs) : Type 0 where
  pub unit : IsUnit p.crypto (stage p side history) bytes (Opens payload)
  pub taken : (channel : Option ℕ) (message : Msg) → MayTake side new message payload →
      WentOn p side parts history (Took channel message payload ∷ []) (told_of message new) o

-- where bytes took it, by the answer
abbrev pub TakenTo : {K : Type 0} → Parties K → Side → (parts : Type 0) → List Item → (bytes : List ℕ) → TransportTurn →
    State K → Outs → Type 0
TakenTo p side parts history bytes outcome.More new o = Stayed p side parts history new.kept o
TakenTo p side parts history bytes (outcome.Up number) new o =
    IsForAbove p side parts history bytes new.receiver.payload new.kept o
TakenTo p side parts history bytes given new o = TookBytes p side parts history bytes new.kept o

-- ---- what the layers above have it do

-- The layers above may send the payload for this message: it has its number. USERAUTH_SUCCESS is sent by a server alone, and
-- authentication begins once the service was asked for. A blocked end sends nothing for them before its first NEWKEYS.
pub record MaySend {K : Type 0} (side : Side) (kept : Transport K) (message : Msg) (payload : List ℕ) : Type 0 where
  pub number : message_number message ≡ number_of payload
  pub success : message ≡ UserauthSuccess → side ≡ Server
  pub service : is_of_user message ≡ true → kept.requested ≡ true
  pub keyed : kept.blocked ≡ true → 0 < kept.sending.epoch

-- The payload was sent. Whichever message the layers above may send it for, the transport stands after that was sent.
abbrev pub SentFor : {K : Type 0} → Parties K → Side → (parts : Type 0) → List Item → (payload : List ℕ) →
    (old new : Transport K) → Outs → Type 0
SentFor p side parts history payload old new o =
    (channel : Option ℕ) (message : Msg) → MaySend side old message payload →
    WentOn p side parts history (Sent channel message payload ∷ []) (told_of message new) o

-- No number was left for what would have been sent.
abbrev pub RanOut : {K : Type 0} → Parties K → Side → (parts : Type 0) → List Item → Transport K → Outs → Type 0
RanOut p side parts history new o = WentOn p side parts history (Died ∷ Refused NumberSpent None ∷ []) new o

-- where a payload took it that the layers above sent, by the answer
abbrev pub SentTo : {K : Type 0} → Parties K → Side → (parts : Type 0) → List Item → (payload : List ℕ) → SendOutcome →
    (old new : Transport K) → Outs → Type 0
SentTo p side parts history payload Done old new o = SentFor p side parts history payload old new o
SentTo p side parts history payload Spent old new o = RanOut p side parts history new o

-- The peer was refused, with this payload or none, and the transport is over.
pub record RefusedTo {K : Type 0} (p : Parties K) (side : Side) (parts : Type 0) (history : List Item) (why : Refusal)
    (payload : Option (List ℕ)) (new : Transport K) (o : Outs) : Type 0 where
  pub items : List Item
  pub refuses : Refuses history why payload items
  pub went : WentOn p side parts history items new o

-- ---- asks

-- What came of an ask is a turn by it, after which the transport stands.
pub record AskedTo {K : Type 0} (p : Parties K) (side : Side) (parts : Type 0) (history : List Item) (asked : Ask)
    (done : AskTurn) (new : Transport K) (o : Outs) : Type 0 where
  pub said : List Encoded
  pub items : List Item
  pub shows : AskShows asked done said items
  pub asks : AsksTurn p side history asked items
  pub went : WentOn p side parts history items new o

-- where an ask took it, by what was done
abbrev pub PerformedTo : {K : Type 0} → Parties K → Side → (parts : Type 0) → List Item → TransportAsk → AskTurn →
    Transport K → Outs → Type 0
PerformedTo p side parts history ask.Service done new o = AskedTo p side parts history AskService done new o
PerformedTo p side parts history ask.Rekey done new o = AskedTo p side parts history AskRekey done new o
PerformedTo p side parts history (ask.Disconnect description) done new o =
    AskedTo p side parts history (AskDisconnect description.now) done new o

-- ---- pairs of cookie and secret

-- what such a pair adds, by the answer
abbrev pub fed_items : (cookie secret : List ℕ) → (answer : Bool) → List Item
fed_items cookie secret true = Fed cookie secret ∷ []
fed_items cookie secret false = []

-- The transport was fed where it could be, which is a turn of a session, after which it stands.
pub record FedTo {K : Type 0} (p : Parties K) (side : Side) (parts : Type 0) (history : List Item) (cookie secret : List ℕ)
    (answer : Bool) (new : Transport K) : Type 0 where
  pub turn : FeedsTurn side history cookie secret (fed_items cookie secret answer)
  pub place : TransportStandsAfter p side parts (fed_items cookie secret answer ++ history) new

-- ---- death

-- where it is left that was to die: it is over by that, or it was over before
abbrev pub DiedTo : {K : Type 0} → Parties K → Side → (parts : Type 0) → List Item → (was_dead : Bool) → Transport K → Type 0
DiedTo p side parts history false new = TransportStandsAfter p side parts (Died ∷ history) new
DiedTo p side parts history true new = TransportStandsAfter p side parts history new
