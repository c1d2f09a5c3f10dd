-- The turn of an end on an ask of its user.
use Rattle.std.specs.Prelude.{◌≡◌, ◌<◌, ◌^◌, ◌++◌, ℕ, true, false, Option, Some, None, List, [], ◌∷◌, Result, Ok, Err}
use Rattle.std.specs.Option.{option_map}
use Rattle.ssh_model.specs.declared.side.Side.{Side}
use Rattle.ssh_model.specs.Protocol.Wire.Message.{Msg, Msg.Disconnect}
use Rattle.ssh_model.specs.Protocol.Wire.Message.{Msg.ChannelOpen, Msg.ChannelOpenConfirmation, Msg.ChannelOpenFailure}
use Rattle.ssh_model.specs.Protocol.Wire.Message.{Msg.ChannelWindowAdjust, Msg.ChannelData, Msg.ChannelExtendedData}
use Rattle.ssh_model.specs.Protocol.Wire.Message.{Msg.ChannelEof, Msg.ChannelClose, Msg.ChannelRequest, Msg.ChannelSuccess}
use Rattle.ssh_model.specs.Protocol.Wire.Message.{Msg.ChannelFailure}
use Rattle.ssh_model.specs.Protocol.Wire.Sealing.{Crypto}
use Rattle.ssh_model.specs.Protocol.Sessions.Items as session
use Rattle.ssh_model.specs.Protocol.Sessions.Items.{Fact.Opening, Item, Item.Asked, Item.AskRefused, Item.Died, Item.Refused}
use Rattle.ssh_model.specs.Protocol.Sessions.Items.{Item.Sent, messages_sent}
use Rattle.ssh_model.specs.Protocol.Sessions.Parties.{Parties, settings_of}
use Rattle.ssh_model.specs.declared.refusal.Refusal.{Refusal}
use Rattle.ssh_model.specs.declared.refusal.Refusal.TheVariants as refusals
use Rattle.ssh_model.specs.Protocol.Sessions.Refusals.{first_refusal}
use Rattle.ssh_model.specs.Protocol.Sessions.TurnClaims.{HasEncoding}
use Rattle.ssh_model.specs.Protocol.Sessions.Turns.{AsksTurn, ask_checks}
use Rattle.ssh_model.specs.State.Authentication.Kept as authentication
use Rattle.ssh_model.specs.State.Channels.Kept as channels
use Rattle.ssh_model.specs.State.Channels.Kept.{Channels}
use Rattle.ssh_model.specs.State.Channels.Summary.{told}
use Rattle.ssh_model.specs.State.TransportLayer.Kept.{Transport, after_sent}
use Rattle.ssh_model.specs.State.End.Asks.{TakesAsk, end_ask_checks}
use Rattle.ssh_model.specs.State.End.State.{Authentication, Authentication.OfClient, EndState}
use Rattle.ssh_model.specs.State.End.Summary.{EndSumsUp, EndTurned}
use Rattle.ssh_auth.specs.Asking.{ask_of as user_ask_of}
use Rattle.ssh_channels.specs.Facts.{opening_by}
use Rattle.ssh_channels.specs.Values.{ask_of as channel_ask_of}
use Rattle.ssh_transport.specs.Asks.{AskDied, AskTaken, WasDead}
use Rattle.ssh_transport_machine.specs.Puts.{Outs, payloads_of}
use Rattle.ssh_transport_machine.specs.State.{State, dead_state}
use Rattle.ssh_transport_machine.specs.Answering.{Answers, HasRoom, SentBy, SpentBy}
use Rattle.ssh_transport_machine.specs.declared.machine.sending.SendOutcome.{SendOutcome}
use Rattle.ssh_transport_machine.specs.declared.machine.sending.SendOutcome.TheVariants.{Done, Spent}
use Rattle.ssh_transport.specs.declared.outcome.AskTurn.TheVariants as turn
use Rattle.ssh_transport.specs.declared.outcome.TransportAsk.{TransportAsk}
use Rattle.ssh_transport.specs.declared.outcome.TransportAsk.TheVariants as transport_ask
use Rattle.ssh_transport.specs.declared.outcome.TransportFault.{TransportFault}
use Rattle.ssh_transport.specs.declared.outcome.TransportFault.TheVariants as transport_fault
use Rattle.ssh_model.specs.declared.ask_refusal.AskRefusal.{AskRefusal}
use Rattle.ssh_end_machine.specs.Layers.{Layers}
use Rattle.ssh_end_machine.specs.Login.{authentication_of, side_of}
use Rattle.ssh_end_machine.specs.Owed.{channels_sent}
use Rattle.ssh_end_machine.specs.Sessions.{end_of}
use Rattle.ssh_end_machine.specs.declared.asking.Ask.{Ask}
use Rattle.ssh_end_machine.specs.declared.asking.Ask.TheVariants as ask
use Rattle.ssh_end_machine.specs.declared.asking.outcome.Fault.{Fault}
use Rattle.ssh_end_machine.specs.declared.asking.outcome.Fault.TheVariants as fault
use Rattle.ssh_end_machine.specs.declared.asking.outcome.AskStep.{AskStep}
use Rattle.ssh_end_machine.specs.declared.layers.login.Login.{Login}
use Rattle.ssh_end_machine.specs.declared.layers.login.Login.TheVariants as login

-- the signatures of a client's user
abbrev pub UserSignatures : Type 0
UserSignatures = (user algorithm key text : List ℕ) → List ℕ

-- an ask of the user, as an ask of a session
abbrev pub ask_of : Ask → session.Ask
ask_of ask.Service = session.Ask.AskService
ask_of (ask.User given) = user_ask_of given
ask_of ask.Rekey = session.Ask.AskRekey
ask_of (ask.Connection given) = channel_ask_of given
ask_of (ask.Disconnect description) = session.Ask.AskDisconnect description.now

-- The fact holds if the ask was done or refused. If memory was refused, or the end was over before, nothing is said.
abbrev pub OnAnswered : {A : Type 0} → Result A Fault → Type 0 → Type 0
OnAnswered (Ok given) fact = fact
OnAnswered (Err (fault.Ask why)) fact = fact
OnAnswered (Err failed) fact = Unit {0}

-- ---- numbers

-- The numbers with which a channel is opened are uint32s.
abbrev pub AsksUint32s : session.Ask → Type 0
AsksUint32s (session.Ask.AskOpen kind window max rest) = (window < 2 ^ 32) × (max < 2 ^ 32)
AsksUint32s _ = Unit {0}

-- The numbers of a message of the connection, except for its recipient, are uint32s.
abbrev pub HasUint32s : Msg → Type 0
HasUint32s (ChannelOpen kind sender window max rest) = (sender < 2 ^ 32) × (window < 2 ^ 32) × (max < 2 ^ 32)
HasUint32s (ChannelOpenConfirmation recipient sender window max rest) =
    (sender < 2 ^ 32) × (window < 2 ^ 32) × (max < 2 ^ 32)
HasUint32s (ChannelOpenFailure recipient reason description language) = reason < 2 ^ 32
HasUint32s (ChannelWindowAdjust recipient bytes) = bytes < 2 ^ 32
HasUint32s (ChannelExtendedData recipient kind body) = kind < 2 ^ 32
HasUint32s _ = Unit {0}

-- So is its recipient.
abbrev pub HasRecipient : Msg → Type 0
HasRecipient (ChannelOpenConfirmation recipient sender window max rest) = recipient < 2 ^ 32
HasRecipient (ChannelOpenFailure recipient reason description language) = recipient < 2 ^ 32
HasRecipient (ChannelWindowAdjust recipient bytes) = recipient < 2 ^ 32
HasRecipient (ChannelData recipient body) = recipient < 2 ^ 32
HasRecipient (ChannelExtendedData recipient kind body) = recipient < 2 ^ 32
HasRecipient (ChannelEof recipient) = recipient < 2 ^ 32
HasRecipient (ChannelClose recipient) = recipient < 2 ^ 32
HasRecipient (ChannelRequest recipient name want rest) = recipient < 2 ^ 32
HasRecipient (ChannelSuccess recipient) = recipient < 2 ^ 32
HasRecipient (ChannelFailure recipient) = recipient < 2 ^ 32
HasRecipient _ = Unit {0}

-- ---- what was done

-- the step of an ask that belongs to no channel
abbrev pub step_by : SendOutcome → AskStep
step_by Done = record { channel = None; opening = None; refused = None }
step_by Spent = record { channel = None; opening = None; refused = Some refusals.NumberSpent }

-- why nothing was done
abbrev pub fault_by : TransportFault → Fault
fault_by transport_fault.Memory = fault.Memory
fault_by transport_fault.Dead = fault.Dead

-- the step of an ask that sent a message on this channel
abbrev pub step_on : session.Ask → (channel : Option ℕ) → SendOutcome → AskStep
step_on asked channel Done = record { channel = channel; opening = opening_by asked channel; refused = None }
step_on asked channel Spent = step_by Spent

-- The items of an ask, the newest first, by its step. One constructor is one row.
pub data ShowsAsk (asked : session.Ask) : AskStep → List Item → Type 0 where
  sent : (channel opening : Option ℕ) (message : Msg) (payload : List ℕ) →
      ShowsAsk asked (record { channel = channel; opening = opening; refused = None })
      (told (option_map Opening opening) (Sent channel message payload ∷ []) ++ Asked asked ∷ [])
  disconnected : (description payload : List ℕ) → asked ≡ session.Ask.AskDisconnect description →
      ShowsAsk asked (record { channel = None; opening = None; refused = None })
      (Died ∷ Sent None (Disconnect 11 description []) payload ∷ Asked asked ∷ [])
  spent : ShowsAsk asked (record { channel = None; opening = None; refused = Some refusals.NumberSpent })
      (Died ∷ Refused refusals.NumberSpent None ∷ Asked asked ∷ [])

-- For the items of the ask whose payloads were sent, these are the channels of the messages.
abbrev pub AreAskChannels : session.Ask → AskStep → (payloads : List (List ℕ)) → (channels : List (Option ℕ)) → Type 0
AreAskChannels asked step payloads channels =
    (items : List Item) → ShowsAsk asked step items → payloads ≡ payloads_of (messages_sent items) →
    channels ≡ channels_sent items

-- ---- rows of an end

-- The step is a row of the end. Its items, bytes and payloads are listed.
pub record AskRow {K : Type 0} (p : Parties K) (side : Side) (old : EndState K) (asked : session.Ask) (step : AskStep)
    (new : EndState K) (o : Outs) : Type 0 where
  pub items : List Item
  pub more : List ℕ
  pub shows : ShowsAsk asked step items
  pub takes : TakesAsk p side old asked items more new
  pub parts : o.after ≡ o.before ++ more
  pub lists : o.payloads_after ≡ o.payloads_before ++ payloads_of (messages_sent items)

-- The first refusal that holds, of an end that goes on as it was.
pub record RefusedRow {K : Type 0} (p : Parties K) (side : Side) (old : EndState K) (asked : session.Ask)
    (why : AskRefusal) (new : EndState K) : Type 0 where
  pub alive : old.transport.dead ≡ false
  pub why_is : first_refusal (end_ask_checks p side old asked) ≡ Some why
  pub same : new ≡ old

-- Memory was refused for the message that would have been sent, and the end is over.
pub record DiedRow {K : Type 0} (p : Parties K) (side : Side) (old : EndState K) (asked : session.Ask)
    (new : EndState K) : Type 0 where
  pub takes : TakesAsk p side old asked (Died ∷ []) [] new
  pub dead : new.transport.dead ≡ true

-- The end was over before, and is as it was.
pub record WasOver {K : Type 0} (old new : EndState K) : Type 0 where
  pub dead : old.transport.dead ≡ true
  pub same : new ≡ old

-- the row of an ask, by its result
abbrev pub RowOf : {K : Type 0} → Parties K → Side → EndState K → session.Ask → Result AskStep Fault → EndState K →
    Outs → Type 0
RowOf p side old asked (Ok step) new o = AskRow p side old asked step new o
RowOf p side old asked (Err (fault.Ask why)) new o = RefusedRow p side old asked why new
RowOf p side old asked (Err fault.Memory) new o = DiedRow p side old asked new
RowOf p side old asked (Err fault.Dead) new o = WasOver old new

-- The same at the end of all parties with these parts, and with the settings that are kept.
abbrev pub EndRow : {K : Type 0} → Crypto K → Side → EndState K → session.Ask → Result AskStep Fault → EndState K →
    Outs → Type 0
EndRow {K} c side old asked result new o =
    (p : Parties K) → p.crypto ≡ c → (old.transport.dead ≡ false → old.transport.settings ≡ settings_of p side) →
    RowOf p side old asked result new o

-- a machine with layers on it
abbrev pub end_with : {K : Type 0} → State K → Authentication → Channels → EndState K
end_with s authentication channels = record {
  transport = s.kept;
  authentication = authentication;
  channels = channels;
}

-- ---- the transport

-- The transport refused it.
pub record MachineRefuses {K : Type 0} (c : Crypto K) (old : State K) (given : TransportAsk) (why : AskRefusal)
    (new : State K) : Type 0 where
  pub outs : Outs
  pub taken : AskTaken c old given (turn.Refused why) new outs

-- why the transport did nothing
abbrev pub MachineFails : {K : Type 0} → Crypto K → State K → TransportAsk → Fault → State K → Type 0
MachineFails c old given (fault.Ask why) new = MachineRefuses c old given why new
MachineFails c old given fault.Memory new = AskDied old given new
MachineFails c old given fault.Dead new = WasDead old new

-- the state of a machine that did nothing
abbrev pub Fails : {K : Type 0} → State K → Fault → State K → Type 0
Fails old (fault.Ask why) new = new ≡ old
Fails old fault.Memory new = new.kept.dead ≡ true
Fails old fault.Dead new = WasDead old new

-- ---- an end that is over after an ask

-- the state after DISCONNECT was sent: only the number of that packet is counted, and the end is dead
abbrev pub left_state : {K : Type 0} → State K → State K
left_state old = record old { kept = record (after_sent old.kept) { dead = true } }

-- If no number was left, the end is over and otherwise unchanged.
abbrev pub EndsSpent : {K : Type 0} → State K → (refused : Option Refusal) → State K → Type 0
EndsSpent old (Some why) new = new ≡ dead_state old
EndsSpent old None new = Unit {0}

-- The end is over because it sent a DISCONNECT, or because no number was left.
abbrev pub EndsLeft : {K : Type 0} → State K → (refused : Option Refusal) → State K → Type 0
EndsLeft old (Some why) new = new ≡ dead_state old
EndsLeft old None new = new ≡ left_state old

-- The cause of the end's death changed nothing else of its transport.
abbrev pub EndsAlone : {K : Type 0} → State K → Ask → (refused : Option Refusal) → State K → Type 0
EndsAlone old ask.Service refused new = EndsSpent old refused new
EndsAlone old (ask.User given) refused new = EndsSpent old refused new
EndsAlone old ask.Rekey refused new = EndsSpent old refused new
EndsAlone old (ask.Connection given) refused new = EndsSpent old refused new
EndsAlone old (ask.Disconnect description) refused new = EndsLeft old refused new

-- the same of an ask for the transport
abbrev pub TransportEnds : {K : Type 0} → State K → TransportAsk → (refused : Option Refusal) → State K → Type 0
TransportEnds old transport_ask.Service refused new = EndsSpent old refused new
TransportEnds old transport_ask.Rekey refused new = EndsSpent old refused new
TransportEnds old (transport_ask.Disconnect description) refused new = EndsLeft old refused new

-- ---- settings and layers

-- A server's authentication is as before, and a client's stays one.
abbrev pub KeepsSettings : Login → Login → Type 0
KeepsSettings (login.Server old) new = new ≡ login.Server old
KeepsSettings (login.Client old) (login.Client new) = Unit {0}
KeepsSettings (login.Client old) (login.Server new) = ⊥

-- The layers are as before if the end goes on, or was over before.
abbrev pub KeepsLayers : {L : Type 0} → L → Fault → L → Type 0
KeepsLayers old fault.Memory new = Unit {0}
KeepsLayers old _ new = new ≡ old

-- An ask of the connection changed the channels as channels do, whether or not its message was sent, or left them unchanged.
pub data ConnectionAsked (old : Channels) (asked : session.Ask) : Channels → Type 0 where
  same : ConnectionAsked old asked old
  done : (sent : channels.Sent) (new : Channels) → channels.Sends old asked sent new → ConnectionAsked old asked new

-- the same of any ask: all others leave the channels
abbrev pub ChannelsAsked : Channels → Ask → Channels → Type 0
ChannelsAsked old (ask.Connection given) new = ConnectionAsked old (channel_ask_of given) new
ChannelsAsked old asked new = new ≡ old

-- If the end was over before, this is as it was.
abbrev pub KeepsDead : {T : Type 0} → T → Fault → T → Type 0
KeepsDead old fault.Dead new = new ≡ old
KeepsDead old _ new = Unit {0}

-- The result of an ask for the transport is a row, whatever the states of the layers above.
abbrev pub MachineRow : {K : Type 0} → Crypto K → State K → session.Ask → Result AskStep Fault → State K → Outs →
    Type 0
MachineRow c old asked result new o =
    (side : Side) (authentication : Authentication) (channels : Channels) →
    EndRow c side (end_with old authentication channels) asked result (end_with new authentication channels) o

-- the same for each ask for the transport
abbrev pub TransportRow : {K : Type 0} → Crypto K → State K → TransportAsk → Result AskStep Fault → State K → Outs →
    Type 0
TransportRow c old transport_ask.Service result new o = MachineRow c old session.Ask.AskService result new o
TransportRow c old transport_ask.Rekey result new o = MachineRow c old session.Ask.AskRekey result new o
TransportRow c old (transport_ask.Disconnect description) result new o =
    MachineRow c old (session.Ask.AskDisconnect description.now) result new o

-- ---- channels

-- The result of an ask for channels is a row, whatever the state of authentication.
abbrev pub ConnectionRow : {K : Type 0} → Crypto K → State K → Channels → session.Ask → Result AskStep Fault →
    State K → Channels → Outs → Type 0
ConnectionRow c old channels asked result new kept o =
    (side : Side) (authentication : Authentication) →
    EndRow c side (end_with old authentication channels) asked result (end_with new authentication kept) o

-- Something would be sent on the ask, which has an encoding.
pub record WouldSend (ch : Channels) (asked : session.Ask) : Type 0 where
  pub given : channels.Sent
  pub kept : Channels
  pub sends : channels.Sends ch asked given kept
  pub encoding : HasEncoding given.message

-- The message of the channels was sent, or no number was left for it.
pub data GivenSent {K : Type 0} (c : Crypto K) (old : State K) (asked : session.Ask) (given : channels.Sent)
    (new : State K) (o : Outs) : AskStep → Type 0 where
  done : SentBy c old given.message (after_sent old.kept) new o →
      GivenSent c old asked given new o (step_on asked given.channel Done)
  spent : SpentBy old new o → GivenSent c old asked given new o (step_by Spent)

-- Memory was refused for it, and the end is over.
pub record GivenDied {K : Type 0} (old new : State K) : Type 0 where
  pub alive : old.kept.dead ≡ false
  pub room : HasRoom old
  pub dead : new.kept.dead ≡ true

-- why it was not sent: it is no ask that a transport refuses
abbrev pub GivenFails : {K : Type 0} → State K → Fault → State K → Type 0
GivenFails old (fault.Ask why) new = ⊥
GivenFails old fault.Memory new = GivenDied old new
GivenFails old fault.Dead new = WasDead old new

-- ---- a client's requests

-- If the client is not over, its user's signatures in these parties are those of this signer, and if its authentication was
-- opened, it has a session id.
pub record AreClientOf {K : Type 0} (p : Parties K) (c : Crypto K) (signature : UserSignatures) (s : Transport K)
    (client : authentication.Client) : Type 0 where
  pub crypto : p.crypto ≡ c
  pub user_signature : s.dead ≡ false → p.user_signature ≡ signature
  pub identified : s.dead ≡ false → client.opened ≡ true → s.session ≡ None → ⊥

-- The result of an ask for authentication at a client is a row, whatever the state of channels.
abbrev pub UserRow : {K : Type 0} → Crypto K → UserSignatures → State K → authentication.Client → session.Ask →
    Result AskStep Fault → State K → authentication.Client → Outs → Type 0
UserRow c signature old client asked result new kept o =
    (p : Parties _) (side : Side) (channels : Channels) → AreClientOf p c signature old.kept client →
    RowOf p side (end_with old (OfClient client) channels) asked result (end_with new (OfClient kept) channels) o

-- A request was sent, or no number was left for it.
pub record RequestSent {K : Type 0} (c : Crypto K) (old : State K) (request : Msg) (new : State K) (o : Outs)
    (step : AskStep) : Type 0 where
  pub answer : SendOutcome
  pub step_is : step ≡ step_by answer
  pub answers : Answers c old request (after_sent old.kept) answer new o

-- ---- an end

-- The parts with which the end answers are those of these parties: the sealing, and a client's signatures.
pub record AsksBy {K : Type 0} (p : Parties K) (c : Crypto K) (signature : UserSignatures) (s : Transport K)
    (kept : Login) : Type 0 where
  pub crypto : p.crypto ≡ c
  pub client : (client : authentication.Client) → kept ≡ login.Client client → AreClientOf p c signature s client

-- The result of an ask for authentication is a row, whatever the state of channels.
abbrev pub LoginAskRow : {K : Type 0} → Crypto K → UserSignatures → State K → Login → session.Ask →
    Result AskStep Fault → State K → Login → Outs → Type 0
LoginAskRow {K} c signature old kept asked result new later o =
    (p : Parties K) (side : Side) (channels : Channels) → (old.kept.dead ≡ false → side_of kept ≡ side) →
    AsksBy p c signature old.kept kept →
    RowOf p side (end_with old (authentication_of kept) channels) asked result
    (end_with new (authentication_of later) channels) o

-- The result of an ask is a row, with these parts and the settings that are kept.
abbrev pub AsksRow : {K : Type 0} → Crypto K → UserSignatures → State K → Layers → session.Ask →
    Result AskStep Fault → State K → Layers → Outs → Type 0
AsksRow {K} c signature old layers asked result new later o =
    (p : Parties K) (side : Side) → (old.kept.dead ≡ false → side_of layers.authentication ≡ side) →
    AsksBy p c signature old.kept layers.authentication →
    (old.kept.dead ≡ false → old.kept.settings ≡ settings_of p side) →
    RowOf p side (end_of old.kept layers) asked result (end_of new.kept later) o

-- ---- sessions

-- The step is a turn of a session. Its items, bytes and payloads are listed.
pub record AskedInSession {K : Type 0} (p : Parties K) (side : Side) (history : List Item) (asked : session.Ask)
    (step : AskStep) (new : EndState K) (o : Outs) : Type 0 where
  pub items : List Item
  pub more : List ℕ
  pub shows : ShowsAsk asked step items
  pub turned : EndTurned p side history (AsksTurn p side history asked) items more new
  pub parts : o.after ≡ o.before ++ more
  pub lists : o.payloads_after ≡ o.payloads_before ++ payloads_of (messages_sent items)

-- The ask is refused as in a session, and the end goes on as it was.
pub record EndRefused {K : Type 0} (p : Parties K) (side : Side) (history : List Item) (old : EndState K)
    (asked : session.Ask) (why : AskRefusal) (new : EndState K) : Type 0 where
  pub why_is : first_refusal (ask_checks p side history asked) ≡ Some why
  pub turned : EndTurned p side history (AsksTurn p side history asked)
      (AskRefused why ∷ Asked asked ∷ []) [] new
  pub same : new ≡ old

-- The end died as in a session.
pub record EndDied {K : Type 0} (p : Parties K) (side : Side) (history : List Item) (asked : session.Ask)
    (new : EndState K) : Type 0 where
  pub turned : EndTurned p side history (AsksTurn p side history asked) (Died ∷ []) [] new
  pub dead : new.transport.dead ≡ true

-- the result of an ask in a session
abbrev pub DoneInSession : {K : Type 0} → Parties K → Side → (history : List Item) → EndState K → session.Ask →
    Result AskStep Fault → EndState K → Outs → Type 0
DoneInSession p side history old asked (Ok step) new o = AskedInSession p side history asked step new o
DoneInSession p side history old asked (Err (fault.Ask why)) new o = EndRefused p side history old asked why new
DoneInSession p side history old asked (Err fault.Memory) new o = EndDied p side history asked new
DoneInSession p side history old asked (Err fault.Dead) new o = WasOver old new

-- The effect of an ask. It is a turn in each session of parties with these parts, after each history that the state sums up.
-- The settings in the state of authentication stay as they are.
pub record Asks {K : Type 0} (c : Crypto K) (signature : UserSignatures) (old : State K) (layers : Layers)
    (asked : session.Ask) (given : Result AskStep Fault) (new : State K) (later : Layers) (o : Outs) : Type 0 where
  pub in_session : (p : Parties K) (side : Side) (history : List Item) → AsksBy p c signature old.kept layers.authentication →
      EndSumsUp p side history (end_of old.kept layers) →
      DoneInSession p side history (end_of old.kept layers) asked given (end_of new.kept later) o
  pub settings : KeepsSettings layers.authentication later.authentication
