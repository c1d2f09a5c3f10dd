-- The turn of an end on a payload from 50 on: the answer of the layers above its transport, and the sending of it.
use Rattle.std.specs.Prelude.{◌≡◌, ℕ, ◌<◌, ◌≤◌, Bool, true, false, Option, Some, None, Result, Ok, Err, IsSome, List, [], ◌∷◌, length}
use Rattle.std.specs.Option.{option_map}
use Rattle.ssh_model.specs.Protocol.Bounds.{numbers_of_epoch}
use Rattle.ssh_model.specs.declared.side.Side.{Side}
use Rattle.ssh_model.specs.Protocol.Wire.Message.{Msg}
use Rattle.ssh_model.specs.Protocol.Wire.Sealing.{Crypto}
use Rattle.ssh_model.specs.State.Channels.Kept.{Channels, DueReply}
use Rattle.ssh_model.specs.State.Channels.Summary.{told}
use Rattle.ssh_model.specs.Protocol.Sessions.Items.{Item, Encoded.EncodedBy, messages_sent}
use Rattle.ssh_model.specs.Protocol.Sessions.Parties.{Parties}
use Rattle.ssh_model.specs.Protocol.Sessions.Phases.{Phase.Normal}
use Rattle.ssh_model.specs.Protocol.Sessions.Refusals.{first_refusal}
use Rattle.ssh_model.specs.Protocol.Sessions.Turns.{AreEncoded, IsEncoded, number_of, take_memory}
use Rattle.ssh_model.specs.State.TransportLayer.Kept.{Transport, after_sent, after_success, after_taken}
use Rattle.ssh_model.specs.State.End.Deaths.{WouldTake}
use Rattle.ssh_model.specs.State.End.Payloads.{AnswersAbove, ReadsAbove, RefusesAbove}
use Rattle.ssh_model.specs.State.End.State.{Authentication, EndState, above_checks, after_above, after_items, probes}
use Rattle.ssh_transport.specs.Above.{IsPut, PeerRefused}
use Rattle.ssh_transport.specs.Sending.{CanSend}
use Rattle.ssh_transport_machine.specs.Puts.{Outs, payloads_of}
use Rattle.ssh_transport_machine.specs.State.{State, last_number}
use Rattle.ssh_transport_machine.specs.Answering.{HasRoom, IsQuiet, RefusalNeedsMemory}
use Rattle.ssh_model.specs.declared.refusal.Refusal.{Refusal}
use Rattle.ssh_model.specs.declared.refusal.Refusal.TheVariants as refusal
use Rattle.ssh_end_machine.specs.WithChannels.{channels_with, channels_given}
use Rattle.ssh_end_machine.specs.Layer.{Beneath}
use Rattle.ssh_end_machine.specs.Owed.{channels_sent}
use Rattle.ssh_end_machine.specs.Steps.{AreSent, fact_told}
use Rattle.ssh_end_machine.specs.declared.replying.ServiceReply.{ServiceReply}
use Rattle.ssh_types.specs.declared.call_error.CallError.{CallError}
use Rattle.ssh_types.specs.declared.call_error.CallError.TheVariants as fault
use Rattle.ssh_end_machine.specs.declared.step.Step.{Step}
use Rattle.ssh_end_machine.specs.declared.step.Step.TheVariants as step
use Rattle.ssh_end_machine.specs.declared.step.TakenMessage.{TakenMessage}

-- ---- where a payload from 50 on is shown

-- A payload from 50 on was taken by this transport, outside an exchange and after a first one.
pub record Awaits {K : Type 0} (s : Transport K) (m : State K) : Type 0 where
  pub kept : m.kept ≡ after_taken s
  pub above : 50 ≤ number_of m.receiver.payload
  pub normal : s.phase ≡ Normal
  pub identified : s.session ≡ None → ⊥
  pub number : last_number m.kept.taking ≡ s.taking.number
  pub few : s.taking.count < numbers_of_epoch

-- ---- the answer of the layers above

-- The items send nothing at once, or one message that this payload encodes.
pub record RepliedBy (payload : List ℕ) (items : List Item) : Type 0 where
  pub message : Msg
  pub messages : messages_sent items ≡ EncodedBy message payload ∷ []
  pub encoded : IsEncoded message payload

abbrev pub IsReplied : Option (List ℕ) → List Item → Type 0
IsReplied None items = messages_sent items ≡ []
IsReplied (Some payload) items = RepliedBy payload items

-- the state of the transport after the reply, and after the user was authenticated
abbrev pub after_reply : {K : Type 0} → Option (List ℕ) → Transport K → Transport K
after_reply None s = s
after_reply (Some payload) s = after_sent s

abbrev pub after_success_where : {K : Type 0} → Bool → Transport K → Transport K
after_success_where true s = after_success s
after_success_where false s = s

-- Nothing refuses the message, and this is answered, with these items.
pub record AnsweredAbove {K : Type 0} (p : Parties K) (side : Side) (e : EndState K) (payload : List ℕ)
    (given : TakenMessage) (reply : Option (List ℕ)) (success : Bool) (authentication : Authentication)
    (channels : Channels) : Type 0 where
  pub message : Msg
  pub sent : List Item
  pub reads : ReadsAbove e message payload
  pub unrefused : first_refusal (above_checks p e message) ≡ None
  pub answers : AnswersAbove p e message given.channel (told (fact_told given.event_kind message given.channel) sent)
      authentication channels
  pub are_sent : AreSent sent
  pub on : channels_sent sent ≡ channels_with (payloads_of (messages_sent sent)) (given.channel ∷ [])
  pub later : (owed : List DueReply) → channels_given given.event_kind owed ≡ []
  pub probing : given.probing ≡ probes e.authentication
  pub replied : IsReplied reply sent
  pub kept : after_items side (told (fact_told given.event_kind message given.channel) sent)
      (after_above side message e.transport)
      ≡ after_success_where success (after_reply reply (after_taken e.transport))

-- Something would be sent, and no number is left for it.
pub record SpentAbove {K : Type 0} (p : Parties K) (e : EndState K) (payload : List ℕ) : Type 0 where
  pub message : Msg
  pub channel : Option ℕ
  pub items : List Item
  pub authentication : Authentication
  pub channels : Channels
  pub reads : ReadsAbove e message payload
  pub unrefused : first_refusal (above_checks p e message) ≡ None
  pub answers : AnswersAbove p e message channel items authentication channels
  pub encoded : AreEncoded items
  pub some : 1 ≤ length (messages_sent items)
  pub none_left : e.transport.sending.count ≡ numbers_of_epoch

-- The peer is refused for the payload, or because no number is left for the reply.
pub data RefusedAbove {K : Type 0} (p : Parties K) (e : EndState K) (payload : List ℕ) : Refusal → Type 0 where
  refused : (why : Refusal) → RefusesAbove p e payload why → RefusedAbove p e payload why
  spent : SpentAbove p e payload → RefusedAbove p e payload refusal.NumberSpent

-- the answer of the layers above to the payload
abbrev pub Judged : {K : Type 0} → Parties K → Side → EndState K → (payload : List ℕ) → Result ServiceReply Refusal →
    Authentication → Channels → Type 0
Judged p side e payload (Ok above) authentication channels =
    AnsweredAbove p side e payload above.step (option_map (λ v. v.items) above.reply) above.success authentication
    channels
Judged p side e payload (Err why) authentication channels = RefusedAbove p e payload why

-- Memory would be taken: something would be sent, or a channel made.
pub record NeedsMemoryAbove {K : Type 0} (p : Parties K) (side : Side) (e : EndState K) (payload : List ℕ) : Type 0 where
  pub items : List Item
  pub would : WouldTake p side e payload items
  pub memory : take_memory items ≡ true

-- ---- the encoding of the answer

-- The transport tells this to the layers above it. If there is a session id, that is told.
pub record IsBeneath {K : Type 0} (m : State K) (below : Beneath) : Type 0 where
  pub session : (id : List ℕ) → m.kept.session ≡ Some id → below.session ≡ id
  pub blocked : below.is_blocked ≡ m.kept.blocked
  pub authenticated : below.is_authenticated ≡ m.kept.authenticated

-- A number is left for the payload, which can be sent.
pub record CanReply {K : Type 0} (m : State K) (payload : List ℕ) : Type 0 where
  pub alive : m.kept.dead ≡ false
  pub room : HasRoom m
  pub can : CanSend m.kept payload

-- The reply is encoded, or there is none.
abbrev pub EncodesReply : {K : Type 0} → State K → Option Msg → Option (List ℕ) → Type 0
EncodesReply m None None = m.kept.dead ≡ false
EncodesReply m (Some message) (Some payload) = IsEncoded message payload × CanReply m payload
EncodesReply m _ _ = ⊥

-- The answer has this step, reply and success. `success`: the message that is taken or sent authenticates the user.
pub record IsMade {K : Type 0} (m : State K) (took : TakenMessage) (message : Option Msg) (success : Bool) (given : TakenMessage)
    (reply : Option (List ℕ)) (successful : Bool) : Type 0 where
  pub step_is : given ≡ took
  pub reply_is : EncodesReply m message reply
  pub success_is : successful ≡ success

-- Something would be sent, and no number is left for it.
pub record IsUnsent {K : Type 0} (m : State K) (message : Option Msg) : Type 0 where
  pub some : IsSome message
  pub none_left : m.kept.sending.count ≡ numbers_of_epoch

-- The answer to a message that was taken in this way, with this message to be sent at once.
abbrev pub IsAnswer : {K : Type 0} → State K → TakenMessage → Option Msg → (success : Bool) → ServiceReply → Type 0
IsAnswer m took message success above =
    IsMade m took message success above.step (option_map (λ v. v.items) above.reply) above.success

-- Memory was refused for the reply.
pub record IsUnencoded {K : Type 0} (m : State K) (message : Option Msg) : Type 0 where
  pub some : IsSome message
  pub room : HasRoom m

-- the reason why there is no answer
abbrev pub NoAnswer : {K : Type 0} → State K → Option Msg → CallError Refusal → Type 0
NoAnswer m message (fault.Refused why) = (why ≡ refusal.NumberSpent) × IsUnsent m message
NoAnswer m message fault.Memory = IsUnencoded m message

-- The property holds of the answer to a payload. If memory was refused, nothing is said.
abbrev pub OnJudged : Result ServiceReply (CallError Refusal) → (Result ServiceReply Refusal → Type 0) → Type 0
OnJudged (Ok above) holds = holds (Ok above)
OnJudged (Err (fault.Refused why)) holds = holds (Err why)
OnJudged (Err fault.Memory) holds = Unit {0}

-- The fact holds if memory was refused.
abbrev pub OnMemory : Result ServiceReply (CallError Refusal) → Type 0 → Type 0
OnMemory (Err fault.Memory) fact = fact
OnMemory given fact = Unit {0}

-- ---- the sending of the answer

abbrev pub CanReplyWith : {K : Type 0} → State K → Option (List ℕ) → Type 0
CanReplyWith m None = m.kept.dead ≡ false
CanReplyWith m (Some payload) = CanReply m payload

-- The answer can be sent.
abbrev pub CanFinish : {K : Type 0} → State K → Result ServiceReply Refusal → Type 0
CanFinish m (Ok above) = CanReplyWith m (option_map (λ v. v.items) above.reply)
CanFinish m (Err why) = m.kept.dead ≡ false

-- The reply is put out, or there is none.
abbrev pub PutsReply : {K : Type 0} → Crypto K → State K → Option (List ℕ) → State K → Outs → Type 0
PutsReply c old None new o = (new ≡ old) × IsQuiet o
PutsReply c old (Some payload) new o = IsPut c old payload new o

-- The answer is put out, and this is the state after it.
pub record FinishedAnswer {K : Type 0} (c : Crypto K) (old : State K) (given : TakenMessage) (reply : Option (List ℕ))
    (success : Bool) (done : Step) (new : State K) (o : Outs) : Type 0 where
  pub between : State K
  pub shown : done ≡ step.Took given
  pub puts : PutsReply c old reply between o
  pub after : new ≡ record between { kept = after_success_where success between.kept }

-- The peer was refused.
pub record FinishedRefusal {K : Type 0} (c : Crypto K) (old : State K) (why : Refusal) (done : Step) (new : State K)
    (o : Outs) : Type 0 where
  pub shown : done ≡ step.Refused why
  pub refused : PeerRefused c old why new o

-- the sending of the layers' answer to a payload
abbrev pub Finished : {K : Type 0} → Crypto K → State K → Result ServiceReply Refusal → Step → State K → Outs → Type 0
Finished c old (Ok above) done new o =
    FinishedAnswer c old above.step (option_map (λ v. v.items) above.reply) above.success done new o
Finished c old (Err why) done new o = FinishedRefusal c old why done new o

-- Something would be sent.
abbrev pub IsReply : Option (List ℕ) → Type 0
IsReply None = ⊥
IsReply (Some payload) = Unit {0}

abbrev pub FinishNeedsMemory : {K : Type 0} → State K → Result ServiceReply Refusal → Type 0
FinishNeedsMemory m (Ok above) = IsReply (option_map (λ v. v.items) above.reply) × HasRoom m
FinishNeedsMemory m (Err why) = RefusalNeedsMemory m why
