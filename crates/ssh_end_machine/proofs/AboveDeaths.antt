-- Where memory is refused above its transport an end dies as in a session.
use Rattle.std.proofs.Common.{◌≡◌, ℕ, ◌+◌, ◌<◌, ◌≤◌, ◌^◌, Bool, true, false, List, [], ◌∷◌, ◌++◌, ◌&&◌, length, arith, refl, ap, sym, ◌∙◌, subst, Option, None, Some}
use Rattle.std.proofs.lemmas.Bool.{leb-false}
use Rattle.ssh_model.specs.Protocol.Bounds.{most_channels}
use Rattle.ssh_model.specs.declared.side.Side.{Side}
use Rattle.ssh_model.specs.Protocol.Wire.Message.{Msg, Msg.ChannelOpen}
use Rattle.ssh_model.specs.State.Channels.Kept as channels
use Rattle.ssh_model.specs.State.Channels.Kept.{Channels, IsUnused, is_queue_full, is_table_full, used}
use Rattle.ssh_model.specs.State.Channels.Summary.{told}
use Rattle.ssh_model.specs.State.End.Deaths.{WouldTake}
use Rattle.ssh_model.specs.State.End.Payloads as payloads
use Rattle.ssh_model.specs.State.End.Payloads.{AnswersAbove, ReadsAbove, RefusesAbove}
use Rattle.ssh_model.specs.State.End.State.{Authentication, Authentication.OfClient, Authentication.OfServer, EndState, above_checks, authentication_refuses, session_of}
use Rattle.ssh_model.specs.Protocol.Sessions.Items.{Fact, Fact.Opened, Item, Item.Sent, Item.Told, Item.Took, Encoded, Encoded.EncodedBy, messages_sent}
use Rattle.ssh_model.specs.Protocol.Sessions.Parties.{Parties}
use Rattle.ssh_model.specs.declared.refusal.Refusal.TheVariants.{OwedFull}
use Rattle.ssh_model.specs.Protocol.Sessions.Refusals.{Check.RefusedWhere, first_refusal}
use Rattle.ssh_model.specs.Protocol.Sessions.Turns.{AreEncoded, IsEncoded, take_memory}
use Rattle.ssh_model.specs.Laws.Farewells.{farewell_of}
use Rattle.ssh_model.specs.Laws.Places.{some_unused}
use Rattle.ssh_channels.specs.Rows.{OpensChannel}
use Rattle.ssh_transport_machine.specs.State.{State}
use Rattle.ssh_transport_machine.specs.Answering.{RefusalNeedsMemory}
use Rattle.ssh_model.specs.declared.refusal.Refusal as code
use Rattle.ssh_end_machine.specs.Above.{AnsweredAbove, IsReply, NeedsMemoryAbove}
use Rattle.ssh_end_machine.specs.Steps.{AreSent, fact_told}
use Rattle.ssh_end_machine.specs.declared.step.TakenMessage.{TakenMessage}
use Rattle.ssh_end_machine.proofs.Finishing.{told_sends}
use Rattle.ssh_end_machine.proofs.TurningDeaths.{front_memory, some_memory}
use Rattle.ssh_end_machine.proofs.TurningReplies.{EncodedAbove}

-- ---- a reply that is encoded

none_sent : (items : List Item) → AreSent items → messages_sent items ≡ [] → AreEncoded items
none_sent [] are e = tt
none_sent (Sent channel message payload ∷ items) are e = absurd (cc e)
none_sent (_ ∷ items) are e = absurd are

abbrev head_of : Encoded → List Encoded → Encoded
head_of one [] = one
head_of one (first ∷ l) = first

abbrev tail_of : List Encoded → List Encoded
tail_of [] = []
tail_of (first ∷ l) = l

abbrev IsSaid : Encoded → Type 0
IsSaid (EncodedBy message payload) = IsEncoded message payload

one_encoded : (items : List Item) → AreSent items → (message : Msg) (payload : List ℕ) → messages_sent items ≡ EncodedBy message payload ∷ [] → IsEncoded message payload → AreEncoded items
one_encoded [] are m b e s = tt
one_encoded (Sent channel message payload ∷ items) are m b e s =
    (subst IsSaid (sym (ap (head_of (EncodedBy m b)) e)) s, none_sent items are (ap tail_of e))
one_encoded (_ ∷ items) are m b e s = absurd are

told_encoded : (fact : Option Fact) (items : List Item) → AreEncoded items → AreEncoded (told fact items)
told_encoded None items x = x
told_encoded (Some fact) items x = x

-- What these items of a message above take of memory, where a number is left.
pub lacks_by : {K : Type 0} (p : Parties K) (side : Side) (e : EndState K) (payload : List ℕ) (message : Msg) (channel : Option ℕ) (items : List Item) (authentication : Authentication) (kept : Channels) → ReadsAbove e message payload → first_refusal (above_checks p e message) ≡ None → AnswersAbove p e message channel items authentication kept →
    AreEncoded items → e.transport.sending.count + length (messages_sent items) ≤ 2 ^ 32 → take_memory items ≡ true → NeedsMemoryAbove p side e payload
lacks_by p side e payload message channel items authentication kept reads fine answers encoded room memory = record {
  items = items ++ Took channel message payload ∷ [];
  would = WouldTake.above message channel reads fine answers encoded room;
  memory = front_memory items (Took channel message payload ∷ []) memory;
}

-- A reply would be sent.
pub answered_lacks : {K : Type 0} (p : Parties K) (side : Side) (e : EndState K) (payload : List ℕ) (given : TakenMessage) (reply : Option (List ℕ)) (success : Bool) (authentication : Authentication) (kept : Channels) → AnsweredAbove p side e payload given reply success authentication kept → IsReply reply →
    e.transport.sending.count < 2 ^ 32 → NeedsMemoryAbove p side e payload
answered_lacks p side e payload given None success authentication kept x some room = absurd some
answered_lacks p side e payload given (Some reply) success authentication kept x some room =
    let fact : Option Fact = fact_told given.event_kind x.message given.channel in
    let one : messages_sent (told fact x.sent) ≡ EncodedBy x.replied.message reply ∷ [] = told_sends fact x.sent ∙ x.replied.messages in
    let length_is : length (messages_sent (told fact x.sent)) ≡ 1 = ap length one in
    lacks_by p side e payload x.message given.channel (told fact x.sent) authentication kept x.reads x.unrefused x.answers
    (told_encoded fact x.sent (one_encoded x.sent x.are_sent x.replied.message reply x.replied.messages x.replied.encoded))
    (omega (arith, room, length_is)) (some_memory (told fact x.sent) (omega (arith, length_is)))

-- Why the peer is refused would be said.
pub refused_lacks : {K : Type 0} (p : Parties K) (side : Side) (e : EndState K) (payload : List ℕ) (m : State K) (why : code.Refusal) → RefusesAbove p e payload why → RefusalNeedsMemory m why → e.transport.sending.count < 2 ^ 32 → NeedsMemoryAbove p side e payload
refused_lacks p side e payload m why x y room =
    let say = farewell_of why y.reason in
    record {
      items = _;
      would = WouldTake.refused_above why say.reason say.encoding.payload x (record { reason_is = say.reason_is; encoded = say.encoding.encodes; few = room });
      memory = refl;
    }

-- ---- a channel that is made

a_number : (c : Channels) → length c.places ≡ most_channels → is_table_full c.places ≡ false → (number : ℕ) × IsUnused c.places number
a_number c size free =
    let few = leb-false most_channels (used c.places) free in
    let x = some_unused c.places (omega (arith, few, size)) in
    (x.0, record { inside = omega (arith, x.1, size); nothing = x.2 })

-- nothing refuses an OPEN for which a number is free
open_fine : (c : Channels) (is_blocked : Bool) → is_table_full c.places ≡ false → first_refusal (RefusedWhere (is_table_full c.places && is_queue_full is_blocked c.owed) OwedFull ∷ []) ≡ None
open_fine c is_blocked free = ap (λ (b : Bool). first_refusal (RefusedWhere (b && is_queue_full is_blocked c.owed) OwedFull ∷ [])) free

-- A channel would be made, where authentication refuses no message of a channel.
pub channel_lacks : {K : Type 0} (p : Parties K) (side : Side) (e : EndState K) (payload : List ℕ) → length e.channels.places ≡ most_channels → e.transport.sending.count ≤ 2 ^ 32 → (message : Msg) → OpensChannel e.channels message → ReadsAbove e message payload → NeedsMemoryAbove p side e payload
channel_lacks p side e payload size few (ChannelOpen kind sender window max_packet rest) free reads =
    let n = a_number e.channels size free in
    lacks_by p side e payload (ChannelOpen kind sender window max_packet rest) (Some n.0) (Told (Opened n.0 kind window max_packet rest) ∷ []) e.authentication _ reads (fine e.authentication)
    (payloads.AnswersAbove.by_channels (ChannelOpen kind sender window max_packet rest) (channels.tells (Some n.0) (Opened n.0 kind window max_packet rest)) [] _ (channels.Takes.open_taken n.0 kind sender window max_packet rest n.1))
    tt (omega (arith, few)) refl
  where
    fine : (a : Authentication) → first_refusal (authentication_refuses p (session_of e) a (ChannelOpen kind sender window max_packet rest) ++ channels.take_checks e.transport.blocked e.channels (ChannelOpen kind sender window max_packet rest)) ≡ None
    fine (OfServer server) = open_fine e.channels e.transport.blocked free
    fine (OfClient client) = open_fine e.channels e.transport.blocked free
channel_lacks p side e payload size few _ free reads = absurd free

-- What would be sent, which has an encoding, where a number is left.
pub encoded_lacks : {K : Type 0} (p : Parties K) (side : Side) (e : EndState K) (payload : List ℕ) → EncodedAbove p e payload → e.transport.sending.count < 2 ^ 32 → NeedsMemoryAbove p side e payload
encoded_lacks p side e payload x room = lacks_by p side e payload x.message x.channel x.items x.authentication x.channels x.reads x.unrefused x.answers x.encoded (omega (arith, room, x.one)) (some_memory x.items (omega (arith, x.one)))
