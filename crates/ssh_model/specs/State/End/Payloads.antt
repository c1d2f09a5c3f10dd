-- How an end answers a payload, from its state, without a history. One constructor is one row (own).
use Rattle.std.specs.Prelude.{◌≡◌, ℕ, ◌+◌, ◌<◌, ◌≤◌, true, false, Option, Some, None, List, [], ◌∷◌, ◌++◌}
use Rattle.std.specs.Prelude.{length}
use Rattle.ssh_model.specs.declared.side.Side.{Side}
use Rattle.ssh_model.specs.Protocol.Wire.Message.{Msg, Msg.Disconnect, Msg.Unimplemented, Msg.Unknown, IsPayload}
use Rattle.ssh_model.specs.Protocol.KeyExchange.Choice.{Chosen}
use Rattle.ssh_model.specs.declared.refusal.Refusal.{Refusal}
use Rattle.ssh_model.specs.declared.refusal.Refusal.TheVariants.{BadMessage, NumberSpent, Unexpected}
use Rattle.ssh_model.specs.Protocol.Sessions.Refusals.{first_refusal}
use Rattle.ssh_model.specs.Protocol.Sessions.Parties.{Parties, agreement_of}
use Rattle.ssh_model.specs.Protocol.Sessions.Items.{Fact.Completed, Fact.Disconnected, Fact.Ignored, Item, Item.Sent, Item.Took}
use Rattle.ssh_model.specs.Protocol.Sessions.Items.{Item.TookGuess, Item.Told, Item.Refused, Item.Died, Encoded, messages_sent}
use Rattle.ssh_model.specs.Protocol.Sessions.Phases.{Phase.Guessed, Phase.Normal}
use Rattle.ssh_model.specs.Protocol.Sessions.Turns.{AreEncoded, number_of}
use Rattle.ssh_model.specs.Protocol.Authentication.Requests.{judge_of}
use Rattle.ssh_model.specs.State.Authentication.Kept as kept
use Rattle.ssh_model.specs.State.Authentication.Kept.{ClientTakes, ServerTakes}
use Rattle.ssh_model.specs.State.Authentication.Summary.{items_of}
use Rattle.ssh_model.specs.State.Channels.Kept as channels
use Rattle.ssh_model.specs.State.Channels.Kept.{Channels, DueReply, Taken, Unblocks}
use Rattle.ssh_model.specs.State.Channels.Summary.{reply_channel, reply_sent, told}
use Rattle.ssh_model.specs.State.TransportLayer.Kept.{Answered, Completes, Takes, Transport, after_guess, message_checks}
use Rattle.ssh_model.specs.State.TransportLayer.Kept.{takes}
use Rattle.ssh_model.specs.State.TransportLayer.Summary.{IsAwaited, answer_items, items_sent, parts_of}
use Rattle.ssh_model.specs.State.TransportLayer.Turns.{IsRefused, PutsPackets, Reads, SaysWhy, refusal_items}
use Rattle.ssh_model.specs.State.End.State.{Authentication, Authentication.OfServer, Authentication.OfClient, EndState}
use Rattle.ssh_model.specs.State.End.State.{above_checks, after_above, after_items, after_service, probes, session_of}
use Rattle.ssh_model.specs.State.End.State.{takes_above}
use Rattle.ssh_model.specs.Protocol.Bounds.{numbers_of_epoch}

-- ---- below 50

-- The payload is this message, which may be taken, and nothing refuses it. If it is a point or a reply, that is awaited. If
-- it is a reply, it comes in an exchange with these algorithms.
pub record Admits {K : Type 0} (p : Parties K) (side : Side) (s : Transport K) (chosen : Chosen) (message : Msg)
    (payload : List ℕ) : Type 0 where
  pub reads : Reads s message payload
  pub awaited : IsAwaited s chosen message
  pub unrefused : first_refusal (message_checks (agreement_of p side) p.trusts chosen s message) ≡ None

-- ---- from 50 on

-- The payload has a number from 50 on that may be taken, outside an exchange, and it is this message.
pub record ReadsAbove {K : Type 0} (e : EndState K) (message : Msg) (payload : List ℕ) : Type 0 where
  pub above : 50 ≤ number_of payload
  pub normal : e.transport.phase ≡ Normal
  pub taken : takes_above e (number_of payload) ≡ true
  pub message_is : IsPayload (probes e.authentication) message payload

-- The refusal of a payload from 50 on outside an exchange.
pub data RefusesAbove {K : Type 0} (p : Parties K) (e : EndState K) (payload : List ℕ) : Refusal → Type 0 where
  unexpected : 50 ≤ number_of payload → e.transport.phase ≡ Normal → takes_above e (number_of payload) ≡ false →
      RefusesAbove p e payload Unexpected
  bad_message : 50 ≤ number_of payload → e.transport.phase ≡ Normal → takes_above e (number_of payload) ≡ true →
      ((message : Msg) → IsPayload (probes e.authentication) message payload → ⊥) → RefusesAbove p e payload BadMessage
  refused : (message : Msg) (refusal : Refusal) → ReadsAbove e message payload →
      first_refusal (above_checks p e message) ≡ Some refusal → RefusesAbove p e payload refusal

-- a reply that is sent at once, with the payload that encodes it
abbrev pub reply_items : Option DueReply → List ℕ → List Item
reply_items None payload = []
reply_items (Some reply) payload = Sent (reply_channel reply) (reply_sent reply) payload ∷ []

-- The answer of the layers above to a message that is not refused: its local channel, the items, the newest first, and the
-- states of these layers after it.
pub data AnswersAbove {K : Type 0} (p : Parties K) (e : EndState K) : Msg → Option ℕ → List Item → Authentication →
    Channels → Type 0 where
  by_server : (server new : kept.Server) (message : Msg) (answered : kept.Answered) (reply : List ℕ) →
      e.authentication ≡ OfServer server →
      ServerTakes (judge_of p) p.server.methods (session_of e) server message answered new →
      AnswersAbove p e message None (items_of reply answered) (OfServer new) e.channels
  by_client : (client new : kept.Client) (message : Msg) (answered : kept.Answered) →
      e.authentication ≡ OfClient client → ClientTakes client message answered new →
      AnswersAbove p e message None (items_of [] answered) (OfClient new) e.channels
  by_channels : (message : Msg) (taken : Taken) (reply : List ℕ) (new : Channels) →
      channels.Takes e.transport.blocked e.channels message taken new →
      AnswersAbove p e message taken.channel (told taken.fact (reply_items taken.reply reply)) e.authentication new
  -- RFC 4253 section 11.4: UNIMPLEMENTED has the number of the packet
  unknown : (number : ℕ) (reply : List ℕ) → e.transport.taking.count < numbers_of_epoch →
      AnswersAbove p e (Unknown number) None (Sent None (Unimplemented e.transport.taking.number) reply ∷ [])
      e.authentication e.channels

-- ---- owed replies

-- These replies were sent one after the other, the newest first.
pub data GivesOwed (before : Channels) : List Item → Channels → Type 0 where
  nothing : GivesOwed before [] before
  reply : {items : List Item} {between new : Channels} (reply : DueReply) (payload : List ℕ) →
      GivesOwed before items between → Unblocks between (Some reply) new →
      GivesOwed before (Sent (reply_channel reply) (reply_sent reply) payload ∷ items) new

-- ---- a payload

-- The items of a payload, the newest first, the bytes that the end puts out, and its state after it.
pub data TakesPayload {K : Type 0} (p : Parties K) (side : Side) (e : EndState K) (payload : List ℕ) : List Item →
    List ℕ → EndState K → Type 0 where
  -- a message below 50 that ends no exchange
  answered : {more : List ℕ} (chosen : Chosen) (message : Msg) (answered : Answered) (transport : Transport K) →
      Admits p side e.transport chosen message payload →
      Takes (agreement_of p side) e.transport payload message answered transport →
      PutsPackets p.crypto e.transport.sending answered.sent more →
      TakesPayload p side e payload (answer_items answered ++ Took None message payload ∷ []) more
      (record e { transport = transport; authentication = after_service message e.authentication })
  -- the packet after a wrong guess
  skipped : number_of payload < 50 → takes e.transport (number_of payload) ≡ true → e.transport.phase ≡ Guessed →
      TakesPayload p side e payload (Told Ignored ∷ TookGuess payload ∷ []) []
      (record e { transport = after_guess e.transport })
  disconnected : (reason : ℕ) (description language : List ℕ) (new : EndState K) →
      Reads e.transport (Disconnect reason description language) payload → new.transport.dead ≡ true →
      TakesPayload p side e payload
      (Died ∷ Told (Disconnected reason description) ∷ Took None (Disconnect reason description language) payload ∷ [])
      [] new
  -- The message that ends an exchange: the owed replies are sent in the new epoch.
  ended : {early late later : List ℕ} {owed : List Item} {channels : Channels} (chosen : Chosen) (message : Msg)
      (last announced : List Encoded) (completed transport : Transport K) →
      Admits p side e.transport chosen message payload →
      Completes p.crypto (parts_of p side) chosen e.transport message last announced completed transport →
      PutsPackets p.crypto e.transport.sending last early → PutsPackets p.crypto completed.sending announced late →
      GivesOwed e.channels owed channels → channels.owed ≡ [] →
      PutsPackets p.crypto transport.sending (messages_sent owed) later →
      TakesPayload p side e payload
      ((Told (Completed (e.transport.sending.epoch + 1)) ∷ (owed ++ items_sent (announced ++ last)))
      ++ Took None message payload ∷ []) ((early ++ late) ++ later)
      (record e { transport = after_items side owed transport; channels = channels })
  -- a message from 50 on
  above : {more : List ℕ} {items : List Item} {authentication : Authentication} {channels : Channels} (message : Msg)
      (channel : Option ℕ) → ReadsAbove e message payload → first_refusal (above_checks p e message) ≡ None →
      AnswersAbove p e message channel items authentication channels →
      PutsPackets p.crypto e.transport.sending (messages_sent items) more →
      TakesPayload p side e payload (items ++ Took channel message payload ∷ []) more (record {
        transport = after_items side items (after_above side message e.transport);
        authentication = authentication;
        channels = channels;
      })
  -- The peer is refused.
  refused_below : {sent : List Encoded} {more : List ℕ} (refusal : Refusal) (new : EndState K) →
      IsRefused (agreement_of p side) p.trusts e.transport payload refusal →
      SaysWhy p.crypto e.transport refusal sent more → new.transport.dead ≡ true →
      TakesPayload p side e payload (refusal_items refusal (Some payload) sent) more new
  refused_above : {sent : List Encoded} {more : List ℕ} (refusal : Refusal) (new : EndState K) →
      RefusesAbove p e payload refusal → SaysWhy p.crypto e.transport refusal sent more → new.transport.dead ≡ true →
      TakesPayload p side e payload (refusal_items refusal (Some payload) sent) more new
  -- The answer needs more numbers than the epoch has left.
  spent : (chosen : Chosen) (message : Msg) (answered : Answered) (transport : Transport K) (new : EndState K) →
      Admits p side e.transport chosen message payload →
      Takes (agreement_of p side) e.transport payload message answered transport →
      AreEncoded (items_sent answered.sent) → 1 ≤ length answered.sent →
      numbers_of_epoch < e.transport.sending.count + length answered.sent → new.transport.dead ≡ true →
      TakesPayload p side e payload (Died ∷ Refused NumberSpent (Some payload) ∷ []) [] new
  end_spent : {owed : List Item} {channels : Channels} (chosen : Chosen) (message : Msg)
      (last announced : List Encoded) (completed transport : Transport K) (new : EndState K) →
      Admits p side e.transport chosen message payload →
      Completes p.crypto (parts_of p side) chosen e.transport message last announced completed transport →
      AreEncoded (items_sent (announced ++ last)) → GivesOwed e.channels owed channels → channels.owed ≡ [] →
      AreEncoded owed → numbers_of_epoch < e.transport.sending.count + length last → new.transport.dead ≡ true →
      TakesPayload p side e payload (Died ∷ Refused NumberSpent (Some payload) ∷ []) [] new
  above_spent : {items : List Item} {authentication : Authentication} {channels : Channels} (message : Msg)
      (channel : Option ℕ) (new : EndState K) → ReadsAbove e message payload →
      first_refusal (above_checks p e message) ≡ None →
      AnswersAbove p e message channel items authentication channels → AreEncoded items →
      1 ≤ length (messages_sent items) → e.transport.sending.count ≡ numbers_of_epoch → new.transport.dead ≡ true →
      TakesPayload p side e payload (Died ∷ Refused NumberSpent (Some payload) ∷ []) [] new
