-- When an end may die because memory fails: the items that a payload would give there (own).
use Rattle.std.specs.Prelude.{◌≡◌, ℕ, ◌≤◌, ◌<◌, ◌+◌, Option, Some, None, List, [], ◌∷◌, ◌++◌, length}
use Rattle.ssh_model.specs.declared.side.Side.{Side}
use Rattle.ssh_model.specs.Protocol.Wire.Message.{Msg, Msg.Disconnect}
use Rattle.ssh_model.specs.Protocol.KeyExchange.Choice.{Chosen}
use Rattle.ssh_model.specs.declared.refusal.Refusal.{Refusal}
use Rattle.ssh_model.specs.Protocol.Sessions.Refusals.{first_refusal, refusal_name, refusal_reason}
use Rattle.ssh_model.specs.Protocol.Sessions.Parties.{Parties, agreement_of}
use Rattle.ssh_model.specs.Protocol.Sessions.Items.{Fact.Completed, Item, Item.Took, Item.Told, Encoded, Encoded.EncodedBy}
use Rattle.ssh_model.specs.Protocol.Sessions.Items.{messages_sent}
use Rattle.ssh_model.specs.Protocol.Sessions.Turns.{AreEncoded, IsEncoded}
use Rattle.ssh_model.specs.State.Channels.Kept.{Channels}
use Rattle.ssh_model.specs.State.TransportLayer.Kept.{Answered, Completes, Takes, Transport}
use Rattle.ssh_model.specs.State.TransportLayer.Summary.{answer_items, items_sent, parts_of}
use Rattle.ssh_model.specs.State.TransportLayer.Turns.{IsRefused, refusal_items}
use Rattle.ssh_model.specs.State.End.State.{Authentication, EndState, above_checks}
use Rattle.ssh_model.specs.State.End.Payloads.{Admits, AnswersAbove, GivesOwed, ReadsAbove, RefusesAbove}
use Rattle.ssh_model.specs.Protocol.Bounds.{numbers_of_epoch}

-- The refusal can be said: it has a reason code, `said` encodes the DISCONNECT, and a number is left for
-- it.
pub record CanSay {K : Type 0} (s : Transport K) (refusal : Refusal) (reason : ℕ) (said : List ℕ) : Type 0 where
  pub reason_is : refusal_reason refusal ≡ Some reason
  pub encoded : IsEncoded (Disconnect reason (refusal_name refusal) []) said
  pub few : s.sending.count < numbers_of_epoch

-- the items of a refusal that is said
abbrev pub said_items : Refusal → Option (List ℕ) → (reason : ℕ) → (said : List ℕ) → List Item
said_items refusal payload reason said =
    refusal_items refusal payload (EncodedBy (Disconnect reason (refusal_name refusal) []) said ∷ [])

-- The items that a payload would give if memory did not fail. For each message that they send a number is
-- left.
pub data WouldTake {K : Type 0} (p : Parties K) (side : Side) (e : EndState K) (payload : List ℕ) : List Item →
    Type 0 where
  answered : (chosen : Chosen) (message : Msg) (answered : Answered) (transport : Transport K) →
      Admits p side e.transport chosen message payload →
      Takes (agreement_of p side) e.transport payload message answered transport →
      AreEncoded (items_sent answered.sent) → e.transport.sending.count + length answered.sent ≤ numbers_of_epoch →
      WouldTake p side e payload (answer_items answered ++ Took None message payload ∷ [])
  ended : {owed : List Item} {channels : Channels} (chosen : Chosen) (message : Msg) (last announced : List Encoded)
      (completed transport : Transport K) → Admits p side e.transport chosen message payload →
      Completes p.crypto (parts_of p side) chosen e.transport message last announced completed transport →
      AreEncoded (items_sent (announced ++ last)) → e.transport.sending.count + length last ≤ numbers_of_epoch →
      GivesOwed e.channels owed channels → channels.owed ≡ [] → AreEncoded owed →
      WouldTake p side e payload
      ((Told (Completed (e.transport.sending.epoch + 1)) ∷ (owed ++ items_sent (announced ++ last)))
      ++ Took None message payload ∷ [])
  above : {items : List Item} {authentication : Authentication} {channels : Channels} (message : Msg)
      (channel : Option ℕ) → ReadsAbove e message payload → first_refusal (above_checks p e message) ≡ None →
      AnswersAbove p e message channel items authentication channels → AreEncoded items →
      e.transport.sending.count + length (messages_sent items) ≤ numbers_of_epoch →
      WouldTake p side e payload (items ++ Took channel message payload ∷ [])
  refused_below : (refusal : Refusal) (reason : ℕ) (said : List ℕ) →
      IsRefused (agreement_of p side) p.trusts e.transport payload refusal → CanSay e.transport refusal reason said →
      WouldTake p side e payload (said_items refusal (Some payload) reason said)
  refused_above : (refusal : Refusal) (reason : ℕ) (said : List ℕ) → RefusesAbove p e payload refusal →
      CanSay e.transport refusal reason said →
      WouldTake p side e payload (said_items refusal (Some payload) reason said)

-- All owed replies can be sent, each with a payload that encodes it.
pub record CanSettle (channels : Channels) : Type 0 where
  pub items : List Item
  pub settled : Channels
  pub gives : GivesOwed channels items settled
  pub none_left : settled.owed ≡ []
  pub encoded : AreEncoded items
