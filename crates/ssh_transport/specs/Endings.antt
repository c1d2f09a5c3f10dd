-- What ends an exchange, as a turn of a session.
use Rattle.std.specs.Prelude.{◌≡◌, ℕ, false, true, Some, List, ◌++◌, ◌≤◌, ◌+◌, None, [], ◌∷◌, length}
use Rattle.ssh_model.specs.declared.side.Side.{Side}
use Rattle.ssh_model.specs.Protocol.Wire.Message.{Msg}
use Rattle.ssh_model.specs.Protocol.KeyExchange.Choice.{Chosen}
use Rattle.ssh_model.specs.Protocol.KeyExchange.Exchanges.{choice}
use Rattle.ssh_model.specs.Protocol.Sessions.Epochs.{epoch}
use Rattle.ssh_model.specs.Protocol.Sessions.Items.{Item, Encoded, sent, Item.Died, Item.Refused}
use Rattle.ssh_model.specs.Protocol.Sessions.Parties.{Parties, agreement_of}
use Rattle.ssh_model.specs.declared.refusal.Refusal.{Refusal}
use Rattle.ssh_model.specs.Protocol.Sessions.Turns.{AreEncoded}
use Rattle.ssh_model.specs.State.TransportLayer.Kept.{Transport, Completes, message_checks}
use Rattle.ssh_model.specs.State.TransportLayer.Summary.{items_sent, IsAwaited, parts_of}
use Rattle.ssh_model.specs.State.TransportLayer.Turns.{EndedBy, Turned, refusal_items, Reads}
use Rattle.ssh_model.specs.Protocol.Wire.Sealing.{Crypto}
use Rattle.ssh_message.specs.Meaning.{NoMessage}
use Rattle.ssh_transport_machine.specs.State.{State}
use Rattle.ssh_transport_machine.specs.Puts.{Outs, Refuses, payloads_of}
use Rattle.ssh_model.specs.Protocol.Channels.Connection.{AreReplies, owed_replies}
use Rattle.ssh_model.specs.declared.refusal.Refusal.TheVariants.{NumberSpent}
use Rattle.ssh_model.specs.declared.refusal.Refusal.TheVariants as refusals
use Rattle.ssh_model.specs.Protocol.Sessions.Refusals.{first_refusal}
use Rattle.ssh_transport_machine.specs.Answering.{IsQuiet}
use Rattle.ssh_model.specs.Protocol.Bounds.{numbers_of_epoch}

-- The payload ends an exchange, with the algorithms that its two KEXINITs choose. What is done with it, up to what is
-- announced, is what a session does, whatever is owed after it.
pub record ExchangeEnds {K : Type 0} (p : Parties K) (side : Side) (history : List Item) (payload : List ℕ)
    (position : ℕ) (algorithms : Chosen) (new : Transport K) (o : Outs) : Type 0 where
  pub chosen_is : choice side (epoch (sent history)) history ≡ algorithms
  pub message : Msg
  pub sent : List Encoded
  pub more : List ℕ
  pub ended : EndedBy p side history message payload position (items_sent sent) more new
  pub parts : o.after ≡ o.before ++ more
  pub lists : o.payloads_after ≡ o.payloads_before ++ payloads_of sent

-- The payload is refused, as a turn of a session.
pub record PayloadRefused {K : Type 0} (p : Parties K) (side : Side) (history : List Item) (payload : List ℕ)
    (refusal : Refusal) (new : Transport K) (o : Outs) : Type 0 where
  pub said : List Encoded
  pub more : List ℕ
  pub turned : Turned p side history payload (refusal_items refusal (Some payload) said) more new
  pub parts : o.after ≡ o.before ++ more
  pub lists : o.payloads_after ≡ o.payloads_before ++ payloads_of said

-- The payload that is shown is no message, and the peer was refused for that. What is read of the peer stays as it was.
pub record MessageRefused {K : Type 0} (c : Crypto K) (old new : State K) (o : Outs) : Type 0 where
  pub unread : NoMessage false old.receiver.payload
  pub refuses : Refuses c old.kept refusals.BadMessage new.kept o
  pub reading : new ≡ record old { kept = new.kept }

-- The payload would end an exchange, and too few numbers are left for it: nothing is put out, and the end is over.
pub record IsSpentEnd {K : Type 0} (p : Parties K) (side : Side) (history : List Item) (payload : List ℕ)
    (new : Transport K) (o : Outs) : Type 0 where
  pub turned : (owed : List Item) → AreReplies (owed_replies side history) owed → AreEncoded owed →
      Turned p side history payload (Died ∷ Refused NumberSpent (Some payload) ∷ []) [] new
  pub dead : new.dead ≡ true
  pub quiet : IsQuiet o

-- ---- where memory fails

-- The payload would end an exchange: what is sent up to what is announced has an encoding, and numbers of its own.
pub record WouldEnd {K : Type 0} (p : Parties K) (side : Side) (s : Transport K) (payload : List ℕ) : Type 0 where
  pub chosen : Chosen
  pub message : Msg
  pub last : List Encoded
  pub announced : List Encoded
  pub completed : Transport K
  pub new : Transport K
  pub reads : Reads s message payload
  pub awaited : IsAwaited s chosen message
  pub unrefused : first_refusal (message_checks (agreement_of p side) p.trusts chosen s message) ≡ None
  pub completes : Completes p.crypto (parts_of p side) chosen s message last announced completed new
  pub encoded : AreEncoded (items_sent (announced ++ last))
  pub room : s.sending.count + length last ≤ numbers_of_epoch
