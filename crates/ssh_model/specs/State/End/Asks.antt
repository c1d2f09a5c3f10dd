-- How an end answers an ask, from its state, without a history. One constructor is one row (own).
use Rattle.std.specs.Prelude.{◌≡◌, ℕ, ◌<◌, true, false, Some, None, List, [], ◌∷◌, ◌++◌}
use Rattle.ssh_model.specs.declared.side.Side.{Side}
use Rattle.ssh_model.specs.Protocol.Wire.Message.{Msg, Msg.Disconnect}
use Rattle.ssh_model.specs.declared.ask_refusal.AskRefusal.{AskRefusal}
use Rattle.ssh_model.specs.declared.ask_refusal.AskRefusal.TheVariants.{WrongSide}
use Rattle.ssh_model.specs.Protocol.Sessions.Refusals.{Check, Check.RefusedWhere}
use Rattle.ssh_model.specs.declared.refusal.Refusal.TheVariants.{NumberSpent}
use Rattle.ssh_model.specs.Protocol.Sessions.Refusals.{first_refusal}
use Rattle.ssh_model.specs.Protocol.Sessions.Parties.{Parties, user_signature_by}
use Rattle.ssh_model.specs.Protocol.Sessions.Items.{Ask, Ask.AskNone, Ask.AskPassword, Ask.AskProbe, Ask.AskSign}
use Rattle.ssh_model.specs.Protocol.Sessions.Items.{Ask.AskDisconnect, Item, Item.Asked, Item.AskRefused, Item.Sent}
use Rattle.ssh_model.specs.Protocol.Sessions.Items.{Item.Refused, Item.Died, Encoded.EncodedBy, messages_sent}
use Rattle.ssh_model.specs.Protocol.Sessions.Turns.{AreEncoded, IsEncoded}
use Rattle.ssh_model.specs.State.Authentication.Kept as kept
use Rattle.ssh_model.specs.State.Authentication.Kept.{ClientSends, client_checks}
use Rattle.ssh_model.specs.Protocol.Channels.Connection.{after_authentication}
use Rattle.ssh_model.specs.State.Channels.Kept as channels
use Rattle.ssh_model.specs.State.Channels.Kept.{Channels, Sends, send_checks}
use Rattle.ssh_model.specs.State.Channels.Summary.{told}
use Rattle.ssh_model.specs.State.TransportLayer.Kept.{Asks, Transport, message_ask_checks}
use Rattle.ssh_model.specs.State.TransportLayer.Turns.{PutsPackets}
use Rattle.ssh_model.specs.State.End.State.{Authentication, Authentication.OfServer, Authentication.OfClient, EndState}
use Rattle.ssh_model.specs.State.End.State.{after_items, is_due}
use Rattle.ssh_model.specs.Protocol.Bounds.{numbers_of_epoch}

-- the checks on an ask in authentication: a server makes no request
abbrev pub authentication_asks : Authentication → Ask → List (Check AskRefusal)
authentication_asks (OfServer server) (AskNone user) = RefusedWhere true WrongSide ∷ []
authentication_asks (OfServer server) (AskPassword user password) = RefusedWhere true WrongSide ∷ []
authentication_asks (OfServer server) (AskProbe user algorithm key) = RefusedWhere true WrongSide ∷ []
authentication_asks (OfServer server) (AskSign user algorithm key) = RefusedWhere true WrongSide ∷ []
authentication_asks (OfServer server) ask = []
authentication_asks (OfClient client) ask = client_checks client ask

-- the checks on an ask, by the layer that it is for
abbrev pub end_ask_checks : {K : Type 0} → Parties K → Side → EndState K → Ask → List (Check AskRefusal)
end_ask_checks p side e ask =
    message_ask_checks e.transport ask
    ++ (authentication_asks e.authentication ask
    ++ after_authentication e.transport.authenticated
    (send_checks e.transport.blocked (is_due p side e) e.channels ask))

-- The items that the layers above send on an ask that is not refused, the newest first, and the states of these layers after it.
pub data AsksAbove {K : Type 0} (p : Parties K) (e : EndState K) : Ask → List Item → Authentication → Channels →
    Type 0 where
  by_client : (session : List ℕ) (client new : kept.Client) (ask : Ask) (message : Msg) (payload : List ℕ) →
      e.transport.session ≡ Some session → e.authentication ≡ OfClient client →
      ClientSends (user_signature_by p) session client ask message new →
      AsksAbove p e ask (Sent None message payload ∷ []) (OfClient new) e.channels
  by_channels : (ask : Ask) (sent : channels.Sent) (new : Channels) (payload : List ℕ) →
      Sends e.channels ask sent new →
      AsksAbove p e ask (told sent.fact (Sent sent.channel sent.message payload ∷ [])) e.authentication new

-- The items of an ask, the newest first, the bytes that the end puts out, and its state after it.
pub data TakesAsk {K : Type 0} (p : Parties K) (side : Side) (e : EndState K) : Ask → List Item → List ℕ →
    EndState K → Type 0 where
  is_dead : (ask : Ask) → e.transport.dead ≡ true → TakesAsk p side e ask [] [] e
  refused : (ask : Ask) (refusal : AskRefusal) → e.transport.dead ≡ false →
      first_refusal (end_ask_checks p side e ask) ≡ Some refusal →
      TakesAsk p side e ask (AskRefused refusal ∷ Asked ask ∷ []) [] e
  of_transport : {more : List ℕ} (ask : Ask) (message : Msg) (payload : List ℕ) (transport : Transport K) →
      e.transport.dead ≡ false → first_refusal (message_ask_checks e.transport ask) ≡ None →
      Asks e.transport ask message payload transport →
      PutsPackets p.crypto e.transport.sending (EncodedBy message payload ∷ []) more →
      TakesAsk p side e ask (Sent None message payload ∷ Asked ask ∷ []) more (record e { transport = transport })
  disconnects : {more : List ℕ} (description payload : List ℕ) (new : EndState K) → e.transport.dead ≡ false →
      first_refusal (message_ask_checks e.transport (AskDisconnect description)) ≡ None →
      PutsPackets p.crypto e.transport.sending (EncodedBy (Disconnect 11 description []) payload ∷ []) more →
      new.transport.dead ≡ true →
      TakesAsk p side e (AskDisconnect description)
      (Died ∷ Sent None (Disconnect 11 description []) payload ∷ Asked (AskDisconnect description) ∷ []) more new
  above : {more : List ℕ} {items : List Item} {authentication : Authentication} {channels : Channels} (ask : Ask) →
      e.transport.dead ≡ false → first_refusal (end_ask_checks p side e ask) ≡ None →
      AsksAbove p e ask items authentication channels →
      PutsPackets p.crypto e.transport.sending (messages_sent items) more →
      TakesAsk p side e ask (items ++ Asked ask ∷ []) more (record {
        transport = after_items side items e.transport;
        authentication = authentication;
        channels = channels;
      })
  -- No number is left for the message that would be sent.
  spent : (ask : Ask) (message : Msg) (payload : List ℕ) (transport : Transport K) (new : EndState K) →
      e.transport.dead ≡ false → first_refusal (message_ask_checks e.transport ask) ≡ None →
      Asks e.transport ask message payload transport → IsEncoded message payload →
      e.transport.sending.count ≡ numbers_of_epoch → new.transport.dead ≡ true →
      TakesAsk p side e ask (Died ∷ Refused NumberSpent None ∷ Asked ask ∷ []) [] new
  disconnect_spent : (description payload : List ℕ) (new : EndState K) → e.transport.dead ≡ false →
      first_refusal (message_ask_checks e.transport (AskDisconnect description)) ≡ None →
      IsEncoded (Disconnect 11 description []) payload → e.transport.sending.count ≡ numbers_of_epoch →
      new.transport.dead ≡ true →
      TakesAsk p side e (AskDisconnect description)
      (Died ∷ Refused NumberSpent None ∷ Asked (AskDisconnect description) ∷ []) [] new
  above_spent : {items : List Item} {authentication : Authentication} {channels : Channels} (ask : Ask)
      (new : EndState K) → e.transport.dead ≡ false → first_refusal (end_ask_checks p side e ask) ≡ None →
      AsksAbove p e ask items authentication channels → AreEncoded items → e.transport.sending.count ≡ numbers_of_epoch →
      new.transport.dead ≡ true →
      TakesAsk p side e ask (Died ∷ Refused NumberSpent None ∷ Asked ask ∷ []) [] new
  -- Memory fails for the message that would be sent.
  dies : (ask : Ask) (message : Msg) (payload : List ℕ) (transport : Transport K) (new : EndState K) →
      e.transport.dead ≡ false → first_refusal (message_ask_checks e.transport ask) ≡ None →
      Asks e.transport ask message payload transport → IsEncoded message payload →
      e.transport.sending.count < numbers_of_epoch → new.transport.dead ≡ true → TakesAsk p side e ask (Died ∷ []) [] new
  disconnect_dies : (description payload : List ℕ) (new : EndState K) → e.transport.dead ≡ false →
      first_refusal (message_ask_checks e.transport (AskDisconnect description)) ≡ None →
      IsEncoded (Disconnect 11 description []) payload → e.transport.sending.count < numbers_of_epoch →
      new.transport.dead ≡ true → TakesAsk p side e (AskDisconnect description) (Died ∷ []) [] new
  above_dies : {items : List Item} {authentication : Authentication} {channels : Channels} (ask : Ask)
      (new : EndState K) → e.transport.dead ≡ false → first_refusal (end_ask_checks p side e ask) ≡ None →
      AsksAbove p e ask items authentication channels → AreEncoded items → e.transport.sending.count < numbers_of_epoch →
      new.transport.dead ≡ true → TakesAsk p side e ask (Died ∷ []) [] new
