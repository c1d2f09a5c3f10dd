-- The claims on the runs of two ends (own, if nothing else is said).
use Rattle.std.specs.Prelude.{◌≡◌, ℕ, suc, ◌<◌, ◌≤◌, true, false, List, [], ◌∷◌, ◌++◌, ◌⊎◌, reverse, length, map}
use Rattle.std.specs.Prelude.{Option, Some, Bool, ◌||◌}
use Rattle.ssh_model.specs.declared.side.Side.{Side}
use Rattle.ssh_model.specs.declared.side.Side.TheVariants.{Client, Server}
use Rattle.ssh_model.specs.Protocol.Side.{peer, DoneBy.By, part}
use Rattle.ssh_model.specs.Protocol.Lists.{IsPrefix}
use Rattle.ssh_model.specs.Protocol.Wire.Message.{Msg, Msg.UserauthRequest, Msg.ChannelOpen, Method}
use Rattle.ssh_model.specs.Protocol.Sessions.Parties.{Parties}
use Rattle.ssh_model.specs.declared.refusal.Refusal.{Refusal}
use Rattle.ssh_model.specs.declared.refusal.Refusal.TheVariants.{UnknownChannel, WindowOverrun}
use Rattle.ssh_model.specs.declared.refusal.Refusal.TheVariants.{WindowTooLarge}
use Rattle.ssh_model.specs.Protocol.Sessions.Items.{Item, Item.Sent, Item.Took, Item.TookGuess, Item.Refused, Payload, bytes_of}
use Rattle.ssh_model.specs.Protocol.Sessions.Items.{Done, sent, took, Encoded, Encoded.EncodedBy, messages_sent}
use Rattle.ssh_model.specs.Protocol.Sessions.Epochs.{epoch, after_first}
use Rattle.ssh_model.specs.Protocol.KeyExchange.Exchanges.{nth, no_exchange, none_chosen, exchanges, choices}
use Rattle.ssh_model.specs.Protocol.Sessions.Phases.{sent_success}
use Rattle.ssh_model.specs.Protocol.Authentication.Requests.{is_accepted}
use Rattle.ssh_model.specs.Protocol.Channels.Numbers.{is_held}
use Rattle.ssh_model.specs.Protocol.Channels.Message.{Channel}
use Rattle.ssh_model.specs.Protocol.Channels.Notes.{next_own, next_theirs}
use Rattle.ssh_model.specs.Protocol.Channels.Claims.{Within, WindowsHere, data_sent, data_received}
use Rattle.ssh_model.specs.Protocol.Channels.History.{is_owed}
use Rattle.ssh_model.specs.Protocol.Channels.Connection.{notes, owed_replies, channel_items}
use Rattle.ssh_model.specs.Protocol.Sessions.Turns.{number_of}

-- ---- agreement

-- The end took a message under the keys of exchange e, counted from 0.
abbrev pub TookUnder : ℕ → List Item → Type 0
TookUnder e [] = ⊥
TookUnder e (Took channel message payload ∷ h) = (epoch (took h) ≡ suc e) ⊎ TookUnder e h
TookUnder e (TookGuess payload ∷ h) = (epoch (took h) ≡ suc e) ⊎ TookUnder e h
TookUnder e (_ ∷ h) = TookUnder e h

-- Both ends completed exchange e, with the same eight inputs and the same algorithms.
pub record Agrees {K : Type 0} (p : Parties K) (e : ℕ) (run : List Done) : Type 0 where
  pub by_client : e < length (exchanges p Client (part Client run))
  pub by_server : e < length (exchanges p Server (part Server run))
  pub same : nth no_exchange e (exchanges p Client (part Client run))
      ≡ nth no_exchange e (exchanges p Server (part Server run))
  pub same_choice : nth none_chosen e (choices Client (part Client run))
      ≡ nth none_chosen e (choices Server (part Server run))

-- The ends agree on every exchange that the client completed, and on every exchange under whose keys the server took a message.
abbrev pub Agreement : {K : Type 0} → Parties K → List Done → Type 0
Agreement p run =
    (e : ℕ) → (e < length (exchanges p Client (part Client run)) ⊎ TookUnder e (part Server run)) → Agrees p e run

-- ---- payloads after NEWKEYS, in their order

-- the payloads after the first NEWKEYS, in the order of time
abbrev pub after_newkeys : List Payload → List (List ℕ)
after_newkeys l = reverse (map bytes_of (after_first l))

-- The payloads that each end took after its first NEWKEYS are a prefix of those that the other sent after its own.
abbrev pub Beginning : List Done → Type 0
Beginning run =
    (side : Side) → IsPrefix (after_newkeys (took (part side run))) (after_newkeys (sent (part (peer side) run)))

-- ---- the accepted request

-- The payload is that of one of these messages, which an end sent.
abbrev pub IsSent : List ℕ → List Encoded → Type 0
IsSent payload [] = ⊥
IsSent payload (EncodedBy message other ∷ l) = (payload ≡ other) ⊎ IsSent payload l

-- After this run the server takes a request that it accepts, and it accepted none before. The client had sent the request.
pub record IsAcceptedRequest {K : Type 0} (p : Parties K) (message : Msg) (payload : List ℕ) (run : List Done) :
    Type 0 where
  pub user : List ℕ
  pub service : List ℕ
  pub method : Method
  pub message_is : message ≡ UserauthRequest user service method
  pub accepted : is_accepted p (part Server run) user service method ≡ true
  pub before : sent_success (part Server run) ≡ false
  pub had_sent : IsSent payload (messages_sent (part Client run))

-- In this run the server takes such a request.
abbrev pub HasAccepted : {K : Type 0} → Parties K → List Done → Type 0
HasAccepted p [] = ⊥
HasAccepted p (By Server (Took channel message payload) ∷ run) =
    IsAcceptedRequest p message payload run ⊎ HasAccepted p run
HasAccepted p (_ ∷ run) = HasAccepted p run

-- One of these payloads is numbered 80 or above.
abbrev pub HasConnection : List Payload → Type 0
HasConnection [] = ⊥
HasConnection (payload ∷ l) = (80 ≤ number_of (bytes_of payload)) ⊎ HasConnection l

-- The number is in use by a channel: one that is not over, or one on which the end owes a CLOSE.
abbrev pub holds : Side → List Item → ℕ → Bool
holds side h x = is_held x (notes side h) || is_owed x (owed_replies side h)

-- No channel is held, and no message of the connection is sent or taken, unless the server accepted a request that the
-- client had sent.
pub record Authorized {K : Type 0} (p : Parties K) (run : List Done) : Type 0 where
  pub messages : (side : Side) → (HasConnection (sent (part side run)) ⊎ HasConnection (took (part side run))) →
      HasAccepted p run
  pub channels : (side : Side) (x : ℕ) → holds side (part side run) x ≡ true → HasAccepted p run

-- ---- windows (RFC 4254 section 5.2)

-- No window is overrun, on any channel, at either end. Data sent is at most the window taken. Data taken is at most the
-- window granted. The messages taken on a channel are a prefix of those that the other end said on it (RFC 4254 section 5.2).
abbrev pub Windows : List Done → Type 0
Windows run = (side : Side) → Within (notes side (part side run)) (notes (peer side) (part (peer side) run))

-- The two inequalities hold at one end (RFC 4254 section 5.2).
abbrev pub WindowsAt : Side → List Item → Type 0
WindowsAt side h = WindowsHere (notes side h)

-- ---- no refusal between the two

-- The refusal is neither of an unknown channel, nor of a window that is overrun or too large.
abbrev pub IsOtherRefusal : Refusal → Type 0
IsOtherRefusal UnknownChannel = ⊥
IsOtherRefusal WindowOverrun = ⊥
IsOtherRefusal WindowTooLarge = ⊥
IsOtherRefusal _ = Unit {0}

-- No end refuses the other because of an unknown channel or of a window.
abbrev pub NoneRefused : List Done → Type 0
NoneRefused [] = Unit {0}
NoneRefused (By side (Refused refusal payload) ∷ run) = IsOtherRefusal refusal × NoneRefused run
NoneRefused (_ ∷ run) = NoneRefused run

-- ---- partners

-- A whole OPEN: the message, the payload that encodes it, and the payloads after the first NEWKEYS that went before it,
-- in the order of time.
pub record WholeOpen : Type 0 where
  pub message : Msg
  pub payload : List ℕ
  pub before : List (List ℕ)

-- The channel is the next one. The OPEN is this message with this payload, and it went after these payloads, with a NEWKEYS
-- among them.
pub record OpensNext (channel next : Channel) (whole : WholeOpen) (message : Msg) (payload : List ℕ)
    (gone : List Payload) : Type 0 where
  pub channel_is : channel ≡ next
  pub message_is : whole.message ≡ message
  pub payload_is : whole.payload ≡ payload
  pub before_is : whole.before ≡ after_newkeys gone
  pub keyed : 0 < epoch gone

-- The end of this side opened the channel with this OPEN.
abbrev pub SentOpen : Side → Channel → WholeOpen → List Item → Type 0
SentOpen side channel whole [] = ⊥
SentOpen side channel whole (Sent (Some number) (ChannelOpen kind sender window max_packet rest) payload ∷ h) =
    OpensNext channel (next_own side (notes side h)) whole
    (ChannelOpen kind sender window max_packet rest) payload (sent h) ⊎ SentOpen side channel whole h
SentOpen side channel whole (_ ∷ h) = SentOpen side channel whole h

-- The end of this side took this OPEN of the channel, and gave the channel a number.
abbrev pub TookOpen : Side → Channel → WholeOpen → List Item → Type 0
TookOpen side channel whole [] = ⊥
TookOpen side channel whole (Took (Some number) (ChannelOpen kind sender window max_packet rest) payload ∷ h) =
    OpensNext channel (next_theirs side (notes side h)) whole
    (ChannelOpen kind sender window max_packet rest) payload (took h) ⊎ TookOpen side channel whole h
TookOpen side channel whole (_ ∷ h) = TookOpen side channel whole h

-- The channel has a partner: the channel of the other end with the same whole OPEN. One end sent this OPEN, and the other
-- end took it. At both ends it has the same place among the payloads after the first NEWKEYS.
pub data HasPartner (side : Side) (channel : Channel) (run : List Done) : Type 0 where
  own : (whole : WholeOpen) → SentOpen side channel whole (part side run) →
      TookOpen (peer side) channel whole (part (peer side) run) → HasPartner side channel run
  theirs : (whole : WholeOpen) → TookOpen side channel whole (part side run) →
      SentOpen (peer side) channel whole (part (peer side) run) → HasPartner side channel run

-- Neither end refuses the other for its channels. The data taken on a channel, each piece with its type, is a prefix of
-- the data that the other end sent on it. Each channel on which data was taken has a partner.
pub record NoFalseAlarm (run : List Done) : Type 0 where
  pub unrefused : NoneRefused run
  pub in_order : (side : Side) (i : Channel) → (rest : List (Option ℕ × List ℕ))
      × (reverse (data_received side i (channel_items (part side run))) ++ rest
      ≡ reverse (data_sent (peer side) i (channel_items (part (peer side) run))))
  pub partners : (side : Side) (i : Channel) → (data_received side i (channel_items (part side run)) ≡ [] → ⊥) →
      HasPartner side i run

-- All claims on an honest run of two ends that offer strict key exchange.
pub record IsSafe {K : Type 0} (p : Parties K) (run : List Done) : Type 0 where
  pub agreement : Agreement p run
  pub beginning : Beginning run
  pub authorized : Authorized p run
  pub windows : Windows run
  pub no_false_alarm : NoFalseAlarm run
