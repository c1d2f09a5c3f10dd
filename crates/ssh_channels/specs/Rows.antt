-- The checks on a message, and the words in which the rows of single messages and asks are stated.
use Rattle.std.specs.Prelude.{◌≡◌, ℕ, Bool, true, false, not, ◌&&◌, Option, Some, None, List, ◌∷◌}
use Rattle.ssh_model.specs.Protocol.Bounds.{most_waiting_globals, most_waiting_requests}
use Rattle.ssh_model.specs.Protocol.Wire.Message.{Msg, Msg.GlobalRequest, Msg.RequestSuccess, Msg.RequestFailure, Msg.ChannelOpen, Msg.ChannelOpenConfirmation, Msg.ChannelOpenFailure, Msg.ChannelWindowAdjust, Msg.ChannelData, Msg.ChannelExtendedData, Msg.ChannelEof, Msg.ChannelClose, Msg.ChannelRequest, Msg.ChannelSuccess, Msg.ChannelFailure}
use Rattle.ssh_model.specs.declared.refusal.Refusal.{Refusal}
use Rattle.ssh_model.specs.declared.refusal.Refusal.TheVariants.{Unexpected}
use Rattle.ssh_model.specs.Protocol.Sessions.Refusals.{Check, Check.RefusedWhere, first_refusal}
use Rattle.ssh_model.specs.Protocol.Sessions.Items.{Ask, Ask.AskOpen, Ask.AskRequest, Ask.AskGlobal}
use Rattle.ssh_model.specs.State.Channels.Places.{at, is_at}
use Rattle.ssh_model.specs.Protocol.Channels.Connection.{is_limit_reached}
use Rattle.ssh_model.specs.State.Channels.Kept.{Channels, Sends, Takes, is_table_full, send_checks, take_checks}
use Rattle.ssh_model.specs.declared.ask_refusal.AskRefusal.{AskRefusal}
use Rattle.ssh_types.specs.declared.call_error.CallError.{CallError}
use Rattle.ssh_types.specs.declared.call_error.CallError.TheVariants.{Refused, Memory}
use Rattle.ssh_channels.specs.Values.{sent_of, taken_of}
use Rattle.ssh_channels.specs.declared.event.MessageToSend.{MessageToSend}
use Rattle.ssh_channels.specs.declared.event.Taken.{Taken}

-- a message of the connection (RFC 4254)
abbrev pub is_connection : Msg → Bool
is_connection (GlobalRequest name want rest) = true
is_connection (RequestSuccess rest) = true
is_connection RequestFailure = true
is_connection (ChannelOpen kind sender window max_packet rest) = true
is_connection (ChannelOpenConfirmation recipient sender window max_packet rest) = true
is_connection (ChannelOpenFailure recipient reason description language) = true
is_connection (ChannelWindowAdjust recipient bytes) = true
is_connection (ChannelData recipient body) = true
is_connection (ChannelExtendedData recipient kind body) = true
is_connection (ChannelEof recipient) = true
is_connection (ChannelClose recipient) = true
is_connection (ChannelRequest recipient name want rest) = true
is_connection (ChannelSuccess recipient) = true
is_connection (ChannelFailure recipient) = true
is_connection _ = false

-- A message of another layer may not come here.
abbrev pub message_checks : (is_blocked : Bool) → Channels → Msg → List (Check Refusal)
message_checks is_blocked channels message = RefusedWhere (not (is_connection message)) Unexpected ∷ take_checks is_blocked channels message

-- data, or extended data if a kind is given
abbrev pub data_message : (recipient : ℕ) → Option ℕ → List ℕ → Msg
data_message recipient None body = ChannelData recipient body
data_message recipient (Some kind) body = ChannelExtendedData recipient kind body

-- the reply to a request on a channel
abbrev pub reply_message : (recipient : ℕ) → Bool → Msg
reply_message recipient true = ChannelSuccess recipient
reply_message recipient false = ChannelFailure recipient

-- the reply to a global request
abbrev pub global_reply_message : Bool → List ℕ → Msg
global_reply_message true rest = RequestSuccess rest
global_reply_message false rest = RequestFailure

-- ---- effects

-- The message is taken so.
abbrev pub TakesRow : (is_blocked : Bool) → (old : Channels) → Msg → Taken → (new : Channels) → Type 0
TakesRow is_blocked old message taken new = Takes is_blocked old message (taken_of message taken) new

-- This is sent on the ask.
abbrev pub SendsRow : (old : Channels) → Ask → MessageToSend → (new : Channels) → Type 0
SendsRow old ask sent new = Sends old ask (sent_of ask sent) new

-- ---- why a message is not taken, and why nothing is sent on an ask

-- The message opens a channel, and a number is free.
abbrev pub OpensChannel : Channels → Msg → Type 0
OpensChannel channels (ChannelOpen kind sender window max_packet rest) = is_table_full channels.places ≡ false
OpensChannel channels _ = ⊥

abbrev pub IsTakeError : (is_blocked : Bool) → Channels → Msg → CallError Refusal → Type 0
IsTakeError is_blocked channels message (Refused refusal) = first_refusal (message_checks is_blocked channels message) ≡ Some refusal
IsTakeError is_blocked channels message Memory = OpensChannel channels message

-- A request more cannot wait for a reply, so an ask for one is refused before it is said that an exchange is due.
abbrev pub is_busy : Channels → Ask → Bool
is_busy channels (AskRequest number name want rest) =
    want && is_at (λ kept. is_limit_reached most_waiting_requests kept.waiting_there) (at channels.places number)
is_busy channels (AskGlobal name want rest) = want && is_limit_reached most_waiting_globals channels.globals_there
is_busy channels _ = false

-- The ask is for a channel, and nothing refuses it.
abbrev pub AsksForChannel : (is_blocked is_due : Bool) → Channels → Ask → Type 0
AsksForChannel is_blocked is_due channels (AskOpen kind window max_packet rest) = first_refusal (send_checks is_blocked is_due channels (AskOpen kind window max_packet rest)) ≡ None
AsksForChannel is_blocked is_due channels _ = ⊥

abbrev pub IsAskError : (is_blocked is_due : Bool) → Channels → Ask → CallError AskRefusal → Type 0
IsAskError is_blocked is_due channels ask (Refused refusal) = first_refusal (send_checks is_blocked is_due channels ask) ≡ Some refusal
IsAskError is_blocked is_due channels ask Memory = AsksForChannel is_blocked is_due channels ask
