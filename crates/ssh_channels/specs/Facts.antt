-- The facts that a user is told of a message of the connection, and of an ask.
use Rattle.std.specs.Prelude.{ℕ, true, false, Bool, Option, Some, None, []}
use Rattle.ssh_model.specs.Protocol.Wire.Message.{Msg, Msg.GlobalRequest, Msg.RequestSuccess, Msg.RequestFailure, Msg.ChannelOpen, Msg.ChannelOpenConfirmation, Msg.ChannelOpenFailure, Msg.ChannelWindowAdjust, Msg.ChannelData, Msg.ChannelExtendedData, Msg.ChannelEof, Msg.ChannelClose, Msg.ChannelRequest, Msg.ChannelSuccess, Msg.ChannelFailure}
use Rattle.ssh_model.specs.Protocol.Sessions.Items.{Ask, Ask.AskOpen, Fact, Fact.Global, Fact.GlobalDone, Fact.Opened, Fact.Confirmed, Fact.OpenFailed, Fact.GotData, Fact.Adjusted, Fact.Ended, Fact.Closed, Fact.Requested, Fact.RequestDone}

-- the fact of a message that was taken, on this channel or on none; a message of another layer has no fact
abbrev pub fact_by : Msg → (channel : Option ℕ) → Option Fact
fact_by (GlobalRequest name want rest) channel = Some (Global name want rest)
fact_by (RequestSuccess rest) channel = Some (GlobalDone true rest)
fact_by RequestFailure channel = Some (GlobalDone false [])
fact_by (ChannelOpen kind sender window max_packet rest) (Some channel) = Some (Opened channel kind window max_packet rest)
fact_by (ChannelOpenConfirmation recipient sender window max_packet rest) (Some channel) = Some (Confirmed channel window max_packet rest)
fact_by (ChannelOpenFailure recipient reason description language) (Some channel) = Some (OpenFailed channel reason description)
fact_by (ChannelWindowAdjust recipient bytes) (Some channel) = Some (Adjusted channel bytes)
fact_by (ChannelData recipient body) (Some channel) = Some (GotData channel None body)
fact_by (ChannelExtendedData recipient kind body) (Some channel) = Some (GotData channel (Some kind) body)
fact_by (ChannelEof recipient) (Some channel) = Some (Ended channel)
fact_by (ChannelClose recipient) (Some channel) = Some (Closed channel)
fact_by (ChannelRequest recipient name want rest) (Some channel) = Some (Requested channel name want rest)
fact_by (ChannelSuccess recipient) (Some channel) = Some (RequestDone channel true)
fact_by (ChannelFailure recipient) (Some channel) = Some (RequestDone channel false)
fact_by message channel = None

-- the number of the channel that the message of an ask opens, if any
abbrev pub opening_by : Ask → (channel : Option ℕ) → Option ℕ
opening_by (AskOpen kind window max_packet rest) channel = channel
opening_by _ channel = None

-- The message comes on a channel that is open.
abbrev pub is_within : Msg → Bool
is_within (ChannelWindowAdjust recipient bytes) = true
is_within (ChannelData recipient body) = true
is_within (ChannelExtendedData recipient kind body) = true
is_within (ChannelEof recipient) = true
is_within (ChannelClose recipient) = true
is_within (ChannelRequest recipient name want rest) = true
is_within (ChannelSuccess recipient) = true
is_within (ChannelFailure recipient) = true
is_within message = false
