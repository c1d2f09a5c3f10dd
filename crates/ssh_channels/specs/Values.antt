-- The values of this crate as those of the model, with texts but without their places.
use Rattle.std.specs.Prelude.{option_map}
use Rattle.ssh_message.specs.Meaning.{meaning}
use Rattle.ssh_model.specs.State.Channels.Places as places
use Rattle.ssh_model.specs.State.Channels.Kept as kept
use Rattle.ssh_model.specs.Protocol.Wire.Message.{Msg}
use Rattle.ssh_model.specs.Protocol.Sessions.Items as session
use Rattle.ssh_channels.specs.Facts.{fact_by, opening_by}
use Rattle.ssh_channels.specs.declared.ask.Ask.{Ask}
use Rattle.ssh_channels.specs.declared.ask.Ask.TheVariants as ask
use Rattle.ssh_channels.specs.declared.event.ChannelEvent.{ChannelEvent}
use Rattle.ssh_channels.specs.declared.event.ChannelEvent.TheVariants as fact
use Rattle.ssh_channels.specs.declared.event.Taken.{Taken}
use Rattle.ssh_channels.specs.declared.event.MessageToSend.{MessageToSend}
use Rattle.ssh_channels.specs.declared.reply.Reply.{Reply}
use Rattle.ssh_channels.specs.declared.reply.Reply.TheVariants as reply
use Rattle.ssh_channels.specs.declared.state.ChannelState.{ChannelState}
use Rattle.ssh_channels.specs.declared.state.ChannelState.TheVariants as state

abbrev pub reply_of : Reply → kept.DueReply
reply_of (reply.OpenFailure recipient) = kept.DueReply.RefusesOpen recipient
reply_of (reply.Close channel recipient) = kept.DueReply.AnswersClose channel recipient

abbrev pub fact_of : ChannelEvent → session.Fact
fact_of (fact.Global name want rest) = session.Fact.Global name.now want rest.now
fact_of (fact.GlobalDone success rest) = session.Fact.GlobalDone success rest.now
fact_of (fact.Opening channel) = session.Fact.Opening channel
fact_of (fact.Opened channel kind window max_packet rest) = session.Fact.Opened channel kind.now window max_packet rest.now
fact_of (fact.Confirmed channel window max_packet rest) = session.Fact.Confirmed channel window max_packet rest.now
fact_of (fact.OpenFailed channel reason description) = session.Fact.OpenFailed channel reason description.now
fact_of (fact.GotData channel kind body) = session.Fact.GotData channel kind body.now
fact_of (fact.Adjusted channel bytes) = session.Fact.Adjusted channel bytes
fact_of (fact.Ended channel) = session.Fact.Ended channel
fact_of (fact.Closed channel) = session.Fact.Closed channel
fact_of (fact.Requested channel name want rest) = session.Fact.Requested channel name.now want rest.now
fact_of (fact.RequestDone channel success) = session.Fact.RequestDone channel success

-- the answer to a message, with the fact that is told of the message
abbrev pub taken_of : Msg → Taken → kept.Taken
taken_of message t = record { channel = t.channel; reply = option_map reply_of t.reply; fact = fact_by message t.channel }

-- the sending of an ask, with the fact that is told of it: only the opening of a channel is told
abbrev pub sent_of : session.Ask → MessageToSend → kept.Sent
sent_of asked t = record {
  channel = t.channel;
  message = meaning t.message;
  fact = option_map session.Fact.Opening (opening_by asked t.channel);
}

abbrev pub ask_of : Ask → session.Ask
ask_of (ask.Open kind window max_packet rest) = session.Ask.AskOpen kind.now window max_packet rest.now
ask_of (ask.Confirm channel window max_packet rest) = session.Ask.AskConfirm channel window max_packet rest.now
ask_of (ask.Refuse channel reason) = session.Ask.AskRefuse channel reason
ask_of (ask.Data channel kind body) = session.Ask.AskData channel kind body.now
ask_of (ask.Adjust channel bytes) = session.Ask.AskAdjust channel bytes
ask_of (ask.Eof channel) = session.Ask.AskEof channel
ask_of (ask.Close channel) = session.Ask.AskClose channel
ask_of (ask.Request channel name want rest) = session.Ask.AskRequest channel name.now want rest.now
ask_of (ask.Reply channel success) = session.Ask.AskReply channel success
ask_of (ask.Global name want rest) = session.Ask.AskGlobal name.now want rest.now
ask_of (ask.GlobalReply success rest) = session.Ask.AskGlobalReply success rest.now

abbrev pub state_of : ChannelState → places.ChannelState
state_of state.Opening = places.ChannelState.Opening
state_of state.Waiting = places.ChannelState.Waiting
state_of (state.Confirmed eof_sent eof_taken close_sent close_taken) = places.ChannelState.Confirmed eof_sent eof_taken close_sent close_taken
