-- When the state of an end's channels sums up its history, and how its rows are rows of a session (own).
use Rattle.std.specs.Prelude.{◌≡◌, ℕ, Bool, Option, Some, None, List, [], ◌∷◌, ◌++◌, length, map, reverse}
use Rattle.ssh_model.specs.Protocol.Bounds.{most_channels}
use Rattle.ssh_model.specs.declared.side.Side.{Side}
use Rattle.ssh_model.specs.Protocol.Wire.Message.{Msg, Msg.NewKeys, Msg.GlobalRequest, Msg.RequestSuccess, Msg.RequestFailure}
use Rattle.ssh_model.specs.Protocol.Wire.Message.{Msg.ChannelOpen, Msg.ChannelOpenConfirmation, Msg.ChannelOpenFailure}
use Rattle.ssh_model.specs.Protocol.Wire.Message.{Msg.ChannelWindowAdjust, Msg.ChannelData, Msg.ChannelExtendedData}
use Rattle.ssh_model.specs.Protocol.Wire.Message.{Msg.ChannelEof, Msg.ChannelClose, Msg.ChannelRequest, Msg.ChannelSuccess}
use Rattle.ssh_model.specs.Protocol.Wire.Message.{Msg.ChannelFailure}
use Rattle.ssh_model.specs.Protocol.Sessions.Refusals.{first_refusal}
use Rattle.ssh_model.specs.Protocol.Sessions.Items as session
use Rattle.ssh_model.specs.Protocol.Sessions.Items.{Ask, Fact, Item, Item.Told, Item.Asked}
use Rattle.ssh_model.specs.Protocol.Channels.Message.{Message.OpenFailure, Message.Close}
use Rattle.ssh_model.specs.State.Channels.Rules.{EndRun}
use Rattle.ssh_model.specs.Protocol.Channels.History as channel
use Rattle.ssh_model.specs.State.Channels.Places.{AreOwed, at, place}
use Rattle.ssh_model.specs.Protocol.Channels.Connection.{connection_checks, ConnectionAnswer, ConnectionAsk, AreReplies, notes}
use Rattle.ssh_model.specs.Protocol.Channels.Connection.{owed_replies, globals_here, globals_there}
use Rattle.ssh_model.specs.State.Channels.Kept.{DueReply, DueReply.RefusesOpen, DueReply.AnswersClose, Channels, Taken, Sent}

-- ---- replies

-- a reply as an item of a history
abbrev pub reply_item : DueReply → channel.Item
reply_item (RefusesOpen to) = channel.Item.Sent None (OpenFailure to)
reply_item (AnswersClose number to) = channel.Item.Sent (Some number) (Close to)

-- the owed replies, the newest first, as items of a history
abbrev pub pending : List DueReply → List channel.Item
pending owed = reverse (map reply_item owed)

-- the local number of a reply
abbrev pub reply_channel : DueReply → Option ℕ
reply_channel (RefusesOpen to) = None
reply_channel (AnswersClose number to) = Some number

-- the message of a reply
abbrev pub reply_sent : DueReply → Msg
reply_sent (RefusesOpen to) = ChannelOpenFailure to 4 [] []
reply_sent (AnswersClose number to) = ChannelClose to

-- ---- the summary

-- The channels sum up the history of the end of this side. These replies, the newest first, fell due and were not sent.
-- Between turns they are the replies that the history owes. Between NEWKEYS and the last of them they are those that are
-- still to come.
pub record SumsUp (side : Side) (history : List Item) (waiting : List channel.Item) (channels : Channels) : Type 0 where
  pub run : EndRun side (notes side history)
  pub places : (number : ℕ) → at channels.places number ≡ place side (notes side history) waiting number
  pub size : length channels.places ≡ most_channels
  pub queue : pending channels.owed ≡ waiting
  pub settled : AreOwed waiting (notes side history)
  pub here : channels.globals_here ≡ globals_here history
  pub there : channels.globals_there ≡ globals_there history

-- ---- a message taken

-- these items, and on top the fact that is told, if there is one
abbrev pub told : Option Fact → List Item → List Item
told None items = items
told (Some fact) items = Told fact ∷ items

-- the reply as an item, if there is one
abbrev pub replied : Option DueReply → List channel.Item
replied None = []
replied (Some reply) = reply_item reply ∷ []

-- The message is not refused. Its answer is an answer of a session, whichever payload encodes the reply. The channels
-- then sum up the history with it, whichever payloads encode the message and the reply.
pub record Accepts (side : Side) (history : List Item) (message : Msg) (taken : Taken)
    (channels : Channels) : Type 0 where
  pub passed : first_refusal (connection_checks side history message) ≡ None
  pub answer : (replies : List Item) → AreReplies (replied taken.reply) replies →
      ConnectionAnswer side history taken.channel message (told taken.fact replies)
  pub sums : (payload : List ℕ) (replies : List Item) → AreReplies (replied taken.reply) replies →
      let later = told taken.fact replies ++ (session.Item.Took taken.channel message payload ∷ history) in
      SumsUp side later (owed_replies side later) channels

-- ---- an owed reply sent

-- The reply is the oldest of the waiting ones. The end sends its message, whichever payload encodes it. The channels then
-- sum up the history with it.
pub record SendsOwed (side : Side) (history : List Item) (waiting : List channel.Item) (reply : DueReply)
    (channels : Channels) : Type 0 where
  pub oldest : waiting ≡ pending channels.owed ++ (reply_item reply ∷ [])
  pub row : (older : List channel.Item) (items : List Item) (payload : List ℕ) → AreReplies older items →
      AreReplies (reply_item reply ∷ older) (session.Item.Sent (reply_channel reply) (reply_sent reply) payload ∷ items)
  pub sums : (payload : List ℕ) →
      SumsUp side (session.Item.Sent (reply_channel reply) (reply_sent reply) payload ∷ history)
      (pending channels.owed) channels

-- ---- an ask

-- The end sends what a session sends, whichever payload encodes it, and the channels then sum up the history with it.
pub record Allows (side : Side) (history : List Item) (is_due : Bool) (ask : Ask) (sent : Sent)
    (channels : Channels) : Type 0 where
  pub row : (payload : List ℕ) →
      ConnectionAsk side history ask (told sent.fact (session.Item.Sent sent.channel sent.message payload ∷ []))
  pub sums : (payload : List ℕ) →
      let later = told sent.fact (session.Item.Sent sent.channel sent.message payload ∷ []) ++ (Asked ask ∷ history) in
      SumsUp side later (owed_replies side later) channels

-- ---- items of other layers

-- The message is none of the connection.
abbrev pub IsNotConnection : Msg → Type 0
IsNotConnection (GlobalRequest name want rest) = ⊥
IsNotConnection (RequestSuccess rest) = ⊥
IsNotConnection RequestFailure = ⊥
IsNotConnection (ChannelOpen kind sender window max_packet rest) = ⊥
IsNotConnection (ChannelOpenConfirmation recipient sender window max_packet rest) = ⊥
IsNotConnection (ChannelOpenFailure recipient reason description language) = ⊥
IsNotConnection (ChannelWindowAdjust recipient bytes) = ⊥
IsNotConnection (ChannelData recipient body) = ⊥
IsNotConnection (ChannelExtendedData recipient kind body) = ⊥
IsNotConnection (ChannelEof recipient) = ⊥
IsNotConnection (ChannelClose recipient) = ⊥
IsNotConnection (ChannelRequest recipient name want rest) = ⊥
IsNotConnection (ChannelSuccess recipient) = ⊥
IsNotConnection (ChannelFailure recipient) = ⊥
IsNotConnection _ = Unit {0}

-- an item that changes nothing in the channels
abbrev pub LeavesChannels : Item → Type 0
LeavesChannels (session.Item.Sent channel message payload) = IsNotConnection message
LeavesChannels (session.Item.Took channel message payload) = IsNotConnection message
LeavesChannels _ = Unit {0}

-- an item other than NEWKEYS sent, after which the owed replies are sent
abbrev pub IsNoNewkeys : Item → Type 0
IsNoNewkeys (session.Item.Sent channel NewKeys payload) = ⊥
IsNoNewkeys _ = Unit {0}
