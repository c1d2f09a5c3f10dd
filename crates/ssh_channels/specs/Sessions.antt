-- The answer of a call after any history that the channels sum up.
use Rattle.std.specs.Prelude.{◌≡◌, ℕ, Bool, true, List, [], Option, Some, None, option_map, Result, Ok, Err}
use Rattle.ssh_model.specs.declared.side.Side.{Side}
use Rattle.ssh_model.specs.Protocol.Wire.Message.{Msg}
use Rattle.ssh_model.specs.Protocol.Sessions.Refusals.{first_refusal}
use Rattle.ssh_model.specs.Protocol.Sessions.Items.{Ask, Item}
use Rattle.ssh_model.specs.Protocol.Sessions.Phases.{blocked}
use Rattle.ssh_model.specs.Protocol.Channels.History as channel
use Rattle.ssh_model.specs.State.Channels.Places.{channel_state, count, room}
use Rattle.ssh_model.specs.Protocol.Channels.Connection.{channel_ask_checks, connection_checks, notes, owed_replies}
use Rattle.ssh_model.specs.State.Channels.Kept.{Channels}
use Rattle.ssh_model.specs.State.Channels.Summary.{SumsUp, Accepts, Allows, SendsOwed}
use Rattle.ssh_channels.specs.Rows.{is_connection}
use Rattle.ssh_channels.specs.Values.{reply_of, sent_of, state_of, taken_of}
use Rattle.ssh_model.specs.declared.ask_refusal.AskRefusal.{AskRefusal}
use Rattle.ssh_model.specs.declared.refusal.Refusal.{Refusal}
use Rattle.ssh_types.specs.declared.call_error.CallError.{CallError}
use Rattle.ssh_types.specs.declared.call_error.CallError.TheVariants.{Refused, Memory}
use Rattle.ssh_channels.specs.declared.event.Taken.{Taken}
use Rattle.ssh_channels.specs.declared.event.MessageToSend.{MessageToSend}
use Rattle.ssh_channels.specs.declared.reply.Reply.{Reply}
use Rattle.ssh_channels.specs.declared.state.ChannelState.{ChannelState}

-- A message is answered as in a session, and the channels then sum up the history with it; or it is refused as in a session.
abbrev pub AnswersInSession : Side → List Item → Msg → Channels → Result Taken (CallError Refusal) → Type 0
AnswersInSession side history message new (Ok taken) = Accepts side history message (taken_of message taken) new
AnswersInSession side history message new (Err (Refused refusal)) = is_connection message ≡ true → first_refusal (connection_checks side history message) ≡ Some refusal
AnswersInSession side history message new (Err Memory) = Unit {0}

-- The same after every history in which the end is within a key exchange of its own or not.
abbrev pub TakesInSession : (is_blocked : Bool) → (old : Channels) → Msg → (new : Channels) → Result Taken (CallError Refusal) → Type 0
TakesInSession is_blocked old message new result =
    (side : Side) (history : List Item) → SumsUp side history (owed_replies side history) old → blocked history ≡ is_blocked → AnswersInSession side history message new result

-- ---- asks

-- The message that is sent is one that a session sends, and the channels then sum up the history with it.
pub record Allowed (side : Side) (history : List Item) (is_due : Bool) (ask : Ask) (sent : MessageToSend) (new : Channels) : Type 0 where
  pub passed : first_refusal (channel_ask_checks (blocked history) is_due side history ask) ≡ None
  pub allows : Allows side history is_due ask (sent_of ask sent) new

-- An ask is allowed, or it is refused as in a session, after the check that the end is authenticated.
abbrev pub SendsInSession : Side → List Item → (is_due : Bool) → Ask → Channels → Result MessageToSend (CallError AskRefusal) → Type 0
SendsInSession side history is_due ask new (Ok sent) = Allowed side history is_due ask sent new
SendsInSession side history is_due ask new (Err (Refused refusal)) = first_refusal (channel_ask_checks (blocked history) is_due side history ask) ≡ Some refusal
SendsInSession side history is_due ask new (Err Memory) = Unit {0}

-- The same after every history in which the end is within a key exchange of its own or not.
abbrev pub AsksInSession : (is_blocked is_due : Bool) → (old : Channels) → Ask → (new : Channels) → Result MessageToSend (CallError AskRefusal) → Type 0
AsksInSession is_blocked is_due old ask new result =
    (side : Side) (history : List Item) → SumsUp side history (owed_replies side history) old → blocked history ≡ is_blocked → SendsInSession side history is_due ask new result

-- ---- replies that were owed

-- The oldest waiting reply is given, and the channels then sum up the history with it. Or none waits, and they are as before.
abbrev pub GivesOwed : Side → List Item → List channel.Item → (old : Channels) → Option Reply → (new : Channels) → Type 0
GivesOwed side history waiting old (Some reply) new = SendsOwed side history waiting (reply_of reply) new
GivesOwed side history waiting old None new = (waiting ≡ []) × (new ≡ old)

-- The same after every history, whatever replies wait.
abbrev pub UnblocksInSession : (old : Channels) → Option Reply → (new : Channels) → Type 0
UnblocksInSession old reply new =
    (side : Side) (history : List Item) (waiting : List channel.Item) → SumsUp side history waiting old → GivesOwed side history waiting old reply new

-- ---- what is shown

abbrev pub IsStateInSession : Channels → ℕ → Option ChannelState → Type 0
IsStateInSession channels number state =
    (side : Side) (history : List Item) (waiting : List channel.Item) → SumsUp side history waiting channels → option_map state_of state ≡ channel_state side (notes side history) waiting number

abbrev pub IsRoomInSession : Channels → ℕ → Option ℕ → Type 0
IsRoomInSession channels number left =
    (side : Side) (history : List Item) (waiting : List channel.Item) → SumsUp side history waiting channels → left ≡ room (notes side history) waiting number

abbrev pub IsCountInSession : Channels → ℕ → Type 0
IsCountInSession channels used =
    (side : Side) (history : List Item) (waiting : List channel.Item) → SumsUp side history waiting channels → used ≡ count (notes side history) waiting
