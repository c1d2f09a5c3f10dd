-- The state of an end's channels, and how each message and each ask changes it (RFC 4254), without a history. One clause
-- or constructor is one row.
use Rattle.std.specs.Prelude.{◌≡◌, ℕ, ◌+◌, ◌-◌, ◌<◌, ◌≤◌, Bool, true, false, not, ◌==◌, ◌&&◌, ◌||◌, nat_le, nat_lt}
use Rattle.std.specs.Prelude.{Option, Some, None, is_some, option_map, List, [], ◌∷◌, ◌++◌, length, replicate}
use Rattle.std.specs.Prelude.{count_by, slice_set}
use Rattle.ssh_model.specs.Protocol.Bounds.{largest_data, largest_window, most_channels}
use Rattle.ssh_model.specs.Protocol.Bounds.{most_owed_replies, most_waiting_globals, most_waiting_requests}
use Rattle.ssh_model.specs.Protocol.Wire.Message.{Msg, Msg.GlobalRequest, Msg.RequestSuccess, Msg.RequestFailure}
use Rattle.ssh_model.specs.Protocol.Wire.Message.{Msg.ChannelOpen, Msg.ChannelOpenConfirmation, Msg.ChannelOpenFailure}
use Rattle.ssh_model.specs.Protocol.Wire.Message.{Msg.ChannelWindowAdjust, Msg.ChannelData, Msg.ChannelExtendedData}
use Rattle.ssh_model.specs.Protocol.Wire.Message.{Msg.ChannelEof, Msg.ChannelClose, Msg.ChannelRequest, Msg.ChannelSuccess}
use Rattle.ssh_model.specs.Protocol.Wire.Message.{Msg.ChannelFailure}
use Rattle.ssh_model.specs.declared.refusal.Refusal.{Refusal}
use Rattle.ssh_model.specs.declared.refusal.Refusal.TheVariants.{Unexpected}
use Rattle.ssh_model.specs.Protocol.Sessions.Refusals.{Check, Check.RefusedWhere}
use Rattle.ssh_model.specs.declared.refusal.Refusal.TheVariants.{UnknownChannel, WindowOverrun, WindowTooLarge}
use Rattle.ssh_model.specs.declared.refusal.Refusal.TheVariants.{OwedFull}
use Rattle.ssh_model.specs.declared.ask_refusal.AskRefusal.{AskRefusal}
use Rattle.ssh_model.specs.declared.ask_refusal.AskRefusal.TheVariants.{NoChannel, NoRoom}
use Rattle.ssh_model.specs.declared.ask_refusal.AskRefusal.TheVariants.{TooLong, TableFull, NothingOwed}
use Rattle.ssh_model.specs.declared.ask_refusal.AskRefusal.TheVariants.{TooMuch}
use Rattle.ssh_model.specs.Protocol.Sessions.Items.{Ask, Ask.AskOpen, Ask.AskConfirm, Ask.AskRefuse, Ask.AskData}
use Rattle.ssh_model.specs.Protocol.Sessions.Items.{Ask.AskAdjust, Ask.AskEof, Ask.AskClose, Ask.AskRequest, Ask.AskReply}
use Rattle.ssh_model.specs.Protocol.Sessions.Items.{Ask.AskGlobal, Ask.AskGlobalReply, Fact, Fact.Global, Fact.GlobalDone}
use Rattle.ssh_model.specs.Protocol.Sessions.Items.{Fact.Opening, Fact.Opened, Fact.Confirmed, Fact.OpenFailed, Fact.GotData}
use Rattle.ssh_model.specs.Protocol.Sessions.Items.{Fact.Adjusted, Fact.Ended, Fact.Closed, Fact.Requested, Fact.RequestDone}
use Rattle.ssh_model.specs.Protocol.Sessions.Sizes.{string_size, is_too_long}
use Rattle.ssh_model.specs.State.Channels.Places.{Place, at, is_at, is_open, is_opening, is_waiting_place}
use Rattle.ssh_model.specs.Protocol.Channels.Connection.{is_limit_reached, is_max_packet, common_checks}

-- A reply that a taken message makes due: OPEN_FAILURE because there is no place, or CLOSE at a local number.
pub data DueReply : Type 0 where
  RefusesOpen : (to : ℕ) → DueReply
  AnswersClose : (number to : ℕ) → DueReply

-- the state of an end's channels
pub record Channels : Type 0 where
  -- by local number: one place for each number that an end has
  pub places : List (Option Place)
  -- the replies that are owed, the oldest first
  pub owed : List DueReply
  -- global requests of the peer, and of this end, that wait for a reply (RFC 4254 section 4)
  pub globals_here : ℕ
  pub globals_there : ℕ

-- No channel is open, and no reply is owed or awaited.
abbrev pub no_channels : Channels
no_channels = record { places = replicate most_channels None; owed = []; globals_here = 0; globals_there = 0 }

-- ---- tests

-- how many numbers are in use
abbrev pub used : List (Option Place) → ℕ
used places = count_by is_some places

-- All numbers that an end has are in use.
abbrev pub is_table_full : List (Option Place) → Bool
is_table_full places = nat_le most_channels (used places)

-- The end is blocked, and can't owe one more reply.
abbrev pub is_queue_full : Bool → List DueReply → Bool
is_queue_full is_blocked owed = is_blocked && is_limit_reached most_owed_replies (length owed)

-- The number is in the table, and nothing is kept there.
pub record IsUnused (places : List (Option Place)) (number : ℕ) : Type 0 where
  pub inside : number < most_channels
  pub nothing : at places number ≡ None

-- CLOSE was said at a number
abbrev pub has_said_close : Option Place → Bool
has_said_close place = is_at (λ kept. kept.close_said) place

-- the number that the peer gave the channel
abbrev pub peer_of : Option Place → ℕ
peer_of None = 0
peer_of (Some place) = place.peer_number

-- ---- changes

-- the channels with this place at this number
abbrev pub put : ℕ → Option Place → Channels → Channels
put number place channels = record channels { places = slice_set channels.places number place }

-- the channels with the place at this number changed
abbrev pub change : ℕ → (Place → Place) → Channels → Channels
change number changed channels = put number (option_map changed (at channels.places number)) channels

-- the channels with one more reply owed
abbrev pub owe : DueReply → Channels → Channels
owe reply channels = record channels { owed = channels.owed ++ (reply ∷ []) }

-- the count of waiting requests, with one more if a reply is wanted
abbrev pub count_where : Bool → ℕ → ℕ
count_where true waiting = waiting + 1
count_where false waiting = waiting

-- ---- the place of a channel that was opened

-- the place of a peer's OPEN, which waits for this end's answer
abbrev pub waiting_place : (sender window max_packet : ℕ) → Place
waiting_place sender window max_packet = record {
  is_own = false;
  is_answered = false;
  eof_sent = false;
  eof_taken = false;
  close_said = false;
  close_owed = false;
  close_taken = false;
  peer_number = sender;
  send_window = window;
  receive_window = 0;
  max_packet_here = 0;
  max_packet_there = max_packet;
  waiting_here = 0;
  waiting_there = 0;
}

-- the place of this end's OPEN, which waits for the peer's answer
abbrev pub opening_place : (window max_packet : ℕ) → Place
opening_place window max_packet = record {
  is_own = true;
  is_answered = false;
  eof_sent = false;
  eof_taken = false;
  close_said = false;
  close_owed = false;
  close_taken = false;
  peer_number = 0;
  send_window = 0;
  receive_window = window;
  max_packet_here = max_packet;
  max_packet_there = 0;
  waiting_here = 0;
  waiting_there = 0;
}

-- ---- messages taken

-- the check that the channel is confirmed, and then these checks
abbrev pub open_checks : Option Place → List (Check Refusal) → List (Check Refusal)
open_checks place checks = RefusedWhere (not (is_at is_open place)) UnknownChannel ∷ checks

-- the checks on data of this size: an unknown channel, an EOF before them, or more bytes than may come
abbrev pub data_checks : Option Place → (size : ℕ) → List (Check Refusal)
data_checks place size =
    open_checks place
    (RefusedWhere (is_at (λ kept. kept.eof_taken) place) Unexpected
    ∷ RefusedWhere
    (is_at (λ kept. nat_lt kept.receive_window size || nat_lt kept.max_packet_here size) place) WindowOverrun ∷ [])

-- the checks on an answer to an OPEN
abbrev pub opening_checks : Option Place → List (Check Refusal)
opening_checks place =
    RefusedWhere (not (is_some place)) UnknownChannel ∷ RefusedWhere (not (is_at is_opening place)) Unexpected ∷ []

-- the checks on a reply to a request
abbrev pub reply_checks : Option Place → List (Check Refusal)
reply_checks place = open_checks place (RefusedWhere (is_at (λ kept. kept.waiting_there == 0) place) Unexpected ∷ [])

-- the checks on a message, in order. `is_blocked`: the end is blocked
abbrev pub take_checks : (is_blocked : Bool) → Channels → Msg → List (Check Refusal)
take_checks is_blocked channels (GlobalRequest name want rest) =
    RefusedWhere (want && is_limit_reached most_waiting_globals channels.globals_here) OwedFull ∷ []
take_checks is_blocked channels (RequestSuccess rest) = RefusedWhere (channels.globals_there == 0) Unexpected ∷ []
take_checks is_blocked channels RequestFailure = RefusedWhere (channels.globals_there == 0) Unexpected ∷ []
take_checks is_blocked channels (ChannelOpen kind sender window max_packet rest) =
    RefusedWhere (is_table_full channels.places && is_queue_full is_blocked channels.owed) OwedFull ∷ []
take_checks is_blocked channels (ChannelOpenConfirmation recipient sender window max_packet rest) =
    opening_checks (at channels.places recipient)
take_checks is_blocked channels (ChannelOpenFailure recipient reason description language) =
    opening_checks (at channels.places recipient)
take_checks is_blocked channels (ChannelWindowAdjust recipient bytes) =
    open_checks (at channels.places recipient)
    (RefusedWhere
    (is_at (λ kept. nat_lt largest_window (bytes + kept.send_window)) (at channels.places recipient)) WindowTooLarge
    ∷ [])
take_checks is_blocked channels (ChannelData recipient body) = data_checks (at channels.places recipient) (length body)
take_checks is_blocked channels (ChannelExtendedData recipient kind body) =
    data_checks (at channels.places recipient) (length body)
take_checks is_blocked channels (ChannelEof recipient) =
    open_checks (at channels.places recipient)
    (RefusedWhere (is_at (λ kept. kept.eof_taken) (at channels.places recipient)) Unexpected ∷ [])
take_checks is_blocked channels (ChannelClose recipient) =
    open_checks (at channels.places recipient)
    (RefusedWhere
    (not (has_said_close (at channels.places recipient)) && is_queue_full is_blocked channels.owed) OwedFull ∷ [])
take_checks is_blocked channels (ChannelRequest recipient name want rest) =
    open_checks (at channels.places recipient)
    (RefusedWhere
    (want && is_at (λ kept. not kept.close_said && is_limit_reached most_waiting_requests kept.waiting_here)
    (at channels.places recipient)) OwedFull ∷ [])
take_checks is_blocked channels (ChannelSuccess recipient) = reply_checks (at channels.places recipient)
take_checks is_blocked channels (ChannelFailure recipient) = reply_checks (at channels.places recipient)
take_checks is_blocked channels _ = []

-- The answer to a taken message: the local number of its item, the reply that is sent at once, and the fact that is
-- told.
pub record Taken : Type 0 where
  pub channel : Option ℕ
  pub reply : Option DueReply
  pub fact : Option Fact

-- an answer that only tells a fact
abbrev pub tells : Option ℕ → Fact → Taken
tells channel fact = record { channel = channel; reply = None; fact = Some fact }

-- A due reply is sent at once, or owed if the end is blocked.
abbrev pub sent_at_once : (is_blocked : Bool) → DueReply → Option DueReply
sent_at_once true reply = None
sent_at_once false reply = Some reply

abbrev pub owed_where : (is_blocked : Bool) → DueReply → Channels → Channels
owed_where true reply channels = owe reply channels
owed_where false reply channels = channels

-- the CLOSE that is sent at once in answer to a CLOSE: none if one was said before, or if the end is blocked
abbrev pub close_reply : (is_said is_blocked : Bool) → (number to : ℕ) → Option DueReply
close_reply true is_blocked number to = None
close_reply false is_blocked number to = sent_at_once is_blocked (AnswersClose number to)

-- the channels after a CLOSE was taken: its number is free at once, or when the owed CLOSE is sent
abbrev pub close_taken : (is_said is_blocked : Bool) → (number to : ℕ) → Channels → Channels
close_taken false true number to channels =
    owe (AnswersClose number to)
    (change number (λ kept. record kept { close_said = true; close_owed = true; close_taken = true }) channels)
close_taken is_said is_blocked number to channels = put number None channels

-- How each message changes the channels, and its answer. One constructor is one row.
pub data Takes (is_blocked : Bool) (channels : Channels) : Msg → Taken → Channels → Type 0 where
  -- RFC 4254 section 4
  global_request : (name : List ℕ) (want : Bool) (rest : List ℕ) →
      Takes is_blocked channels (GlobalRequest name want rest) (tells None (Global name want rest))
      (record channels { globals_here = count_where want channels.globals_here })
  request_success : (rest : List ℕ) →
      Takes is_blocked channels (RequestSuccess rest) (tells None (GlobalDone true rest))
      (record channels { globals_there = channels.globals_there - 1 })
  request_failure :
      Takes is_blocked channels RequestFailure (tells None (GlobalDone false []))
      (record channels { globals_there = channels.globals_there - 1 })
  -- RFC 4254 section 5.1: the channel gets any unused number; if there is none, the OPEN is refused and not told
  open_taken : (number : ℕ) (kind : List ℕ) (sender window max_packet : ℕ) (rest : List ℕ) →
      IsUnused channels.places number →
      Takes is_blocked channels (ChannelOpen kind sender window max_packet rest)
      (tells (Some number) (Opened number kind window max_packet rest))
      (put number (Some (waiting_place sender window max_packet)) channels)
  open_refused : (kind : List ℕ) (sender window max_packet : ℕ) (rest : List ℕ) → is_table_full channels.places ≡ true →
      Takes is_blocked channels (ChannelOpen kind sender window max_packet rest)
      (record { channel = None; reply = sent_at_once is_blocked (RefusesOpen sender); fact = None })
      (owed_where is_blocked (RefusesOpen sender) channels)
  confirmation : (recipient sender window max_packet : ℕ) (rest : List ℕ) →
      Takes is_blocked channels (ChannelOpenConfirmation recipient sender window max_packet rest)
      (tells (Some recipient) (Confirmed recipient window max_packet rest))
      (change recipient
      (λ kept. record kept {
        is_answered = true;
        peer_number = sender;
        send_window = window;
        max_packet_there = max_packet;
      }) channels)
  failure : (recipient reason : ℕ) (description language : List ℕ) →
      Takes is_blocked channels (ChannelOpenFailure recipient reason description language)
      (tells (Some recipient) (OpenFailed recipient reason description))
      (put recipient None channels)
  -- RFC 4254 section 5.2
  adjust : (recipient bytes : ℕ) →
      Takes is_blocked channels (ChannelWindowAdjust recipient bytes)
      (tells (Some recipient) (Adjusted recipient bytes))
      (change recipient (λ kept. record kept { send_window = kept.send_window + bytes }) channels)
  got_data : (recipient : ℕ) (body : List ℕ) →
      Takes is_blocked channels (ChannelData recipient body) (tells (Some recipient) (GotData recipient None body))
      (change recipient (λ kept. record kept { receive_window = kept.receive_window - length body }) channels)
  got_extended : (recipient kind : ℕ) (body : List ℕ) →
      Takes is_blocked channels (ChannelExtendedData recipient kind body)
      (tells (Some recipient) (GotData recipient (Some kind) body))
      (change recipient (λ kept. record kept { receive_window = kept.receive_window - length body }) channels)
  -- RFC 4254 section 5.3
  eof : (recipient : ℕ) →
      Takes is_blocked channels (ChannelEof recipient) (tells (Some recipient) (Ended recipient))
      (change recipient (λ kept. record kept { eof_taken = true }) channels)
  close : (recipient : ℕ) →
      Takes is_blocked channels (ChannelClose recipient)
      (record {
        channel = Some recipient;
        reply =
            close_reply (has_said_close (at channels.places recipient)) is_blocked recipient
            (peer_of (at channels.places recipient));
        fact = Some (Closed recipient);
      })
      (close_taken (has_said_close (at channels.places recipient)) is_blocked recipient
      (peer_of (at channels.places recipient)) channels)
  -- RFC 4254 section 5.4: a request that comes after this end's CLOSE doesn't count as waiting
  request : (recipient : ℕ) (name : List ℕ) (want : Bool) (rest : List ℕ) →
      Takes is_blocked channels (ChannelRequest recipient name want rest)
      (tells (Some recipient) (Requested recipient name want rest))
      (change recipient
      (λ kept. record kept { waiting_here = count_where (want && not kept.close_said) kept.waiting_here }) channels)
  success : (recipient : ℕ) →
      Takes is_blocked channels (ChannelSuccess recipient) (tells (Some recipient) (RequestDone recipient true))
      (change recipient (λ kept. record kept { waiting_there = kept.waiting_there - 1 }) channels)
  no_success : (recipient : ℕ) →
      Takes is_blocked channels (ChannelFailure recipient) (tells (Some recipient) (RequestDone recipient false))
      (change recipient (λ kept. record kept { waiting_there = kept.waiting_there - 1 }) channels)

-- ---- replies that were owed

-- Sending an owed CLOSE frees its number.
abbrev pub freed_by : DueReply → Channels → Channels
freed_by (RefusesOpen to) channels = channels
freed_by (AnswersClose number to) channels = put number None channels

-- The next reply to send is the oldest owed one, or there is none.
pub data Unblocks (channels : Channels) : Option DueReply → Channels → Type 0 where
  oldest : (reply : DueReply) (owed : List DueReply) → channels.owed ≡ reply ∷ owed →
      Unblocks channels (Some reply) (freed_by reply (record channels { owed = owed }))
  nothing : channels.owed ≡ [] → Unblocks channels None channels

-- ---- asks

-- the checks of any ask, then that the channel is confirmed, and then these checks
abbrev pub confirmed_checks : (is_blocked is_due busy : Bool) → Option Place → List (Check AskRefusal) →
    List (Check AskRefusal)
confirmed_checks is_blocked is_due busy place checks =
    common_checks is_blocked is_due busy (RefusedWhere (not (is_at is_open place)) NoChannel ∷ checks)

-- the checks of any ask, then that this end has yet to answer the channel's OPEN, and then these checks
abbrev pub waiting_checks : (is_blocked is_due : Bool) → Option Place → List (Check AskRefusal) →
    List (Check AskRefusal)
waiting_checks is_blocked is_due place checks =
    common_checks is_blocked is_due false (RefusedWhere (not (is_at is_waiting_place place)) NoChannel ∷ checks)

-- EOF or CLOSE was said at this place.
abbrev pub is_ended : Place → Bool
is_ended kept = kept.eof_sent || kept.close_said

-- the checks on an ask, in order. `is_blocked`: the end is blocked; `is_due`: an exchange is due
abbrev pub send_checks : (is_blocked is_due : Bool) → Channels → Ask → List (Check AskRefusal)
send_checks is_blocked is_due channels (AskOpen kind window max_packet rest) =
    common_checks is_blocked is_due false
    (RefusedWhere (is_table_full channels.places) TableFull ∷ RefusedWhere (not (is_max_packet max_packet)) TooMuch
    ∷ RefusedWhere (is_too_long (13 + string_size kind + length rest)) TooLong ∷ [])
send_checks is_blocked is_due channels (AskConfirm number window max_packet rest) =
    waiting_checks is_blocked is_due (at channels.places number)
    (RefusedWhere (not (is_max_packet max_packet)) TooMuch ∷ RefusedWhere (is_too_long (17 + length rest)) TooLong ∷ [])
send_checks is_blocked is_due channels (AskRefuse number reason) =
    waiting_checks is_blocked is_due (at channels.places number) []
send_checks is_blocked is_due channels (AskData number kind body) =
    confirmed_checks is_blocked is_due false (at channels.places number)
    (RefusedWhere (is_at is_ended (at channels.places number)) AskRefusal.Ended
    ∷ RefusedWhere
    (nat_lt largest_data (length body)
    || is_at (λ kept. nat_lt kept.max_packet_there (length body)) (at channels.places number)) TooLong
    ∷ RefusedWhere (is_at (λ kept. nat_lt kept.send_window (length body)) (at channels.places number)) NoRoom ∷ [])
send_checks is_blocked is_due channels (AskAdjust number bytes) =
    confirmed_checks is_blocked is_due false (at channels.places number)
    (RefusedWhere (has_said_close (at channels.places number)) AskRefusal.Ended
    ∷ RefusedWhere
    (is_at (λ kept. nat_lt largest_window (bytes + kept.receive_window)) (at channels.places number)) TooMuch ∷ [])
send_checks is_blocked is_due channels (AskEof number) =
    confirmed_checks is_blocked is_due false (at channels.places number)
    (RefusedWhere (is_at is_ended (at channels.places number)) AskRefusal.Ended ∷ [])
send_checks is_blocked is_due channels (AskClose number) =
    confirmed_checks is_blocked is_due false (at channels.places number)
    (RefusedWhere (has_said_close (at channels.places number)) AskRefusal.Ended ∷ [])
send_checks is_blocked is_due channels (AskRequest number name want rest) =
    confirmed_checks is_blocked is_due
    (want && is_at (λ kept. is_limit_reached most_waiting_requests kept.waiting_there) (at channels.places number))
    (at channels.places number)
    (RefusedWhere (has_said_close (at channels.places number)) AskRefusal.Ended
    ∷ RefusedWhere (is_too_long (6 + string_size name + length rest)) TooLong ∷ [])
send_checks is_blocked is_due channels (AskReply number answer) =
    confirmed_checks is_blocked is_due false (at channels.places number)
    (RefusedWhere (has_said_close (at channels.places number)) AskRefusal.Ended
    ∷ RefusedWhere (is_at (λ kept. kept.waiting_here == 0) (at channels.places number)) NothingOwed ∷ [])
send_checks is_blocked is_due channels (AskGlobal name want rest) =
    common_checks is_blocked is_due (want && is_limit_reached most_waiting_globals channels.globals_there)
    (RefusedWhere (is_too_long (2 + string_size name + length rest)) TooLong ∷ [])
send_checks is_blocked is_due channels (AskGlobalReply true rest) =
    common_checks is_blocked is_due false
    (RefusedWhere (channels.globals_here == 0) NothingOwed ∷ RefusedWhere (is_too_long (1 + length rest)) TooLong
    ∷ [])
send_checks is_blocked is_due channels (AskGlobalReply false rest) =
    common_checks is_blocked is_due false (RefusedWhere (channels.globals_here == 0) NothingOwed ∷ [])
send_checks is_blocked is_due channels _ = []

-- The message that is sent on an ask, the local number of its item, and the fact that is told.
pub record Sent : Type 0 where
  pub channel : Option ℕ
  pub message : Msg
  pub fact : Option Fact

-- one message that is sent on a channel
abbrev pub sends_on : ℕ → Msg → Sent
sends_on number message = record { channel = Some number; message = message; fact = None }

-- one message that is sent without a channel
abbrev pub sends_globally : Msg → Sent
sends_globally message = record { channel = None; message = message; fact = None }

-- How each ask changes the channels, and what it sends. One constructor is one row.
pub data Sends (channels : Channels) : Ask → Sent → Channels → Type 0 where
  opens : (number : ℕ) (kind : List ℕ) (window max_packet : ℕ) (rest : List ℕ) → IsUnused channels.places number →
      window ≤ largest_window →
      Sends channels (AskOpen kind window max_packet rest)
      (record {
        channel = Some number;
        message = ChannelOpen kind number window max_packet rest;
        fact = Some (Opening number);
      })
      (put number (Some (opening_place window max_packet)) channels)
  confirm : (number window max_packet : ℕ) (rest : List ℕ) → window ≤ largest_window →
      Sends channels (AskConfirm number window max_packet rest)
      (sends_on number (ChannelOpenConfirmation (peer_of (at channels.places number)) number window max_packet rest))
      (change number
      (λ kept. record kept { is_answered = true; receive_window = window; max_packet_here = max_packet }) channels)
  refuse : (number reason : ℕ) →
      Sends channels (AskRefuse number reason)
      (sends_on number (ChannelOpenFailure (peer_of (at channels.places number)) reason [] []))
      (put number None channels)
  gives_data : (number : ℕ) (body : List ℕ) →
      Sends channels (AskData number None body)
      (sends_on number (ChannelData (peer_of (at channels.places number)) body))
      (change number (λ kept. record kept { send_window = kept.send_window - length body }) channels)
  gives_extended : (number kind : ℕ) (body : List ℕ) →
      Sends channels (AskData number (Some kind) body)
      (sends_on number (ChannelExtendedData (peer_of (at channels.places number)) kind body))
      (change number (λ kept. record kept { send_window = kept.send_window - length body }) channels)
  adjust : (number bytes : ℕ) →
      Sends channels (AskAdjust number bytes)
      (sends_on number (ChannelWindowAdjust (peer_of (at channels.places number)) bytes))
      (change number (λ kept. record kept { receive_window = kept.receive_window + bytes }) channels)
  eof : (number : ℕ) →
      Sends channels (AskEof number) (sends_on number (ChannelEof (peer_of (at channels.places number))))
      (change number (λ kept. record kept { eof_sent = true }) channels)
  close : (number : ℕ) →
      Sends channels (AskClose number) (sends_on number (ChannelClose (peer_of (at channels.places number))))
      (change number (λ kept. record kept { close_said = true }) channels)
  request : (number : ℕ) (name : List ℕ) (want : Bool) (rest : List ℕ) →
      Sends channels (AskRequest number name want rest)
      (sends_on number (ChannelRequest (peer_of (at channels.places number)) name want rest))
      (change number (λ kept. record kept { waiting_there = count_where want kept.waiting_there }) channels)
  reply_yes : (number : ℕ) →
      Sends channels (AskReply number true) (sends_on number (ChannelSuccess (peer_of (at channels.places number))))
      (change number (λ kept. record kept { waiting_here = kept.waiting_here - 1 }) channels)
  reply_no : (number : ℕ) →
      Sends channels (AskReply number false) (sends_on number (ChannelFailure (peer_of (at channels.places number))))
      (change number (λ kept. record kept { waiting_here = kept.waiting_here - 1 }) channels)
  global : (name : List ℕ) (want : Bool) (rest : List ℕ) →
      Sends channels (AskGlobal name want rest) (sends_globally (GlobalRequest name want rest))
      (record channels { globals_there = count_where want channels.globals_there })
  global_yes : (rest : List ℕ) →
      Sends channels (AskGlobalReply true rest) (sends_globally (RequestSuccess rest))
      (record channels { globals_here = channels.globals_here - 1 })
  global_no : (rest : List ℕ) →
      Sends channels (AskGlobalReply false rest) (sends_globally RequestFailure)
      (record channels { globals_here = channels.globals_here - 1 })
