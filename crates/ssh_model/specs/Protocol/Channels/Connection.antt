-- How an end answers the messages of the connection, and the asks for them. One clause or constructor is one row. The state of
-- channels is read off the notes of their messages (own, if nothing else is said).
use Rattle.std.specs.Prelude.{◌≡◌, ℕ, suc, ◌+◌, ◌-◌, Bool, true, false, not, ◌==◌, ◌&&◌, ◌||◌, nat_le, nat_lt, Option}
use Rattle.std.specs.Prelude.{Some, None, List, [], ◌∷◌, length}
use Rattle.ssh_model.specs.Protocol.Bounds.{largest_data, largest_window, most_owed_replies, most_waiting_globals, most_waiting_requests}
use Rattle.ssh_model.specs.declared.side.Side.{Side}
use Rattle.ssh_model.specs.Protocol.Wire.Message.{Msg, Msg.KexInit, Msg.NewKeys, Msg.GlobalRequest, Msg.RequestSuccess}
use Rattle.ssh_model.specs.Protocol.Wire.Message.{Msg.RequestFailure, Msg.ChannelOpen, Msg.ChannelOpenConfirmation}
use Rattle.ssh_model.specs.Protocol.Wire.Message.{Msg.ChannelOpenFailure, Msg.ChannelWindowAdjust, Msg.ChannelData}
use Rattle.ssh_model.specs.Protocol.Wire.Message.{Msg.ChannelExtendedData, Msg.ChannelEof, Msg.ChannelClose}
use Rattle.ssh_model.specs.Protocol.Wire.Message.{Msg.ChannelRequest, Msg.ChannelSuccess, Msg.ChannelFailure, Msg.Unknown}
use Rattle.ssh_model.specs.declared.refusal.Refusal.{Refusal}
use Rattle.ssh_model.specs.declared.refusal.Refusal.TheVariants.{Unexpected}
use Rattle.ssh_model.specs.Protocol.Sessions.Refusals.{Check, Check.RefusedWhere}
use Rattle.ssh_model.specs.declared.refusal.Refusal.TheVariants.{UnknownChannel, WindowOverrun, WindowTooLarge}
use Rattle.ssh_model.specs.declared.refusal.Refusal.TheVariants.{OwedFull}
use Rattle.ssh_model.specs.declared.ask_refusal.AskRefusal.{AskRefusal}
use Rattle.ssh_model.specs.declared.ask_refusal.AskRefusal.TheVariants.{NotYet, Busy}
use Rattle.ssh_model.specs.declared.ask_refusal.AskRefusal.TheVariants.{NoChannel, NoRoom, TooLong}
use Rattle.ssh_model.specs.declared.ask_refusal.AskRefusal.TheVariants.{TableFull, NothingOwed, RekeyDue}
use Rattle.ssh_model.specs.declared.ask_refusal.AskRefusal.TheVariants.{TooMuch}
use Rattle.ssh_model.specs.Protocol.Sessions.Parties.{Parties, settings_of}
use Rattle.ssh_model.specs.Protocol.Sessions.Items.{Ask, Ask.AskOpen, Ask.AskConfirm, Ask.AskRefuse, Ask.AskData}
use Rattle.ssh_model.specs.Protocol.Sessions.Items.{Ask.AskAdjust, Ask.AskEof, Ask.AskClose, Ask.AskRequest, Ask.AskReply}
use Rattle.ssh_model.specs.Protocol.Sessions.Items.{Ask.AskGlobal, Ask.AskGlobalReply, Fact.Global, Fact.GlobalDone}
use Rattle.ssh_model.specs.Protocol.Sessions.Items.{Fact.Opening, Fact.Opened, Fact.Confirmed, Fact.OpenFailed, Fact.GotData}
use Rattle.ssh_model.specs.Protocol.Sessions.Items.{Fact.Adjusted, Fact.Ended, Fact.Closed, Fact.Requested, Fact.RequestDone}
use Rattle.ssh_model.specs.Protocol.Sessions.Items.{Item, Item.Sent, Item.Took, Item.Told, sent}
use Rattle.ssh_model.specs.Protocol.Sessions.Epochs.{count}
use Rattle.ssh_model.specs.Protocol.Sessions.Phases.{authenticated, blocked}
use Rattle.ssh_model.specs.Protocol.Channels.Message.{Message, Message.Open, Message.OpenConfirmation, Message.OpenFailure}
use Rattle.ssh_model.specs.Protocol.Channels.Message.{Message.WindowAdjust, Message.Data, Message.Eof, Message.Close}
use Rattle.ssh_model.specs.Protocol.Channels.Message.{Message.Request, Message.Reply}
use Rattle.ssh_model.specs.Protocol.Channels.Notes.{Note}
use Rattle.ssh_model.specs.Protocol.Channels.Numbers.{is_held, is_confirmed, is_offered, is_waiting, has_ended}
use Rattle.ssh_model.specs.Protocol.Channels.Numbers.{has_closed, peer_ended, send_window, receive_window, max_packet_there}
use Rattle.ssh_model.specs.Protocol.Channels.Numbers.{peer_number, waiting_here, waiting_there, is_unknown_channel}
use Rattle.ssh_model.specs.Protocol.Channels.Numbers.{is_window_overrun, is_window_too_large}
use Rattle.ssh_model.specs.Protocol.Channels.History.{due, noted, owed, is_owed, is_free, has_place, at_once}
use Rattle.ssh_model.specs.Protocol.Channels.History as channel
use Rattle.ssh_model.specs.Protocol.Sessions.Sizes.{string_size, is_too_long}

-- ---- the messages on channels, among all messages

-- the message as channels have it; None if windows, numbers and order don't depend on it
abbrev pub on_channel : Msg → Option Message
on_channel (ChannelOpen kind sender window max rest) = Some (Open sender window max)
on_channel (ChannelOpenConfirmation recipient sender window max rest) =
    Some (OpenConfirmation recipient sender window max)
on_channel (ChannelOpenFailure recipient reason description language) = Some (OpenFailure recipient)
on_channel (ChannelWindowAdjust recipient bytes) = Some (WindowAdjust recipient bytes)
on_channel (ChannelData recipient body) = Some (Data recipient None body)
on_channel (ChannelExtendedData recipient kind body) = Some (Data recipient (Some kind) body)
on_channel (ChannelEof recipient) = Some (Eof recipient)
on_channel (ChannelClose recipient) = Some (Close recipient)
on_channel (ChannelRequest recipient name want rest) = Some (Request recipient want)
on_channel (ChannelSuccess recipient) = Some (Reply recipient true)
on_channel (ChannelFailure recipient) = Some (Reply recipient false)
on_channel _ = None

-- these items, and on top the message on channels that was sent, if there is one
abbrev pub sent_on : Option ℕ → Option Message → List channel.Item → List channel.Item
sent_on at None l = l
sent_on at (Some m) l = channel.Item.Sent at m ∷ l

-- these items, and on top the message on channels that was taken, if there is one
abbrev pub received_on : Option ℕ → Option Message → List channel.Item → List channel.Item
received_on at None l = l
received_on at (Some m) l = channel.Item.Received at m ∷ l

-- the items on channels of a history, with local numbers
abbrev pub channel_items : List Item → List channel.Item
channel_items [] = []
channel_items (Sent at (KexInit ours) payload ∷ h) = channel.Item.KexinitSent ∷ channel_items h
channel_items (Sent at NewKeys payload ∷ h) = channel.Item.NewkeysSent ∷ channel_items h
channel_items (Sent at message payload ∷ h) = sent_on at (on_channel message) (channel_items h)
channel_items (Took at message payload ∷ h) = received_on at (on_channel message) (channel_items h)
channel_items (_ ∷ h) = channel_items h

-- the notes on channels that a history makes
abbrev pub notes : Side → List Item → List Note
notes side h = noted side (channel_items h)

-- the replies that fell due while the end was blocked and that it has not sent, as it will send them
abbrev pub owed_replies : Side → List Item → List channel.Item
owed_replies side h = owed side (channel_items h)

-- OPEN_FAILURE because there is no place (reason 4, RESOURCE_SHORTAGE), or CLOSE (RFC 4254 sections 5.1 and 5.3)
abbrev pub reply_message : Message → Msg
reply_message (OpenFailure to) = ChannelOpenFailure to 4 [] []
reply_message (Close to) = ChannelClose to
reply_message _ = Unknown 0

-- The items are these replies, sent, with any payloads.
pub data AreReplies : List channel.Item → List Item → Type 0 where
  none : AreReplies [] []
  reply : {l : List channel.Item} {items : List Item} (at : Option ℕ) (m : Message) (payload : List ℕ) →
      AreReplies l items →
      AreReplies (channel.Item.Sent at m ∷ l) (Sent at (reply_message m) payload ∷ items)

-- ---- numbers and requests in use

-- The table of channels is full.
abbrev pub is_full : Side → List Item → Bool
is_full side h = not (has_place side (channel_items h))

-- how many global requests of the peer wait for this end, and how many of this end wait for the peer (RFC 4254 section 4)
abbrev pub globals_here : List Item → ℕ
globals_here [] = 0
globals_here (Took at (GlobalRequest name true rest) payload ∷ h) = suc (globals_here h)
globals_here (Sent at (RequestSuccess rest) payload ∷ h) = globals_here h - 1
globals_here (Sent at RequestFailure payload ∷ h) = globals_here h - 1
globals_here (_ ∷ h) = globals_here h

abbrev pub globals_there : List Item → ℕ
globals_there [] = 0
globals_there (Sent at (GlobalRequest name true rest) payload ∷ h) = suc (globals_there h)
globals_there (Took at (RequestSuccess rest) payload ∷ h) = globals_there h - 1
globals_there (Took at RequestFailure payload ∷ h) = globals_there h - 1
globals_there (_ ∷ h) = globals_there h

-- A limit is reached, on waiting requests or owed replies: there are at least so many.
abbrev pub is_limit_reached : (limit : ℕ) → ℕ → Bool
is_limit_reached limit n = nat_le limit n

-- The end is blocked, and can't owe one more reply.
abbrev pub is_owed_limit_reached : Side → List Item → Bool
is_owed_limit_reached side h = blocked h && is_limit_reached most_owed_replies (length (owed_replies side h))

-- ---- checks on messages

-- The checks on a message of the connection, in order. A number also counts as used while a CLOSE is owed at it (RFC 4254
-- sections 4 and 5, own).
abbrev pub connection_checks : Side → List Item → Msg → List (Check Refusal)
connection_checks side h (GlobalRequest name want rest) =
    RefusedWhere (want && is_limit_reached most_waiting_globals (globals_here h)) OwedFull ∷ []
connection_checks side h (RequestSuccess rest) = RefusedWhere (globals_there h == 0) Unexpected ∷ []
connection_checks side h RequestFailure = RefusedWhere (globals_there h == 0) Unexpected ∷ []
connection_checks side h (ChannelOpen kind sender window max rest) =
    RefusedWhere (is_full side h && is_owed_limit_reached side h) OwedFull ∷ []
connection_checks side h (ChannelOpenConfirmation recipient sender window max rest) =
    RefusedWhere (is_unknown_channel (OpenConfirmation recipient sender window max) (notes side h)
    && not (is_owed recipient (owed_replies side h))) UnknownChannel
    ∷ RefusedWhere (not (is_offered side recipient (notes side h))) Unexpected ∷ []
connection_checks side h (ChannelOpenFailure recipient reason description language) =
    RefusedWhere (is_unknown_channel (OpenFailure recipient) (notes side h)
    && not (is_owed recipient (owed_replies side h))) UnknownChannel
    ∷ RefusedWhere (not (is_offered side recipient (notes side h))) Unexpected ∷ []
connection_checks side h (ChannelWindowAdjust recipient bytes) =
    RefusedWhere (is_unknown_channel (WindowAdjust recipient bytes) (notes side h)) UnknownChannel
    ∷ RefusedWhere (is_window_too_large (WindowAdjust recipient bytes) (notes side h)) WindowTooLarge ∷ []
connection_checks side h (ChannelData recipient body) =
    RefusedWhere (is_unknown_channel (Data recipient None body) (notes side h)) UnknownChannel
    ∷ RefusedWhere (peer_ended recipient (notes side h)) Unexpected
    ∷ RefusedWhere (is_window_overrun (Data recipient None body) (notes side h)) WindowOverrun ∷ []
connection_checks side h (ChannelExtendedData recipient kind body) =
    RefusedWhere (is_unknown_channel (Data recipient (Some kind) body) (notes side h)) UnknownChannel
    ∷ RefusedWhere (peer_ended recipient (notes side h)) Unexpected
    ∷ RefusedWhere (is_window_overrun (Data recipient (Some kind) body) (notes side h)) WindowOverrun ∷ []
connection_checks side h (ChannelEof recipient) =
    RefusedWhere (is_unknown_channel (Eof recipient) (notes side h)) UnknownChannel
    ∷ RefusedWhere (peer_ended recipient (notes side h)) Unexpected ∷ []
connection_checks side h (ChannelClose recipient) =
    RefusedWhere (is_unknown_channel (Close recipient) (notes side h)) UnknownChannel
    ∷ RefusedWhere (not (has_closed recipient (notes side h)) && is_owed_limit_reached side h) OwedFull ∷ []
connection_checks side h (ChannelRequest recipient name want rest) =
    RefusedWhere (is_unknown_channel (Request recipient want) (notes side h)) UnknownChannel
    ∷ RefusedWhere
    (want && not (has_closed recipient (notes side h))
    && is_limit_reached most_waiting_requests (waiting_here recipient (notes side h))) OwedFull ∷ []
connection_checks side h (ChannelSuccess recipient) =
    RefusedWhere (is_unknown_channel (Reply recipient true) (notes side h)) UnknownChannel
    ∷ RefusedWhere (waiting_there recipient (notes side h) == 0) Unexpected ∷ []
connection_checks side h (ChannelFailure recipient) =
    RefusedWhere (is_unknown_channel (Reply recipient false) (notes side h)) UnknownChannel
    ∷ RefusedWhere (waiting_there recipient (notes side h) == 0) Unexpected ∷ []
connection_checks side h _ = []

-- ---- answers

-- The end sends the replies at once, or owes them if it is blocked.
abbrev pub AreDue : Side → List Item → Option ℕ → Message → List Item → Type 0
AreDue side h at m replies = AreReplies (at_once (blocked h) (due at m (notes side h))) replies

-- The items that the end of this side, with the history h, adds to a message that it took, the newest first. The number
-- is the end's own number for the channel of the message (RFC 4254 sections 4 and 5).
pub data ConnectionAnswer : Side → List Item → Option ℕ → Msg → List Item → Type 0 where
  -- RFC 4254 section 4
  global : {side : Side} {h : List Item} (name : List ℕ) (want : Bool) (rest : List ℕ) →
      ConnectionAnswer side h None (GlobalRequest name want rest) (Told (Global name want rest) ∷ [])
  global_success : {side : Side} {h : List Item} (rest : List ℕ) →
      ConnectionAnswer side h None (RequestSuccess rest) (Told (GlobalDone true rest) ∷ [])
  global_failure : {side : Side} {h : List Item} →
      ConnectionAnswer side h None RequestFailure (Told (GlobalDone false []) ∷ [])
  -- RFC 4254 section 5.1: the channel gets any free number; if none is free, the OPEN is refused and not told
  opened : {side : Side} {h : List Item} (x : ℕ) (kind : List ℕ) (sender window max : ℕ) (rest : List ℕ) →
      is_free side (channel_items h) x ≡ true →
      ConnectionAnswer side h (Some x) (ChannelOpen kind sender window max rest)
      (Told (Opened x kind window max rest) ∷ [])
  not_opened : {side : Side} {h replies : List Item} (kind : List ℕ) (sender window max : ℕ) (rest : List ℕ) →
      is_full side h ≡ true →
      AreDue side h None (Open sender window max) replies →
      ConnectionAnswer side h None (ChannelOpen kind sender window max rest) replies
  confirmation : {side : Side} {h : List Item} (recipient sender window max : ℕ) (rest : List ℕ) →
      ConnectionAnswer side h (Some recipient) (ChannelOpenConfirmation recipient sender window max rest)
      (Told (Confirmed recipient window max rest) ∷ [])
  failure : {side : Side} {h : List Item} (recipient reason : ℕ) (description language : List ℕ) →
      ConnectionAnswer side h (Some recipient) (ChannelOpenFailure recipient reason description language)
      (Told (OpenFailed recipient reason description) ∷ [])
  -- RFC 4254 section 5.2
  adjust : {side : Side} {h : List Item} (recipient bytes : ℕ) →
      ConnectionAnswer side h (Some recipient) (ChannelWindowAdjust recipient bytes)
      (Told (Adjusted recipient bytes) ∷ [])
  got_data : {side : Side} {h : List Item} (recipient : ℕ) (body : List ℕ) →
      ConnectionAnswer side h (Some recipient) (ChannelData recipient body) (Told (GotData recipient None body) ∷ [])
  got_extended : {side : Side} {h : List Item} (recipient kind : ℕ) (body : List ℕ) →
      ConnectionAnswer side h (Some recipient) (ChannelExtendedData recipient kind body)
      (Told (GotData recipient (Some kind) body) ∷ [])
  -- RFC 4254 section 5.3: the end answers a CLOSE with a CLOSE, unless it has sent one
  eof : {side : Side} {h : List Item} (recipient : ℕ) →
      ConnectionAnswer side h (Some recipient) (ChannelEof recipient) (Told (Ended recipient) ∷ [])
  close : {side : Side} {h replies : List Item} (recipient : ℕ) →
      AreDue side h (Some recipient) (Close recipient) replies →
      ConnectionAnswer side h (Some recipient) (ChannelClose recipient) (Told (Closed recipient) ∷ replies)
  -- RFC 4254 section 5.4
  request : {side : Side} {h : List Item} (recipient : ℕ) (name : List ℕ) (want : Bool) (rest : List ℕ) →
      ConnectionAnswer side h (Some recipient) (ChannelRequest recipient name want rest)
      (Told (Requested recipient name want rest) ∷ [])
  success : {side : Side} {h : List Item} (recipient : ℕ) →
      ConnectionAnswer side h (Some recipient) (ChannelSuccess recipient) (Told (RequestDone recipient true) ∷ [])
  no_success : {side : Side} {h : List Item} (recipient : ℕ) →
      ConnectionAnswer side h (Some recipient) (ChannelFailure recipient) (Told (RequestDone recipient false) ∷ [])

-- ---- asks

-- So many packets were sent in this epoch that a new exchange is due (RFC 4344 section 3.1).
abbrev pub is_rekey_due : {K : Type 0} → Parties K → Side → List Item → Bool
is_rekey_due p side h = nat_le (settings_of p side).epoch_limit (count (sent h))

-- The checks before those of the ask itself: the end is blocked, too many requests wait (`busy`), or a new exchange is due.
abbrev pub common_checks : (is_blocked is_due busy : Bool) → List (Check AskRefusal) → List (Check AskRefusal)
common_checks is_blocked is_due busy checks =
    RefusedWhere (is_blocked || busy) Busy ∷ RefusedWhere is_due RekeyDue ∷ checks

-- An end may offer to take this many bytes of data in one message: 1 to 32,768.
abbrev pub is_max_packet : ℕ → Bool
is_max_packet max_packet = nat_le 1 max_packet && nat_le max_packet largest_data

-- The checks on an ask for a message of the connection, except that the end is authenticated. `is_blocked`: the end is blocked.
-- `is_due`: a new exchange is due (RFC 4254 section 5, own).
abbrev pub channel_ask_checks : (is_blocked is_due : Bool) → Side → List Item → Ask → List (Check AskRefusal)
channel_ask_checks is_blocked is_due side h (AskOpen kind window max_packet rest) =
    common_checks is_blocked is_due false
    (RefusedWhere (is_full side h) TableFull ∷ RefusedWhere (not (is_max_packet max_packet)) TooMuch
    ∷ RefusedWhere (is_too_long (13 + string_size kind + length rest)) TooLong ∷ [])
channel_ask_checks is_blocked is_due side h (AskConfirm x window max_packet rest) =
    common_checks is_blocked is_due false
    (RefusedWhere (not (is_waiting side x (notes side h))) NoChannel
    ∷ RefusedWhere (not (is_max_packet max_packet)) TooMuch
    ∷ RefusedWhere (is_too_long (17 + length rest)) TooLong ∷ [])
channel_ask_checks is_blocked is_due side h (AskRefuse x reason) =
    common_checks is_blocked is_due false (RefusedWhere (not (is_waiting side x (notes side h))) NoChannel ∷ [])
channel_ask_checks is_blocked is_due side h (AskData x kind body) =
    common_checks is_blocked is_due false
    (RefusedWhere (not (is_confirmed x (notes side h))) NoChannel
    ∷ RefusedWhere (has_ended x (notes side h)) AskRefusal.Ended
    ∷ RefusedWhere (nat_lt largest_data (length body) || nat_lt (max_packet_there x (notes side h)) (length body)) TooLong
    ∷ RefusedWhere (nat_lt (send_window x (notes side h)) (length body)) NoRoom ∷ [])
channel_ask_checks is_blocked is_due side h (AskAdjust x bytes) =
    common_checks is_blocked is_due false
    (RefusedWhere (not (is_confirmed x (notes side h))) NoChannel
    ∷ RefusedWhere (has_closed x (notes side h)) AskRefusal.Ended
    ∷ RefusedWhere (nat_lt largest_window (bytes + receive_window x (notes side h))) TooMuch ∷ [])
channel_ask_checks is_blocked is_due side h (AskEof x) =
    common_checks is_blocked is_due false
    (RefusedWhere (not (is_confirmed x (notes side h))) NoChannel
    ∷ RefusedWhere (has_ended x (notes side h)) AskRefusal.Ended ∷ [])
channel_ask_checks is_blocked is_due side h (AskClose x) =
    common_checks is_blocked is_due false
    (RefusedWhere (not (is_confirmed x (notes side h))) NoChannel
    ∷ RefusedWhere (has_closed x (notes side h)) AskRefusal.Ended ∷ [])
channel_ask_checks is_blocked is_due side h (AskRequest x name want rest) =
    common_checks is_blocked is_due
    (want && is_held x (notes side h) && is_limit_reached most_waiting_requests (waiting_there x (notes side h)))
    (RefusedWhere (not (is_confirmed x (notes side h))) NoChannel
    ∷ RefusedWhere (has_closed x (notes side h)) AskRefusal.Ended
    ∷ RefusedWhere (is_too_long (6 + string_size name + length rest)) TooLong ∷ [])
channel_ask_checks is_blocked is_due side h (AskReply x answer) =
    common_checks is_blocked is_due false
    (RefusedWhere (not (is_confirmed x (notes side h))) NoChannel
    ∷ RefusedWhere (has_closed x (notes side h)) AskRefusal.Ended
    ∷ RefusedWhere (waiting_here x (notes side h) == 0) NothingOwed ∷ [])
channel_ask_checks is_blocked is_due side h (AskGlobal name want rest) =
    common_checks is_blocked is_due (want && is_limit_reached most_waiting_globals (globals_there h))
    (RefusedWhere (is_too_long (2 + string_size name + length rest)) TooLong ∷ [])
channel_ask_checks is_blocked is_due side h (AskGlobalReply true rest) =
    common_checks is_blocked is_due false
    (RefusedWhere (globals_here h == 0) NothingOwed ∷ RefusedWhere (is_too_long (1 + length rest)) TooLong ∷ [])
channel_ask_checks is_blocked is_due side h (AskGlobalReply false rest) =
    common_checks is_blocked is_due false (RefusedWhere (globals_here h == 0) NothingOwed ∷ [])
channel_ask_checks is_blocked is_due side h _ = []

-- If there are checks, the end has to be authenticated first.
abbrev pub after_authentication : Bool → List (Check AskRefusal) → List (Check AskRefusal)
after_authentication is_authenticated [] = []
after_authentication is_authenticated (check ∷ checks) = RefusedWhere (not is_authenticated) NotYet ∷ check ∷ checks

-- the checks on an ask on channels, in order, each with its refusal (RFC 4254 section 5, own)
abbrev pub connection_ask_checks : {K : Type 0} → Parties K → Side → List Item → Ask → List (Check AskRefusal)
connection_ask_checks p side h ask =
    after_authentication (authenticated side h) (channel_ask_checks (blocked h) (is_rekey_due p side h) side h ask)

-- the items that an end adds for an ask that it does not refuse (RFC 4254 sections 4 and 5)
pub data ConnectionAsk : Side → List Item → Ask → List Item → Type 0 where
  opens : {side : Side} {h : List Item} (x : ℕ) (kind : List ℕ) (window max_packet : ℕ) (rest payload : List ℕ) →
      is_free side (channel_items h) x ≡ true →
      ConnectionAsk side h (AskOpen kind window max_packet rest)
      (Told (Opening x) ∷ Sent (Some x) (ChannelOpen kind x window max_packet rest) payload ∷ [])
  confirm : {side : Side} {h : List Item} (x window max_packet : ℕ) (rest payload : List ℕ) →
      ConnectionAsk side h (AskConfirm x window max_packet rest)
      (Sent (Some x) (ChannelOpenConfirmation (peer_number x (notes side h)) x window max_packet rest) payload ∷ [])
  refuse : {side : Side} {h : List Item} (x reason : ℕ) (payload : List ℕ) →
      ConnectionAsk side h (AskRefuse x reason)
      (Sent (Some x) (ChannelOpenFailure (peer_number x (notes side h)) reason [] []) payload ∷ [])
  sends : {side : Side} {h : List Item} (x : ℕ) (body payload : List ℕ) →
      ConnectionAsk side h (AskData x None body)
      (Sent (Some x) (ChannelData (peer_number x (notes side h)) body) payload ∷ [])
  sends_extended : {side : Side} {h : List Item} (x kind : ℕ) (body payload : List ℕ) →
      ConnectionAsk side h (AskData x (Some kind) body)
      (Sent (Some x) (ChannelExtendedData (peer_number x (notes side h)) kind body) payload ∷ [])
  adjust : {side : Side} {h : List Item} (x bytes : ℕ) (payload : List ℕ) →
      ConnectionAsk side h (AskAdjust x bytes)
      (Sent (Some x) (ChannelWindowAdjust (peer_number x (notes side h)) bytes) payload ∷ [])
  eof : {side : Side} {h : List Item} (x : ℕ) (payload : List ℕ) →
      ConnectionAsk side h (AskEof x) (Sent (Some x) (ChannelEof (peer_number x (notes side h))) payload ∷ [])
  close : {side : Side} {h : List Item} (x : ℕ) (payload : List ℕ) →
      ConnectionAsk side h (AskClose x) (Sent (Some x) (ChannelClose (peer_number x (notes side h))) payload ∷ [])
  request : {side : Side} {h : List Item} (x : ℕ) (name : List ℕ) (want : Bool) (rest payload : List ℕ) →
      ConnectionAsk side h (AskRequest x name want rest)
      (Sent (Some x) (ChannelRequest (peer_number x (notes side h)) name want rest) payload ∷ [])
  reply_yes : {side : Side} {h : List Item} (x : ℕ) (payload : List ℕ) →
      ConnectionAsk side h (AskReply x true)
      (Sent (Some x) (ChannelSuccess (peer_number x (notes side h))) payload ∷ [])
  reply_no : {side : Side} {h : List Item} (x : ℕ) (payload : List ℕ) →
      ConnectionAsk side h (AskReply x false)
      (Sent (Some x) (ChannelFailure (peer_number x (notes side h))) payload ∷ [])
  global : {side : Side} {h : List Item} (name : List ℕ) (want : Bool) (rest payload : List ℕ) →
      ConnectionAsk side h (AskGlobal name want rest) (Sent None (GlobalRequest name want rest) payload ∷ [])
  global_yes : {side : Side} {h : List Item} (rest payload : List ℕ) →
      ConnectionAsk side h (AskGlobalReply true rest) (Sent None (RequestSuccess rest) payload ∷ [])
  global_no : {side : Side} {h : List Item} (rest payload : List ℕ) →
      ConnectionAsk side h (AskGlobalReply false rest) (Sent None RequestFailure payload ∷ [])
