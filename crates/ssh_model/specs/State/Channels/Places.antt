-- What an end keeps and shows of each local number in use, read off its notes and the replies that it owes
-- (own).
use Rattle.std.specs.Prelude.{◌≡◌, ℕ, zero, suc, ◌-◌, List, [], ◌∷◌, Bool, true, false, cond, not, ◌&&◌, ◌||◌, Option}
use Rattle.std.specs.Prelude.{Some, None, slice_index_or}
use Rattle.ssh_model.specs.Protocol.Bounds.{most_channels}
use Rattle.ssh_model.specs.declared.side.Side.{Side}
use Rattle.ssh_model.specs.Protocol.Channels.Message.{Message, Message.OpenFailure, Message.Eof, Message.Close, mine, window}
use Rattle.ssh_model.specs.Protocol.Channels.Message.{spent, sender, max_packet, stage, closed, begun}
use Rattle.ssh_model.specs.Protocol.Channels.Notes.{Note, channel_at}
use Rattle.ssh_model.specs.Protocol.Channels.Numbers.{said_at, took_at, has_open, is_held, is_offered}
use Rattle.ssh_model.specs.Protocol.Channels.Numbers.{is_waiting, has_closed, send_window, waiting_here, waiting_there}
use Rattle.ssh_model.specs.Protocol.Channels.History.{Item, Item.Sent, is_owed}

-- An EOF is among these messages.
abbrev pub has_eof : List Message → Bool
has_eof [] = false
has_eof (Eof to ∷ older) = true
has_eof (_ ∷ older) = has_eof older

-- The state of one channel (RFC 4254 section 5).
pub record Place : Type 0 where
  -- this end opened it; the OPEN was answered with OPEN_CONFIRMATION
  pub is_own : Bool
  pub is_answered : Bool
  -- EOF sent and taken
  pub eof_sent : Bool
  pub eof_taken : Bool
  -- CLOSE said, which is sent unless it is owed, and taken
  pub close_said : Bool
  pub close_owed : Bool
  pub close_taken : Bool
  pub peer_number : ℕ
  -- the window left for this end's data, and for the peer's
  pub send_window : ℕ
  pub receive_window : ℕ
  -- the largest data that this end takes, and that the peer takes
  pub max_packet_here : ℕ
  pub max_packet_there : ℕ
  -- requests of the peer, and of this end, that wait for a reply
  pub waiting_here : ℕ
  pub waiting_there : ℕ

-- the place of a channel, from the messages said and taken on it and the requests that wait. `own`: this end opened it
unfoldable pub place_of : Bool → (said took : List Message) → (here there : ℕ) → Place
place_of own said took here there = record {
  is_own = own;
  is_answered = begun said && begun took;
  eof_sent = has_eof said;
  eof_taken = has_eof took;
  close_said = closed (stage said);
  close_owed = false;
  close_taken = closed (stage took);
  peer_number = sender took;
  send_window = window took - spent said;
  receive_window = window said - spent took;
  max_packet_here = max_packet said;
  max_packet_there = max_packet took;
  waiting_here = here;
  waiting_there = there;
}

-- the place at a number, by the notes of a history
unfoldable pub place_at : Side → ℕ → List Note → Place
place_at side number notes =
    place_of (mine side (channel_at number notes)) (said_at number notes) (took_at number notes)
    (waiting_here number notes) (waiting_there number notes)

-- A number is in use while it is held, and while a CLOSE is owed at it.
abbrev pub in_use : List Note → List Item → ℕ → Bool
in_use notes owed number = is_held number notes || is_owed number owed

-- the place that an end keeps at a number, if the number is in use
unfoldable pub place : Side → List Note → List Item → ℕ → Option Place
place side notes owed number =
    cond (is_held number notes) (Some (place_at side number notes))
    (cond (is_owed number owed) (Some (record (place_at side number notes) { close_owed = true })) None)

-- ---- the replies that are owed

-- The channel that was opened last at this number is over, and both ends said CLOSE on it.
pub record IsOver (number : ℕ) (notes : List Note) : Type 0 where
  pub opened : has_open number notes ≡ true
  pub held : is_held number notes ≡ false
  pub close_taken : closed (stage (took_at number notes)) ≡ true
  pub close_said : has_closed number notes ≡ true

-- Each owed reply is an OPEN_FAILURE, or the CLOSE of a channel that is over. A number has at most one such CLOSE.
abbrev pub AreOwed : List Item → List Note → Type 0
AreOwed [] notes = Unit {0}
AreOwed (Sent None (OpenFailure to) ∷ owed) notes = AreOwed owed notes
AreOwed (Sent (Some number) (Close to) ∷ owed) notes =
    IsOver number notes × ((is_owed number owed ≡ false) × AreOwed owed notes)
AreOwed _ notes = ⊥

-- ---- what an end shows of a number

-- This end's OPEN has no answer, or the peer's OPEN has none, or the channel is confirmed.
pub data ChannelState : Type 0 where
  -- this end opened it, or the peer did, and the OPEN is not answered
  Opening Waiting : ChannelState
  Confirmed : (eof_sent eof_taken close_sent close_taken : Bool) → ChannelState

-- the state that an end shows of a number, by a history
abbrev pub channel_state : Side → List Note → List Item → ℕ → Option ChannelState
channel_state side notes owed number =
    cond (is_offered side number notes) (Some Opening)
    (cond (is_waiting side number notes) (Some Waiting)
    (cond (in_use notes owed number)
    (Some (Confirmed (has_eof (said_at number notes)) (has_eof (took_at number notes))
    (has_closed number notes && not (is_owed number owed)) (closed (stage (took_at number notes)))))
    None))

-- the window left for this end's data if the channel is confirmed, even while its CLOSE is owed
abbrev pub room : List Note → List Item → ℕ → Option ℕ
room notes owed number =
    cond (in_use notes owed number && (begun (said_at number notes) && begun (took_at number notes)))
    (Some (send_window number notes)) None

-- how many numbers below this one satisfy a condition
unfoldable pub count_below : (ℕ → Bool) → ℕ → ℕ
count_below meets zero = 0
count_below meets (suc number) = cond (meets number) (suc (count_below meets number)) (count_below meets number)

-- how many of the numbers that an end has are in use
unfoldable pub count : List Note → List Item → ℕ
count notes owed = count_below (in_use notes owed) most_channels

-- ---- the same from the places

-- the entry at a number of a table; nothing outside the table
abbrev pub at : {A : Type 0} → List (Option A) → ℕ → Option A
at places number = slice_index_or places number None

-- a condition on the place at a number; false if there is no place
abbrev pub is_at : (Place → Bool) → Option Place → Bool
is_at holds None = false
is_at holds (Some place) = holds place

-- The channel is confirmed, and the peer has not closed it.
abbrev pub is_open : Place → Bool
is_open place = place.is_answered && not place.close_taken

-- The OPEN of this end has no answer yet.
abbrev pub is_opening : Place → Bool
is_opening place = place.is_own && not place.is_answered

-- The OPEN of the peer has no answer yet.
abbrev pub is_waiting_place : Place → Bool
is_waiting_place place = not place.is_own && not place.is_answered

-- the state that an end shows, from the place
abbrev pub shown_state : Option Place → Option ChannelState
shown_state None = None
shown_state (Some place) =
    cond place.is_answered
    (Some (Confirmed place.eof_sent place.eof_taken (place.close_said && not place.close_owed) place.close_taken))
    (cond place.is_own (Some Opening) (Some Waiting))

-- the bytes that may be sent, as an end shows them, from the place
abbrev pub shown_room : Option Place → Option ℕ
shown_room None = None
shown_room (Some place) = cond place.is_answered (Some place.send_window) None
