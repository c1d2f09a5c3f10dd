-- The state of the channel with a local number, read off the notes of an end, as an end computes it (own, if nothing else is said).
use Rattle.std.specs.Prelude.{ℕ, ◌+◌, ◌-◌, List, [], ◌∷◌, length, Bool, true, false, cond, not, ◌&&◌, ◌||◌, nat_lt}
use Rattle.std.specs.Prelude.{◌==◌}
use Rattle.ssh_model.specs.Protocol.Bounds.{largest_window}
use Rattle.ssh_model.specs.declared.side.Side.{Side}
use Rattle.ssh_model.specs.Protocol.Channels.Message.{Message, Message.Open, Message.OpenConfirmation, Message.OpenFailure}
use Rattle.ssh_model.specs.Protocol.Channels.Message.{Message.WindowAdjust, Message.Data, mine, recipient, window, spent}
use Rattle.ssh_model.specs.Protocol.Channels.Message.{sender, max_packet, stage, closed, ended, begun, over}
use Rattle.ssh_model.specs.Protocol.Channels.Notes.{Note, Note.Said, Note.Took, said, took, channel_at, waits_here, waits_there}

-- the messages said and taken on the channel that was opened last at this number
abbrev pub said_at : ℕ → List Note → List Message
said_at number notes = said (channel_at number notes) notes

abbrev pub took_at : ℕ → List Note → List Message
took_at number notes = took (channel_at number notes) notes

-- There are no messages.
abbrev pub is_empty : List Message → Bool
is_empty [] = true
is_empty _ = false

-- An OPEN was said or taken at this number.
abbrev pub has_open : ℕ → List Note → Bool
has_open number [] = false
has_open number (Said at channel (Open from window max_packet) ∷ notes) =
    cond (number == at) true (has_open number notes)
has_open number (Took at channel (Open from window max_packet) ∷ notes) =
    cond (number == at) true (has_open number notes)
has_open number (_ ∷ notes) = has_open number notes

-- A channel has this number and is not over.
abbrev pub is_held : ℕ → List Note → Bool
is_held number notes = has_open number notes && not (over (said_at number notes) (took_at number notes))

-- Both ends opened or confirmed the channel, and the peer has not closed it (RFC 4254 sections 5.1 and 5.3).
abbrev pub is_confirmed : ℕ → List Note → Bool
is_confirmed number notes =
    is_held number notes
    && (begun (said_at number notes)
    && (begun (took_at number notes) && not (closed (stage (took_at number notes)))))

-- This end opened the channel, and the peer has not answered.
abbrev pub is_offered : Side → ℕ → List Note → Bool
is_offered side number notes =
    is_held number notes
    && (mine side (channel_at number notes) && (begun (said_at number notes) && is_empty (took_at number notes)))

-- The peer opened the channel, and this end has not answered.
abbrev pub is_waiting : Side → ℕ → List Note → Bool
is_waiting side number notes =
    is_held number notes
    && (not (mine side (channel_at number notes))
    && (begun (took_at number notes) && is_empty (said_at number notes)))

-- This end said EOF or CLOSE; this end said CLOSE; the peer said EOF or CLOSE (RFC 4254 section 5.3).
abbrev pub has_ended : ℕ → List Note → Bool
has_ended number notes = ended (stage (said_at number notes))

abbrev pub has_closed : ℕ → List Note → Bool
has_closed number notes = closed (stage (said_at number notes))

abbrev pub peer_ended : ℕ → List Note → Bool
peer_ended number notes = ended (stage (took_at number notes))

-- the window left for this end's data, and the window left for the peer's data (RFC 4254 section 5.2)
abbrev pub send_window : ℕ → List Note → ℕ
send_window number notes = window (took_at number notes) - spent (said_at number notes)

abbrev pub receive_window : ℕ → List Note → ℕ
receive_window number notes = window (said_at number notes) - spent (took_at number notes)

-- the largest data that this end takes in one message, and the largest that the peer takes (RFC 4254 section 5.1)
abbrev pub max_packet_here : ℕ → List Note → ℕ
max_packet_here number notes = max_packet (said_at number notes)

abbrev pub max_packet_there : ℕ → List Note → ℕ
max_packet_there number notes = max_packet (took_at number notes)

-- the number that the peer gave the channel
abbrev pub peer_number : ℕ → List Note → ℕ
peer_number number notes = sender (took_at number notes)

-- how many requests of the peer, and of this end, wait for a reply (RFC 4254 section 5.4)
abbrev pub waiting_here : ℕ → List Note → ℕ
waiting_here number notes = waits_here (channel_at number notes) notes

abbrev pub waiting_there : ℕ → List Note → ℕ
waiting_there number notes = waits_there (channel_at number notes) notes

-- ---- three reasons to refuse a message

-- In an answer to an OPEN the number is that of no channel. In another message, except an OPEN, it is that of no confirmed one.
abbrev pub is_unknown_channel : Message → List Note → Bool
is_unknown_channel (Open from window max_packet) notes = false
is_unknown_channel (OpenConfirmation to from window max_packet) notes = not (is_held to notes)
is_unknown_channel (OpenFailure to) notes = not (is_held to notes)
is_unknown_channel message notes = not (is_confirmed (recipient message) notes)

-- The data exceed the window left, or the largest data that this end takes in one message (RFC 4254 section 5.2).
abbrev pub is_window_overrun : Message → List Note → Bool
is_window_overrun (Data to kind body) notes =
    nat_lt (receive_window to notes) (length body) || nat_lt (max_packet_here to notes) (length body)
is_window_overrun message notes = false

-- The window left would exceed the largest (RFC 4254 section 5.2).
abbrev pub is_window_too_large : Message → List Note → Bool
is_window_too_large (WindowAdjust to bytes) notes = nat_lt largest_window (bytes + send_window to notes)
is_window_too_large message notes = false
