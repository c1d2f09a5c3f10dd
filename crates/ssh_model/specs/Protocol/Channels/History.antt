-- The messages that one end sent and received on channels, with the KEXINIT and NEWKEYS that it sent, the newest first, and the
-- notes that they make. An end is blocked from its KEXINIT to its NEWKEYS. It owes the replies that it says meanwhile
-- (own, if nothing else is said).
use Rattle.std.specs.Prelude.{ℕ, zero, suc, List, [], ◌∷◌, ◌++◌, Bool, true, false, cond, not, ◌&&◌, ◌||◌, nat_lt}
use Rattle.std.specs.Prelude.{◌==◌, Option, Some, None}
use Rattle.ssh_model.specs.Protocol.Bounds.{most_channels}
use Rattle.ssh_model.specs.declared.side.Side.{Side}
use Rattle.ssh_model.specs.Protocol.Channels.Message.{Message, Message.Open, Message.OpenFailure, Message.Close}
use Rattle.ssh_model.specs.Protocol.Channels.Notes.{Note, Note.Said, Note.Took, Note.Refused, channel_at, next_own, next_theirs}
use Rattle.ssh_model.specs.Protocol.Channels.Numbers.{is_held, has_closed, peer_number}

-- A message with the local number of its channel. An OPEN that is refused because there is no place has no number, and
-- its OPEN_FAILURE has none.
pub data Item : Type 0 where
  Sent : (number : Option ℕ) (message : Message) → Item
  Received : (number : Option ℕ) (message : Message) → Item
  KexinitSent : Item
  NewkeysSent : Item

-- A KEXINIT was sent after the last NEWKEYS sent (RFC 4253 section 7.1).
abbrev pub blocked : List Item → Bool
blocked [] = false
blocked (KexinitSent ∷ history) = true
blocked (NewkeysSent ∷ history) = false
blocked (_ ∷ history) = blocked history

-- The replies that a message makes due: OPEN_FAILURE to an OPEN without a place, and CLOSE to a CLOSE unless this end
-- has said CLOSE (RFC 4254 section 5.3).
abbrev pub due : Option ℕ → Message → List Note → List Item
due None (Open from window max_packet) notes = Sent None (OpenFailure from) ∷ []
due (Some number) (Close to) notes =
    cond (has_closed number notes) [] (Sent (Some number) (Close (peer_number number notes)) ∷ [])
due _ _ notes = []

-- A message that is sent is said now, except a reply, which was said when it fell due.
abbrev pub note_sent : Side → Option ℕ → Message → List Note → List Note
note_sent side None message notes = notes
note_sent side (Some number) (Open from window max_packet) notes =
    Said number (next_own side notes) (Open from window max_packet) ∷ notes
note_sent side (Some number) (Close to) notes =
    cond (has_closed number notes) notes (Said number (channel_at number notes) (Close to) ∷ notes)
note_sent side (Some number) message notes = Said number (channel_at number notes) message ∷ notes

-- A message that is taken is noted, and the reply that it makes due is noted as said.
abbrev pub note_received : Side → Option ℕ → Message → List Note → List Note
note_received side None (Open from window max_packet) notes =
    Refused (next_theirs side notes) from window max_packet ∷ notes
note_received side None message notes = notes
note_received side (Some number) (Open from window max_packet) notes =
    Took number (next_theirs side notes) (Open from window max_packet) ∷ notes
note_received side (Some number) (Close to) notes =
    let channel = channel_at number notes in
    cond (has_closed number notes) (Took number channel (Close to) ∷ notes)
    (Said number channel (Close (peer_number number notes)) ∷ Took number channel (Close to) ∷ notes)
note_received side (Some number) message notes = Took number (channel_at number notes) message ∷ notes

-- the notes that a history makes
abbrev pub noted : Side → List Item → List Note
noted side [] = []
noted side (Sent number message ∷ history) = note_sent side number message (noted side history)
noted side (Received number message ∷ history) = note_received side number message (noted side history)
noted side (_ ∷ history) = noted side history

-- the replies that fell due while the end was blocked and that it has not sent, as it will send them
abbrev pub owed : Side → List Item → List Item
owed side [] = []
owed side (NewkeysSent ∷ history) = []
owed side (Received number message ∷ history) =
    cond (blocked history) (due number message (noted side history) ++ owed side history) (owed side history)
owed side (_ ∷ history) = owed side history

-- One of these replies is on the channel with this number.
abbrev pub is_owed : ℕ → List Item → Bool
is_owed number [] = false
is_owed number (Sent (Some at) message ∷ replies) = cond (at == number) true (is_owed number replies)
is_owed number (_ ∷ replies) = is_owed number replies

-- A new channel can have this number: local numbers are below `most_channels` (own).
abbrev pub is_free : Side → List Item → ℕ → Bool
is_free side history number =
    nat_lt number most_channels && (not (is_held number (noted side history)) && not (is_owed number (owed side history)))

-- One of the numbers below this one is free.
unfoldable pub some_free : Side → List Item → ℕ → Bool
some_free side history zero = false
some_free side history (suc number) = is_free side history number || some_free side history number

-- One of the numbers that an end has for channels is free.
unfoldable pub has_place : Side → List Item → Bool
has_place side history = some_free side history most_channels

-- the replies that the end sends at once: these, or none if it is blocked
abbrev pub at_once : Bool → List Item → List Item
at_once is_blocked replies = cond is_blocked [] replies
