-- The messages that one end said and took on channels, the newest first, and what can be read off them (own, if nothing else is said).
use Rattle.std.specs.Prelude.{ℕ, suc, ◌-◌, List, [], ◌∷◌, true, cond, ◌==◌}
use Rattle.ssh_model.specs.declared.side.Side.{Side}
use Rattle.ssh_model.specs.declared.side.Side.TheVariants.{Client}
use Rattle.ssh_model.specs.Protocol.Side.{peer}
use Rattle.ssh_model.specs.Protocol.Channels.Message.{Message, Message.Open, Message.OpenFailure, Message.Request}
use Rattle.ssh_model.specs.Protocol.Channels.Message.{Message.Reply, Channel, Channel.Opened, same, stage, closed}

-- a message with its channel
pub data Line : Type 0 where
  On : (channel : Channel) (message : Message) → Line

-- A message with its channel and this end's own number for it. The end says a message when it sends it, or when it begins
-- to owe it. An OPEN that is refused because there is no place is taken, and its OPEN_FAILURE is said; it has no number.
pub data Note : Type 0 where
  Said : (number : ℕ) (channel : Channel) (message : Message) → Note
  Took : (number : ℕ) (channel : Channel) (message : Message) → Note
  Refused : (channel : Channel) (from window max_packet : ℕ) → Note

-- all messages that this end said, with their channels
abbrev pub said_all : List Note → List Line
said_all [] = []
said_all (Said number channel message ∷ notes) = On channel message ∷ said_all notes
said_all (Took number channel message ∷ notes) = said_all notes
said_all (Refused channel from window max_packet ∷ notes) = On channel (OpenFailure from) ∷ said_all notes

-- all messages that this end took, with their channels
abbrev pub took_all : List Note → List Line
took_all [] = []
took_all (Said number channel message ∷ notes) = took_all notes
took_all (Took number channel message ∷ notes) = On channel message ∷ took_all notes
took_all (Refused channel from window max_packet ∷ notes) = On channel (Open from window max_packet) ∷ took_all notes

-- the messages of one channel
abbrev pub on : Channel → List Line → List Message
on channel [] = []
on channel (On other message ∷ lines) = cond (same channel other) (message ∷ on channel lines) (on channel lines)

-- the messages that this end said on one channel
abbrev pub said : Channel → List Note → List Message
said channel notes = on channel (said_all notes)

-- the messages that this end took on one channel
abbrev pub took : Channel → List Note → List Message
took channel notes = on channel (took_all notes)

-- how many channels these messages opened
abbrev pub opens : List Line → ℕ
opens [] = 0
opens (On channel (Open from window max_packet) ∷ lines) = suc (opens lines)
opens (_ ∷ lines) = opens lines

-- the channel that the next OPEN of this end opens, and that of the peer
abbrev pub next_own : Side → List Note → Channel
next_own side notes = Opened side (opens (said_all notes))

abbrev pub next_theirs : Side → List Note → Channel
next_theirs side notes = Opened (peer side) (opens (took_all notes))

-- the channel that was opened last at this local number
abbrev pub channel_at : ℕ → List Note → Channel
channel_at number [] = Opened Client 0
channel_at number (Said at channel (Open from window max_packet) ∷ notes) =
    cond (number == at) channel (channel_at number notes)
channel_at number (Took at channel (Open from window max_packet) ∷ notes) =
    cond (number == at) channel (channel_at number notes)
channel_at number (_ ∷ notes) = channel_at number notes

-- ---- requests that wait for a reply (RFC 4254 section 5.4)

-- how many requests of the peer wait for this end; those after this end's CLOSE don't count (RFC 4254 section 5.4)
abbrev pub waits_here : Channel → List Note → ℕ
waits_here channel [] = 0
waits_here channel (Took at other (Request to true) ∷ notes) =
    cond (same channel other)
    (cond (closed (stage (said channel notes))) (waits_here channel notes) (suc (waits_here channel notes)))
    (waits_here channel notes)
waits_here channel (Said at other (Reply to success) ∷ notes) =
    cond (same channel other) (waits_here channel notes - 1) (waits_here channel notes)
waits_here channel (_ ∷ notes) = waits_here channel notes

-- how many requests of this end wait for the peer (RFC 4254 section 5.4)
abbrev pub waits_there : Channel → List Note → ℕ
waits_there channel [] = 0
waits_there channel (Said at other (Request to true) ∷ notes) =
    cond (same channel other) (suc (waits_there channel notes)) (waits_there channel notes)
waits_there channel (Took at other (Reply to success) ∷ notes) =
    cond (same channel other) (waits_there channel notes - 1) (waits_there channel notes)
waits_there channel (_ ∷ notes) = waits_there channel notes
