-- The messages that an end may say and take on channels, and the runs of one end and of two ends, over notes (own). Proofs follow these
-- runs in place of those of a session.
use Rattle.std.specs.Prelude.{Bool, true, false, ℕ, ◌≡◌, List, [], ◌∷◌, ◌⊎◌, map, ◌+◌, ◌≤◌}
use Rattle.ssh_model.specs.Protocol.Channels.Message.{Message, Message.Open, window, max_packet, recipient, Message.OpenConfirmation}
use Rattle.ssh_model.specs.Protocol.Channels.Message.{Stage, Stage.Quiet, Stage.Speaking, Stage.Ended}
use Rattle.ssh_model.specs.Protocol.Channels.Message.{Message.OpenFailure, Message.WindowAdjust, Message.Data, Message.Eof}
use Rattle.ssh_model.specs.Protocol.Channels.Message.{Message.Close, Message.Request, Message.Reply, Channel, over, stage, mine, begun}
use Rattle.ssh_model.specs.Protocol.Channels.Message.{sender, size, spent, gives}
use Rattle.ssh_model.specs.Protocol.Channels.Notes.{Line, Line.On, Note, Note.Said, Note.Took, said, took, took_all, said_all, next_own}
use Rattle.ssh_model.specs.Protocol.Channels.Notes.{next_theirs, Note.Refused}
use Rattle.ssh_model.specs.Protocol.Lists.{IsOlder}
use Rattle.ssh_model.specs.declared.side.Side.{Side}
use Rattle.ssh_model.specs.Protocol.Bounds.{largest_window}
use Rattle.ssh_model.specs.Protocol.Side.{peer}

-- ---- messages

-- the message is an OPEN
abbrev pub is_open : Message → Bool
is_open (Open from window max_packet) = true
is_open _ = false

-- The recipient channel of the message is this number. An OPEN, which has none, is to any number.
abbrev pub ToIs : ℕ → Message → Type 0
ToIs number (Open from window max_packet) = Unit {0}
ToIs number message = recipient message ≡ number

-- If the message names a sender channel, that is this number.
abbrev pub FromIs : ℕ → Message → Type 0
FromIs number (Open from window max_packet) = from ≡ number
FromIs number (OpenConfirmation to from window max_packet) = from ≡ number
FromIs number _ = Unit {0}

-- A speaker at this stage, who opened the channel (true) or did not, may say the message next. After EOF it says no data,
-- and after CLOSE nothing.
abbrev pub MayFollow : Message → Stage → Bool → Type 0
MayFollow (Open from granted largest) Quiet true = Unit {0}
MayFollow (OpenConfirmation to from granted largest) Quiet false = Unit {0}
MayFollow (OpenFailure to) Quiet false = Unit {0}
MayFollow (WindowAdjust to granted) Speaking opener = Unit {0}
MayFollow (WindowAdjust to granted) Ended opener = Unit {0}
MayFollow (Data to kind body) Speaking opener = Unit {0}
MayFollow (Eof to) Speaking opener = Unit {0}
MayFollow (Close to) Speaking opener = Unit {0}
MayFollow (Close to) Ended opener = Unit {0}
MayFollow (Request to want) Speaking opener = Unit {0}
MayFollow (Request to want) Ended opener = Unit {0}
MayFollow (Reply to success) Speaking opener = Unit {0}
MayFollow (Reply to success) Ended opener = Unit {0}
MayFollow _ _ _ = ⊥

-- the message without its channel
abbrev pub payload : Line → Message
payload (On channel message) = message

-- ---- channels at local numbers

-- The channel was opened at this local number.
abbrev pub OpenedAt : ℕ → Channel → List Note → Type 0
OpenedAt number channel [] = ⊥
OpenedAt number channel (Said at other (Open from window max_packet) ∷ notes) =
    ((number ≡ at) × (channel ≡ other)) ⊎ OpenedAt number channel notes
OpenedAt number channel (Took at other (Open from window max_packet) ∷ notes) =
    ((number ≡ at) × (channel ≡ other)) ⊎ OpenedAt number channel notes
OpenedAt number channel (_ ∷ notes) = OpenedAt number channel notes

-- The channel was opened at this number and is not over.
pub record At (number : ℕ) (channel : Channel) (notes : List Note) : Type 0 where
  pub opened : OpenedAt number channel notes
  pub live : over (said channel notes) (took channel notes) ≡ false

-- All channels that were opened at this number are over.
abbrev pub Free : ℕ → List Note → Type 0
Free number notes =
    (channel : Channel) → OpenedAt number channel notes → over (said channel notes) (took channel notes) ≡ true

-- ---- runs

-- The message is the next one for this end to take, of those that the other said.
abbrev pub Next : Message → List Note → List Note → Type 0
Next message notes others = IsOlder (message ∷ map payload (took_all notes)) (map payload (said_all others))

-- The end of this side may say the message, which is no OPEN, on this channel at its own number.
pub record Says (side : Side) (notes : List Note) (number : ℕ) (channel : Channel) (message : Message) : Type 0 where
  pub other : is_open message ≡ false
  pub at : At number channel notes
  pub may_follow : MayFollow message (stage (said channel notes)) (mine side channel)
  pub heard : begun (took channel notes) ≡ true
  pub to : ToIs (sender (took channel notes)) message
  pub from : FromIs number message
  -- RFC 4254 section 5.2: the data fit into the window and into the size that the peer takes, and the window stays within
  -- 2^32 - 1
  pub fits : size message + spent (said channel notes) ≤ window (took channel notes)
  pub small : size message ≤ max_packet (took channel notes)
  pub bounded : gives message + window (said channel notes) ≤ largest_window + spent (took channel notes)

-- The end may take the message, which is no OPEN, on this channel at its own number.
pub record Takes (side : Side) (notes : List Note) (number : ℕ) (channel : Channel) (message : Message) : Type 0 where
  pub other : is_open message ≡ false
  pub at : At number channel notes
  pub may_follow : MayFollow message (stage (took channel notes)) (mine (peer side) channel)
  pub spoke : begun (said channel notes) ≡ true
  pub to : ToIs number message
  pub fits : size message + spent (took channel notes) ≤ window (said channel notes)
  pub small : size message ≤ max_packet (said channel notes)

-- The runs of one end, whatever comes to it.
pub data EndRun : Side → List Note → Type 0 where
  start : {side : Side} → EndRun side []
  opening : {side : Side} {notes : List Note} (number window max_packet : ℕ) → EndRun side notes → Free number notes →
      window ≤ largest_window →
      EndRun side (Said number (next_own side notes) (Open number window max_packet) ∷ notes)
  saying : {side : Side} {notes : List Note} (number : ℕ) (channel : Channel) (message : Message) → EndRun side notes →
      Says side notes number channel message → EndRun side (Said number channel message ∷ notes)
  take_open : {side : Side} {notes : List Note} (number from window max_packet : ℕ) → EndRun side notes →
      Free number notes →
      EndRun side (Took number (next_theirs side notes) (Open from window max_packet) ∷ notes)
  refuse_open : {side : Side} {notes : List Note} (from window max_packet : ℕ) → EndRun side notes →
      EndRun side (Refused (next_theirs side notes) from window max_packet ∷ notes)
  take : {side : Side} {notes : List Note} (number : ℕ) (channel : Channel) (message : Message) → EndRun side notes →
      Takes side notes number channel message → EndRun side (Took number channel message ∷ notes)

-- The runs of two ends. The message that comes to one end is the next of those that the other said.
pub data Run : Side → List Note → List Note → Type 0 where
  start : {side : Side} → Run side [] []
  swap : {side : Side} {notes others : List Note} → Run side notes others → Run (peer side) others notes
  opening : {side : Side} {notes others : List Note} (number window max_packet : ℕ) → Run side notes others →
      Free number notes →
      window ≤ largest_window →
      Run side (Said number (next_own side notes) (Open number window max_packet) ∷ notes) others
  saying : {side : Side} {notes others : List Note} (number : ℕ) (channel : Channel) (message : Message) →
      Run side notes others →
      Says side notes number channel message → Run side (Said number channel message ∷ notes) others
  take_open : {side : Side} {notes others : List Note} (number from window max_packet : ℕ) → Run side notes others →
      Free number notes →
      Next (Open from window max_packet) notes others →
      Run side (Took number (next_theirs side notes) (Open from window max_packet) ∷ notes) others
  refuse_open : {side : Side} {notes others : List Note} (from window max_packet : ℕ) → Run side notes others →
      Next (Open from window max_packet) notes others →
      Run side (Refused (next_theirs side notes) from window max_packet ∷ notes) others
  take : {side : Side} {notes others : List Note} (number : ℕ) (channel : Channel) (message : Message) →
      Run side notes others →
      Takes side notes number channel message → Next message notes others →
      Run side (Took number channel message ∷ notes) others
