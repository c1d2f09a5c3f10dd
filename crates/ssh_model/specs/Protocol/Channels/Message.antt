-- The messages on channels, and what follows from the list of those that one end said on one channel. Lists have the newest
-- message first (RFC 4254 section 5, if nothing else is said).
use Rattle.std.specs.Prelude.{ℕ, ◌+◌, List, [], ◌∷◌, length, Bool, true, false, ◌==◌, Option}
use Rattle.ssh_model.specs.declared.side.Side.{Side}
use Rattle.ssh_model.specs.declared.side.Side.TheVariants.{Client, Server}

-- The parts of a message on which windows, numbers and order depend. `to` is the recipient channel, `from` the sender
-- channel, `window` the initial window size and `max_packet` the maximum packet size.
pub data Message : Type 0 where
  -- RFC 4254 section 5.1
  Open : (from window max_packet : ℕ) → Message
  OpenConfirmation : (to from window max_packet : ℕ) → Message
  OpenFailure : (to : ℕ) → Message
  -- section 5.2: without a type it is CHANNEL_DATA, with a type CHANNEL_EXTENDED_DATA
  WindowAdjust : (to bytes : ℕ) → Message
  Data : (to : ℕ) (kind : Option ℕ) (body : List ℕ) → Message
  -- section 5.3
  Eof : (to : ℕ) → Message
  Close : (to : ℕ) → Message
  -- section 5.4: `want` asks for a reply, which is CHANNEL_SUCCESS or CHANNEL_FAILURE
  Request : (to : ℕ) (want : Bool) → Message
  Reply : (to : ℕ) (success : Bool) → Message

-- A channel is named by its opener and by how many channels that end had opened before, since numbers are used again (own).
pub data Channel : Type 0 where
  Opened : (by : Side) (place : ℕ) → Channel

-- The two names are of the same channel (own).
abbrev pub same : Channel → Channel → Bool
same (Opened Client a) (Opened Client b) = a == b
same (Opened Server a) (Opened Server b) = a == b
same _ _ = false

-- The end of this side opened the channel (own).
abbrev pub mine : Side → Channel → Bool
mine Client (Opened Client place) = true
mine Server (Opened Server place) = true
mine _ _ = false

-- the recipient channel; an OPEN has none
abbrev pub recipient : Message → ℕ
recipient (Open from window max_packet) = 0
recipient (OpenConfirmation to from window max_packet) = to
recipient (OpenFailure to) = to
recipient (WindowAdjust to bytes) = to
recipient (Data to kind body) = to
recipient (Eof to) = to
recipient (Close to) = to
recipient (Request to want) = to
recipient (Reply to success) = to

-- ---- windows (RFC 4254 section 5.2)

-- the bytes of the window that a message takes: data of either kind, and nothing else (RFC 4254 section 5.2)
abbrev pub size : Message → ℕ
size (Data to kind body) = length body
size _ = 0

-- the bytes of the window that a message grants (RFC 4254 section 5.2)
abbrev pub gives : Message → ℕ
gives (Open from granted max_packet) = granted
gives (OpenConfirmation to from granted max_packet) = granted
gives (WindowAdjust to granted) = granted
gives _ = 0

-- the bytes of the window that the speaker of these messages granted (RFC 4254 section 5.2)
abbrev pub window : List Message → ℕ
window [] = 0
window (message ∷ older) = gives message + window older

-- the bytes of the window that these messages take (RFC 4254 section 5.2)
abbrev pub spent : List Message → ℕ
spent [] = 0
spent (message ∷ older) = size message + spent older

-- the number that the speaker gave the channel (RFC 4254 section 5.1)
abbrev pub sender : List Message → ℕ
sender [] = 0
sender (Open from granted largest ∷ older) = from
sender (OpenConfirmation to from granted largest ∷ older) = from
sender (_ ∷ older) = sender older

-- the maximum packet size: the largest data that the speaker takes (RFC 4254 section 5.1)
abbrev pub max_packet : List Message → ℕ
max_packet [] = 0
max_packet (Open from granted largest ∷ older) = largest
max_packet (OpenConfirmation to from granted largest ∷ older) = largest
max_packet (_ ∷ older) = max_packet older

-- ---- how far a speaker has come (RFC 4254 sections 5.1 and 5.3)

-- The stages of a speaker: nothing said, open, after EOF, after CLOSE, after OPEN_FAILURE (RFC 4254 section 5.3).
pub data Stage : Type 0 where
  Quiet Speaking Ended Closed Failed : Stage

-- the stage of a speaker after all these messages (RFC 4254 section 5.3)
abbrev pub stage : List Message → Stage
stage [] = Quiet
stage (Open from granted largest ∷ older) = Speaking
stage (OpenConfirmation to from granted largest ∷ older) = Speaking
stage (OpenFailure to ∷ older) = Failed
stage (Eof to ∷ older) = Ended
stage (Close to ∷ older) = Closed
stage (_ ∷ older) = stage older

-- The speaker opened or confirmed the channel (RFC 4254 section 5.1).
abbrev pub talked : Stage → Bool
talked Quiet = false
talked Failed = false
talked _ = true

-- The speaker said CLOSE (RFC 4254 section 5.3).
abbrev pub closed : Stage → Bool
closed Closed = true
closed _ = false

-- The speaker said EOF or CLOSE (RFC 4254 section 5.3).
abbrev pub ended : Stage → Bool
ended Ended = true
ended Closed = true
ended _ = false

-- The speaker of these messages opened or confirmed the channel (RFC 4254 section 5.1).
abbrev pub begun : List Message → Bool
begun messages = talked (stage messages)

-- The channel is over: both ends said CLOSE, or one said OPEN_FAILURE (RFC 4254 section 5.3).
abbrev pub over_at : Stage → Stage → Bool
over_at Failed there = true
over_at Closed Closed = true
over_at here Failed = true
over_at here there = false

-- The channel is over, by the messages that both ends said on it (RFC 4254 section 5.3).
abbrev pub over : List Message → List Message → Bool
over here there = over_at (stage here) (stage there)
