-- The messages that may be asked and taken on a channel, row by row, and the runs of two ends as one list.
use Rattle.std.specs.Prelude.{◌≡◌, ℕ, ◌+◌, ◌≤◌, List, [], ◌∷◌, ◌++◌, length, Bool, true, false, Option, Some, None}
use Rattle.ssh_model.specs.Protocol.Bounds.{largest_data, largest_window}
use Rattle.ssh_model.specs.declared.side.Side.{Side}
use Rattle.ssh_model.specs.Protocol.Side.{DoneBy, done_by, part, peer}
use Rattle.ssh_model.specs.Protocol.Lists.{IsOlder}
use Rattle.ssh_model.specs.Protocol.Channels.Message.{Message, Message.Open, Message.OpenConfirmation, Message.OpenFailure}
use Rattle.ssh_model.specs.Protocol.Channels.Message.{Message.WindowAdjust, Message.Data, Message.Eof, Message.Close}
use Rattle.ssh_model.specs.Protocol.Channels.Message.{Message.Request, Message.Reply}
use Rattle.ssh_model.specs.Protocol.Channels.Notes.{Note}
use Rattle.ssh_model.specs.Protocol.Channels.Numbers.{is_confirmed, is_offered, is_waiting, has_ended}
use Rattle.ssh_model.specs.Protocol.Channels.Numbers.{has_closed, peer_ended, send_window, receive_window, max_packet_here}
use Rattle.ssh_model.specs.Protocol.Channels.Numbers.{max_packet_there, peer_number}
use Rattle.ssh_model.specs.Protocol.Channels.History.{Item, Item.Sent, Item.Received, Item.KexinitSent, Item.NewkeysSent}
use Rattle.ssh_model.specs.Protocol.Channels.History.{blocked, due, noted, owed, is_free, at_once}

-- the messages that were sent
abbrev pub sent : List Item → List Message
sent [] = []
sent (Sent number message ∷ history) = message ∷ sent history
sent (_ ∷ history) = sent history

-- the messages that were received
abbrev pub received : List Item → List Message
received [] = []
received (Received number message ∷ history) = message ∷ received history
received (_ ∷ history) = received history

-- The end may say this message, which is no OPEN, at one of its numbers.
pub data Ask : Side → List Note → ℕ → Message → Type 0 where
  -- RFC 4254 section 5.1
  confirm : {side : Side} {notes : List Note} {number : ℕ} (window max_packet : ℕ) →
      is_waiting side number notes ≡ true →
      window ≤ largest_window →
      Ask side notes number (OpenConfirmation (peer_number number notes) number window max_packet)
  refuse : {side : Side} {notes : List Note} {number : ℕ} → is_waiting side number notes ≡ true →
      Ask side notes number (OpenFailure (peer_number number notes))
  -- section 5.2: the window left stays within 2^32 - 1, and data stays within the window and the size that the peer
  -- takes
  adjust : {side : Side} {notes : List Note} {number : ℕ} (bytes : ℕ) → is_confirmed number notes ≡ true →
      has_closed number notes ≡ false →
      bytes + receive_window number notes ≤ largest_window →
      Ask side notes number (WindowAdjust (peer_number number notes) bytes)
  give_data : {side : Side} {notes : List Note} {number : ℕ} (kind : Option ℕ) (body : List ℕ) →
      is_confirmed number notes ≡ true →
      has_ended number notes ≡ false → length body ≤ largest_data → length body ≤ max_packet_there number notes →
      length body ≤ send_window number notes → Ask side notes number (Data (peer_number number notes) kind body)
  -- section 5.3
  eof : {side : Side} {notes : List Note} {number : ℕ} → is_confirmed number notes ≡ true →
      has_ended number notes ≡ false →
      Ask side notes number (Eof (peer_number number notes))
  close : {side : Side} {notes : List Note} {number : ℕ} → is_confirmed number notes ≡ true →
      has_closed number notes ≡ false →
      Ask side notes number (Close (peer_number number notes))
  -- section 5.4
  request : {side : Side} {notes : List Note} {number : ℕ} (want : Bool) → is_confirmed number notes ≡ true →
      has_closed number notes ≡ false →
      Ask side notes number (Request (peer_number number notes) want)
  reply : {side : Side} {notes : List Note} {number : ℕ} (success : Bool) → is_confirmed number notes ≡ true →
      has_closed number notes ≡ false →
      Ask side notes number (Reply (peer_number number notes) success)

-- The end may take this message, which is no OPEN, at one of its numbers.
pub data Take : Side → List Note → ℕ → Message → Type 0 where
  confirmed : {side : Side} {notes : List Note} {number : ℕ} (from window max_packet : ℕ) →
      is_offered side number notes ≡ true →
      Take side notes number (OpenConfirmation number from window max_packet)
  refused : {side : Side} {notes : List Note} {number : ℕ} → is_offered side number notes ≡ true →
      Take side notes number (OpenFailure number)
  adjusted : {side : Side} {notes : List Note} {number : ℕ} (bytes : ℕ) → is_confirmed number notes ≡ true →
      bytes + send_window number notes ≤ largest_window → Take side notes number (WindowAdjust number bytes)
  got_data : {side : Side} {notes : List Note} {number : ℕ} (kind : Option ℕ) (body : List ℕ) →
      is_confirmed number notes ≡ true →
      peer_ended number notes ≡ false → length body ≤ max_packet_here number notes →
      length body ≤ receive_window number notes →
      Take side notes number (Data number kind body)
  ended : {side : Side} {notes : List Note} {number : ℕ} → is_confirmed number notes ≡ true →
      peer_ended number notes ≡ false →
      Take side notes number (Eof number)
  closed : {side : Side} {notes : List Note} {number : ℕ} → is_confirmed number notes ≡ true →
      Take side notes number (Close number)
  requested : {side : Side} {notes : List Note} {number : ℕ} (want : Bool) → is_confirmed number notes ≡ true →
      Take side notes number (Request number want)
  replied : {side : Side} {notes : List Note} {number : ℕ} (success : Bool) → is_confirmed number notes ≡ true →
      Take side notes number (Reply number success)

-- The items that the end of this side may add to its history in one turn, the newest first. A reply is sent at once, or owed
-- while the end is blocked. Owed replies are sent right after NEWKEYS.
pub data Turn : Side → List Item → List Item → Type 0 where
  opens : {side : Side} {history : List Item} (number window max_packet : ℕ) → blocked history ≡ false →
      is_free side history number ≡ true →
      window ≤ largest_window → Turn side history (Sent (Some number) (Open number window max_packet) ∷ [])
  asks : {side : Side} {history : List Item} (number : ℕ) (message : Message) → blocked history ≡ false →
      Ask side (noted side history) number message → Turn side history (Sent (Some number) message ∷ [])
  takes_open : {side : Side} {history : List Item} (number from window max_packet : ℕ) →
      is_free side history number ≡ true →
      Turn side history (Received (Some number) (Open from window max_packet) ∷ [])
  refuses_open : {side : Side} {history : List Item} (from window max_packet : ℕ) →
      Turn side history
      (at_once (blocked history) (due None (Open from window max_packet) (noted side history))
      ++ (Received None (Open from window max_packet) ∷ []))
  takes : {side : Side} {history : List Item} (number : ℕ) (message : Message) →
      Take side (noted side history) number message →
      Turn side history
      (at_once (blocked history) (due (Some number) message (noted side history))
      ++ (Received (Some number) message ∷ []))
  rekeys : {side : Side} {history : List Item} → blocked history ≡ false → Turn side history (KexinitSent ∷ [])
  completes : {side : Side} {history : List Item} → blocked history ≡ true →
      Turn side history (owed side history ++ (NewkeysSent ∷ []))

-- the runs of one end, whatever comes to it
pub data EndTurns : Side → List Item → Type 0 where
  begins : {side : Side} → EndTurns side []
  then_turn : {side : Side} {history items : List Item} → EndTurns side history → Turn side history items →
      EndTurns side (items ++ history)

-- an item of one side
abbrev pub Done : Type 0
Done = DoneBy Item

-- the runs of two ends, whatever comes to either
pub data PairRun : List Done → Type 0 where
  begins : PairRun []
  then_turn : {run : List Done} {items : List Item} (side : Side) → PairRun run → Turn side (part side run) items →
      PairRun (done_by side items ++ run)

-- At every moment, the messages that each end took are an older part of those that the other sent.
abbrev pub Ordered : List Done → Type 0
Ordered [] = Unit {0}
Ordered (done ∷ run) =
    ((side : Side) → IsOlder (received (part side (done ∷ run))) (sent (part (peer side) (done ∷ run)))) × Ordered run
