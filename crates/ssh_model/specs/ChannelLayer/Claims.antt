-- The claims on two ends that have channels and nothing else: windows, no refusal between the two, and data in order.
use Rattle.std.specs.Prelude.{◌≡◌, ℕ, List, [], ◌∷◌, ◌++◌, reverse, ◌⊎◌, false, Option, Some, None}
use Rattle.ssh_model.specs.declared.side.Side.{Side}
use Rattle.ssh_model.specs.declared.side.Side.TheVariants.{Client, Server}
use Rattle.ssh_model.specs.Protocol.Side.{peer, part}
use Rattle.ssh_model.specs.Protocol.Lists.{IsIn, IsOlder}
use Rattle.ssh_model.specs.Protocol.Channels.Message.{Message, Message.Open, Message.OpenFailure, Channel}
use Rattle.ssh_model.specs.Protocol.Channels.Message.{Message.Data, Channel.Opened}
use Rattle.ssh_model.specs.Protocol.Channels.Notes.{Note, said, took}
use Rattle.ssh_model.specs.State.Channels.Rules.{OpenedAt}
use Rattle.ssh_model.specs.Protocol.Channels.Numbers.{is_unknown_channel, is_window_overrun, is_window_too_large}
use Rattle.ssh_model.specs.Protocol.Channels.History.{noted}
use Rattle.ssh_model.specs.ChannelLayer.Rows.{sent, received, Done, PairRun, Ordered}
use Rattle.ssh_model.specs.Protocol.Channels.Claims.{Within, data_received, data_sent}

-- the data among these messages, each with its type
abbrev pub data_of : List Message → List (Option ℕ × List ℕ)
data_of [] = []
data_of (Data to kind body ∷ older) = (kind, body) ∷ data_of older
data_of (_ ∷ older) = data_of older

-- The data taken on a channel are a prefix of those that the other end said on it.
abbrev pub DataBegins : List Note → List Note → Type 0
DataBegins notes others =
    (channel : Channel) →
    (rest : List (Option ℕ × List ℕ))
    × (reverse (data_of (took channel notes)) ++ rest ≡ reverse (data_of (said channel others)))

-- The message is refused for none of these three reasons.
pub record Acceptable (message : Message) (notes : List Note) : Type 0 where
  pub known : is_unknown_channel message notes ≡ false
  pub fits : is_window_overrun message notes ≡ false
  pub bounded : is_window_too_large message notes ≡ false

-- ---- on runs of two ends

-- the notes of one end of a run
abbrev pub notes_of : Side → List Done → List Note
notes_of side run = noted side (part side run)

-- At this end no window is overrun, in either direction. On each channel it took a prefix of the messages that the other end said.
abbrev pub WindowsKept : Side → List Done → Type 0
WindowsKept side run = Within (notes_of side run) (notes_of (peer side) run)

-- The next message that comes to this end is refused for none of the three reasons.
abbrev pub NotRefused : Side → List Done → Type 0
NotRefused side run =
    (message : Message) → IsOlder (message ∷ received (part side run)) (sent (part (peer side) run)) →
    Acceptable message (notes_of side run)

-- The data taken on each channel are a prefix of those sent on it, in the order of time.
abbrev pub DataInOrder : Side → List Done → Type 0
DataInOrder side run = (channel : Channel) → (rest : List (Option ℕ × List ℕ))
    × (reverse (data_received side channel (part side run))
    ++ rest ≡ reverse (data_sent (peer side) channel (part (peer side) run)))

-- An OPEN of these numbers was said on the channel by one end and taken by the other.
abbrev pub SharesOpen : Channel → List Note → List Note → Type 0
SharesOpen channel notes others =
    (from : ℕ) × (window : ℕ) × (max_packet : ℕ)
    × ((IsIn (Open from window max_packet) (said channel notes)
    × IsIn (Open from window max_packet) (took channel others))
    ⊎ (IsIn (Open from window max_packet) (took channel notes)
    × IsIn (Open from window max_packet) (said channel others)))

-- Each channel on which this end took data has such an OPEN.
abbrev pub Partnered : Side → List Done → Type 0
Partnered side run =
    (channel : Channel) → (data_received side channel (part side run) ≡ [] → ⊥) →
    SharesOpen channel (notes_of side run) (notes_of (peer side) run)

-- ---- a run that meets every premise

-- Data of both kinds were taken on the first channel, its number was used again, and that channel was refused.
pub record IsExample (run : List Done) : Type 0 where
  pub goes : PairRun run
  pub ordered : Ordered run
  pub came : data_received Server (Opened Client 0) (part Server run) ≡ (Some 1, 8 ∷ 9 ∷ []) ∷ (None, 7 ∷ []) ∷ []
  pub refused : took (Opened Client 1) (notes_of Client run) ≡ OpenFailure 0 ∷ []
  pub first : OpenedAt 0 (Opened Client 0) (notes_of Client run)
  pub again : OpenedAt 0 (Opened Client 1) (notes_of Client run)
