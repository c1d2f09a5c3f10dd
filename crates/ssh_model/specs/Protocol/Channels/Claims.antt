-- The claims on channels: windows, and data in order (own, if nothing else is said).
use Rattle.std.specs.Prelude.{ℕ, ◌≤◌, List, [], ◌∷◌, cond, Option, Some}
use Rattle.ssh_model.specs.declared.side.Side.{Side}
use Rattle.ssh_model.specs.Protocol.Lists.{IsOlder}
use Rattle.ssh_model.specs.Protocol.Channels.Message.{Message.Data, Channel}
use Rattle.ssh_model.specs.Protocol.Channels.Message.{same, window, spent}
use Rattle.ssh_model.specs.Protocol.Channels.Notes.{Note, said, took, channel_at}
use Rattle.ssh_model.specs.Protocol.Channels.History.{Item, Item.Sent, Item.Received, noted}

-- ---- of the notes of one end, and those of the other

-- On every channel, data said is at most the window taken, and data taken is at most the window said (RFC 4254 section 5.2).
abbrev pub WindowsHere : List Note → Type 0
WindowsHere notes =
    (channel : Channel) →
    (spent (said channel notes) ≤ window (took channel notes))
    × (spent (took channel notes) ≤ window (said channel notes))

-- No window is overrun, in either direction. The messages that this end took on a channel are a prefix of those that the
-- other end said on it. So the other end had sent each part of the window that this end took (RFC 4254 section 5.2).
pub record Within (notes others : List Note) : Type 0 where
  pub sends : (channel : Channel) → spent (said channel notes) ≤ window (took channel notes)
  pub takes : (channel : Channel) → spent (took channel notes) ≤ window (said channel notes)
  pub had_sent : (channel : Channel) → IsOlder (took channel notes) (said channel others)

-- the data, each with its type, that an end sent on a channel, and the data that it took on it
abbrev pub data_sent : Side → Channel → List Item → List (Option ℕ × List ℕ)
data_sent side channel [] = []
data_sent side channel (Sent (Some number) (Data to kind body) ∷ history) =
    cond (same channel (channel_at number (noted side history))) ((kind, body) ∷ data_sent side channel history)
    (data_sent side channel history)
data_sent side channel (_ ∷ history) = data_sent side channel history

abbrev pub data_received : Side → Channel → List Item → List (Option ℕ × List ℕ)
data_received side channel [] = []
data_received side channel (Received (Some number) (Data to kind body) ∷ history) =
    cond (same channel (channel_at number (noted side history))) ((kind, body) ∷ data_received side channel history)
    (data_received side channel history)
data_received side channel (_ ∷ history) = data_received side channel history
