-- A channel as the stretch of notes under one local number that begins with its OPEN (own).
use Rattle.std.specs.Prelude.{◌≡◌, ℕ, List, [], ◌∷◌, cond, ◌==◌}
use Rattle.ssh_model.specs.Protocol.Channels.Message.{Message, Message.Open, Channel}
use Rattle.ssh_model.specs.Protocol.Channels.Notes.{Note, Note.Said, Note.Took, said, took}
use Rattle.ssh_model.specs.State.Channels.Rules.{At}

-- the messages said under a number since the last OPEN there, and those taken
abbrev pub said_since : ℕ → List Note → List Message
said_since number [] = []
said_since number (Said at channel (Open from window max_packet) ∷ notes) =
    cond (number == at) (Open from window max_packet ∷ []) (said_since number notes)
said_since number (Took at channel (Open from window max_packet) ∷ notes) =
    cond (number == at) [] (said_since number notes)
said_since number (Said at channel message ∷ notes) =
    cond (number == at) (message ∷ said_since number notes) (said_since number notes)
said_since number (_ ∷ notes) = said_since number notes

abbrev pub took_since : ℕ → List Note → List Message
took_since number [] = []
took_since number (Said at channel (Open from window max_packet) ∷ notes) =
    cond (number == at) [] (took_since number notes)
took_since number (Took at channel (Open from window max_packet) ∷ notes) =
    cond (number == at) (Open from window max_packet ∷ []) (took_since number notes)
took_since number (Took at channel message ∷ notes) =
    cond (number == at) (message ∷ took_since number notes) (took_since number notes)
took_since number (_ ∷ notes) = took_since number notes

-- The messages of each channel that is not over are those said and taken under its number since its OPEN.
abbrev pub EachSinceOpen : List Note → Type 0
EachSinceOpen notes =
    (number : ℕ) (channel : Channel) → At number channel notes →
    (said channel notes ≡ said_since number notes) × (took channel notes ≡ took_since number notes)
