-- What `{:?}` shows of what an end took and sent in a turn: how many bytes, and the number and the name of a message, but no text.
use Rattle.std.specs.Prelude.{ℕ, List, ◌++◌, codes, decimal, length}
use Rattle.ssh_message.specs.Shown.{shown_message}
use Rattle.ssh_channels.specs.Shown.{shown_number}
use Rattle.ssh_end_machine.specs.declared.turn.Took.{Took}
use Rattle.ssh_end_machine.specs.declared.turn.Took.TheVariants as took

-- a name, and how many bytes there are
abbrev pub shown_bytes : (name bytes : List ℕ) → List ℕ
shown_bytes name bytes = name ++ (codes " { " ++ (decimal (length bytes) ++ codes " bytes }"))

-- what was taken
abbrev pub shown_took : Took → List ℕ
shown_took (took.OtherLine text) = shown_bytes (codes "OtherLine") text.now
shown_took (took.VersionLine text) = shown_bytes (codes "VersionLine") text.now
shown_took (took.Skipped payload) = shown_bytes (codes "Skipped") payload.now
shown_took (took.Message channel message payload) = codes "Message { channel: " ++ (shown_number channel ++ (codes ", message: "
    ++ (shown_message message ++ (codes ", " ++ (decimal (length payload.now) ++ codes " bytes }")))))

-- how many payloads were sent
abbrev pub shown_sent : ℕ → List ℕ
shown_sent count = codes "SentPayloads { " ++ (decimal count ++ codes " payloads }")
