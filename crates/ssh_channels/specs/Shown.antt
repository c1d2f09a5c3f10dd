-- What `{:?}` shows of an event: the channel, the numbers, and how many bytes there are, but no text.
use Rattle.std.specs.Prelude.{ℕ, Bool, if◌then◌else◌, List, ◌++◌, codes, decimal, length, Option, Some, None}
use Rattle.ssh_channels.specs.declared.event.ChannelEvent.{ChannelEvent}
use Rattle.ssh_channels.specs.declared.event.ChannelEvent.TheVariants as event

-- a truth value in a word
abbrev pub shown_bool : Bool → List ℕ
shown_bool value = if value then codes "true" else codes "false"

-- a number, if there is one
abbrev pub shown_number : Option ℕ → List ℕ
shown_number None = codes "None"
shown_number (Some n) = codes "Some(" ++ (decimal n ++ codes ")")

-- the number of a channel
abbrev pub shown_channel : (name : List ℕ) → (channel : ℕ) → (rest : List ℕ) → List ℕ
shown_channel name channel rest = name ++ (codes " { channel: " ++ (decimal channel ++ rest))

-- an event without its texts
abbrev pub shown_event : ChannelEvent → List ℕ
shown_event (event.Global name want rest) =
    codes "Global { want: " ++ (shown_bool want ++ (codes ", " ++ (decimal (length rest.now) ++ codes " bytes }")))
shown_event (event.GlobalDone success rest) =
    codes "GlobalDone { success: " ++ (shown_bool success ++ (codes ", " ++ (decimal (length rest.now) ++ codes " bytes }")))
shown_event (event.Opening channel) = shown_channel (codes "Opening") channel (codes " }")
shown_event (event.Opened channel kind window most rest) = shown_channel (codes "Opened") channel (codes " }")
shown_event (event.Confirmed channel window most rest) = shown_channel (codes "Confirmed") channel (codes " }")
shown_event (event.OpenFailed channel reason description) =
    shown_channel (codes "OpenFailed") channel (codes ", reason: " ++ (decimal reason ++ codes " }"))
shown_event (event.GotData channel kind body) =
    shown_channel (codes "GotData") channel
    (codes ", kind: " ++ (shown_number kind ++ (codes ", " ++ (decimal (length body.now) ++ codes " bytes }"))))
shown_event (event.Adjusted channel bytes) = shown_channel (codes "Adjusted") channel (codes ", bytes: " ++ (decimal bytes ++ codes " }"))
shown_event (event.Ended channel) = shown_channel (codes "Ended") channel (codes " }")
shown_event (event.Closed channel) = shown_channel (codes "Closed") channel (codes " }")
shown_event (event.Requested channel name want rest) =
    shown_channel (codes "Requested") channel (codes ", want: " ++ (shown_bool want ++ codes " }"))
shown_event (event.RequestDone channel success) =
    shown_channel (codes "RequestDone") channel (codes ", success: " ++ (shown_bool success ++ codes " }"))
