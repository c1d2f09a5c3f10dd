-- The channels of the payloads that an end sends in a turn.
use Rattle.std.specs.Prelude.{ℕ, ◌-◌, length, map, Option, None, List, [], ◌∷◌, ◌++◌, replicate}
use Rattle.ssh_model.specs.State.Channels.Kept.{DueReply}
use Rattle.ssh_model.specs.State.Channels.Summary.{reply_channel}
use Rattle.ssh_end_machine.specs.declared.step.Step.{Step}
use Rattle.ssh_end_machine.specs.declared.step.Step.TheVariants as step
use Rattle.ssh_end_machine.specs.declared.step.EventKind.{EventKind}
use Rattle.ssh_end_machine.specs.declared.step.EventKind.TheVariants as event_kind

-- the channels of these payloads, one for each, if the last of them have these
abbrev pub channels_with : (payloads : List (List ℕ)) → (last : List (Option ℕ)) → List (Option ℕ)
channels_with [] last = []
channels_with (payload ∷ payloads) last = replicate (length (payload ∷ payloads) - length last) None ++ last

-- those of the last payloads: of the replies that were owed, or of a single payload where none was owed
abbrev pub last_channels : (single owed : List (Option ℕ)) → List (Option ℕ)
last_channels single [] = single
last_channels single (first ∷ rest) = first ∷ rest

-- the channel of the message that was taken, which is that of the message sent at once
abbrev pub channel_of : Step → Option ℕ
channel_of (step.Took took) = took.channel
channel_of _ = None

-- the channels of the replies that are sent if these are owed: of all, when an exchange is completed
abbrev pub channels_given : EventKind → (owed : List DueReply) → List (Option ℕ)
channels_given (event_kind.Completed position) owed = map reply_channel owed
channels_given _ owed = []

abbrev pub channels_after : Step → (owed : List DueReply) → List (Option ℕ)
channels_after (step.Took took) owed = channels_given took.event_kind owed
channels_after _ owed = []

-- the channels of the payloads that are sent in a step, if these replies were owed before it
abbrev pub channels_by : Step → (owed : List DueReply) → (payloads : List (List ℕ)) → List (Option ℕ)
channels_by given owed payloads =
    channels_with payloads (last_channels (channel_of given ∷ []) (channels_after given owed))
