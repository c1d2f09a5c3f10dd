-- How much data goes into a packet on a channel.
use Rattle.std.specs.Prelude.{ℕ, Option, Some, None, min}
use Rattle.ssh_model.specs.State.Channels.Places.{at, shown_room}
use Rattle.divrelca.specs.declared.policy.TheConstants.{MOST_DATA}
use Rattle.divrelca_c.specs.Embedded.Flows.{flows_of, most_on}
use Rattle.divrelca_c.specs.declared.embedded.state.Embedded.{Embedded}

-- the bytes of a window, none where none is shown
abbrev pub bytes_in : Option ℕ → ℕ
bytes_in None = 0
bytes_in (Some window) = window

-- the window that is shown of a channel, which is confirmed
abbrev pub window_on : {R X S F K : Type 0} → Embedded R X S F K → (channel : ℕ) → Option ℕ
window_on of channel = shown_room (at of.end.layers.channels.places channel)

-- how many bytes of data fit into the peer's window on a channel
abbrev pub room_on : {R X S F K : Type 0} → Embedded R X S F K → (channel : ℕ) → ℕ
room_on of channel = bytes_in (window_on of channel)

-- how many bytes of those that wait go into the next packet on the channel
abbrev pub fitting : {R X S F K : Type 0} → Embedded R X S F K → (channel waiting : ℕ) → ℕ
fitting of channel waiting = min (min (min (room_on of channel) (most_on (flows_of of.flows) channel)) MOST_DATA) waiting
