-- The items of a transcript as the definitions have them.
use Rattle.std.specs.Prelude.{◌≤◌, List, [], ◌∷◌, length}
use Rattle.ssh_model.specs.OneEpoch.History as history
use Rattle.ssh_model.specs.OneEpoch.Runs as epoch
use Rattle.ssh_model.specs.Protocol.Side.{DoneBy.By}
use Rattle.ssh_trace.specs.declared.history.Item.{Item}
use Rattle.ssh_trace.specs.declared.history.Item.TheVariants as item
use Rattle.ssh_trace.specs.declared.history.Done.{Done}
use Rattle.ssh_trace.specs.declared.history.Event.{Event}
use Rattle.ssh_trace.specs.declared.history.Event.TheVariants.{Ask, Deliver}

abbrev pub item_of : Item → history.Item
item_of item.Asked = history.Asked
item_of (item.AskRefused refusal) = history.AskRefused refusal
item_of (item.Took payload) = history.Took payload.items
item_of (item.Sent payload) = history.Sent payload.items
item_of (item.Refused refusal) = history.Refused refusal
item_of item.Died = history.Died

-- all that was done, the newest first, with these records, the oldest first, put after it
abbrev pub logged : List history.Done → List Done → List history.Done
logged run [] = run
logged run (done ∷ dones) = logged (By done.side (item_of done.item) ∷ run) dones

abbrev pub event_of : Event → epoch.Event
event_of (Ask side payload) = epoch.Ask side payload.now
event_of (Deliver side bytes) = epoch.Deliver side bytes.now

abbrev pub events_of : List Event → List epoch.Event
events_of [] = []
events_of (event ∷ events) = event_of event ∷ events_of events

-- each payload that is to be sent has at least one byte
abbrev pub AreFilled : List epoch.Event → Type 0
AreFilled [] = Unit {0}
AreFilled (epoch.Ask side payload ∷ events) = (1 ≤ length payload) × AreFilled events
AreFilled (epoch.Deliver side bytes ∷ events) = AreFilled events
