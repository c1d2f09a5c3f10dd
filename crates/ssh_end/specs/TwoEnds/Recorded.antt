-- The payloads that a transcript records as sent.
use Rattle.std.specs.Prelude.{◌≡◌, ℕ, Bool, true, false, cond, List, [], ◌∷◌, ◌++◌, Result, Ok, Err}
use Rattle.ssh_model.specs.declared.side.Side.{Side}
use Rattle.ssh_model.specs.declared.side.Side.TheVariants.{Client, Server}
use Rattle.ssh_model.specs.Protocol.Side.{peer}
use Rattle.ssh_end_machine.specs.declared.asking.outcome.AskStep.{AskStep}
use Rattle.ssh_end_machine.specs.declared.asking.outcome.Fault.{Fault}
use Rattle.ssh_end.specs.declared.item.Done.{Done}
use Rattle.ssh_end.specs.declared.item.Item.{Item}
use Rattle.ssh_end.specs.declared.item.Item.TheVariants as item

-- the payload of an item that was sent
abbrev pub payload_in : Item → List (List ℕ)
payload_in (item.Sent channel payload) = payload.items ∷ []
payload_in _ = []

abbrev pub is_side : (side other : Side) → Bool
is_side Client Client = true
is_side Server Server = true
is_side _ _ = false

-- the payloads that are recorded as sent by one side, the oldest first
abbrev pub recorded_sent : Side → List Done → List (List ℕ)
recorded_sent side [] = []
recorded_sent side (done ∷ log) = cond (is_side side done.side) (payload_in done.item) [] ++ recorded_sent side log

-- These payloads were recorded as sent by one side, and none as sent by the other.
pub record RecordsSent (side : Side) (payloads : List (List ℕ)) (old new : List Done) : Type 0 where
  pub own : recorded_sent side new ≡ recorded_sent side old ++ payloads
  pub others : recorded_sent (peer side) new ≡ recorded_sent (peer side) old

-- the payloads of an ask; if the ask is refused, none is recorded
abbrev pub RecordsAsked : Side → Result AskStep Fault → List (List ℕ) → (old new : List Done) → Type 0
RecordsAsked side (Ok step) payloads old new = RecordsSent side payloads old new
RecordsAsked side (Err fault) payloads old new = RecordsSent side [] old new
