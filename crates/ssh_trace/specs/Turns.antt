-- What an ask and a delivery do, for every history that the end sums up.
use Rattle.std.specs.Prelude.{◌≡◌, ℕ, List, ◌++◌}
use Rattle.ssh_model.specs.Laws.MacOnly.{mac_only}
use Rattle.ssh_model.specs.declared.side.Side.{Side}
use Rattle.ssh_model.specs.Protocol.Side.{done_by}
use Rattle.ssh_model.specs.OneEpoch.History.{Item}
use Rattle.ssh_model.specs.OneEpoch.History as history
use Rattle.ssh_model.specs.OneEpoch.Runs.{Asks, Gets}
use Rattle.ssh_trace.specs.History.{logged}
use Rattle.ssh_trace.specs.EpochEnd.{End, EndSums, left_of}
use Rattle.ssh_trace.specs.declared.history.Done.{Done}

-- These items, the newest first, were put into the records, and the end sums them up too.
pub record Notes (side : Side) (h items : List Item) (new : End) (log_old log_new : List Done) : Type 0 where
  pub records : (run : List history.Done) → logged run log_new ≡ done_by side items ++ logged run log_old
  pub sums : EndSums (items ++ h) (left_of new) new

-- an ask
pub record AskedWith (key : List ℕ) (side : Side) (payload : List ℕ) (h : List Item) (old new : End) (log_old log_new : List Done) (out_old out_new : List ℕ) : Type 0 where
  pub items : List Item
  pub bytes : List ℕ
  pub asks : Asks mac_only key h (left_of old) payload items bytes (left_of new)
  pub put : out_new ≡ out_old ++ bytes
  pub notes : Notes side h items new log_old log_new

abbrev pub Asked : List ℕ → Side → List ℕ → End → End → List Done → List Done → List ℕ → List ℕ → Type 0
Asked key side payload old new log_old log_new out_old out_new =
    (h : List Item) → EndSums h (left_of old) old → AskedWith key side payload h old new log_old log_new out_old out_new

-- A part of a delivery: what the end then does with more bytes it does with these bytes and more, these items in front.
pub record TurnWith (key : List ℕ) (side : Side) (used : List ℕ) (h : List Item) (old new : End) (log_old log_new : List Done) : Type 0 where
  pub items : List Item
  pub goes : (after : List ℕ) (more : List Item) (left : List ℕ) → Gets mac_only key (items ++ h) (left_of new ++ after) more left → Gets mac_only key h (left_of old ++ (used ++ after)) (more ++ items) left
  pub notes : Notes side h items new log_old log_new

abbrev pub Turn : List ℕ → Side → List ℕ → End → End → List Done → List Done → Type 0
Turn key side used old new log_old log_new =
    (h : List Item) → EndSums h (left_of old) old → TurnWith key side used h old new log_old log_new

-- a whole delivery
pub record DeliveredWith (key : List ℕ) (side : Side) (piece : List ℕ) (h : List Item) (old new : End) (log_old log_new : List Done) : Type 0 where
  pub items : List Item
  pub gets : Gets mac_only key h (left_of old ++ piece) items (left_of new)
  pub notes : Notes side h items new log_old log_new

abbrev pub Delivered : List ℕ → Side → List ℕ → End → End → List Done → List Done → Type 0
Delivered key side piece old new log_old log_new =
    (h : List Item) → EndSums h (left_of old) old → DeliveredWith key side piece h old new log_old log_new
