-- Items with the side that did them. The two ends of a session are the variants of `Side` (own).
use Rattle.std.specs.Prelude.{List, [], ◌∷◌, map}
use Rattle.ssh_model.specs.declared.side.Side.{Side}
use Rattle.ssh_model.specs.declared.side.Side.TheVariants.{Client, Server}

-- the side of the other end
abbrev pub peer : Side → Side
peer Client = Server
peer Server = Client

-- an item with the side that did it; the type of items is a parameter
pub data DoneBy (Item : Type 0) : Type 0 where
  By : Side → Item → DoneBy Item

-- these items, each with this side
abbrev pub done_by : {Item : Type 0} → Side → List Item → List (DoneBy Item)
done_by side items = map (By side) items

-- the items of one side, out of a list of items of both
abbrev pub part : {Item : Type 0} → Side → List (DoneBy Item) → List Item
part side [] = []
part Client (By Client i ∷ run) = i ∷ part Client run
part Server (By Server i ∷ run) = i ∷ part Server run
part side (_ ∷ run) = part side run
