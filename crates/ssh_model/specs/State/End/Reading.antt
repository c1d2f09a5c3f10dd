-- How one end reads the bytes that come to it, whatever its peer does (own).
use Rattle.std.specs.Prelude.{◌≡◌, ℕ, List, ◌++◌}
use Rattle.ssh_model.specs.declared.side.Side.{Side}
use Rattle.ssh_model.specs.Protocol.Side.{peer, part}
use Rattle.ssh_model.specs.Protocol.Wire.Delivery.{Rules, Delivered}
use Rattle.ssh_model.specs.Protocol.Wire.Unit.{reading}
use Rattle.ssh_model.specs.Protocol.Sessions.Parties.{Parties}
use Rattle.ssh_model.specs.Protocol.Sessions.Items.{Item, Done, has_died}
use Rattle.ssh_model.specs.Protocol.Sessions.Turns.{OnUnit, stage}
use Rattle.ssh_model.specs.Protocol.Sessions.Events.{reading_of}

-- The end uses this unit after one history, and the next history follows it.
pub record EndUses {K : Type 0} (p : Parties K) (side : Side) (history : List Item) (unit : List ℕ)
    (next : List Item) : Type 0 where
  pub items : List Item
  pub on_unit : OnUnit p side history unit items
  pub next_is : next ≡ items ++ history

-- how the end of this side reads its bytes
abbrev pub end_reading : {K : Type 0} → Parties K → Side → Rules (List Item)
end_reading p side = reading p.crypto (λ history. stage p side history) (EndUses p side) has_died

-- In a run of two ends, the bytes lead the end of this side to this history and leave these bytes. The other end does
-- nothing.
pub record DeliversTo {K : Type 0} (p : Parties K) (side : Side) (run : List Done) (bytes : List ℕ)
    (last : List Item) (rest : List ℕ) : Type 0 where
  pub next : List Done
  pub delivered : Delivered (reading_of p side) run bytes next rest
  pub here : part side next ≡ last
  pub there : part (peer side) next ≡ part (peer side) run
