-- What came to an end in a picture, next to what the other end sent.
use Rattle.std.specs.Prelude.{ℕ, ◌+◌, ◌-◌, ◌^◌, ◌≡◌, ◌≤◌, min, Bool, true, false, if◌then◌else◌, List, ◌++◌, codes, length, take, drop, Option, Some, None, slice_get}
use Rattle.std.specs.Option.{option_map}
use Rattle.ssh_script.specs.declared.delivery.Delivery.{Delivery}
use Rattle.ssh_script.specs.declared.delivery.Delivery.TheVariants as line
use Rattle.ssh_play.specs.declared.draw.arrivals.Arrow.{Arrow}
use Rattle.ssh_play.specs.declared.draw.end.End.{End}
use Rattle.ssh_play.specs.declared.draw.end.Origin.{Origin}
use Rattle.ssh_play.specs.declared.draw.end.Origin.TheVariants as origin

-- from where the bytes of a line of the network are that come after this many others of it
abbrev pub origin_of : Delivery → (passed : ℕ) → Origin
origin_of (line.Pass from count) passed = origin.Next
origin_of (line.Drip from) passed = origin.Next
origin_of (line.Lose from count) passed = origin.Next
origin_of (line.Give side bytes) passed = origin.Script
origin_of (line.Again from start count) passed = origin.Again (min (start + passed) (2 ^ 64 - 1))

-- The word for what came: none if some of it waited, and it is the bytes that were sent. Bytes that did not wait are repeated, or come
-- before their turn. If some are from neither end, they are injected.
abbrev pub word_for : (waited again : Option (ℕ × ℕ)) → (given same early : Bool) → List ℕ
word_for (Some span) again given same early = if same then codes "" else codes "changed"
word_for None (Some span) true same early = codes "injected"
word_for None (Some span) false same early = if early then codes "out of order" else codes "repeated"
word_for None None given same early = codes "injected"

-- A side put out these bytes after this many others.
abbrev pub Sent : (all : List ℕ) → (before : ℕ) → (bytes : List ℕ) → Type 0
Sent all before bytes = (before + length bytes ≤ length all) × (take (length bytes) (drop before all) ≡ bytes)

-- the row in which a unit of an end was sent
abbrev pub row_at : End → ℕ → Option ℕ
row_at end index = option_map (λ unit. unit.row) (slice_get end.units.items index)

-- the arrow from that row
abbrev pub arrow_from : End → Arrow → (index : ℕ) → Arrow
arrow_from end arrow index = record arrow { start = row_at end index }
