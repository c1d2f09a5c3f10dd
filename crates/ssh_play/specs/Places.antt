-- Where the texts of a picture stand, in tenths of a pixel.
use Rattle.std.specs.Prelude.{ℕ, ◌+◌, ◌-◌, ◌*◌, ◌<◌, ◌≤◌, Bool, true, false}
use Rattle.ssh_model.specs.declared.side.Side.{Side}
use Rattle.ssh_model.specs.declared.side.Side.TheVariants.{Client, Server}
use Rattle.ssh_play.specs.declared.draw.places.Column.{Column}
use Rattle.ssh_play.specs.declared.draw.places.Column.TheVariants.{Whole, Outer, Inner}
use Rattle.ssh_play.specs.declared.draw.layout.Layout.{Layout}
use Rattle.ssh_play.specs.declared.draw.places.Place.{Place}

-- the place at which a column begins
abbrev pub left_of : Layout → Column → ℕ
left_of layout Whole = 160
left_of layout (Outer Client) = 160
left_of layout (Inner Client) = 340 + 73 * layout.client.outer
left_of layout (Inner Server) = 8260 - 73 * layout.server.outer - 73 * layout.server.inner
left_of layout (Outer Server) = 8440 - 73 * layout.server.outer

-- how wide it is
abbrev pub width_of : Layout → Column → ℕ
width_of layout Whole = 8280
width_of layout (Outer Client) = 73 * layout.client.outer
width_of layout (Inner Client) = 73 * layout.client.inner
width_of layout (Inner Server) = 73 * layout.server.inner
width_of layout (Outer Server) = 73 * layout.server.outer

-- the place at which it ends
abbrev pub right_of : Layout → Column → ℕ
right_of layout column = left_of layout column + width_of layout column

-- the place at which the network ends on the side of an end
abbrev pub edge_of : Layout → Side → ℕ
edge_of layout Client = 460 + 73 * layout.client.outer + 73 * layout.client.inner
edge_of layout Server = 8140 - 73 * layout.server.outer - 73 * layout.server.inner

-- the place of a text of a line and column
abbrev pub place_of : Layout → ℕ → Column → Place
place_of layout line column = record { left = left_of layout column; top = 100 + 200 * line; width = width_of layout column }

-- the height of a picture
abbrev pub height_of : Layout → ℕ
height_of layout = 200 + 200 * (6 + layout.rows)

-- A row of the run is drawn.
abbrev pub IsDrawn : Layout → ℕ → Type 0
IsDrawn layout row = (layout.left_out ≤ row) × (row < layout.left_out + layout.rows)

-- the line in which it is
abbrev pub line_at : Layout → ℕ → ℕ
line_at layout row = 3 + (row - layout.left_out)

-- The line is that of headings or of how many rows are left out, or one of the rows.
abbrev pub IsRow : Layout → ℕ → Type 0
IsRow layout line = (1 ≤ line) × (line < 3 + layout.rows)

-- These have columns, and other lines are whole.
abbrev pub HasColumn : Layout → ℕ → Column → Type 0
HasColumn layout line Whole = IsRow layout line → ⊥
HasColumn layout line _ = IsRow layout line

-- The picture has this line, and the line this column.
pub record Stands (layout : Layout) (line : ℕ) (column : Column) : Type 0 where
  pub within : line < 6 + layout.rows
  pub has : HasColumn layout line column

-- A place is within a picture of this height.
pub record IsInside (height : ℕ) (place : Place) : Type 0 where
  pub right : place.left + place.width ≤ 8600
  pub below : place.top + 200 ≤ height

-- whether a column stands at the left of another
abbrev pub is_before : Column → Column → Bool
is_before (Outer Client) (Inner _) = true
is_before (Outer Client) (Outer Server) = true
is_before (Inner Client) (Inner Server) = true
is_before (Inner Client) (Outer Server) = true
is_before (Inner Server) (Outer Server) = true
is_before _ _ = false

-- A place ends at or above the place at which the other begins.
abbrev pub EndsAbove : Place → Place → Type 0
EndsAbove place other = place.top + 200 ≤ other.top

-- A place ends at the beginning of the other, or to the left of it.
abbrev pub EndsBefore : Place → Place → Type 0
EndsBefore place other = place.left + place.width ≤ other.left
