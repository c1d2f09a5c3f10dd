-- The writing of a text into a picture.
use Rattle.std.specs.Prelude.{◌≡◌, ℕ, ◌+◌, ◌/◌, ◌<◌, ◌≤◌, ◌==◌, ◌&&◌, ◌||◌, Bool, nat_le, if◌then◌else◌, List, [], ◌∷◌, ◌++◌, length, flat_map, chars, codes, decimal, encode_utf8, string_bytes}
use Rattle.std.specs.declared.alloc.Global.{Global}
use Rattle.std.specs.declared.string.String.{String}
use Rattle.ssh_model.specs.declared.side.Side.{Side}
use Rattle.ssh_model.specs.declared.side.Side.TheVariants.{Client, Server}
use Rattle.ssh_play.specs.Places.{IsDrawn, Stands, line_at, place_of, width_of}
use Rattle.ssh_play.specs.declared.draw.layout.Layout.{Layout}
use Rattle.ssh_play.specs.declared.draw.places.Column.{Column}
use Rattle.ssh_play.specs.declared.draw.places.Column.TheVariants.{Outer, Inner}
use Rattle.ssh_play.specs.declared.draw.places.Place.{Place}
use Rattle.ssh_play.specs.declared.draw.text.Label.{Label}

-- whether a character is between two others, or one of them
abbrev pub is_between : ℕ → ℕ → ℕ → Bool
is_between low high letter = nat_le low letter && nat_le letter high

-- whether a character does not show, or changes the direction of those after it
abbrev pub is_hidden : ℕ → Bool
is_hidden letter = is_between 0 0x1f letter || is_between 0x7f 0x9f letter || letter == 0x61c || is_between 0x200e 0x200f letter
    || is_between 0x2028 0x202e letter || is_between 0x2066 0x2069 letter || is_between 0xfffe 0xffff letter

-- the text written for a character
abbrev pub escaped_char : ℕ → List ℕ
escaped_char letter = if letter == 38 then codes "&amp;" else if letter == 60 then codes "&lt;" else if letter == 62 then codes "&gt;"
    else if is_hidden letter then encode_utf8 0xfffd else encode_utf8 letter

-- the text written for a text: no mark of it begins or ends an element
abbrev pub escaped : List ℕ → List ℕ
escaped text = flat_map escaped_char (chars text)

-- at which end of its place a text of a column stands
abbrev pub anchor_of : Column → List ℕ
anchor_of (Outer Client) = codes "end"
anchor_of (Inner Client) = codes "end"
anchor_of _ = codes "start"

-- how far from the left that is
abbrev pub x_of : Column → Place → ℕ
x_of (Outer Client) place = place.left + place.width
x_of (Inner Client) place = place.left + place.width
x_of _ place = place.left

-- the beginning of an element
abbrev pub tag_of : Place → Column → List ℕ → List ℕ
tag_of place column class = codes "<text x='" ++ (decimal (x_of column place) ++ (codes "' y='" ++ (decimal (place.top + 140)
    ++ (codes "' text-anchor='" ++ (anchor_of column ++ (codes "' class='" ++ (class ++ codes "'>")))))))

-- the element of the shown part of a text, and a mark
abbrev pub element_of : Place → Column → List ℕ → List ℕ → List ℕ → List ℕ
element_of place column class shown mark = tag_of place column class ++ (escaped shown ++ (mark ++ codes "</text>\n"))

-- At most this many bytes of a text are shown: all of it, or a prefix of it and an ellipsis, U+2026, if that has room.
pub record IsCut (most : ℕ) (text shown mark : List ℕ) : Type 0 where
  pub short : length shown + length mark ≤ most
  pub front : (rest : List ℕ) × (text ≡ shown ++ rest)
  pub whole : length text ≤ most → (shown ≡ text) × (mark ≡ [])
  pub marked : most < length text → 3 ≤ most → mark ≡ 226 ∷ 128 ∷ 166 ∷ []

-- The element of a text is written, cut to its place.
pub record Shows (layout : Layout) (line : ℕ) (column : Column) (class text before after : List ℕ) : Type 0 where
  pub shown : List ℕ
  pub mark : List ℕ
  pub cut : IsCut (width_of layout column / 73) text shown mark
  pub written : after ≡ before ++ element_of (place_of layout line column) column class shown mark

-- A text is written if the picture has its place, and otherwise nothing.
pub record Writes (layout : Layout) (line : ℕ) (column : Column) (class text before after : List ℕ) : Type 0 where
  pub there : Stands layout line column → Shows layout line column class text before after
  pub nowhere : (Stands layout line column → ⊥) → after ≡ before

-- how a text looks that has to be seen, and one that has not
abbrev pub class_of : Bool → List ℕ
class_of is_hot = if is_hot then codes "r" else codes "p"

-- The text of a row is written in the row's line, and nothing if the row is not drawn.
pub record WritesLabel (layout : Layout) (label : Label) (before after : List ℕ) : Type 0 where
  pub drawn : IsDrawn layout label.row
      → Writes layout (line_at layout label.row) label.column (class_of label.is_hot) (string_bytes label.text) before after
  pub left_out : (IsDrawn layout label.row → ⊥) → after ≡ before

-- One more text stands in a row.
pub record Puts (before after : List Label) (row : ℕ) (column : Column) (is_hot : Bool) (text : List ℕ) : Type 0 where
  pub kept : String Global
  pub last : after ≡ before ++ (record { row = row; column = column; is_hot = is_hot; text = kept } ∷ [])
  pub same : string_bytes kept ≡ text

-- a side in words
abbrev pub word_of : Side → List ℕ
word_of Client = codes "client"
word_of Server = codes "server"

-- the text about an end that refused something with this
abbrev pub refusal_of : Side → List ℕ → List ℕ → List ℕ
refusal_of side name refusal = codes "The " ++ (word_of side ++ (codes " refused " ++ (name ++ (codes " with refusal " ++ (refusal ++ codes ". ")))))
