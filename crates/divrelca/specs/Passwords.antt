-- The password in a file.
use Rattle.std.specs.Prelude.{ℕ, ◌-◌, ◌==◌, ◌&&◌, Bool, if◌then◌else◌, List, [], ◌∷◌, length, take, drop, nat_le, Option, Some, None}
use Rattle.std.specs.List.{list_all}
use Rattle.ssh_model.specs.Protocol.Wire.DataTypes.{is_text}
use Rattle.divrelca.specs.Texts.{lines_of}

-- The line has no bytes.
abbrev pub is_empty : List ℕ → Bool
is_empty line = length line == 0

-- the first line, if no other has bytes
abbrev pub only_line : List (List ℕ) → Option (List ℕ)
only_line [] = None
only_line (line ∷ others) = if list_all is_empty others then Some line else None

-- a line without the CR at its end
abbrev pub without_cr : List ℕ → List ℕ
without_cr line = if is_text (drop (length line - 1) line) (13 ∷ []) then take (length line - 1) line else line

-- a word of 1 to 1,024 bytes
abbrev pub word_of : List ℕ → Option (List ℕ)
word_of word = if nat_le 1 (length word) && nat_le (length word) 1024 then Some word else None

-- the word on a line that has to be there
abbrev pub word_on : Option (List ℕ) → Option (List ℕ)
word_on None = None
word_on (Some line) = word_of (without_cr line)

-- The password of a file: its first line without a CR at its end, if no other line has bytes.
abbrev pub password_of : List ℕ → Option (List ℕ)
password_of text = word_on (only_line (lines_of text))
