-- The parts of a text, its lines, and the words of a line.
use Rattle.std.specs.Prelude.{ℕ, ◌==◌, ◌||◌, Bool, not, List, [], length, take, drop, codes, nat_eq, Option, Some, None}
use Rattle.std.specs.Borrow.{Bor}
use Rattle.std.specs.List.{position, slice_split, starts_with}
use Rattle.divrelca.specs.declared.key_files.parts.Parts.{Parts}
use Rattle.divrelca.specs.declared.key_files.words.Words.{Words}

-- ---- parts and lines

-- The byte ends a part.
abbrev pub is_end : (end byte : ℕ) → Bool
is_end end byte = byte == end

-- the parts of a text between such bytes; there is one such byte less than there are parts
abbrev pub parts_of : (end : ℕ) → List ℕ → List (List ℕ)
parts_of end text = slice_split (is_end end) text

-- the lines of a text, which LFs part
abbrev pub lines_of : List ℕ → List (List ℕ)
lines_of text = parts_of 10 text

-- the parts of the rest of a text, if there is a rest
abbrev pub parts_in : (end : ℕ) → Option (Bor (List ℕ)) → List (List ℕ)
parts_in end None = []
parts_in end (Some rest) = parts_of end rest.now

-- the parts that are still to come
abbrev pub parts_left : Parts → List (List ℕ)
parts_left it = parts_in it.end it.rest

-- ---- words

-- a space, a tab, or a CR, as some files have it before each LF
abbrev pub is_blank : ℕ → Bool
is_blank byte = ((byte == 32) || (byte == 9)) || (byte == 13)

-- a byte of a word
abbrev pub is_word_byte : ℕ → Bool
is_word_byte byte = not (is_blank byte)

-- the bytes before a place, or all bytes if there is no place
abbrev pub before_place : Option ℕ → List ℕ → List ℕ
before_place None bytes = bytes
before_place (Some place) bytes = take place bytes

-- the bytes from a place on, or no bytes if there is no place
abbrev pub from_place : Option ℕ → List ℕ → List ℕ
from_place None bytes = []
from_place (Some place) bytes = drop place bytes

-- a line from its first word on
unfoldable pub from_word : List ℕ → List ℕ
from_word line = from_place (position is_word_byte line) line

-- the first word of a line, up to a blank; no bytes if the line has none
unfoldable pub first_word : List ℕ → List ℕ
first_word line = before_place (position is_blank (from_word line)) (from_word line)

-- the bytes after the first word
unfoldable pub after_word : List ℕ → List ℕ
after_word line = from_place (position is_blank (from_word line)) (from_word line)

-- The first four words of a line. The ones that are not there have no bytes.
pub record FirstWords : Type 0 where
  pub first : List ℕ
  pub second : List ℕ
  pub third : List ℕ
  pub fourth : List ℕ

-- the words with which a line begins
unfoldable pub words_of : List ℕ → FirstWords
words_of line = record {
  first = first_word line;
  second = first_word (after_word line);
  third = first_word (after_word (after_word line));
  fourth = first_word (after_word (after_word (after_word line)));
}

-- the words that the code keeps of a line
abbrev pub words_in : Words → FirstWords
words_in words = record { first = words.first.now; second = words.second.now; third = words.third.now; fourth = words.fourth.now }

-- The line says nothing: it has no word, or the first one begins with `#`.
abbrev pub says_nothing : FirstWords → Bool
says_nothing words = (length words.first == 0) || starts_with nat_eq words.first (codes "#")
