-- The extensions of an EXT_INFO, as they stand in its payload (RFC 8308 section 2.3).
use Rattle.std.specs.Prelude.{ℕ, zero, suc, Bool, true, false, ◌&&◌, nat_le, List, [], ◌∷◌, length, take, drop}
use Rattle.ssh_model.specs.Protocol.Wire.DataTypes.{number}
use Rattle.ssh_model.specs.Protocol.Wire.Message as model

-- ---- the string at the front

-- the length of the string at the front
abbrev pub string_length : List ℕ → ℕ
string_length bytes = number (take 4 bytes)

-- the text of the string at the front, and the bytes after it
abbrev pub string_in : List ℕ → List ℕ
string_in bytes = take (string_length bytes) (drop 4 bytes)

abbrev pub after_string : List ℕ → List ℕ
after_string bytes = drop (string_length bytes) (drop 4 bytes)

-- The string at the front is there whole.
abbrev pub has_string : List ℕ → Bool
has_string bytes = nat_le 4 (length bytes) && nat_le (string_length bytes) (length (drop 4 bytes))

-- ---- names and values

-- the extension at the front, the bytes after it, and whether it is there whole
abbrev pub extension_in : List ℕ → model.Extension
extension_in bytes = record { name = string_in bytes; value = string_in (after_string bytes) }

abbrev pub after_extension : List ℕ → List ℕ
after_extension bytes = after_string (after_string bytes)

abbrev pub has_extension : List ℕ → Bool
has_extension bytes = has_string bytes && has_string (after_string bytes)

abbrev pub is_empty : List ℕ → Bool
is_empty [] = true
is_empty _ = false

-- this many extensions from the front
abbrev pub extensions_in : ℕ → List ℕ → List model.Extension
extensions_in zero bytes = []
extensions_in (suc count) bytes = extension_in bytes ∷ extensions_in count (after_extension bytes)

-- There are this many extensions, and nothing follows the last one.
abbrev pub are_extensions : ℕ → List ℕ → Bool
are_extensions zero bytes = is_empty bytes
are_extensions (suc count) bytes = has_extension bytes && are_extensions count (after_extension bytes)
