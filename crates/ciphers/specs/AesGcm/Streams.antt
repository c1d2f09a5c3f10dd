-- GHASH of sixteen streams of blocks, by a table of a linear map.
use Rattle.std.specs.Prelude.{ℕ, zero, suc, ◌+◌, ◌*◌, ◌/◌, ◌%◌, List, bit_xor, slice_index}

-- what the table has from this place on for a byte: sixteen numbers for its low nibble, and 256 places on sixteen for its high one
abbrev pub entry_of : List ℕ → ℕ → ℕ → ℕ
entry_of table at b = bit_xor (slice_index table (at + b % 16)) (slice_index table (at + 256 + b / 16))

-- a number, and the entries of the first n bytes of a block added to it, each 512 places after the one before it
unfoldable pub sum_of : List ℕ → (ℕ → ℕ) → ℕ → ℕ → ℕ → ℕ
sum_of table f at base zero = base
sum_of table f at base (suc n) = bit_xor (sum_of table f at base n) (entry_of table (512 * n + at) (f n))

-- byte i of each of sixteen blocks, which stand turned: byte j of block l at 16 j + l
abbrev pub byte_in : List ℕ → ℕ → ℕ → ℕ
byte_in all l i = slice_index all (16 * i + l)

-- byte j of the map of a block, and of another block added to it
abbrev pub next_of : List ℕ → (ℕ → ℕ) → List ℕ → ℕ → ℕ → ℕ → ℕ
next_of table f bytes place l j = sum_of table f (16 * j) (slice_index bytes (place + j + 16 * l)) 16

-- byte j of stream l after n steps from a first block of each: the sum of the blocks l, 16 + l, 32 + l .., with the map between two of them
unfoldable pub stream : List ℕ → (ℕ → ℕ → ℕ) → List ℕ → ℕ → ℕ → ℕ → ℕ
stream table first bytes zero l j = first l j
stream table first bytes (suc n) l j = next_of table (stream table first bytes n l) bytes (256 * n) l j
