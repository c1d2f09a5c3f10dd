-- Tables of products by a key, nibble by nibble, and blocks absorbed.
use Rattle.std.specs.Prelude.{◌≡◌, ℕ, zero, suc, ◌+◌, ◌*◌, ◌/◌, ◌%◌, ◌^◌, ◌<◌, ◌==◌, cond, eqb, if◌then◌else◌, List, [], ◌∷◌, ◌++◌, length, bit_xor, slice_index}
use Rattle.std.specs.Int.{w64, from_be_bytes, to_be_bytes}
use Rattle.ciphers.specs.declared.aes_gcm.ghash.Element.{Element}
use Rattle.ciphers.specs.AesGcm.Ghash.{block_at, product}

-- words of 64 bits
pub record IsWord (x : Element) : Type 0 where
  pub hi : x.hi < 2 ^ 64
  pub lo : x.lo < 2 ^ 64

-- the sum of two elements
abbrev pub plus : Element → Element → Element
plus x y = record { hi = bit_xor x.hi y.hi; lo = bit_xor x.lo y.lo }

abbrev pub none : Element
none = record { hi = 0; lo = 0 }

-- a product taken so often
unfoldable pub many : ℕ → Element → Element → Element
many zero k x = x
many (suc n) k x = product (many n k x) k

-- the first n blocks, from a sum on
unfoldable pub absorb : Element → Element → (ℕ → Element) → ℕ → Element
absorb k s xs zero = s
absorb k s xs (suc n) = product (plus (absorb k s xs n) (xs n)) k

-- a word of eight bytes
abbrev pub word : (ℕ → ℕ) → ℕ
word f = from_be_bytes w64 (f 0 ∷ f 1 ∷ f 2 ∷ f 3 ∷ f 4 ∷ f 5 ∷ f 6 ∷ f 7 ∷ [])

-- the element of sixteen bytes
abbrev pub element_of : (ℕ → ℕ) → Element
element_of f = record { hi = word f; lo = word (λ (i : ℕ). f (8 + i)) }

-- the bytes of an element
abbrev pub bytes_of : Element → List ℕ
bytes_of x = to_be_bytes w64 x.hi ++ to_be_bytes w64 x.lo

-- a block that has v at byte n, and zeros elsewhere
abbrev pub at : ℕ → ℕ → ℕ → ℕ
at n v m = cond (eqb m n) v 0

-- A table has 512 columns of sixteen bytes: for each byte of a block one for each value of its low nibble, and then of its high one.
abbrev pub nibble : ℕ → ℕ → ℕ
nibble n = at (n / 32) (if n / 16 % 2 == 0 then n % 16 else 16 * (n % 16))

-- the column of one bit: of the four places of nibbles from 4 g on, four bits each
abbrev pub bit_column : ℕ → ℕ → ℕ
bit_column g l = 64 * g + 16 * (l / 4) + 2 ^ (l % 4)

-- a number if bit b of a nibble is set, and otherwise 0
abbrev pub part : ℕ → ℕ → ℕ → ℕ
part nibble b x = cond (eqb (nibble / 2 ^ b % 2) 1) x 0

-- the sum of the numbers of a nibble's bits
abbrev pub sum_at : (ℕ → ℕ) → ℕ → ℕ
sum_at f n = bit_xor (bit_xor (part n 0 (f 0)) (part n 1 (f 1))) (bit_xor (part n 2 (f 2)) (part n 3 (f 3)))

-- the place of byte j of column n
abbrev pub place : ℕ → ℕ → ℕ
place n j = 256 * (n / 16) + 16 * j + n % 16

-- The columns are the products, taken m times, of the blocks of one nibble.
pub record IsNibbles (m : ℕ) (t : List ℕ) (k : Element) : Type 0 where
  pub columns : (n : ℕ) → n < 512 → element_of (λ (j : ℕ). slice_index t (place n j)) ≡ many m k (element_of (nibble n))
  pub long : length t ≡ 8192
  pub key : IsWord k

-- the first blocks of a text, the first one with a sum added to it
abbrev pub first_blocks : Element → List ℕ → ℕ → Element
first_blocks sum bytes zero = plus sum (block_at bytes 0)
first_blocks sum bytes (suc l) = block_at bytes (suc l)
