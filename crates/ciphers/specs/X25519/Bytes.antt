-- Elements as 32 bytes (RFC 7748 section 5).
use Rattle.std.specs.Prelude.{ℕ, ◌+◌, ◌*◌, ◌/◌, ◌%◌, ◌^◌, List, [], ◌∷◌, ◌++◌, bit_or, slice_index}
use Rattle.std.specs.Int.{w64, from_le_bytes, to_le_bytes}
use Rattle.ciphers.specs.declared.x25519.field.Element.{Element}

-- a word shifted to the left, and to the right
abbrev pub up : ℕ → ℕ → ℕ
up x n = x * 2 ^ n % 2 ^ 64

abbrev pub down : ℕ → ℕ → ℕ
down x n = x / 2 ^ n

-- the number that bytes spell, the lowest first
unfoldable pub value : List ℕ → ℕ
value [] = 0
value (byte ∷ rest) = byte + 256 * value rest

-- the 32 bytes of a number, the lowest first, word by word
unfoldable pub le_bytes : ℕ → List ℕ
le_bytes n =
    to_le_bytes w64 (n % 2 ^ 64)
    ++ (to_le_bytes w64 (n / 2 ^ 64 % 2 ^ 64) ++ (to_le_bytes w64 (n / 2 ^ 128 % 2 ^ 64) ++ to_le_bytes w64 (n / 2 ^ 192 % 2 ^ 64)))

-- the bit of this place in the number that the bytes spell
abbrev pub bit_of : List ℕ → ℕ → ℕ
bit_of k t = down (slice_index k (t / 8)) (t % 8) % 2

-- the word that eight bytes from this place on spell
abbrev pub word_of : List ℕ → ℕ → ℕ
word_of bytes at =
    from_le_bytes w64 (
    slice_index bytes at ∷ slice_index bytes (at + 1) ∷ slice_index bytes (at + 2) ∷ slice_index bytes (at + 3)
    ∷ slice_index bytes (at + 4) ∷ slice_index bytes (at + 5) ∷ slice_index bytes (at + 6)
    ∷ slice_index bytes (at + 7) ∷ [])

-- the 255 low bits of 32 bytes, the lowest byte first
unfoldable pub element_of : List ℕ → Element
element_of bytes =
    let v : ℕ = word_of bytes 0 in
    let w : ℕ = word_of bytes 8 in
    let x : ℕ = word_of bytes 16 in
    let y : ℕ = word_of bytes 24 in
    record {
      a = v % 2 ^ 51;
      b = bit_or (down v 51) (up w 13) % 2 ^ 51;
      c = bit_or (down w 38) (up x 26) % 2 ^ 51;
      d = bit_or (down x 25) (up y 39) % 2 ^ 51;
      e = down y 12 % 2 ^ 51;
    }

-- what each limb has from 2^51 on goes to the next one, and what the last one has, to the first, so many times
abbrev pub tightened : Element → Element
tightened x =
    let b : ℕ = x.b + x.a / 2 ^ 51 in
    let c : ℕ = x.c + b / 2 ^ 51 in
    let d : ℕ = x.d + c / 2 ^ 51 in
    let e : ℕ = x.e + d / 2 ^ 51 in
    record {
      a = x.a % 2 ^ 51 + e / 2 ^ 51 * 19;
      b = b % 2 ^ 51;
      c = c % 2 ^ 51;
      d = d % 2 ^ 51;
      e = e % 2 ^ 51;
    }

-- how often the prime is in it, at most once
abbrev pub excess : Element → ℕ
excess t = (t.e + (t.d + (t.c + (t.b + (t.a + 19) / 2 ^ 51) / 2 ^ 51) / 2 ^ 51) / 2 ^ 51) / 2 ^ 51

-- the bits below 2^255 after 19 is added this many times
abbrev pub reduced : Element → ℕ → Element
reduced t q =
    let a : ℕ = t.a + q * 19 in
    let b : ℕ = t.b + a / 2 ^ 51 in
    let c : ℕ = t.c + b / 2 ^ 51 in
    let d : ℕ = t.d + c / 2 ^ 51 in
    let e : ℕ = t.e + d / 2 ^ 51 in
    record { a = a % 2 ^ 51; b = b % 2 ^ 51; c = c % 2 ^ 51; d = d % 2 ^ 51; e = e % 2 ^ 51 }

-- the number below the prime
unfoldable pub frozen : Element → Element
frozen x = let t : Element = tightened (tightened x) in reduced t (excess t)

unfoldable pub bytes_of : Element → List ℕ
bytes_of x =
    let t : Element = frozen x in
    to_le_bytes w64 (bit_or t.a (up t.b 51))
    ++ (to_le_bytes w64 (bit_or (down t.b 13) (up t.c 38))
    ++ (to_le_bytes w64 (bit_or (down t.c 26) (up t.d 25))
    ++ to_le_bytes w64 (bit_or (down t.d 39) (up t.e 12))))
