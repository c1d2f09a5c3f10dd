-- GHASH (NIST SP 800-38D, 6.3 and 6.4). A block is two words, its first bit the highest.
use Rattle.std.specs.Prelude.{ℕ, zero, suc, ◌+◌, ◌*◌, ◌/◌, ◌%◌, List, [], ◌∷◌, bit_and, bit_or, bit_xor, slice_index}
use Rattle.std.specs.Int.{w64, from_be_bytes}
use Rattle.ciphers.specs.declared.aes_gcm.ghash.Begun.{Begun}
use Rattle.ciphers.specs.declared.aes_gcm.ghash.Element.{Element}
use Rattle.ciphers.specs.AesGcm.Planes.{up, down}
use Rattle.ciphers.specs.AesGcm.SubBytes.{ones}

-- one bit of a factor: the multiple is added if the bit is set, and becomes the next one
unfoldable pub step : Begun → Begun
step b =
    let taken : ℕ = down b.bits 63 * ones in
    let carried : ℕ = b.lo % 2 * 0xe100_0000_0000_0000 in
    record { sum_hi = bit_xor b.sum_hi (bit_and b.hi taken); sum_lo = bit_xor b.sum_lo (bit_and b.lo taken); hi = bit_xor (down b.hi 1) carried; lo = bit_or (down b.lo 1) (up b.hi 63); bits = up b.bits 1 }

unfoldable pub steps : ℕ → Begun → Begun
steps zero b = b
steps (suc n) b = step (steps n b)

unfoldable pub product : Element → Element → Element
product x y =
    let first : Begun = steps 64 (record { sum_hi = 0; sum_lo = 0; hi = y.hi; lo = y.lo; bits = x.hi }) in
    let second : Begun = steps 64 (record { sum_hi = first.sum_hi; sum_lo = first.sum_lo; hi = first.hi; lo = first.lo; bits = x.lo }) in
    record { hi = second.sum_hi; lo = second.sum_lo }

unfoldable pub absorbed : Element → Element → Element → Element
absorbed key sum block = product (record { hi = bit_xor sum.hi block.hi; lo = bit_xor sum.lo block.lo }) key

abbrev pub byte_at : List ℕ → ℕ → ℕ
byte_at bytes at = slice_index bytes at

abbrev pub word_at : List ℕ → ℕ → ℕ
word_at bytes at = from_be_bytes w64 (byte_at bytes at ∷ byte_at bytes (at + 1) ∷ byte_at bytes (at + 2) ∷ byte_at bytes (at + 3) ∷ byte_at bytes (at + 4) ∷ byte_at bytes (at + 5) ∷ byte_at bytes (at + 6) ∷ byte_at bytes (at + 7) ∷ [])

abbrev pub block_at : List ℕ → ℕ → Element
block_at bytes i = record { hi = word_at bytes (16 * i); lo = word_at bytes (16 * i + 8) }

-- how many blocks this many bytes fill
abbrev pub blocks : ℕ → ℕ
blocks count = (count + 15) / 16

-- the first n blocks of the bytes
unfoldable pub absorbed_all : Element → Element → List ℕ → ℕ → Element
absorbed_all key sum bytes zero = sum
absorbed_all key sum bytes (suc n) = absorbed key (absorbed_all key sum bytes n) (block_at bytes n)
