-- Bytes as planes of bits and back.
use Rattle.std.specs.Prelude.{ℕ, ◌+◌, List, [], ◌∷◌, ◌++◌, bit_and, bit_or, slice_index}
use Rattle.std.specs.Int.{w64, from_le_bytes, to_le_bytes}
use Rattle.ciphers.specs.declared.aes_gcm.planes.Planes.{Planes}
use Rattle.ciphers.specs.AesGcm.Planes.{up, down}

unfoldable pub low_one : ℕ → ℕ → ℕ
low_one x y = bit_or (bit_and x 0x5555_5555_5555_5555) (up (bit_and y 0x5555_5555_5555_5555) 1)

unfoldable pub high_one : ℕ → ℕ → ℕ
high_one x y = bit_or (down (bit_and x 0xaaaa_aaaa_aaaa_aaaa) 1) (bit_and y 0xaaaa_aaaa_aaaa_aaaa)

unfoldable pub low_two : ℕ → ℕ → ℕ
low_two x y = bit_or (bit_and x 0x3333_3333_3333_3333) (up (bit_and y 0x3333_3333_3333_3333) 2)

unfoldable pub high_two : ℕ → ℕ → ℕ
high_two x y = bit_or (down (bit_and x 0xcccc_cccc_cccc_cccc) 2) (bit_and y 0xcccc_cccc_cccc_cccc)

unfoldable pub low_four : ℕ → ℕ → ℕ
low_four x y = bit_or (bit_and x 0x0f0f_0f0f_0f0f_0f0f) (up (bit_and y 0x0f0f_0f0f_0f0f_0f0f) 4)

unfoldable pub high_four : ℕ → ℕ → ℕ
high_four x y = bit_or (down (bit_and x 0xf0f0_f0f0_f0f0_f0f0) 4) (bit_and y 0xf0f0_f0f0_f0f0_f0f0)

-- bit i of byte m of word k comes to bit k of byte m of word i
unfoldable pub transposed : Planes → Planes
transposed a =
    let b : Planes = record { p0 = low_one a.p0 a.p1; p1 = high_one a.p0 a.p1; p2 = low_one a.p2 a.p3; p3 = high_one a.p2 a.p3; p4 = low_one a.p4 a.p5; p5 = high_one a.p4 a.p5; p6 = low_one a.p6 a.p7; p7 = high_one a.p6 a.p7 } in
    let c : Planes = record { p0 = low_two b.p0 b.p2; p1 = low_two b.p1 b.p3; p2 = high_two b.p0 b.p2; p3 = high_two b.p1 b.p3; p4 = low_two b.p4 b.p6; p5 = low_two b.p5 b.p7; p6 = high_two b.p4 b.p6; p7 = high_two b.p5 b.p7 } in
    record { p0 = low_four c.p0 c.p4; p1 = low_four c.p1 c.p5; p2 = low_four c.p2 c.p6; p3 = low_four c.p3 c.p7; p4 = high_four c.p0 c.p4; p5 = high_four c.p1 c.p5; p6 = high_four c.p2 c.p6; p7 = high_four c.p3 c.p7 }

-- every eighth byte
abbrev pub gathered : List ℕ → ℕ → ℕ
gathered bytes i = from_le_bytes w64 (slice_index bytes i ∷ slice_index bytes (i + 8) ∷ slice_index bytes (i + 16) ∷ slice_index bytes (i + 24) ∷ slice_index bytes (i + 32) ∷ slice_index bytes (i + 40) ∷ slice_index bytes (i + 48) ∷ slice_index bytes (i + 56) ∷ [])

unfoldable pub packed : List ℕ → Planes
packed bytes = transposed (record { p0 = gathered bytes 0; p1 = gathered bytes 1; p2 = gathered bytes 2; p3 = gathered bytes 3; p4 = gathered bytes 4; p5 = gathered bytes 5; p6 = gathered bytes 6; p7 = gathered bytes 7 })

-- the bytes m of eight words
abbrev pub row : Planes → ℕ → List ℕ
row t m = slice_index (to_le_bytes w64 t.p0) m ∷ slice_index (to_le_bytes w64 t.p1) m ∷ slice_index (to_le_bytes w64 t.p2) m ∷ slice_index (to_le_bytes w64 t.p3) m ∷ slice_index (to_le_bytes w64 t.p4) m ∷ slice_index (to_le_bytes w64 t.p5) m ∷ slice_index (to_le_bytes w64 t.p6) m ∷ slice_index (to_le_bytes w64 t.p7) m ∷ []

unfoldable pub unpacked : Planes → List ℕ
unpacked planes =
    let t : Planes = transposed planes in
    row t 0 ++ (row t 1 ++ (row t 2 ++ (row t 3 ++ (row t 4 ++ (row t 5 ++ (row t 6 ++ row t 7))))))
