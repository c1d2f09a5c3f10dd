-- The steps of AES that only move and add bits (FIPS 197, 5.1), over planes of bits.
use Rattle.std.specs.Prelude.{ℕ, ◌*◌, ◌/◌, ◌%◌, ◌^◌, bit_and, bit_or, bit_xor}
use Rattle.ciphers.specs.declared.aes_gcm.planes.Planes.{Planes}

-- shifts of a word of 64 bits
abbrev pub up : ℕ → ℕ → ℕ
up x n = x * 2 ^ n % 2 ^ 64

abbrev pub down : ℕ → ℕ → ℕ
down x n = x / 2 ^ n

unfoldable pub added : Planes → Planes → Planes
added a b = record { p0 = bit_xor a.p0 b.p0; p1 = bit_xor a.p1 b.p1; p2 = bit_xor a.p2 b.p2; p3 = bit_xor a.p3 b.p3; p4 = bit_xor a.p4 b.p4; p5 = bit_xor a.p5 b.p5; p6 = bit_xor a.p6 b.p6; p7 = bit_xor a.p7 b.p7 }

unfoldable pub shifted_plane : ℕ → ℕ
shifted_plane x =
    bit_or (bit_or (bit_or (bit_or (bit_or (bit_or
    (bit_and x 0x1111_1111_1111_1111)
    (bit_and (down x 4) 0x0222_0222_0222_0222))
    (bit_and (up x 12) 0x2000_2000_2000_2000))
    (bit_and (down x 8) 0x0044_0044_0044_0044))
    (bit_and (up x 8) 0x4400_4400_4400_4400))
    (bit_and (down x 12) 0x0008_0008_0008_0008))
    (bit_and (up x 4) 0x8880_8880_8880_8880)

unfoldable pub shifted_rows : Planes → Planes
shifted_rows a = record { p0 = shifted_plane a.p0; p1 = shifted_plane a.p1; p2 = shifted_plane a.p2; p3 = shifted_plane a.p3; p4 = shifted_plane a.p4; p5 = shifted_plane a.p5; p6 = shifted_plane a.p6; p7 = shifted_plane a.p7 }

unfoldable pub rotated_one : ℕ → ℕ
rotated_one x = bit_or (bit_and (down x 1) 0x7777_7777_7777_7777) (bit_and (up x 3) 0x8888_8888_8888_8888)

unfoldable pub rotated_two : ℕ → ℕ
rotated_two x = bit_or (bit_and (down x 2) 0x3333_3333_3333_3333) (bit_and (up x 2) 0xcccc_cccc_cccc_cccc)

unfoldable pub mixed : ℕ → ℕ → ℕ → ℕ
mixed doubled following pair = bit_xor (bit_xor doubled following) (rotated_two pair)

unfoldable pub mixed_columns : Planes → Planes
mixed_columns a =
    let r0 : ℕ = rotated_one a.p0 in
    let r1 : ℕ = rotated_one a.p1 in
    let r2 : ℕ = rotated_one a.p2 in
    let r3 : ℕ = rotated_one a.p3 in
    let r4 : ℕ = rotated_one a.p4 in
    let r5 : ℕ = rotated_one a.p5 in
    let r6 : ℕ = rotated_one a.p6 in
    let r7 : ℕ = rotated_one a.p7 in
    let s0 : ℕ = bit_xor a.p0 r0 in
    let s1 : ℕ = bit_xor a.p1 r1 in
    let s2 : ℕ = bit_xor a.p2 r2 in
    let s3 : ℕ = bit_xor a.p3 r3 in
    let s4 : ℕ = bit_xor a.p4 r4 in
    let s5 : ℕ = bit_xor a.p5 r5 in
    let s6 : ℕ = bit_xor a.p6 r6 in
    let s7 : ℕ = bit_xor a.p7 r7 in
    record { p0 = mixed s7 r0 s0; p1 = mixed (bit_xor s0 s7) r1 s1; p2 = mixed s1 r2 s2; p3 = mixed (bit_xor s2 s7) r3 s3; p4 = mixed (bit_xor s3 s7) r4 s4; p5 = mixed s4 r5 s5; p6 = mixed s5 r6 s6; p7 = mixed s6 r7 s7 }
