-- Bytes of eight blocks as bits, in each lane.
use Rattle.std.specs.Prelude.{ℕ, ◌*◌, ◌/◌, ◌%◌, ◌^◌, bit_and, bit_or}
use Rattle.ciphers.specs.AesGcm.Rows.{Eight}

abbrev pub low : ℕ → ℕ → ℕ → ℕ → ℕ
low m s x y = bit_or (bit_and x m) (bit_and y m * 2 ^ s % 2 ^ 8)

abbrev pub high : ℕ → ℕ → ℕ → ℕ → ℕ
high m s x y = bit_or (bit_and x m / 2 ^ s) (bit_and y m)

-- bit i of number k comes to bit k of number i
unfoldable pub transposed_lane : Eight → Eight
transposed_lane a =
    let b : Eight = record { p0 = low 0x55 1 a.p0 a.p1; p1 = high 0xaa 1 a.p0 a.p1; p2 = low 0x55 1 a.p2 a.p3; p3 = high 0xaa 1 a.p2 a.p3; p4 = low 0x55 1 a.p4 a.p5; p5 = high 0xaa 1 a.p4 a.p5; p6 = low 0x55 1 a.p6 a.p7; p7 = high 0xaa 1 a.p6 a.p7 } in
    let c : Eight = record { p0 = low 0x33 2 b.p0 b.p2; p1 = low 0x33 2 b.p1 b.p3; p2 = high 0xcc 2 b.p0 b.p2; p3 = high 0xcc 2 b.p1 b.p3; p4 = low 0x33 2 b.p4 b.p6; p5 = low 0x33 2 b.p5 b.p7; p6 = high 0xcc 2 b.p4 b.p6; p7 = high 0xcc 2 b.p5 b.p7 } in
    record { p0 = low 0x0f 4 c.p0 c.p4; p1 = low 0x0f 4 c.p1 c.p5; p2 = low 0x0f 4 c.p2 c.p6; p3 = low 0x0f 4 c.p3 c.p7; p4 = high 0xf0 4 c.p0 c.p4; p5 = high 0xf0 4 c.p1 c.p5; p6 = high 0xf0 4 c.p2 c.p6; p7 = high 0xf0 4 c.p3 c.p7 }
