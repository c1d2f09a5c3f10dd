-- The steps of AES in lanes.
use Rattle.std.specs.Prelude.{◌≡◌, ℕ, ◌+◌, ◌*◌, ◌/◌, ◌%◌, length, bit_xor, slice_index}
use Rattle.ciphers.specs.declared.aes_gcm.lanes.Vectors.{Vectors}

-- eight numbers, one lane of eight planes
pub record Eight : Type 0 where
  pub p0 : ℕ
  pub p1 : ℕ
  pub p2 : ℕ
  pub p3 : ℕ
  pub p4 : ℕ
  pub p5 : ℕ
  pub p6 : ℕ
  pub p7 : ℕ

pub record AreVectors (p : Vectors) : Type 0 where
  pub p0 : length p.p0 ≡ 16
  pub p1 : length p.p1 ≡ 16
  pub p2 : length p.p2 ≡ 16
  pub p3 : length p.p3 ≡ 16
  pub p4 : length p.p4 ≡ 16
  pub p5 : length p.p5 ≡ 16
  pub p6 : length p.p6 ≡ 16
  pub p7 : length p.p7 ≡ 16

abbrev pub lane : Vectors → ℕ → Eight
lane p l = record { p0 = slice_index p.p0 l; p1 = slice_index p.p1 l; p2 = slice_index p.p2 l; p3 = slice_index p.p3 l; p4 = slice_index p.p4 l; p5 = slice_index p.p5 l; p6 = slice_index p.p6 l; p7 = slice_index p.p7 l }

-- lane 4 r + c is row r and column c
abbrev pub turned : ℕ → ℕ
turned l = 4 * (l / 4) + (l % 4 + l / 4) % 4

-- the lane this many places on
abbrev pub moved : ℕ → ℕ → ℕ
moved k l = (l + k) % 16

abbrev pub sum_of_lanes : Eight → Eight → Eight
sum_of_lanes a b = record { p0 = bit_xor a.p0 b.p0; p1 = bit_xor a.p1 b.p1; p2 = bit_xor a.p2 b.p2; p3 = bit_xor a.p3 b.p3; p4 = bit_xor a.p4 b.p4; p5 = bit_xor a.p5 b.p5; p6 = bit_xor a.p6 b.p6; p7 = bit_xor a.p7 b.p7 }

abbrev pub mixed_number : ℕ → ℕ → ℕ → ℕ
mixed_number doubled following pair = bit_xor (bit_xor doubled following) pair

-- MixColumns of a byte and the three below it in its column
abbrev pub mixed_lane : Eight → Eight → Eight → Eight → Eight
mixed_lane a b c d =
    let s : Eight = sum_of_lanes a b in
    let t : Eight = sum_of_lanes c d in
    record { p0 = mixed_number s.p7 b.p0 t.p0; p1 = mixed_number (bit_xor s.p0 s.p7) b.p1 t.p1; p2 = mixed_number s.p1 b.p2 t.p2; p3 = mixed_number (bit_xor s.p2 s.p7) b.p3 t.p3; p4 = mixed_number (bit_xor s.p3 s.p7) b.p4 t.p4; p5 = mixed_number s.p4 b.p5 t.p5; p6 = mixed_number s.p5 b.p6 t.p6; p7 = mixed_number s.p6 b.p7 t.p7 }
