-- Words and vectors that have the same bits.
use Rattle.std.specs.Prelude.{◌≡◌, ℕ, ◌+◌, ◌*◌, ◌/◌, ◌%◌, ◌<◌}
use Rattle.std.specs.Int.{bit_at}
use Rattle.ciphers.specs.declared.aes_gcm.planes.Planes.{Planes}
use Rattle.ciphers.specs.declared.aes_gcm.lanes.Vectors.{Vectors}
use Rattle.ciphers.specs.AesGcm.Rows.{Eight, lane}

abbrev pub eight_by : (ℕ → ℕ) → Eight → Eight
eight_by h r = record { p0 = h r.p0; p1 = h r.p1; p2 = h r.p2; p3 = h r.p3; p4 = h r.p4; p5 = h r.p5; p6 = h r.p6; p7 = h r.p7 }

-- the bits of words at one place
abbrev pub bits : ℕ → Planes → Eight
bits n a = record { p0 = bit_at a.p0 n; p1 = bit_at a.p1 n; p2 = bit_at a.p2 n; p3 = bit_at a.p3 n; p4 = bit_at a.p4 n; p5 = bit_at a.p5 n; p6 = bit_at a.p6 n; p7 = bit_at a.p7 n }

-- the lane of bit n of a word
abbrev pub lane_of : ℕ → ℕ
lane_of n = 4 * (n % 4) + n / 4 % 4

-- bit k of each number of a lane
abbrev pub lane_bits : ℕ → ℕ → Vectors → Eight
lane_bits k l p = eight_by (λ (x : ℕ). bit_at x k) (lane p l)

-- The vectors have the bits of the words: block n / 16 of them is block b + n / 16 of eight.
pub record Same (b : ℕ) (a : Planes) (p : Vectors) : Type 0 where
  pub same : (n : ℕ) → n < 64 → bits n a ≡ lane_bits (b + n / 16) (lane_of n) p
