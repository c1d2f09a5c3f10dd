-- Multiples of the base point by a comb: four bits at a time, one of each word of the number.
use Rattle.std.specs.Prelude.{ℕ, zero, suc, ◌-◌, ◌/◌, ◌%◌, ◌^◌, slice_index_or}
use Rattle.ciphers.specs.X25519.Field.{IsTight}
use Rattle.ciphers.specs.declared.ed25519.point.ReadyPoint.{ReadyPoint}
use Rattle.ciphers.specs.declared.ed25519.scalar.Scalar.{Scalar}
use Rattle.ciphers.specs.declared.ed25519.teeth.TheConstants.{TEETH}
use Rattle.ciphers.specs.Ed25519.Point.{Extended, Ready, added, added_ready, chosen, identity, ready}

-- the bit of a word at a place
abbrev pub bit_at : ℕ → ℕ → ℕ
bit_at word place = word / 2 ^ place % 2

-- the one of four that two bits choose
abbrev pub one_of_four : (low high : ℕ) (p q r s : Ready) → Ready
one_of_four low high p q r s = chosen high (chosen low p q) (chosen low r s)

-- the value read past the end of the table, where nothing reads
abbrev pub no_tooth : ReadyPoint
no_tooth = record {
  less = record { a = 0; b = 0; c = 0; d = 0; e = 0 };
  more = record { a = 0; b = 0; c = 0; d = 0; e = 0 };
  t = record { a = 0; b = 0; c = 0; d = 0; e = 0 };
}

-- the elements of a constant are tight
pub record IsTooth (q : ReadyPoint) : Type 0 where
  pub less : IsTight q.less
  pub more : IsTight q.more
  pub t : IsTight q.t

-- the constant at a place of the table
unfoldable pub tooth : ℕ → Ready
tooth place = ready (slice_index_or TEETH place no_tooth)

-- the constant that four bits choose
unfoldable pub tooth_sum : (a b c d : ℕ) → Ready
tooth_sum a b c d =
    chosen d
    (chosen c (one_of_four a b (tooth 0) (tooth 1) (tooth 2) (tooth 3)) (one_of_four a b (tooth 4) (tooth 5) (tooth 6) (tooth 7)))
    (chosen c (one_of_four a b (tooth 8) (tooth 9) (tooth 10) (tooth 11)) (one_of_four a b (tooth 12) (tooth 13) (tooth 14) (tooth 15)))

-- the constant of the bits of four words at a place
abbrev pub tooth_at : Scalar → ℕ → Ready
tooth_at s place = tooth_sum (bit_at s.a place) (bit_at s.b place) (bit_at s.c place) (bit_at s.d place)

-- twice a point, and the constant of the bits at a place
unfoldable pub combed : Extended → Scalar → ℕ → Extended
combed q s place = added_ready (added q q) (tooth_at s place)

-- the base point as many times as the first bits of the four words say, from the highest place down
unfoldable pub base_multiple : Scalar → ℕ → Extended
base_multiple s zero = identity
base_multiple s (suc n) = combed (base_multiple s n) s (63 - n)
