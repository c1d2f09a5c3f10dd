-- The differences of two texts of one length.
use Rattle.std.specs.Prelude.{ℕ, List, ◌∷◌, bit_or, bit_xor}

-- the bits in which the texts differ at some place, together with these bits
abbrev pub differing : ℕ → List ℕ → List ℕ → ℕ
differing d (x ∷ xs) (y ∷ ys) = differing (bit_or d (bit_xor x y)) xs ys
differing d xs ys = d
