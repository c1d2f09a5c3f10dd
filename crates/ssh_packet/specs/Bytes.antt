-- Lists of bytes, cut and joined.
use Rattle.std.specs.Prelude.{ℕ, zero, suc, List, [], ◌∷◌, ◌++◌, take}
use Rattle.ssh_model.specs.Protocol.Wire.DataTypes.{AreBytes}

pub first_bytes : (n : ℕ) (bytes : List ℕ) → AreBytes bytes → AreBytes (take n bytes)
first_bytes zero bytes h = tt
first_bytes (suc n) [] h = tt
first_bytes (suc n) (b ∷ bytes) h = (h.0, first_bytes n bytes h.1)

pub joined_bytes : (xs ys : List ℕ) → AreBytes xs → AreBytes ys → AreBytes (xs ++ ys)
joined_bytes [] ys p q = q
joined_bytes (x ∷ xs) ys p q = (p.0, joined_bytes xs ys p.1 q)
