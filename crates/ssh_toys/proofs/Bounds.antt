-- How large products of limbs are.
use Rattle.std.proofs.Common.{ℕ, ◌*◌, ◌<◌, ◌^◌}
use Rattle.std.proofs.lemmas.Nat.{mul-lt}

-- of a loose limb, and of one taken nineteen times
pub small_product : (x y : ℕ) → x < 2 ^ 54 → y < 2 ^ 59 → x * y < 2 ^ 113
small_product x y p q = mul-lt x y (2 ^ 54) (2 ^ 59) p q
