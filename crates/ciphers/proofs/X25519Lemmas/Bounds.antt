-- How large products of limbs are, and what is picked by a mask.
use Rattle.std.proofs.Common.{◌≡◌, ℕ, zero, suc, ◌*◌, ◌≤◌, ◌<◌, ◌^◌, bit_and, bit_xor, ap, sym, ◌∙◌, arith}
use Rattle.std.proofs.lemmas.Nat.{and_mask, mul-lt, xor_lt}
use Rattle.std.proofs.Math.Nat.{mod-eq_of_lt, mul-le-mul_left}
use Rattle.std.specs.Int.Bits.{and_zero_r, xor_assoc, xor_self, xor_zero_l, xor_zero_r}
use Rattle.ciphers.specs.declared.x25519.field.Element.{Element}
use Rattle.ciphers.specs.X25519.Field.{AreBelow, chosen, picked}

-- of two loose limbs
pub small_product : (x y : ℕ) → x < 2 ^ 54 → y < 2 ^ 54 → x * y < 2 ^ 108
small_product x y p q = mul-lt x y (2 ^ 54) (2 ^ 54) p q

-- of a loose limb, and of one taken nineteen times
pub large_product : (x y : ℕ) → x < 2 ^ 54 → y ≤ 19 * 2 ^ 54 → x * y < 19 * 2 ^ 108
large_product x y p q =
    let most : x * y ≤ x * (19 * 2 ^ 54) = mul-le-mul_left x q in
    omega (arith, most)

pub ruleset products = (small_product, large_product)

-- a bit against a bit
pub one_bit : (x y : ℕ) → x ≤ 1 → y ≤ 1 → bit_xor x y ≤ 1
one_bit x y p q = let r = xor_lt 1 x y (omega arith) (omega arith) in omega arith

-- a mask of no bit picks the first, and one of all bits the second
pub picked_by_mask : (choice x y : ℕ) → choice ≤ 1 → x < 2 ^ 64 → y < 2 ^ 64 → bit_xor x (bit_and (bit_xor x y) (choice * 18446744073709551615)) ≡ picked choice x y
picked_by_mask zero x y p q r = ap (bit_xor x) (and_zero_r (bit_xor x y)) ∙ xor_zero_r x
picked_by_mask (suc zero) x y p q r =
    let all : bit_and (bit_xor x y) 18446744073709551615 ≡ bit_xor x y = and_mask (bit_xor x y) 64 ∙ mod-eq_of_lt (xor_lt 64 x y q r) in
    ap (bit_xor x) all ∙ sym (xor_assoc x x y) ∙ ap (λ (n : ℕ). bit_xor n y) (xor_self x) ∙ xor_zero_l y
picked_by_mask (suc (suc n)) x y p q r = absurd (omega arith)

-- what is chosen of two elements is below what both are below
pub chosen_below : (choice most : ℕ) (x y : Element) → AreBelow most x → AreBelow most y → AreBelow most (chosen choice x y)
unfolding chosen
chosen_below zero most x y p q = p
chosen_below (suc n) most x y p q = q
