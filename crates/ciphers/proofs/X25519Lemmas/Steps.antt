-- The first step, and one step more.
use Rattle.std.proofs.Common.{◌≡◌, ℕ, zero, suc, ◌+◌, ◌-◌, ◌%◌, List, refl, ap, add-one, arith}
use Rattle.ciphers.specs.declared.x25519.curve.Ladder.{Ladder}
use Rattle.ciphers.specs.declared.x25519.field.Element.{Element}
use Rattle.ciphers.specs.X25519.Bytes.{bit_of}
use Rattle.ciphers.specs.X25519.Curve.{IsRung, numbers, one_element, rungs, step, zero_element}
use Rattle.ciphers.specs.X25519.Field.{IsTight, chosen, number, picked, prime, product, residue}
use Rattle.ciphers.specs.X25519.Powers.{squared_times}

pub one_square : (n : ℕ) (x : Element) → squared_times x (n + 1) ≡ product (squared_times x n) (squared_times x n)
unfolding squared_times
one_square n x = rw add-one refl

pub one_rung : (n : ℕ) (k : List ℕ) (x1 : ℕ) → rungs k x1 (n + 1) ≡ step (rungs k x1 n) x1 (bit_of k (254 - n))
unfolding rungs
one_rung n k x1 = rw add-one refl

tight_zero : IsTight zero_element
tight_zero = record { a = omega arith; b = omega arith; c = omega arith; d = omega arith; e = omega arith }

tight_one : IsTight one_element
tight_one = record { a = omega arith; b = omega arith; c = omega arith; d = omega arith; e = omega arith }

abbrev begun : Element → Ladder
begun x1 = record { x2 = one_element; z2 = zero_element; x3 = x1; z3 = one_element; swap = 0 }

begun_numbers : (x1 : Element) → numbers (begun x1) ≡ record { x2 = 1; z2 = 0; x3 = residue x1; z3 = 1; swap = 0 }
unfolding residue
begun_numbers x1 = refl

pub first_rung : (k : List ℕ) (x1 : Element) → IsTight x1 → (numbers (begun x1) ≡ rungs k (residue x1) 0) × IsRung (begun x1)
unfolding rungs
first_rung k x1 t = (begun_numbers x1, record { x2 = tight_one; z2 = tight_zero; x3 = t; z3 = tight_one; swap = omega arith })

pub chosen_residue : (choice : ℕ) (x y : Element) → residue (chosen choice x y) ≡ picked choice (residue x) (residue y)
unfolding chosen
chosen_residue zero x y = refl
chosen_residue (suc n) x y = refl

pub residue_of : (x : Element) (n : ℕ) → number x ≡ n → residue x ≡ n % prime
unfolding residue
residue_of x n e = ap (λ (k : ℕ). k % prime) e
