-- Sums of two numbers below the order.
use Rattle.std.proofs.Common.{◌≡◌, ℕ, zero, suc, ◌+◌, ◌*◌, ◌%◌, ◌≤◌, ◌<◌, ◌^◌, ap, sym, ◌∙◌, arith}
use Rattle.std.proofs.Math.Nat.{add-mod-mod, add-mod_right, add-mul-mod_self_right, mod-eq_of_lt}
use Rattle.std.proofs.lemmas.Nat.{mul-mod_second}
use Rattle.ciphers.specs.declared.ed25519.scalar.Scalar.{Scalar}
use Rattle.ciphers.specs.Ed25519.Scalar.{chosen, number, order}

-- a number that was less than twice the order, and what is left of it
pub chosen_sum : (over : ℕ) (whole less : Scalar) → over ≤ 1 → number whole + 2 ^ 256 ≡ number less + over * 2 ^ 256 + order → number less < 2 ^ 256 → number whole < 2 * order
    → number (chosen over whole less) ≡ number whole % order
unfolding chosen
chosen_sum zero whole less p e l w = sym (mod-eq_of_lt (omega arith))
chosen_sum (suc zero) whole less p e l w =
    let whole_is : number whole ≡ number less + order = omega arith in
    sym (ap (λ (n : ℕ). n % order) whole_is ∙ add-mod_right (number less) order ∙ mod-eq_of_lt (omega arith))
chosen_sum (suc (suc n)) whole less p e l w = absurd (omega arith)

-- what is reduced at each step is the reduced sum
pub response_of : (r k s : ℕ) → (r + k * (s % order) % order) % order ≡ (r + k * s) % order
response_of r k s = ap (λ (x : ℕ). (r + x) % order) (mul-mod_second k s order) ∙ add-mod-mod r (k * s) order

-- a number that was folded by so many times the order
pub folded_sum : (whole q total : ℕ) → whole + q * order ≡ total + order → whole % order ≡ total % order
folded_sum whole q total e = sym (add-mul-mod_self_right whole q order) ∙ ap (λ (n : ℕ). n % order) e ∙ add-mod_right total order
