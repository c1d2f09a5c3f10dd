-- Powers by repeated squaring.
use Rattle.std.proofs.Common.{◌≡◌, ℕ, zero, suc, ◌+◌, ◌-◌, ◌*◌, ◌%◌, ◌^◌, ap, sym, ◌∙◌, arith}
use Rattle.std.proofs.Math.Nat.{pow-suc, pow-zero}
use Rattle.std.proofs.lemmas.Nat.{mul-mod, pow-add, pow-mod}
use Rattle.ciphers.specs.declared.x25519.field.Element.{Element}
use Rattle.ciphers.specs.declared.x25519.powers.Powers.{Powers}
use Rattle.ciphers.specs.X25519.Field.{number, prime, product, residue}
use Rattle.ciphers.specs.X25519.Powers.{inverse, root_power, squared_times, tower}
use Rattle.ciphers.specs.X25519.Residues.{power, times}
use Rattle.ciphers.proofs.X25519Lemmas.Modulo.{product_residue}

powers_multiplied : (x m n : ℕ) → times (power x m) (power x n) ≡ power x (m + n)
unfolding times power
powers_multiplied x m n = sym (mul-mod (x ^ m) (x ^ n) prime) ∙ ap (λ (k : ℕ). k % prime) (sym (pow-add x m n))

first_power : (n : ℕ) → n % prime ≡ (n % prime) ^ 1 % prime
first_power n =
    let one : n ^ 1 ≡ n = pow-suc n 0 ∙ ap (λ (k : ℕ). k * n) (pow-zero n) ∙ omega arith in
    sym (pow-mod n 1 prime ∙ ap (λ (k : ℕ). k % prime) one)

product_power : (x m n : ℕ) (y z : Element) → residue y ≡ power x m → residue z ≡ power x n → residue (product y z) ≡ power x (m + n)
product_power x m n y z p q =
    product_residue y z ∙ ap (λ (k : ℕ). times k (residue z)) p ∙ ap (λ (k : ℕ). times (power x m) k) q ∙ powers_multiplied x m n

doubled_exponent : (m n : ℕ) → m * 2 ^ n + m * 2 ^ n ≡ m * 2 ^ suc n
doubled_exponent m n = rw (pow-suc 2 n) (omega arith)

squared_power : (x m n : ℕ) (y : Element) → residue y ≡ power x m → residue (squared_times y n) ≡ power x (m * 2 ^ n)
unfolding squared_times
squared_power x m zero y p = p ∙ ap (power x) (omega arith)
squared_power x m (suc n) y p =
    let half = squared_power x m n y p in
    product_power x (m * 2 ^ n) (m * 2 ^ n) (squared_times y n) (squared_times y n) half half ∙ ap (power x) (doubled_exponent m n)

record TowerPowers (x : ℕ) (t : Powers) : Type 0 where
  eleventh : residue t.eleventh ≡ power x 11
  ones : residue t.ones ≡ power x (2 ^ 250 - 1)

as_power : (z : Element) → residue z ≡ power (residue z) 1
unfolding residue power
as_power z = first_power (number z)

tower_powers : (z : Element) → TowerPowers (residue z) (tower z)
unfolding tower
tower_powers z =
    let x : ℕ = residue z in
    let p1 = as_power z in
    let z2 : Element = product z z in
    let p2 : residue z2 ≡ power x 2 = product_power x 1 1 z z p1 p1 in
    let z9 : Element = product (squared_times z2 2) z in
    let p9 : residue z9 ≡ power x 9 = product_power x 8 1 (squared_times z2 2) z (squared_power x 2 2 z2 p2) p1 in
    let z11 : Element = product z9 z2 in
    let p11 : residue z11 ≡ power x 11 = product_power x 9 2 z9 z2 p9 p2 in
    let z5 : Element = product (product z11 z11) z9 in
    let p5 : residue z5 ≡ power x 31 = product_power x 22 9 (product z11 z11) z9 (product_power x 11 11 z11 z11 p11 p11) p9 in
    let z10 : Element = product (squared_times z5 5) z5 in
    let p10 : residue z10 ≡ power x (2 ^ 10 - 1) = product_power x (31 * 2 ^ 5) 31 (squared_times z5 5) z5 (squared_power x 31 5 z5 p5) p5 in
    let z20 : Element = product (squared_times z10 10) z10 in
    let p20 : residue z20 ≡ power x (2 ^ 20 - 1) = product_power x ((2 ^ 10 - 1) * 2 ^ 10) (2 ^ 10 - 1) (squared_times z10 10) z10 (squared_power x (2 ^ 10 - 1) 10 z10 p10) p10 in
    let z40 : Element = product (squared_times z20 20) z20 in
    let p40 : residue z40 ≡ power x (2 ^ 40 - 1) = product_power x ((2 ^ 20 - 1) * 2 ^ 20) (2 ^ 20 - 1) (squared_times z20 20) z20 (squared_power x (2 ^ 20 - 1) 20 z20 p20) p20 in
    let z50 : Element = product (squared_times z40 10) z10 in
    let p50 : residue z50 ≡ power x (2 ^ 50 - 1) = product_power x ((2 ^ 40 - 1) * 2 ^ 10) (2 ^ 10 - 1) (squared_times z40 10) z10 (squared_power x (2 ^ 40 - 1) 10 z40 p40) p10 in
    let z100 : Element = product (squared_times z50 50) z50 in
    let p100 : residue z100 ≡ power x (2 ^ 100 - 1) = product_power x ((2 ^ 50 - 1) * 2 ^ 50) (2 ^ 50 - 1) (squared_times z50 50) z50 (squared_power x (2 ^ 50 - 1) 50 z50 p50) p50 in
    let z200 : Element = product (squared_times z100 100) z100 in
    let p200 : residue z200 ≡ power x (2 ^ 200 - 1) = product_power x ((2 ^ 100 - 1) * 2 ^ 100) (2 ^ 100 - 1) (squared_times z100 100) z100 (squared_power x (2 ^ 100 - 1) 100 z100 p100) p100 in
    record {
      eleventh = p11;
      ones = product_power x ((2 ^ 200 - 1) * 2 ^ 50) (2 ^ 50 - 1) (squared_times z200 50) z50 (squared_power x (2 ^ 200 - 1) 50 z200 p200) p50;
    }

pub inverse_residue : (z : Element) → residue (inverse z) ≡ power (residue z) (prime - 2)
unfolding inverse
inverse_residue z =
    let p = tower_powers z in
    product_power (residue z) ((2 ^ 250 - 1) * 2 ^ 5) 11 (squared_times (tower z).ones 5) (tower z).eleventh (squared_power (residue z) (2 ^ 250 - 1) 5 (tower z).ones p.ones) p.eleventh

pub root_power_residue : (z : Element) → residue (root_power z) ≡ power (residue z) (2 ^ 252 - 3)
unfolding root_power
root_power_residue z =
    let p = tower_powers z in
    product_power (residue z) ((2 ^ 250 - 1) * 2 ^ 2) 1 (squared_times (tower z).ones 2) z (squared_power (residue z) (2 ^ 250 - 1) 2 (tower z).ones p.ones) (as_power z)
