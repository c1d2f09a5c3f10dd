-- The limbs of sums, differences and products stand for those of numbers modulo the prime.
use Rattle.std.proofs.Common.{◌≡◌, ℕ, ◌+◌, ◌-◌, ◌*◌, ◌/◌, ◌%◌, ◌<◌, ◌^◌, refl, ap, sym, ◌∙◌, arith}
use Rattle.std.proofs.Math.Nat.{add-mul-mod_self_right}
use Rattle.std.proofs.lemmas.Nat.{mul-mod, mul-mod_first}
use Rattle.ciphers.specs.declared.x25519.field.Element.{Element}
use Rattle.ciphers.specs.declared.x25519.field.Wide.{Wide}
use Rattle.ciphers.specs.X25519.Field.{IsTight, carried, difference, number, prime, product, residue, row_a, row_b, row_c, row_d, row_e, sum, times_small}
use Rattle.ciphers.specs.X25519.Residues.{minus, plus, times}
use Rattle.ciphers.specs.X25519.Bytes.{excess, frozen, reduced, tightened}

sums : (x y : ℕ) → (x + y) % prime ≡ (x % prime + y % prime) % prime
sums x y = omega arith

abbrev wide_number : Wide → ℕ
wide_number w = w.a + w.b * 2 ^ 51 + w.c * 2 ^ 102 + w.d * 2 ^ 153 + w.e * 2 ^ 204

-- what is carried out of the last limb
abbrev out_of : Wide → ℕ
out_of w = (w.e + (w.d + (w.c + (w.b + w.a / 2 ^ 51) / 2 ^ 51) / 2 ^ 51) / 2 ^ 51) / 2 ^ 51

carried_number : (w : Wide) → wide_number w ≡ number (carried w) + out_of w * prime
unfolding carried
carried_number w = omega arith

abbrev rows : (x y : Element) → Wide
rows x y = record { a = row_a x y; b = row_b x y; c = row_c x y; d = row_d x y; e = row_e x y }

-- what comes back nineteen times
abbrev came_back : (x y : Element) → ℕ
came_back x y =
    (x.b * y.e + x.c * y.d + x.d * y.c + x.e * y.b) + (x.c * y.e + x.d * y.d + x.e * y.c) * 2 ^ 51 + (x.d * y.e + x.e * y.d) * 2 ^ 102 + x.e * y.e * 2 ^ 153

rows_number : (x y : Element) → number x * number y ≡ wide_number (rows x y) + came_back x y * prime
rows_number x y = omega arith

product_number : (x y : Element) → number (product x y) % prime ≡ number x * number y % prime
unfolding product
product_number x y =
    let w : Wide = rows x y in
    let e : number x * number y ≡ number (carried w) + (out_of w + came_back x y) * prime = omega (arith, rows_number x y, carried_number w) in
    sym (ap (λ (n : ℕ). n % prime) e ∙ add-mul-mod_self_right (number (carried w)) (out_of w + came_back x y) prime)

pub product_residue : (x y : Element) → residue (product x y) ≡ times (residue x) (residue y)
unfolding residue times
product_residue x y = product_number x y ∙ mul-mod (number x) (number y) prime

pub sum_residue : (x y : Element) → residue (sum x y) ≡ plus (residue x) (residue y)
unfolding sum residue plus
sum_residue x y = ap (λ (n : ℕ). n % prime) (omega arith) ∙ sums (number x) (number y)

difference_number : (x y : Element) → IsTight y → number (difference x y) + number y ≡ number x + 4 * prime
unfolding difference
difference_number x y t = omega (arith, t.a, t.b, t.c, t.d, t.e)

tight_number : (x : Element) → IsTight x → number x < 3 * prime
tight_number x t = omega (arith, t.a, t.b, t.c, t.d, t.e)

less : (x y z : ℕ) → z + y ≡ x + 4 * prime → y < 3 * prime → z % prime ≡ (x % prime + (prime - y % prime)) % prime
less x y z e h = omega arith

pub difference_residue : (x y : Element) → IsTight y → residue (difference x y) ≡ minus (residue x) (residue y)
unfolding residue minus
difference_residue x y t = less (number x) (number y) (number (difference x y)) (difference_number x y t) (tight_number y t)

pub twice_plus_residue : (x y : Element) → residue (sum (sum x x) y) ≡ plus (plus (residue x) (residue x)) (residue y)
twice_plus_residue x y = sum_residue (sum x x) y ∙ ap (λ (n : ℕ). plus n (residue y)) (sum_residue x x)

pub twice_less_residue : (x y : Element) → IsTight y → residue (difference (sum x x) y) ≡ minus (plus (residue x) (residue x)) (residue y)
twice_less_residue x y t = difference_residue (sum x x) y t ∙ ap (λ (n : ℕ). minus n (residue y)) (sum_residue x x)

pub times_one : (x : Element) → times (residue x) (residue (record { a = 1; b = 0; c = 0; d = 0; e = 0 })) ≡ residue x
unfolding residue times
times_one x = omega arith

pub residue_of_zero : residue (record { a = 0; b = 0; c = 0; d = 0; e = 0 }) ≡ 0
unfolding residue
residue_of_zero = refl

pub times_small_residue : (x : Element) (n : ℕ) → residue (times_small x n) ≡ times (residue x) n
unfolding times_small residue times
times_small_residue x n =
    let w : Wide = record { a = x.a * n; b = x.b * n; c = x.c * n; d = x.d * n; e = x.e * n } in
    let e : number x * n ≡ number (carried w) + out_of w * prime = omega (arith, carried_number w) in
    sym (ap (λ (n : ℕ). n % prime) e ∙ add-mul-mod_self_right (number (carried w)) (out_of w) prime) ∙ sym (mul-mod_first (number x) n prime)

-- ---- the number below the prime

-- what tightening carries out of the last limb
abbrev carried_out : Element → ℕ
carried_out x = (x.e + (x.d + (x.c + (x.b + x.a / 2 ^ 51) / 2 ^ 51) / 2 ^ 51) / 2 ^ 51) / 2 ^ 51

tightened_number : (x : Element) → number x ≡ number (tightened x) + carried_out x * prime
tightened_number x = omega arith

tightened_below : (x : Element) → IsTight x → number (tightened x) < 2 ^ 255 + 38
tightened_below x t = omega (arith, t.a, t.b, t.c, t.d, t.e)

pub excess_number : (t : Element) → excess t ≡ (number t + 19) / 2 ^ 255
excess_number t = omega arith

reduced_number : (t : Element) (q : ℕ) → number (reduced t q) ≡ (number t + 19 * q) % 2 ^ 255
reduced_number t q = omega arith

frozen_once : (n : ℕ) → n < 2 ^ 255 + 38 → (n + 19 * ((n + 19) / 2 ^ 255)) % 2 ^ 255 ≡ n % prime
frozen_once n h = omega arith

pub frozen_number : (x : Element) → IsTight x → IsTight (tightened x) → number (frozen x) ≡ residue x
unfolding frozen residue
frozen_number x t s =
    let y : Element = tightened (tightened x) in
    let all : number x ≡ number y + (carried_out x + carried_out (tightened x)) * prime = omega (arith, tightened_number x, tightened_number (tightened x)) in
    reduced_number y (excess y)
    ∙ ap (λ (k : ℕ). (number y + 19 * k) % 2 ^ 255) (excess_number y)
    ∙ frozen_once (number y) (tightened_below (tightened x) s)
    ∙ sym (ap (λ (n : ℕ). n % prime) all ∙ add-mul-mod_self_right (number y) (carried_out x + carried_out (tightened x)) prime)
