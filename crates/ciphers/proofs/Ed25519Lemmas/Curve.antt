-- What is decoded is a point of the curve.
use Rattle.std.proofs.Common.{◌≡◌, ℕ, ◌+◌, ◌-◌, ◌*◌, ◌/◌, ◌%◌, ◌<◌, Bool, true, false, nat_eq, List, Option, Some, None, IfSome, if◌then◌else◌, slice_index, refl, ap, subst, sym, ◌∙◌, arith}
use Rattle.std.proofs.lemmas.Bool.{eqb-true}
use Rattle.std.proofs.lemmas.Nat.{mul-mod, mul-mod_first, mul-mod_second}
use Rattle.ciphers.specs.X25519.Field.{prime}
use Rattle.ciphers.specs.X25519.Residues.{minus, plus, times}
use Rattle.ciphers.specs.Ed25519.Encoding.{IsOnCurve, candidate, decoded, is_root, point_of, root, root_of_minus_one, signed, with_x, y_in}
use Rattle.ciphers.specs.declared.ed25519.point.Point.{Point}
use Rattle.ciphers.specs.Ed25519.Point.{Extended, d, numbers}
use Rattle.ciphers.proofs.Ed25519Lemmas.Group.Identities.{times_below}

-- the products of the two sides
same_product : (x y : ℕ) → y * d % prime * x % prime ≡ d * (x * y % prime) % prime
same_product x y =
    mul-mod_first (y * d) x prime ∙ ap (λ (k : ℕ). k % prime) (ring x y) ∙ sym (mul-mod_second d (x * y) prime)
  where
    ring : (x y : ℕ) → y * d * x ≡ d * (x * y)
    ring x y = omega arith

moved : (w x y : ℕ) → x < prime → y < prime → (w + x) % prime ≡ (y + (prime - 1)) % prime → (y + (prime - x)) % prime ≡ (1 + w % prime) % prime
moved w x y h i e = omega arith

widened : (a x : ℕ) → (a + 1) % prime * x % prime ≡ (a * x + x) % prime
widened a x = mul-mod_first (a + 1) x prime ∙ ap (λ (k : ℕ). k % prime) (omega arith)

equation : (x y : ℕ) → x < prime → y < prime → times (plus (times y d) 1) x ≡ minus y 1 → minus y x ≡ plus 1 (times d (times x y))
unfolding times plus minus
equation x y h i e =
    moved (y * d % prime * x) x y h i (sym (widened (y * d % prime) x) ∙ e) ∙ ap (λ (k : ℕ). (1 + k) % prime) (same_product x y)

square_below : (x : ℕ) → times x x < prime
unfolding times
square_below x = omega arith

on_curve : (x y : ℕ) → times (plus (times (times y y) d) 1) (times x x) ≡ minus (times y y) 1
    → minus (times y y) (times x x) ≡ plus 1 (times d (times (times x x) (times y y)))
on_curve x y e = equation (times x x) (times y y) (square_below x) (square_below y) e

-- the opposite has the same square
opposite_square : (x t : ℕ) → t + x ≡ prime → t * t % prime ≡ x * x % prime
opposite_square x t e =
    let a : t * t + t * x ≡ t * prime = sym (ring t t x) ∙ ap (λ (k : ℕ). t * k) e in
    let b : x * t + x * x ≡ x * prime = sym (ring x t x) ∙ ap (λ (k : ℕ). x * k) e in
    let c : t * x ≡ x * t = omega arith in
    omega arith
  where
    ring : (k t x : ℕ) → k * (t + x) ≡ k * t + k * x
    ring k t x = omega arith

opposite : (x : ℕ) → x < prime → times (minus 0 x) (minus 0 x) ≡ times x x
unfolding times minus
opposite x h =
    let t : ℕ = prime - x in
    let e : 0 + (prime - x) ≡ t = omega arith in
    rw e (sym (mul-mod t t prime) ∙ opposite_square x t (omega arith))

-- ---- the steps of decoding

abbrev IsRoot : ℕ → ℕ → ℕ → Type 0
IsRoot u v x = (times v (times x x) ≡ u) × (x < prime)

picked_root : (x z u v : ℕ) (b c : Bool) → b ≡ is_root x u v → c ≡ is_root z u v → x < prime → z < prime
    → IfSome (if b then Some x else if c then Some z else None) (λ r. IsRoot u v r)
picked_root x z u v true c p q h i = (eqb-true _ _ (sym p), h)
picked_root x z u v false true p q h i = (eqb-true _ _ (sym q), i)
picked_root x z u v false false p q h i = tt

candidate_below : (u v : ℕ) → candidate u v < prime
unfolding candidate
candidate_below u v = times_below _ _

root_is : (y : ℕ) → IfSome (root y) (λ x. IsRoot (minus (times y y) 1) (plus (times (times y y) d) 1) x)
unfolding root
root_is y =
    let u : ℕ = minus (times y y) 1 in
    let v : ℕ = plus (times (times y y) d) 1 in
    let x : ℕ = candidate u v in
    picked_root x (times x root_of_minus_one) u v (is_root x u v) (is_root (times x root_of_minus_one) u v) refl refl (candidate_below u v) (times_below x root_of_minus_one)

picked_sign : (x : ℕ) (b c : Bool) → x < prime → IfSome (if b then Some x else if c then None else Some (minus 0 x)) (λ r. times r r ≡ times x x)
picked_sign x true c h = refl
picked_sign x false true h = tt
picked_sign x false false h = opposite x h

with_square : (o : Option ℕ) (x y : ℕ) → times (plus (times (times y y) d) 1) (times x x) ≡ minus (times y y) 1 → IfSome o (λ r. times r r ≡ times x x) → IfSome (point_of o y) (λ p. IsOnCurve p)
with_square None x y e h = tt
with_square (Some r) x y e h = record { curve = rw h (on_curve x y e); z = refl; t = refl }

with_root : (o : Option ℕ) (y sign : ℕ) → IfSome o (λ x. IsRoot (minus (times y y) 1) (plus (times (times y y) d) 1) x) → IfSome (point_of (signed o sign) y) (λ p. IsOnCurve p)
with_root None y sign h = tt
with_root (Some x) y sign h = with_square (signed (Some x) sign) x y h.0 (picked_sign x (nat_eq (x % 2) sign) (nat_eq x 0) h.1)

with_y : (o : Option ℕ) (sign : ℕ) → IfSome (with_x o sign) (λ p. IsOnCurve p)
with_y None sign = tt
with_y (Some y) sign = with_root (root y) y sign (root_is y)

pub decoded_point : (bytes : List ℕ) → IfSome (decoded bytes) (λ p. IsOnCurve p)
unfolding decoded
decoded_point bytes = with_y (y_in bytes) (slice_index bytes 31 / 128)

pub decoded_numbers : (p : Point) (bytes : List ℕ) → Some (numbers p) ≡ decoded bytes → IsOnCurve (numbers p)
decoded_numbers p bytes e = subst (λ (o : Option Extended). IfSome o (λ q. IsOnCurve q)) (sym e) (decoded_point bytes)
