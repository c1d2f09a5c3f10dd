-- Sums in either order, and points that are known: the identity, the base point, opposite points and decoded ones.
use Rattle.std.proofs.Common.{◌≡◌, ℕ, ◌+◌, ◌*◌, ◌%◌, ◌<◌, [], ◌∷◌, refl, ap, sym, ◌∙◌, arith}
use Rattle.std.proofs.lemmas.Nat.{mul-mod_first, mul-mod_second}
use Rattle.ciphers.specs.X25519.Field.{prime}
use Rattle.ciphers.specs.X25519.Residues.{minus, plus, times}
use Rattle.ciphers.specs.Ed25519.Encoding.{IsOnCurve}
use Rattle.ciphers.specs.Ed25519.Point as point
use Rattle.ciphers.specs.Ed25519.Point.{Extended, added, base, identity, negated}
use Rattle.ciphers.proofs.Ed25519Lemmas.Group.Identities as identities
use Rattle.ciphers.proofs.Ed25519Lemmas.Group.Identities.{Term, Values, minus_below, none, number, ring, ◌⊕◌, ◌⊗◌, ◌⊖◌}
use Rattle.ciphers.proofs.Ed25519Lemmas.Group.Points.{AreSame, IsCurve}
use Rattle.ciphers.proofs.Ed25519Lemmas.Group.Coordinates.{Coordinates, curve_left, curve_right, curve_times, d, first, one, opposite, product_times, sum_of, variables}
use Rattle.ciphers.proofs.Ed25519Lemmas.Group.Multiples.{and_point, of_curve, same_coordinates}
use Rattle.ciphers.proofs.Ed25519Lemmas.Group.Flat.{flat, flat_is_curve}

times_comm : (x y : ℕ) → times x y ≡ times y x
unfolding times
times_comm x y = ap (λ (n : ℕ). n % prime) (omega arith)

-- a constant between two factors
around : (x k y : ℕ) → times (times x k) y ≡ times (times y k) x
unfolding times
around x k y = mul-mod_first (x * k) y prime ∙ ap (λ (n : ℕ). n % prime) (turned x k y) ∙ sym (mul-mod_first (y * k) x prime)
  where
    turned : (x k y : ℕ) → x * k * y ≡ y * k * x
    turned x k y = omega arith

doubled : (x y : ℕ) → times x (plus y y) ≡ times y (plus x x)
unfolding times plus
doubled x y = mul-mod_second x (y + y) prime ∙ ap (λ (n : ℕ). n % prime) (turned x y) ∙ sym (mul-mod_second y (x + x) prime)
  where
    turned : (x y : ℕ) → x * (y + y) ≡ y * (x + x)
    turned x y = omega arith

pub added_commutes : (p q : Extended) → added p q ≡ added q p
unfolding added
added_commutes p q =
    let less = times_comm (minus p.y p.x) (minus q.y q.x) in
    let more = times_comm (plus p.y p.x) (plus q.y q.x) in
    rw (less, more, around p.t (plus point.d point.d) q.t, doubled p.z q.z) refl

pub identity_is_curve : IsCurve identity
unfolding times plus minus
identity_is_curve = record {
  x = omega arith;
  y = omega arith;
  z = omega arith;
  t = omega arith;
  some = omega arith;
  product = refl;
  curve = refl;
}

pub base_is_curve : IsCurve base
unfolding times plus minus
base_is_curve = record {
  x = omega arith;
  y = omega arith;
  z = omega arith;
  t = omega arith;
  some = omega arith;
  product = refl;
  curve = refl;
}

pub negated_is_curve : (p : Extended) → IsCurve p → IsCurve (negated p)
unfolding negated
negated_is_curve p c =
    let v : Values = and_point p (of_curve p c) none in
    let a : Coordinates = variables 0 in
    let b : Coordinates = record { x = opposite a.x; y = a.y; z = a.z; t = opposite a.t } in
    record {
      x = minus_below 0 p.x;
      y = c.y;
      z = c.z;
      t = minus_below 0 p.t;
      some = c.some;
      product = identities.identity v (b.x ⊗ b.y) (b.z ⊗ b.t) (product_times (opposite one) a ∷ []) (c.product, tt) refl;
      curve = identities.identity v (curve_left b) (curve_right b) (curve_times one a ∷ []) (c.curve, tt) refl;
    }

pub added_identity : (p : Extended) → IsCurve p → AreSame (added identity p) p
unfolding added
added_identity p c =
    let v : Values = and_point p (of_curve p c) none in
    let a : Coordinates = variables 0 in
    let sum : Coordinates = sum_of (record { x = number 0; y = one; z = one; t = number 0 }) a in
    record { x = ring v (sum.x ⊗ a.z) (a.x ⊗ sum.z) refl; y = ring v (sum.y ⊗ a.z) (a.y ⊗ sum.z) refl }

-- a point and its opposite
pub added_negated : (p : Extended) → IsCurve p → AreSame (added p (negated p)) identity
unfolding added negated
added_negated p c =
    let v : Values = and_point p (of_curve p c) none in
    let a : Coordinates = variables 0 in
    let sum : Coordinates = sum_of a (record { x = opposite a.x; y = a.y; z = a.z; t = opposite a.t }) in
    let g : Term = number 4 ⊗ (a.z ⊗ a.z ⊖ d ⊗ a.t ⊗ a.t) in
    record {
      x = ring v (sum.x ⊗ one) (number 0 ⊗ sum.z) refl;
      y = identities.identity v (sum.y ⊗ one) (one ⊗ sum.z) (curve_times g a ∷ []) (c.curve, tt) refl;
    }

-- a decoded point is one
pub on_curve : (p : Extended) → IsOnCurve p → p.x < prime → p.y < prime → IsCurve p
on_curve p c bx by =
    let v : Values = identities.and p.x bx (identities.and p.y by none) in
    let squares : Term = first.x ⊗ first.x ⊗ (first.y ⊗ first.y) in
    let curve = c.curve ∙ ring v (one ⊕ d ⊗ squares) (curve_right first) refl in
    let e : p ≡ flat p.x p.y = same_coordinates _ _ _ _ _ _ _ _ refl refl c.z c.t in
    rw e (flat_is_curve p.x p.y (record { x = bx; y = by; curve = curve }))
