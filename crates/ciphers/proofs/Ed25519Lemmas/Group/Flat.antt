-- Each point of the curve is a multiple of one whose z is 1.
use Rattle.std.proofs.Common.{◌≡◌, ℕ, ◌-◌, ◌%◌, ◌<◌, ◌≢◌, ◌⊎◌, inl, inr, List, [], ◌∷◌, refl, arith}
use Rattle.ciphers.specs.X25519.Field.{prime}
use Rattle.ciphers.specs.X25519.Residues.{minus, plus, power, times}
use Rattle.ciphers.specs.Ed25519.Encoding.{quotient}
use Rattle.ciphers.specs.Ed25519.Point as point
use Rattle.ciphers.specs.Ed25519.Point.{Extended}
use Rattle.ciphers.proofs.Ed25519Lemmas.Group.Identities.{Fact, Term, Values, and, identity, none, ring, times_below, variable, ◌⊕◌, ◌⊖◌, ◌⊗◌}
use Rattle.ciphers.proofs.Ed25519Lemmas.Group.Points.{IsCurve, IsField}
use Rattle.ciphers.proofs.Ed25519Lemmas.Group.Coordinates.{Coordinates, curve_left, curve_right, curve_times, d, first, flat_term, multiple_of, one, opposite, product_times, variables}
use Rattle.ciphers.proofs.Ed25519Lemmas.Group.Multiples.{and_point, multiple, of_curve, same_coordinates}

-- ---- factors that are not zero

pub small_zero : (x : ℕ) → x < prime → x % prime ≡ 0 → x ≡ 0
small_zero x b e = omega arith

nonzero : (x : ℕ) → x < prime → x ≢ 0 → x % prime ≢ 0
nonzero x b h e = h (small_zero x b e)

pub nonzero_product : (f : IsField) (x y : ℕ) → x < prime → y < prime → x ≢ 0 → y ≢ 0 → times x y ≢ 0
nonzero_product f x y b c h k e = one_of (f.no_divisors x y e)
  where
    one_of : (x % prime ≡ 0) ⊎ (y % prime ≡ 0) → ⊥
    one_of (inl z) = nonzero x b h z
    one_of (inr z) = nonzero y c k z

-- what is one over a number
abbrev pub inverse : ℕ → ℕ
inverse z = power z (prime - 2)

power_below : (x n : ℕ) → power x n < prime
unfolding power
power_below x n = omega arith

pub inverse_below : (z : ℕ) → inverse z < prime
inverse_below z = power_below z (prime - 2)

pub times_inverse : (f : IsField) (p : Extended) → IsCurve p → times p.z (inverse p.z) ≡ 1
times_inverse f p c = f.inverse_is p.z (nonzero p.z c.z c.some)

-- ---- points whose z is 1

abbrev pub flat : ℕ → ℕ → Extended
flat x y = record { x = x; y = y; z = 1; t = times x y }

pub record IsFlat (a b : ℕ) : Type 0 where
  pub x : a < prime
  pub y : b < prime
  pub curve : minus (times b b) (times a a) ≡ plus (times 1 1) (times point.d (times (times a b) (times a b)))

pub flat_is_curve : (x y : ℕ) → IsFlat x y → IsCurve (flat x y)
flat_is_curve x y c =
    let product = ring (and x c.x (and y c.y none)) first.t (one ⊗ first.t) refl in
    record { x = c.x; y = c.y; z = omega arith; t = times_below x y; some = omega arith; product = product; curve = c.curve }

-- the one whose multiple a point is
abbrev pub flat_of : Extended → Extended
flat_of p = flat (quotient p.x p.z) (quotient p.y p.z)

-- one over z, and the coordinates
abbrev i : Term
i = variable 0

abbrev a : Coordinates
a = variables 1

abbrev inverse_times : Term → Fact
inverse_times k = record { factor = k; left = a.z ⊗ i; right = one }

module _ (f : IsField) (p : Extended) (c : IsCurve p) where
  values : Values
  values = and (inverse p.z) (inverse_below p.z) (and_point p (of_curve p c) none)

  pub as_multiple : p ≡ multiple p.z (flat_of p)
  unfolding values
  as_multiple =
      let unit : ◌≡◌ {A = ℕ} (times p.z (inverse p.z)) 1 = times_inverse f p c in
      let m : Coordinates = multiple_of a.z (flat_term (a.x ⊗ i) (a.y ⊗ i)) in
      let once : Fact = inverse_times (opposite (a.t ⊗ (a.z ⊗ i ⊕ one))) in
      let product : Fact = product_times (opposite (a.z ⊗ i ⊗ i)) a in
      same_coordinates _ _ _ _ _ _ _ _
      (identity values a.x m.x (inverse_times (opposite a.x) ∷ []) (unit, tt) refl)
      (identity values a.y m.y (inverse_times (opposite a.y) ∷ []) (unit, tt) refl)
      (ring values a.z m.z refl)
      (identity values a.t m.t (once ∷ product ∷ []) (unit, (c.product, tt)) refl)

  pub is_flat : IsFlat (quotient p.x p.z) (quotient p.y p.z)
  unfolding values
  is_flat =
      let unit : ◌≡◌ {A = ℕ} (times p.z (inverse p.z)) 1 = times_inverse f p c in
      let flattened : Coordinates = flat_term (a.x ⊗ i) (a.y ⊗ i) in
      let once : Fact = inverse_times ((a.z ⊗ i ⊕ one) ⊗ (one ⊖ d ⊗ (i ⊗ a.t) ⊗ (i ⊗ a.t))) in
      let product : Fact = product_times (opposite (d ⊗ (i ⊗ i) ⊗ (i ⊗ i) ⊗ (a.x ⊗ a.y ⊕ a.z ⊗ a.t))) a in
      let facts : List Fact = once ∷ curve_times (i ⊗ i) a ∷ product ∷ [] in
      let curve = identity values (curve_left flattened) (curve_right flattened) facts (unit, (c.curve, (c.product, tt))) refl in
      record { x = times_below p.x (inverse p.z); y = times_below p.y (inverse p.z); curve = curve }

-- ---- multiples of points of the curve

pub multiple_is_curve : (f : IsField) (k : ℕ) (p : Extended) → k < prime → k ≢ 0 → IsCurve p → IsCurve (multiple k p)
multiple_is_curve f k p b n c =
    let v : Values = and k b (and_point p (of_curve p c) none) in
    let m : Term = variable 0 in
    let q : Coordinates = multiple_of m a in
    record {
      x = times_below k p.x;
      y = times_below k p.y;
      z = times_below k p.z;
      t = times_below k p.t;
      some = nonzero_product f k p.z b c.z n c.some;
      product = identity v (q.x ⊗ q.y) (q.z ⊗ q.t) (product_times (m ⊗ m) a ∷ []) (c.product, tt) refl;
      curve = identity v (curve_left q) (curve_right q) (curve_times (m ⊗ m) a ∷ []) (c.curve, tt) refl;
    }
