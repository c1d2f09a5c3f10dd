-- Coordinates that are multiples of others, and their sums.
use Rattle.std.proofs.Common.{◌≡◌, ℕ, ◌<◌, [], ◌∷◌, refl}
use Rattle.ciphers.specs.X25519.Field.{prime}
use Rattle.ciphers.specs.X25519.Residues.{times}
use Rattle.ciphers.specs.Ed25519.Point.{Extended, added}
use Rattle.ciphers.proofs.Ed25519Lemmas.Group.Identities.{Fact, Term, Values, and, identity, none, ring, times_below, variable, ◌⊗◌}
use Rattle.ciphers.proofs.Ed25519Lemmas.Group.Points.{AreSame, IsCurve}
use Rattle.ciphers.proofs.Ed25519Lemmas.Group.Coordinates.{Coordinates, multiple_of, sum_of, variables}

-- the coordinates are below the prime
pub record IsReduced (p : Extended) : Type 0 where
  pub x : p.x < prime
  pub y : p.y < prime
  pub z : p.z < prime
  pub t : p.t < prime

pub of_curve : (p : Extended) → IsCurve p → IsReduced p
of_curve p c = record { x = c.x; y = c.y; z = c.z; t = c.t }

pub added_reduced : (p q : Extended) → IsReduced (added p q)
unfolding added
added_reduced p q = record { x = times_below _ _; y = times_below _ _; z = times_below _ _; t = times_below _ _ }

abbrev pub and_point : (p : Extended) → IsReduced p → Values → Values
and_point p b v = and p.x b.x (and p.y b.y (and p.z b.z (and p.t b.t v)))

pub same_coordinates : (x y z t a b c e : ℕ) → x ≡ a → y ≡ b → z ≡ c → t ≡ e
    → ◌≡◌ {A = Extended} (record { x = x; y = y; z = z; t = t }) (record { x = a; y = b; z = c; t = e })
same_coordinates x y z t a b c e h i j k = rw (h, i, j, k) refl

-- each coordinate so many times
abbrev pub multiple : ℕ → Extended → Extended
multiple k p = record { x = times k p.x; y = times k p.y; z = times k p.z; t = times k p.t }

abbrev pub square_of : ℕ → ℕ → ℕ
square_of k m = times (times k m) (times k m)

module _ (k m : ℕ) (p q : Extended) (bk : k < prime) (bm : m < prime) (bp : IsReduced p) (bq : IsReduced q) where
  values : Values
  values = and k bk (and m bm (and_point p bp (and_point q bq none)))

  pub added_multiples : added (multiple k p) (multiple m q) ≡ multiple (square_of k m) (added p q)
  unfolding added values
  added_multiples =
      let both : Term = variable 0 ⊗ variable 1 in
      let left : Coordinates = sum_of (multiple_of (variable 0) (variables 2)) (multiple_of (variable 1) (variables 6)) in
      let right : Coordinates = multiple_of (both ⊗ both) (sum_of (variables 2) (variables 6)) in
      same_coordinates _ _ _ _ _ _ _ _
      (ring values left.x right.x refl)
      (ring values left.y right.y refl)
      (ring values left.z right.z refl)
      (ring values left.t right.t refl)

  pub multiples_same : AreSame p q → AreSame (multiple k p) (multiple m q)
  unfolding values
  multiples_same s =
      let both : Term = variable 0 ⊗ variable 1 in
      let a : Coordinates = variables 2 in
      let b : Coordinates = variables 6 in
      let left : Coordinates = multiple_of (variable 0) a in
      let right : Coordinates = multiple_of (variable 1) b in
      let x : Fact = record { factor = both; left = a.x ⊗ b.z; right = b.x ⊗ a.z } in
      let y : Fact = record { factor = both; left = a.y ⊗ b.z; right = b.y ⊗ a.z } in
      record {
        x = identity values (left.x ⊗ right.z) (right.x ⊗ left.z) (x ∷ []) (s.x, tt) refl;
        y = identity values (left.y ⊗ right.z) (right.y ⊗ left.z) (y ∷ []) (s.y, tt) refl;
      }
