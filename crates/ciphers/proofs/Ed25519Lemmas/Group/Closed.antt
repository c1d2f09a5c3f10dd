-- The sum of two points of the curve is one.
use Rattle.std.proofs.Common.{◌≡◌, ℕ, ◌≢◌, List, [], ◌∷◌, refl, ap, ◌∙◌}
use Rattle.ciphers.specs.X25519.Residues.{times}
use Rattle.ciphers.specs.Ed25519.Point.{Extended, added}
use Rattle.ciphers.proofs.Ed25519Lemmas.Group.Identities.{Fact, Term, Values, and, identity, none, number, ring, times_below, ◌⊕◌, ◌⊖◌, ◌⊗◌}
use Rattle.ciphers.proofs.Ed25519Lemmas.Group.Points.{IsCurve, IsField}
use Rattle.ciphers.proofs.Ed25519Lemmas.Group.Coordinates.{Coordinates, curve_left, curve_right, curve_times, d, first, one, second, sum_of}
use Rattle.ciphers.proofs.Ed25519Lemmas.Group.Multiples.{IsReduced, added_multiples, multiple, of_curve, square_of}
use Rattle.ciphers.proofs.Ed25519Lemmas.Group.Flat.{IsFlat, as_multiple, flat, flat_is_curve, flat_of, is_flat, multiple_is_curve, nonzero_product}
use Rattle.ciphers.proofs.Ed25519Lemmas.Group.Complete.{sum_some}

-- ---- points whose z is 1

abbrev two : Term
two = number 2

-- the square of the first t, and y^2 - x^2 of either point
abbrev s : Term
s = first.t ⊗ first.t

abbrev k : Term
k = curve_left first

abbrev c : Term
c = curve_left second

-- what the equations of the points are multiplied by
abbrev by_first : Term
by_first =
    let x : Term = second.x ⊗ second.x in
    let y : Term = second.y ⊗ second.y in
    number 16 ⊗ (d ⊗ s ⊗ (x ⊗ x ⊕ y ⊗ y) ⊖ two ⊗ (d ⊕ one) ⊗ s ⊗ c ⊕ (d ⊕ two) ⊗ s ⊖ k ⊗ c ⊕ k ⊕ one)

abbrev by_second : Term
by_second =
    let square : Term = second.t ⊗ second.t in
    number 16 ⊗ (d ⊗ d ⊗ s ⊗ s ⊗ (d ⊗ square ⊕ c ⊖ one) ⊖ two ⊗ s ⊗ (d ⊗ s ⊕ one ⊕ d ⊖ k) ⊖ d ⊗ s ⊗ k ⊗ c ⊕ k ⊗ k)

flat_sum : (f : IsField) (a b u v : ℕ) → IsFlat a b → IsFlat u v → IsCurve (added (flat a b) (flat u v))
unfolding added
flat_sum f a b u v p q =
    let values : Values = and a p.x (and b p.y (and u q.x (and v q.y none))) in
    let r : Coordinates = sum_of first second in
    let facts : List Fact = curve_times by_first first ∷ curve_times by_second second ∷ [] in
    record {
      x = times_below _ _;
      y = times_below _ _;
      z = times_below _ _;
      t = times_below _ _;
      some = sum_some f a b u v p q;
      product = ring values (r.x ⊗ r.y) (r.z ⊗ r.t) refl;
      curve = identity values (curve_left r) (curve_right r) facts (p.curve, (q.curve, tt)) refl;
    }

-- ---- all points

pub flat_reduced : (f : IsField) (p : Extended) → IsCurve p → IsReduced (flat_of p)
flat_reduced f p c = of_curve (flat_of p) (flat_is_curve _ _ (is_flat f p c))

-- a sum is a multiple of that of points whose z is 1
pub sum_is : (f : IsField) (p q : Extended) → IsCurve p → IsCurve q
    → added p q ≡ multiple (square_of p.z q.z) (added (flat_of p) (flat_of q))
sum_is f p q c e =
    ap (λ (r : Extended). added r q) (as_multiple f p c)
    ∙ ap (λ (r : Extended). added (multiple p.z (flat_of p)) r) (as_multiple f q e)
    ∙ added_multiples p.z q.z (flat_of p) (flat_of q) c.z e.z (flat_reduced f p c) (flat_reduced f q e)

pub added_is_curve : (f : IsField) (p q : Extended) → IsCurve p → IsCurve q → IsCurve (added p q)
added_is_curve f p q c e =
    let n : times p.z q.z ≢ 0 = nonzero_product f p.z q.z c.z e.z c.some e.some in
    let m : square_of p.z q.z ≢ 0 = nonzero_product f (times p.z q.z) (times p.z q.z) (times_below _ _) (times_below _ _) n n in
    let flat : IsCurve (added (flat_of p) (flat_of q)) = flat_sum f _ _ _ _ (is_flat f p c) (is_flat f q e) in
    rw (sum_is f p q c e) (multiple_is_curve f (square_of p.z q.z) (added (flat_of p) (flat_of q)) (times_below _ _) m flat)
