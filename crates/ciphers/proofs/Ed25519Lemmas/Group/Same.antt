-- Coordinates of one point: their sums, and their bytes.
use Rattle.std.proofs.Common.{◌≡◌, ℕ, ◌<◌, List, [], ◌∷◌, refl, ap, sym, ◌∙◌}
use Rattle.ciphers.specs.X25519.Field.{prime}
use Rattle.ciphers.specs.X25519.Residues.{times}
use Rattle.ciphers.specs.Ed25519.Encoding.{encoded, quotient, with_sign}
use Rattle.ciphers.specs.Ed25519.Point.{Extended, added}
use Rattle.ciphers.proofs.Ed25519Lemmas.Group.Identities.{Fact, Term, Values, and, identity, none, number, times_below, variable, ◌⊖◌, ◌⊗◌}
use Rattle.ciphers.proofs.Ed25519Lemmas.Group.Points.{AreSame, IsCurve, IsField}
use Rattle.ciphers.proofs.Ed25519Lemmas.Group.Coordinates.{opposite}
use Rattle.ciphers.proofs.Ed25519Lemmas.Group.Multiples.{IsReduced, added_multiples, added_reduced, multiple, multiples_same, square_of}
use Rattle.ciphers.proofs.Ed25519Lemmas.Group.Flat.{flat, flat_of, inverse, inverse_below, is_flat, as_multiple, times_inverse}
use Rattle.ciphers.proofs.Ed25519Lemmas.Group.Closed.{flat_reduced, sum_is}
use Rattle.ciphers.proofs.Ed25519Lemmas.Group.Associative.{flat_associates}

pub same_refl : (p : Extended) → AreSame p p
same_refl p = record { x = refl; y = refl }

pub same_sym : (p q : Extended) → AreSame p q → AreSame q p
same_sym p q s = record { x = sym s.x; y = sym s.y }

-- one coordinate, and the z of the same point
joined : (f : IsField) (q : Extended) (a z b c w : ℕ) → IsCurve q → a < prime → z < prime → b < prime → c < prime → w < prime
    → times a q.z ≡ times b z → times b w ≡ times c q.z → times a w ≡ times c z
joined f q a z b c w e ba bz bb bc bw h k =
    let ends : Values = and q.z e.z (and (inverse q.z) (inverse_below q.z) none) in
    let v : Values = and a ba (and z bz (and b bb (and c bc (and w bw ends)))) in
    let left : Term = variable 0 ⊗ variable 4 in
    let right : Term = variable 3 ⊗ variable 1 in
    let i : Term = variable 6 in
    let facts : List Fact =
    record { factor = right ⊖ left; left = variable 5 ⊗ i; right = number 1 }
    ∷ record { factor = i ⊗ variable 4; left = variable 0 ⊗ variable 5; right = variable 2 ⊗ variable 1 }
    ∷ record { factor = i ⊗ variable 1; left = variable 2 ⊗ variable 4; right = variable 3 ⊗ variable 5 }
    ∷ [] in
    identity v left right facts (times_inverse f q e, (h, (k, tt))) refl

pub same_trans : (f : IsField) (p q r : Extended) → IsCurve p → IsCurve q → IsCurve r → AreSame p q → AreSame q r → AreSame p r
same_trans f p q r a b c s t = record {
  x = joined f q p.x p.z q.x r.x r.z b a.x a.z b.x c.x c.z s.x t.x;
  y = joined f q p.y p.z q.y r.y r.z b a.y a.z b.y c.y c.z s.y t.y;
}

-- ---- the coordinates where z is 1

same_quotient : (f : IsField) (p q : Extended) (a b : ℕ) → IsCurve p → IsCurve q → a < prime → b < prime
    → times a q.z ≡ times b p.z → quotient a p.z ≡ quotient b q.z
same_quotient f p q a b c e ba bb h =
    let second : Values = and q.z e.z (and (inverse q.z) (inverse_below q.z) none) in
    let v : Values = and a ba (and b bb (and p.z c.z (and (inverse p.z) (inverse_below p.z) second))) in
    let left : Term = variable 0 ⊗ variable 3 in
    let right : Term = variable 1 ⊗ variable 5 in
    let facts : List Fact =
    record { factor = variable 3 ⊗ variable 5; left = variable 0 ⊗ variable 4; right = variable 1 ⊗ variable 2 }
    ∷ record { factor = right; left = variable 2 ⊗ variable 3; right = number 1 }
    ∷ record { factor = opposite left; left = variable 4 ⊗ variable 5; right = number 1 }
    ∷ [] in
    identity v left right facts (h, (times_inverse f p c, (times_inverse f q e, tt))) refl

same_flat : (f : IsField) (p q : Extended) → IsCurve p → IsCurve q → AreSame p q → flat_of p ≡ flat_of q
same_flat f p q c e s =
    ap (λ (x : ℕ). flat x (quotient p.y p.z)) (same_quotient f p q p.x q.x c e c.x e.x s.x)
    ∙ ap (λ (y : ℕ). flat (quotient q.x q.z) y) (same_quotient f p q p.y q.y c e c.y e.y s.y)

pub encoded_same : (f : IsField) (p q : Extended) → IsCurve p → IsCurve q → AreSame p q → encoded p ≡ encoded q
unfolding encoded
encoded_same f p q c e s = ap (λ (r : Extended). with_sign r.x r.y) (same_flat f p q c e s)

-- ---- sums

-- two multiples of the same point
from_multiples : (k m : ℕ) (p q a b : Extended) → k < prime → m < prime → IsReduced a → IsReduced b
    → p ≡ multiple k a → q ≡ multiple m b → AreSame a b → AreSame p q
from_multiples k m p q a b bk bm ba bb e h s = rw (e, h) (multiples_same k m a b bk bm ba bb s)

pub added_same : (f : IsField) (p q r s : Extended) → IsCurve p → IsCurve q → IsCurve r → IsCurve s
    → AreSame p r → AreSame q s → AreSame (added p q) (added r s)
added_same f p q r s cp cq cr cs a b =
    let k : ℕ = square_of p.z q.z in
    let sum : Extended = added (flat_of r) (flat_of s) in
    let left : added p q ≡ multiple k sum =
    sum_is f p q cp cq
    ∙ ap (λ (e : Extended). multiple k (added e (flat_of q))) (same_flat f p r cp cr a)
    ∙ ap (λ (e : Extended). multiple k (added (flat_of r) e)) (same_flat f q s cq cs b) in
    let reduced : IsReduced sum = added_reduced (flat_of r) (flat_of s) in
    from_multiples k (square_of r.z s.z) (added p q) (added r s) sum sum (times_below _ _) (times_below _ _) reduced reduced
    left (sum_is f r s cr cs) (same_refl sum)

pub added_associates : (f : IsField) (p q r : Extended) → IsCurve p → IsCurve q → IsCurve r
    → AreSame (added (added p q) r) (added p (added q r))
added_associates f p q r cp cq cr =
    let a : Extended = flat_of p in
    let b : Extended = flat_of q in
    let c : Extended = flat_of r in
    let k : ℕ = square_of p.z q.z in
    let m : ℕ = square_of q.z r.z in
    let left : added (added p q) r ≡ multiple (square_of k r.z) (added (added a b) c) =
    ap (λ (s : Extended). added s r) (sum_is f p q cp cq)
    ∙ ap (λ (s : Extended). added (multiple k (added a b)) s) (as_multiple f r cr)
    ∙ added_multiples k r.z (added a b) c (times_below _ _) cr.z (added_reduced a b) (flat_reduced f r cr) in
    let right : added p (added q r) ≡ multiple (square_of p.z m) (added a (added b c)) =
    ap (λ (s : Extended). added p s) (sum_is f q r cq cr)
    ∙ ap (λ (s : Extended). added s (multiple m (added b c))) (as_multiple f p cp)
    ∙ added_multiples p.z m a (added b c) cp.z (times_below _ _) (flat_reduced f p cp) (added_reduced b c) in
    from_multiples (square_of k r.z) (square_of p.z m) _ _ (added (added a b) c) (added a (added b c))
    (times_below _ _) (times_below _ _) (added_reduced (added a b) c) (added_reduced a (added b c))
    left right (flat_associates _ _ _ _ _ _ (is_flat f p cp) (is_flat f q cq) (is_flat f r cr))
