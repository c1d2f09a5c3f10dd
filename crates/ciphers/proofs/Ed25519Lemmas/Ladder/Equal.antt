-- Points of the curve that are one, and sums of them in any order.
use Rattle.std.proofs.Common.{◌≡◌, subst}
use Rattle.ciphers.specs.Ed25519.Encoding.{encoded}
use Rattle.ciphers.specs.Ed25519.Point.{Extended, added, identity}
use Rattle.ciphers.proofs.Ed25519Lemmas.Field.Laws.{d_is_no_square, inverse_is, no_divisors}
use Rattle.ciphers.proofs.Ed25519Lemmas.Group.Closed.{added_is_curve}
use Rattle.ciphers.proofs.Ed25519Lemmas.Group.Laws.{added_commutes, added_identity, identity_is_curve}
use Rattle.ciphers.proofs.Ed25519Lemmas.Group.Points.{AreSame, IsCurve, IsField}
use Rattle.ciphers.proofs.Ed25519Lemmas.Group.Same.{added_associates, added_same, encoded_same, same_refl, same_sym, same_trans}

pub field : IsField
field = record { no_divisors = no_divisors; inverse_is = inverse_is; d_is_no_square = d_is_no_square }

-- two points of the curve that are one
pub record Equal (p q : Extended) : Type 0 where
  pub left : IsCurve p
  pub right : IsCurve q
  pub same : AreSame p q

pub equal_refl : (p : Extended) → IsCurve p → Equal p p
equal_refl p h = record { left = h; right = h; same = same_refl p }

pub equal_sym : {p q : Extended} → Equal p q → Equal q p
equal_sym {p} {q} h = record { left = h.right; right = h.left; same = same_sym p q h.same }

pub equal_trans : {p q r : Extended} → Equal p q → Equal q r → Equal p r
equal_trans {p} {q} {r} h k = record { left = h.left; right = k.right; same = same_trans field p q r h.left h.right k.right h.same k.same }

pub equal_added : {p q r s : Extended} → Equal p r → Equal q s → Equal (added p q) (added r s)
equal_added {p} {q} {r} {s} h k = record {
  left = added_is_curve field p q h.left k.left;
  right = added_is_curve field r s h.right k.right;
  same = added_same field p q r s h.left k.left h.right k.right h.same k.same;
}

pub associates : (p q r : Extended) → IsCurve p → IsCurve q → IsCurve r → Equal (added (added p q) r) (added p (added q r))
associates p q r h k l = record {
  left = added_is_curve field (added p q) r (added_is_curve field p q h k) l;
  right = added_is_curve field p (added q r) h (added_is_curve field q r k l);
  same = added_associates field p q r h k l;
}

pub plus_identity : (p : Extended) → IsCurve p → Equal (added p identity) p
plus_identity p h =
    subst (λ (q : Extended). Equal q p) (added_commutes identity p)
    (record { left = added_is_curve field identity p identity_is_curve h; right = h; same = added_identity p h })

pub encoded_equal : {p q : Extended} → Equal p q → encoded p ≡ encoded q
encoded_equal {p} {q} h = encoded_same field p q h.left h.right h.same

-- two sums of two, term by term
pub interchange : (p q r s : Extended) → IsCurve p → IsCurve q → IsCurve r → IsCurve s
    → Equal (added (added p q) (added r s)) (added (added p r) (added q s))
interchange p q r s h k l m =
    let rs : IsCurve (added r s) = added_is_curve field r s l m in
    let qs : IsCurve (added q s) = added_is_curve field q s k m in
    let middle : Equal (added q (added r s)) (added r (added q s)) =
    equal_trans (equal_sym (associates q r s k l m))
    (subst (λ (x : Extended). Equal (added x s) (added r (added q s))) (added_commutes r q) (associates r q s l k m)) in
    equal_trans (associates p q (added r s) h k rs)
    (equal_trans (equal_added (equal_refl p h) middle) (equal_sym (associates p r (added q s) h l qs)))
