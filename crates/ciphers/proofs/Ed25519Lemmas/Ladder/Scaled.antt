-- Points so many times, and sums of a multiple of the base point and one of another point.
use Rattle.std.proofs.Common.{◌≡◌, ℕ, zero, suc, ◌+◌, ◌^◌, ap, refl, subst, ◌∙◌, arith}
use Rattle.std.proofs.Math.Nat.{pow-suc}
use Rattle.ciphers.specs.Ed25519.Point.{Extended, added, base, identity}
use Rattle.ciphers.specs.Ed25519.Windows.{multiple, twice}
use Rattle.ciphers.proofs.Ed25519Lemmas.Group.Closed.{added_is_curve}
use Rattle.ciphers.proofs.Ed25519Lemmas.Group.Laws.{added_commutes, base_is_curve, identity_is_curve}
use Rattle.ciphers.proofs.Ed25519Lemmas.Group.Points.{IsCurve}
use Rattle.ciphers.proofs.Ed25519Lemmas.Ladder.Equal.{Equal, associates, equal_added, equal_refl, equal_sym, equal_trans, field, interchange, plus_identity}
use Rattle.ciphers.proofs.Ed25519Lemmas.Shared.{ready_sum}

pub scaled : ℕ → Extended → Extended
scaled zero p = identity
scaled (suc n) p = added (scaled n p) p

-- what the table has is the multiple
pub multiple_scaled : (p : Extended) (n : ℕ) → p.z ≡ 1 → multiple p n ≡ scaled n p
unfolding multiple scaled
multiple_scaled p zero z = refl
multiple_scaled p (suc n) z = ready_sum (multiple p n) p z ∙ ap (λ (q : Extended). added q p) (multiple_scaled p n z)

-- a point doubled so many times
unfoldable pub doublings : ℕ → Extended → Extended
doublings zero p = p
doublings (suc n) p = twice (doublings n p)

-- so many times the base point, and so many times another one
pub sum_of : (m n : ℕ) (p : Extended) → Extended
sum_of m n p = added (scaled m base) (scaled n p)

pub scaled_curve : (n : ℕ) (p : Extended) → IsCurve p → IsCurve (scaled n p)
unfolding scaled
scaled_curve zero p h = identity_is_curve
scaled_curve (suc n) p h = added_is_curve field (scaled n p) p (scaled_curve n p h) h

pub scaled_sum : (m n : ℕ) (p : Extended) → IsCurve p → Equal (added (scaled m p) (scaled n p)) (scaled (m + n) p)
unfolding scaled
scaled_sum m zero p h =
    let all : m + 0 ≡ m = omega arith in
    rw all (plus_identity (scaled m p) (scaled_curve m p h))
scaled_sum m (suc n) p h =
    let more : m + suc n ≡ suc (m + n) = omega arith in
    rw more
    (equal_trans (equal_sym (associates (scaled m p) (scaled n p) p (scaled_curve m p h) (scaled_curve n p h) h))
    (equal_added (scaled_sum m n p h) (equal_refl p h)))

pub scaled_one : (p : Extended) → IsCurve p → Equal p (scaled 1 p)
unfolding scaled
scaled_one p h = subst (λ (q : Extended). Equal p q) (added_commutes p identity) (equal_sym (plus_identity p h))

pub scaled_zero : (p : Extended) → Equal identity (scaled 0 p)
unfolding scaled
scaled_zero p = equal_refl identity identity_is_curve

pub doublings_scaled : (n : ℕ) (p : Extended) → IsCurve p → Equal (doublings n p) (scaled (2 ^ n) p)
unfolding doublings twice
doublings_scaled zero p h = scaled_one p h
doublings_scaled (suc n) p h =
    let both : 2 ^ suc n ≡ 2 ^ n + 2 ^ n = pow-suc 2 n ∙ omega arith in
    let half : Equal (doublings n p) (scaled (2 ^ n) p) = doublings_scaled n p h in
    rw both (equal_trans (equal_added half half) (scaled_sum (2 ^ n) (2 ^ n) p h))

module _ (p : Extended) (h : IsCurve p) where
  pub sum_added : {q r : Extended} (m n k l : ℕ) → Equal q (sum_of m n p) → Equal r (sum_of k l p)
      → Equal (added q r) (sum_of (m + k) (n + l) p)
  unfolding sum_of
  sum_added m n k l e f =
      let b : (i : ℕ) → IsCurve (scaled i base) = λ i. scaled_curve i base base_is_curve in
      let o : (i : ℕ) → IsCurve (scaled i p) = λ i. scaled_curve i p h in
      equal_trans (equal_added e f)
      (equal_trans (interchange (scaled m base) (scaled n p) (scaled k base) (scaled l p) (b m) (o n) (b k) (o l))
      (equal_added (scaled_sum m k base base_is_curve) (scaled_sum n l p h)))

  pub sum_of_both : {q r : Extended} (m n : ℕ) → Equal q (scaled m base) → Equal r (scaled n p) → Equal (added q r) (sum_of m n p)
  unfolding sum_of
  sum_of_both m n e f = equal_added e f

  pub sum_of_base : {q : Extended} (m : ℕ) → Equal q (scaled m base) → Equal q (sum_of m 0 p)
  unfolding sum_of scaled
  sum_of_base m e = equal_trans e (equal_sym (plus_identity (scaled m base) e.right))

  pub sum_of_other : {q : Extended} (n : ℕ) → Equal q (scaled n p) → Equal q (sum_of 0 n p)
  unfolding sum_of scaled
  sum_of_other {q} n e =
      subst (λ (r : Extended). Equal q r) (added_commutes (scaled n p) identity)
      (equal_trans e (equal_sym (plus_identity (scaled n p) e.right)))

  pub sum_of_none : Equal identity (sum_of 0 0 p)
  sum_of_none = sum_of_base 0 (scaled_zero base)

  pub sum_at : {q : Extended} {m n k l : ℕ} → m ≡ k → n ≡ l → Equal q (sum_of m n p) → Equal q (sum_of k l p)
  sum_at {q} {m} {n} {k} {l} e f h = subst (λ (i : ℕ). Equal q (sum_of k i p)) f (subst (λ (i : ℕ). Equal q (sum_of i n p)) e h)
