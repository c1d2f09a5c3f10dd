-- The joint ladder: each step takes one digit more, and the last 16 take four bits more of each word.
use Rattle.std.proofs.Common.{◌≡◌, ℕ, zero, suc, ◌+◌, ◌-◌, ◌*◌, ◌<◌, List, refl, ap, subst, sym, ◌∙◌, arith}
use Rattle.ciphers.specs.X25519.Bytes.{value}
use Rattle.ciphers.specs.declared.x25519.field.Element.{Element}
use Rattle.ciphers.specs.X25519.Field.{prime, residue}
use Rattle.ciphers.specs.declared.ed25519.point.Point.{Point}
use Rattle.ciphers.specs.declared.ed25519.scalar.Scalar.{Scalar}
use Rattle.ciphers.specs.Ed25519.Encoding.{IsOnCurve, encoded}
use Rattle.ciphers.specs.Ed25519.Point.{Extended, added, base, multiplied, negated, numbers}
use Rattle.ciphers.specs.Ed25519.Scalar.{number}
use Rattle.ciphers.specs.Ed25519.Signature.{commitment}
use Rattle.ciphers.specs.Ed25519.Windows.{digit_at, joint_multiple, multiple, sixteen_combed, sixteen_times, twice, windowed, with_digit}
use Rattle.ciphers.proofs.Ed25519Lemmas.Group.Laws.{base_is_curve, negated_is_curve, on_curve}
use Rattle.ciphers.proofs.Ed25519Lemmas.Group.Points.{IsCurve}
use Rattle.ciphers.proofs.Ed25519Lemmas.Ladder.Bits.{AreWords, all_digits, all_places, from_digit, from_place, no_digit, no_place, one_digit}
use Rattle.ciphers.proofs.Ed25519Lemmas.Ladder.Comb.{combed_sum}
use Rattle.ciphers.proofs.Ed25519Lemmas.Ladder.Equal.{Equal, encoded_equal, equal_refl, equal_sym, equal_trans}
use Rattle.ciphers.proofs.Ed25519Lemmas.Ladder.Multiplied.{AreBytes, multiplied_scaled}
use Rattle.ciphers.proofs.Ed25519Lemmas.Ladder.Scaled.{multiple_scaled, scaled, scaled_curve, sum_added, sum_at, sum_of, sum_of_both, sum_of_none, sum_of_other}

module _ (p : Extended) (h : IsCurve p) (z : p.z ≡ 1) where
  digit_sum : {q : Extended} (m n digit : ℕ) → Equal q (sum_of m n p)
      → Equal (with_digit q (multiple p digit) digit) (sum_of m (n + digit) p)
  digit_sum m n zero e = sum_at p h refl (omega arith) e
  digit_sum {q} m n (suc k) e =
      subst (λ (r : Extended). Equal (added q r) (sum_of m (n + suc k) p)) (sym (multiple_scaled p (suc k) z))
      (sum_at p h (omega arith) refl
      (sum_added p h m n 0 (suc k) e (sum_of_other p h (suc k) (equal_refl (scaled (suc k) p) (scaled_curve (suc k) p h)))))

  twice_sum : {q : Extended} (m n : ℕ) → Equal q (sum_of m n p) → Equal (twice q) (sum_of (m + m) (n + n) p)
  unfolding twice
  twice_sum m n e = sum_added p h m n m n e e

  sixteen_sum : {q : Extended} (n : ℕ) → Equal q (sum_of 0 n p) → Equal (sixteen_times q) (sum_of 0 (16 * n) p)
  sixteen_sum n e =
      sum_at p h refl (omega arith)
      (twice_sum 0 (n + n + (n + n) + (n + n + (n + n))) (twice_sum 0 (n + n + (n + n)) (twice_sum 0 (n + n) (twice_sum 0 n e))))

  windows_from : (bytes : List ℕ) → AreBytes bytes → (n t : ℕ) → n + t ≡ 64 → Equal (windowed p bytes n) (sum_of 0 (from_digit bytes t) p)
  unfolding windowed
  windows_from bytes b zero t e =
      let last : t ≡ 64 = omega arith in
      let none : 0 ≡ from_digit bytes t = sym (ap (from_digit bytes) last ∙ no_digit bytes b.size b.fits) in
      sum_at p h refl none (sum_of_none p h)
  windows_from bytes b (suc n) t e =
      let place : 63 - n ≡ t = omega arith in
      rw place
      (sum_at p h refl (sym (one_digit bytes t b.fits))
      (digit_sum 0 (16 * from_digit bytes (suc t)) (digit_at bytes t)
      (sixteen_sum (from_digit bytes (suc t)) (windows_from bytes b n (suc t) (omega arith)))))

  combed_sixteen : {q : Extended} (s : Scalar) (place n : ℕ) → Equal q (sum_of (from_place s (4 * suc place)) n p)
      → Equal (sixteen_combed q s place) (sum_of (from_place s (4 * place)) (16 * n) p)
  combed_sixteen s place n e =
      sum_at p h refl (omega arith)
      (combed_sum p h s (4 * place) (4 * place + 1) (n + n + (n + n) + (n + n + (n + n))) (omega arith)
      (combed_sum p h s (4 * place + 1) (4 * place + 2) (n + n + (n + n)) (omega arith)
      (combed_sum p h s (4 * place + 2) (4 * place + 3) (n + n) (omega arith)
      (combed_sum p h s (4 * place + 3) (4 * suc place) n (omega arith) e))))

  joint_from : (s : Scalar) (bytes : List ℕ) → AreWords s → AreBytes bytes → (n t : ℕ) → n + t ≡ 16
      → Equal (joint_multiple s p bytes n) (sum_of (from_place s (4 * t)) (from_digit bytes t) p)
  unfolding joint_multiple
  joint_from s bytes w b zero t e =
      let last : 4 * t ≡ 64 = omega arith in
      let none : 0 ≡ from_place s (4 * t) = sym (ap (from_place s) last ∙ no_place s w) in
      sum_at p h none refl (windows_from bytes b 48 t (omega arith))
  joint_from s bytes w b (suc n) t e =
      let place : 15 - n ≡ t = omega arith in
      rw place
      (sum_at p h refl (sym (one_digit bytes t b.fits))
      (digit_sum (from_place s (4 * t)) (16 * from_digit bytes (suc t)) (digit_at bytes t)
      (combed_sixteen s t (from_digit bytes (suc t)) (joint_from s bytes w b n (suc t) (omega arith)))))

  pub joint_is : (s : Scalar) (response challenge : List ℕ) → AreWords s → AreBytes response → AreBytes challenge
      → number s ≡ value response
      → Equal (joint_multiple s p challenge 16) (added (multiplied response base 256) (multiplied challenge p 256))
  joint_is s response challenge w b c e =
      let whole : from_place s 0 ≡ value response = all_places s ∙ e in
      equal_trans (sum_at p h whole (all_digits challenge) (joint_from s challenge w c 16 0 refl))
      (equal_sym (sum_of_both p h (value response) (value challenge)
      (multiplied_scaled base base_is_curve response b) (multiplied_scaled p h challenge c)))

residue_below : (x : Element) → residue x < prime
unfolding residue
residue_below x = omega arith

pub numbers_curve : (p : Point) → IsOnCurve (numbers p) → IsCurve (numbers p)
numbers_curve p h = on_curve (numbers p) h (residue_below p.x) (residue_below p.y)

negated_z : (p : Extended) → p.z ≡ 1 → (negated p).z ≡ 1
unfolding negated
negated_z p e = e

-- the joint ladder and the two ladders have the same bytes
pub joint_bytes : (s : Scalar) (response challenge : List ℕ) (key : Extended) → AreWords s → AreBytes response
    → AreBytes challenge → number s ≡ value response → IsCurve key → key.z ≡ 1
    → encoded (joint_multiple s (negated key) challenge 16) ≡ commitment response challenge key
unfolding commitment
joint_bytes s response challenge key w b c e h z =
    encoded_equal (joint_is (negated key) (negated_is_curve key h) (negated_z key z) s response challenge w b c e)
