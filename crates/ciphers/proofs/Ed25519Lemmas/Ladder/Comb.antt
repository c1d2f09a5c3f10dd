-- The comb: each step doubles, and takes one bit more of each word.
use Rattle.std.proofs.Common.{◌≡◌, ℕ, zero, suc, ◌+◌, ◌-◌, List, refl, ap, subst, sym, ◌∙◌, arith}
use Rattle.ciphers.specs.X25519.Bytes.{value}
use Rattle.ciphers.specs.declared.ed25519.scalar.Scalar.{Scalar}
use Rattle.ciphers.specs.Ed25519.Comb.{base_multiple, bit_at, combed, tooth_at}
use Rattle.ciphers.specs.Ed25519.Encoding.{encoded}
use Rattle.ciphers.specs.Ed25519.Point.{Extended, Ready, added, added_ready, base, multiplied}
use Rattle.ciphers.specs.Ed25519.Scalar.{number}
use Rattle.ciphers.specs.Ed25519.Signature.{base_times}
use Rattle.ciphers.proofs.Ed25519Lemmas.Group.Laws.{base_is_curve}
use Rattle.ciphers.proofs.Ed25519Lemmas.Group.Points.{IsCurve}
use Rattle.ciphers.proofs.Ed25519Lemmas.Ladder.Bits.{AreWords, all_places, from_place, no_place, one_place, weight}
use Rattle.ciphers.proofs.Ed25519Lemmas.Ladder.Equal.{Equal, encoded_equal, equal_sym, equal_trans}
use Rattle.ciphers.proofs.Ed25519Lemmas.Ladder.Multiplied.{AreBytes, multiplied_scaled}
use Rattle.ciphers.proofs.Ed25519Lemmas.Ladder.Scaled.{sum_added, sum_at, sum_of, sum_of_base, sum_of_none}
use Rattle.ciphers.proofs.Ed25519Lemmas.Ladder.Teeth.{IsMultiple, point_of, tooth_sum_multiple}
use Rattle.ciphers.proofs.Ed25519Lemmas.Shared.{ready_sum}

ready_is_added : (q : Extended) (r : Ready) (n : ℕ) → IsMultiple r n → added_ready q r ≡ added q (point_of r)
ready_is_added q r n k = ap (added_ready q) k.ready ∙ ready_sum q (point_of r) k.z

module _ (p : Extended) (h : IsCurve p) where
  pub combed_sum : {q : Extended} (s : Scalar) (place above n : ℕ) → above ≡ suc place → Equal q (sum_of (from_place s above) n p)
      → Equal (combed q s place) (sum_of (from_place s place) (n + n) p)
  unfolding combed
  combed_sum {q} s place above n e k =
      let m : ℕ = from_place s above in
      let w : ℕ = weight (bit_at s.a place) (bit_at s.b place) (bit_at s.c place) (bit_at s.d place) in
      let r : Ready = tooth_at s place in
      let tooth : IsMultiple r w =
      tooth_sum_multiple (bit_at s.a place) (bit_at s.b place) (bit_at s.c place) (bit_at s.d place)
      (omega arith) (omega arith) (omega arith) (omega arith) in
      let all : m + m + w ≡ from_place s place = ap (λ (i : ℕ). from_place s i + from_place s i + w) e ∙ sym (one_place s place) in
      subst (λ (x : Extended). Equal x (sum_of (from_place s place) (n + n) p)) (sym (ready_is_added (added q q) r w tooth))
      (sum_at p h all (omega arith)
      (sum_added p h (m + m) (n + n) w 0 (sum_added p h m n m n k k) (sum_of_base p h w tooth.same)))

comb_from : (s : Scalar) → AreWords s → (n t : ℕ) → n + t ≡ 64 → Equal (base_multiple s n) (sum_of (from_place s t) 0 base)
unfolding base_multiple
comb_from s w zero t e =
    let last : t ≡ 64 = omega arith in
    let none : 0 ≡ from_place s t = sym (ap (from_place s) last ∙ no_place s w) in
    sum_at base base_is_curve none refl (sum_of_none base base_is_curve)
comb_from s w (suc n) t e =
    let place : 63 - n ≡ t = omega arith in
    rw place (combed_sum base base_is_curve s t (suc t) 0 refl (comb_from s w n (suc t) (omega arith)))

-- the comb and the ladder have the same bytes
pub comb_bytes : (s : Scalar) (bytes : List ℕ) → AreWords s → AreBytes bytes → number s ≡ value bytes
    → encoded (base_multiple s 64) ≡ base_times bytes
unfolding base_times
comb_bytes s bytes w b e =
    let whole : from_place s 0 ≡ value bytes = all_places s ∙ e in
    let comb : Equal (base_multiple s 64) (sum_of (value bytes) 0 base) =
    sum_at base base_is_curve whole refl (comb_from s w 64 0 refl) in
    let ladder : Equal (multiplied bytes base 256) (sum_of (value bytes) 0 base) =
    sum_of_base base base_is_curve (value bytes) (multiplied_scaled base base_is_curve bytes b) in
    encoded_equal (equal_trans comb (equal_sym ladder))
