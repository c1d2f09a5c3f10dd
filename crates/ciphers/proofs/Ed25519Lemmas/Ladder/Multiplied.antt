-- Doubling and adding, from the highest bit down, gives the multiple.
use Rattle.std.proofs.Common.{◌≡◌, ℕ, zero, suc, ◌+◌, ◌-◌, ◌*◌, ◌/◌, ◌^◌, ◌<◌, List, length, slice_index, subst, arith}
use Rattle.std.proofs.Math.Nat.{div-eq_of_lt}
use Rattle.ciphers.specs.X25519.Bytes.{bit_of, value}
use Rattle.ciphers.specs.X25519.Values.{one_bit_more, value_below}
use Rattle.ciphers.specs.Ed25519.Point.{Extended, added, multiplied, step}
use Rattle.ciphers.proofs.Ed25519Lemmas.Group.Points.{IsCurve}
use Rattle.ciphers.proofs.Ed25519Lemmas.Ladder.Equal.{Equal, equal_added, equal_trans}
use Rattle.ciphers.proofs.Ed25519Lemmas.Ladder.Scaled.{scaled, scaled_one, scaled_sum, scaled_zero}

-- what stands for 32 bytes
pub record AreBytes (bytes : List ℕ) : Type 0 where
  pub size : length bytes ≡ 32
  pub fits : (i : ℕ) → slice_index bytes i < 256

module _ (p : Extended) (h : IsCurve p) where
  twice_scaled : {q : Extended} (m : ℕ) → Equal q (scaled m p) → Equal (added q q) (scaled (m + m) p)
  twice_scaled m e = equal_trans (equal_added e e) (scaled_sum m m p h)

  step_scaled : {q : Extended} (m bit : ℕ) → bit < 2 → Equal q (scaled m p) → Equal (step q p bit) (scaled (m + m + bit) p)
  step_scaled m zero b e =
      let all : m + m + 0 ≡ m + m = omega arith in
      rw all (twice_scaled m e)
  step_scaled m (suc zero) b e =
      equal_trans (equal_added (twice_scaled m e) (scaled_one p h)) (scaled_sum (m + m) 1 p h)
  step_scaled m (suc (suc n)) b e = absurd (omega arith)

  multiplied_from : (bytes : List ℕ) → AreBytes bytes → (n t : ℕ) → n + t ≡ 256
      → Equal (multiplied bytes p n) (scaled (value bytes / 2 ^ t) p)
  unfolding multiplied
  multiplied_from bytes b zero t e =
      let below : value bytes < 2 ^ (8 * length bytes) = value_below bytes b.fits in
      let high : 8 * length bytes ≡ t = omega (arith, b.size) in
      let none : value bytes / 2 ^ t ≡ 0 = div-eq_of_lt (rw high at below) in
      rw none (scaled_zero p)
  multiplied_from bytes b (suc n) t e =
      let place : 255 - n ≡ t = omega arith in
      let above : ℕ = value bytes / 2 ^ suc t in
      let more : value bytes / 2 ^ t ≡ above + above + bit_of bytes t = omega (arith, one_bit_more bytes t b.fits) in
      rw (place, more) (step_scaled above (bit_of bytes t) (omega arith) (multiplied_from bytes b n (suc t) (omega arith)))

  pub multiplied_scaled : (bytes : List ℕ) → AreBytes bytes → Equal (multiplied bytes p 256) (scaled (value bytes) p)
  multiplied_scaled bytes b =
      let all : value bytes / 2 ^ 0 ≡ value bytes = omega arith in
      subst (λ (n : ℕ). Equal (multiplied bytes p 256) (scaled n p)) all (multiplied_from bytes b 256 0 (omega arith))
