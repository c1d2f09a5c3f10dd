-- The constants of the comb: each is a sum of the base point 2^0, 2^64, 2^128 and 2^192 times, checked by computing.
use Rattle.std.proofs.Common.{◌≡◌, ℕ, zero, suc, ◌+◌, ◌-◌, ◌^◌, ◌<◌, refl, arith}
use Rattle.ciphers.specs.X25519.Field.{residue}
use Rattle.ciphers.specs.X25519.Residues.{minus, plus, times}
use Rattle.ciphers.specs.Ed25519.Comb.{tooth, tooth_sum}
use Rattle.ciphers.specs.Ed25519.Encoding.{IsOnCurve}
use Rattle.ciphers.specs.Ed25519.Point.{Extended, Ready, added, base, identity, prepared}
use Rattle.ciphers.specs.Ed25519.Windows.{twice}
use Rattle.ciphers.proofs.Ed25519Lemmas.Group.Identities.{times_below}
use Rattle.ciphers.proofs.Ed25519Lemmas.Group.Laws.{base_is_curve, on_curve}
use Rattle.ciphers.proofs.Ed25519Lemmas.Group.Points.{AreSame, IsCurve}
use Rattle.ciphers.proofs.Ed25519Lemmas.Ladder.Bits.{weight}
use Rattle.ciphers.proofs.Ed25519Lemmas.Ladder.Equal.{Equal, equal_added, equal_trans}
use Rattle.ciphers.proofs.Ed25519Lemmas.Ladder.Scaled.{doublings, doublings_scaled, scaled, scaled_one, scaled_sum, scaled_zero}

-- the point that was made ready: 2 has the inverse 2^254 - 9
unfoldable pub point_of : Ready → Extended
point_of r =
    let x : ℕ = times (minus r.more r.less) (2 ^ 254 - 9) in
    let y : ℕ = times (plus r.more r.less) (2 ^ 254 - 9) in
    record { x = x; y = y; z = 1; t = times x y }

-- the point at a place of the table
abbrev point_at : ℕ → Extended
point_at place = point_of (tooth place)

-- what computing shows of the constant at a place, and of a point that it should be
record IsChecked (place : ℕ) (q : Extended) : Type 0 where
  ready : tooth place ≡ prepared (point_at place)
  curve : IsOnCurve (point_at place)
  same : AreSame (point_at place) q

checked_none : IsChecked 0 identity
unfolding tooth residue point_of plus minus times
checked_none = record { ready = refl; curve = record { curve = refl; z = refl; t = refl }; same = record { x = refl; y = refl } }

checked_a : IsChecked 1 base
unfolding tooth residue point_of plus minus times
checked_a = record { ready = refl; curve = record { curve = refl; z = refl; t = refl }; same = record { x = refl; y = refl } }

checked_b : IsChecked 2 (doublings 64 base)
unfolding tooth residue point_of plus minus times added doublings twice
checked_b = record { ready = refl; curve = record { curve = refl; z = refl; t = refl }; same = record { x = refl; y = refl } }

checked_c : IsChecked 4 (doublings 128 base)
unfolding tooth residue point_of plus minus times added doublings twice
checked_c = record { ready = refl; curve = record { curve = refl; z = refl; t = refl }; same = record { x = refl; y = refl } }

checked_d : IsChecked 8 (doublings 192 base)
unfolding tooth residue point_of plus minus times added doublings twice
checked_d = record { ready = refl; curve = record { curve = refl; z = refl; t = refl }; same = record { x = refl; y = refl } }

checked_ab : IsChecked 3 (added (point_at 1) (point_at 2))
unfolding tooth residue point_of plus minus times added
checked_ab = record { ready = refl; curve = record { curve = refl; z = refl; t = refl }; same = record { x = refl; y = refl } }

checked_ac : IsChecked 5 (added (point_at 1) (point_at 4))
unfolding tooth residue point_of plus minus times added
checked_ac = record { ready = refl; curve = record { curve = refl; z = refl; t = refl }; same = record { x = refl; y = refl } }

checked_bc : IsChecked 6 (added (point_at 2) (point_at 4))
unfolding tooth residue point_of plus minus times added
checked_bc = record { ready = refl; curve = record { curve = refl; z = refl; t = refl }; same = record { x = refl; y = refl } }

checked_abc : IsChecked 7 (added (point_at 3) (point_at 4))
unfolding tooth residue point_of plus minus times added
checked_abc = record { ready = refl; curve = record { curve = refl; z = refl; t = refl }; same = record { x = refl; y = refl } }

checked_ad : IsChecked 9 (added (point_at 1) (point_at 8))
unfolding tooth residue point_of plus minus times added
checked_ad = record { ready = refl; curve = record { curve = refl; z = refl; t = refl }; same = record { x = refl; y = refl } }

checked_bd : IsChecked 10 (added (point_at 2) (point_at 8))
unfolding tooth residue point_of plus minus times added
checked_bd = record { ready = refl; curve = record { curve = refl; z = refl; t = refl }; same = record { x = refl; y = refl } }

checked_abd : IsChecked 11 (added (point_at 3) (point_at 8))
unfolding tooth residue point_of plus minus times added
checked_abd = record { ready = refl; curve = record { curve = refl; z = refl; t = refl }; same = record { x = refl; y = refl } }

checked_cd : IsChecked 12 (added (point_at 4) (point_at 8))
unfolding tooth residue point_of plus minus times added
checked_cd = record { ready = refl; curve = record { curve = refl; z = refl; t = refl }; same = record { x = refl; y = refl } }

checked_acd : IsChecked 13 (added (point_at 5) (point_at 8))
unfolding tooth residue point_of plus minus times added
checked_acd = record { ready = refl; curve = record { curve = refl; z = refl; t = refl }; same = record { x = refl; y = refl } }

checked_bcd : IsChecked 14 (added (point_at 6) (point_at 8))
unfolding tooth residue point_of plus minus times added
checked_bcd = record { ready = refl; curve = record { curve = refl; z = refl; t = refl }; same = record { x = refl; y = refl } }

checked_abcd : IsChecked 15 (added (point_at 7) (point_at 8))
unfolding tooth residue point_of plus minus times added
checked_abcd = record { ready = refl; curve = record { curve = refl; z = refl; t = refl }; same = record { x = refl; y = refl } }

-- what is made ready is so many times the base point
pub record IsMultiple (r : Ready) (n : ℕ) : Type 0 where
  pub ready : r ≡ prepared (point_of r)
  pub z : (point_of r).z ≡ 1
  pub same : Equal (point_of r) (scaled n base)

curve_at : {q : Extended} (place : ℕ) → IsChecked place q → IsCurve (point_at place)
unfolding point_of
curve_at place k = on_curve (point_at place) k.curve (times_below _ _) (times_below _ _)

multiple_at : {q : Extended} (place n : ℕ) → IsChecked place q → Equal q (scaled n base) → IsMultiple (tooth place) n
multiple_at place n k e = record {
  ready = k.ready;
  z = k.curve.z;
  same = equal_trans (record { left = curve_at place k; right = e.left; same = k.same }) e;
}

sum_at : (place m n : ℕ) {p q : Extended} → IsChecked place (added p q) → Equal p (scaled m base) → Equal q (scaled n base)
    → IsMultiple (tooth place) (m + n)
sum_at place m n k e f = multiple_at place (m + n) k (equal_trans (equal_added e f) (scaled_sum m n base base_is_curve))

tooth_none : IsMultiple (tooth 0) 0
tooth_none = multiple_at 0 0 checked_none (scaled_zero base)

tooth_a : IsMultiple (tooth 1) 1
tooth_a = multiple_at 1 1 checked_a (scaled_one base base_is_curve)

tooth_b : IsMultiple (tooth 2) (2 ^ 64)
tooth_b = multiple_at 2 (2 ^ 64) checked_b (doublings_scaled 64 base base_is_curve)

tooth_c : IsMultiple (tooth 4) (2 ^ 128)
tooth_c = multiple_at 4 (2 ^ 128) checked_c (doublings_scaled 128 base base_is_curve)

tooth_d : IsMultiple (tooth 8) (2 ^ 192)
tooth_d = multiple_at 8 (2 ^ 192) checked_d (doublings_scaled 192 base base_is_curve)

tooth_ab : IsMultiple (tooth 3) (1 + 2 ^ 64)
tooth_ab = sum_at 3 1 (2 ^ 64) checked_ab tooth_a.same tooth_b.same

tooth_ac : IsMultiple (tooth 5) (1 + 2 ^ 128)
tooth_ac = sum_at 5 1 (2 ^ 128) checked_ac tooth_a.same tooth_c.same

tooth_bc : IsMultiple (tooth 6) (2 ^ 64 + 2 ^ 128)
tooth_bc = sum_at 6 (2 ^ 64) (2 ^ 128) checked_bc tooth_b.same tooth_c.same

tooth_abc : IsMultiple (tooth 7) (1 + 2 ^ 64 + 2 ^ 128)
tooth_abc = sum_at 7 (1 + 2 ^ 64) (2 ^ 128) checked_abc tooth_ab.same tooth_c.same

tooth_ad : IsMultiple (tooth 9) (1 + 2 ^ 192)
tooth_ad = sum_at 9 1 (2 ^ 192) checked_ad tooth_a.same tooth_d.same

tooth_bd : IsMultiple (tooth 10) (2 ^ 64 + 2 ^ 192)
tooth_bd = sum_at 10 (2 ^ 64) (2 ^ 192) checked_bd tooth_b.same tooth_d.same

tooth_abd : IsMultiple (tooth 11) (1 + 2 ^ 64 + 2 ^ 192)
tooth_abd = sum_at 11 (1 + 2 ^ 64) (2 ^ 192) checked_abd tooth_ab.same tooth_d.same

tooth_cd : IsMultiple (tooth 12) (2 ^ 128 + 2 ^ 192)
tooth_cd = sum_at 12 (2 ^ 128) (2 ^ 192) checked_cd tooth_c.same tooth_d.same

tooth_acd : IsMultiple (tooth 13) (1 + 2 ^ 128 + 2 ^ 192)
tooth_acd = sum_at 13 (1 + 2 ^ 128) (2 ^ 192) checked_acd tooth_ac.same tooth_d.same

tooth_bcd : IsMultiple (tooth 14) (2 ^ 64 + 2 ^ 128 + 2 ^ 192)
tooth_bcd = sum_at 14 (2 ^ 64 + 2 ^ 128) (2 ^ 192) checked_bcd tooth_bc.same tooth_d.same

tooth_abcd : IsMultiple (tooth 15) (1 + 2 ^ 64 + 2 ^ 128 + 2 ^ 192)
tooth_abcd = sum_at 15 (1 + 2 ^ 64 + 2 ^ 128) (2 ^ 192) checked_abcd tooth_abc.same tooth_d.same

pub tooth_sum_multiple : (a b c d : ℕ) → a < 2 → b < 2 → c < 2 → d < 2 → IsMultiple (tooth_sum a b c d) (weight a b c d)
unfolding tooth_sum
tooth_sum_multiple zero zero zero zero p q r s = tooth_none
tooth_sum_multiple (suc zero) zero zero zero p q r s = tooth_a
tooth_sum_multiple zero (suc zero) zero zero p q r s = tooth_b
tooth_sum_multiple (suc zero) (suc zero) zero zero p q r s = tooth_ab
tooth_sum_multiple zero zero (suc zero) zero p q r s = tooth_c
tooth_sum_multiple (suc zero) zero (suc zero) zero p q r s = tooth_ac
tooth_sum_multiple zero (suc zero) (suc zero) zero p q r s = tooth_bc
tooth_sum_multiple (suc zero) (suc zero) (suc zero) zero p q r s = tooth_abc
tooth_sum_multiple zero zero zero (suc zero) p q r s = tooth_d
tooth_sum_multiple (suc zero) zero zero (suc zero) p q r s = tooth_ad
tooth_sum_multiple zero (suc zero) zero (suc zero) p q r s = tooth_bd
tooth_sum_multiple (suc zero) (suc zero) zero (suc zero) p q r s = tooth_abd
tooth_sum_multiple zero zero (suc zero) (suc zero) p q r s = tooth_cd
tooth_sum_multiple (suc zero) zero (suc zero) (suc zero) p q r s = tooth_acd
tooth_sum_multiple zero (suc zero) (suc zero) (suc zero) p q r s = tooth_bcd
tooth_sum_multiple (suc zero) (suc zero) (suc zero) (suc zero) p q r s = tooth_abcd
tooth_sum_multiple (suc (suc a)) b c d p q r s = absurd (omega arith)
tooth_sum_multiple a (suc (suc b)) c d p q r s = absurd (omega arith)
tooth_sum_multiple a b (suc (suc c)) d p q r s = absurd (omega arith)
tooth_sum_multiple a b c (suc (suc d)) p q r s = absurd (omega arith)
