-- No sum of two points has a z of zero, since d is no square.
use Rattle.std.proofs.Common.{◌≡◌, ℕ, ◌+◌, ◌-◌, ◌/◌, ◌<◌, ◌≢◌, List, [], ◌∷◌, refl, arith}
use Rattle.ciphers.specs.X25519.Field.{prime}
use Rattle.ciphers.specs.X25519.Residues.{minus, plus, times}
use Rattle.ciphers.specs.Ed25519.Encoding.{root_of_minus_one}
use Rattle.ciphers.specs.Ed25519.Point as point
use Rattle.ciphers.specs.Ed25519.Point.{added}
use Rattle.ciphers.proofs.Ed25519Lemmas.Group.Identities.{Fact, Hold, Term, Values, and, identity, meaning, minus_below, none, number, plus_below, ring, times_below, variable, ◌⊕◌, ◌⊖◌, ◌⊗◌}
use Rattle.ciphers.proofs.Ed25519Lemmas.Group.Points.{IsField}
use Rattle.ciphers.proofs.Ed25519Lemmas.Group.Coordinates.{curve_left, curve_times, d, factor_f, factor_g, first, one, opposite, second}
use Rattle.ciphers.proofs.Ed25519Lemmas.Group.Flat.{IsFlat, flat, nonzero_product, small_zero}

-- one half, and a square root of -1
abbrev half : Term
half = number (prime / 2 + 1)

abbrev i : Term
i = number root_of_minus_one

-- 1 or -1
abbrev sign : Term
sign = variable 4

-- With one of the signs it would be 1, where a sum's z were zero.
abbrev signed : Term → Term
signed s = s ⊗ (d ⊗ first.t ⊗ second.t)

-- d times the squares of both would be squares
abbrev plus_root : Term
plus_root = first.t ⊗ (i ⊗ second.x ⊕ second.y)

abbrev minus_root : Term
minus_root = first.t ⊗ (i ⊗ second.x ⊖ second.y)

-- why they would, by either square root of -1
abbrev facts : Term → List Fact
facts root =
    let k : Term = curve_left first in
    let c : Term = curve_left second in
    let t : Term = first.t in
    let s : Term = second.t ⊗ sign in
    curve_times (c ⊖ d ⊗ s ⊗ s) first
    ∷ curve_times (sign ⊗ sign ⊗ (one ⊖ k)) second
    ∷ record { factor = opposite (signed sign ⊕ (t ⊕ t) ⊗ sign ⊗ root ⊕ one); left = signed sign; right = one }
    ∷ record { factor = (d ⊕ d) ⊗ t ⊗ t ⊗ second.t ⊗ root ⊕ k ⊗ c ⊕ first.x ⊗ first.x ⊖ c ⊕ one; left = sign ⊗ sign; right = one }
    ∷ []

no_square : (f : IsField) (u v : ℕ) → v < prime → times u u ≡ times point.d (times v v) → v ≡ 0
no_square f u v b e = small_zero v b (f.d_is_no_square u v e)

one_is_not_zero : ◌≡◌ {A = ℕ} 1 0 → ⊥
one_is_not_zero e = omega arith

module _ (f : IsField) (a b u v s : ℕ) (p : IsFlat a b) (q : IsFlat u v) (below : s < prime) (unit : times s s ≡ 1)
    (h : times s (times (times point.d (times a b)) (times u v)) ≡ 1) where
  values : Values
  values = and a p.x (and b p.y (and u q.x (and v q.y (and s below none))))

  plus_zero : times (times a b) (plus (times root_of_minus_one u) v) ≡ 0
  unfolding values
  plus_zero =
      let side : Term = i ⊗ first.x ⊕ sign ⊗ first.y in
      let given : Hold values.list (facts i) = (p.curve, (q.curve, (h, (unit, tt)))) in
      let squares = identity values (side ⊗ side) (d ⊗ (plus_root ⊗ plus_root)) (facts i) given refl in
      no_square f (meaning values.list side) (meaning values.list plus_root) (times_below _ _) squares

  minus_zero : times (times a b) (minus (times root_of_minus_one u) v) ≡ 0
  unfolding values
  minus_zero =
      let side : Term = i ⊗ first.x ⊖ sign ⊗ first.y in
      let given : Hold values.list (facts (opposite i)) = (p.curve, (q.curve, (h, (unit, tt)))) in
      let squares = identity values (side ⊗ side) (d ⊗ (minus_root ⊗ minus_root)) (facts (opposite i)) given refl in
      no_square f (meaning values.list side) (meaning values.list minus_root) (times_below _ _) squares

  impossible : ⊥
  unfolding values
  impossible =
      let k : Term = sign ⊗ d ⊗ second.x ⊗ half in
      let all : List Fact =
      record { factor = opposite one; left = signed sign; right = one }
      ∷ record { factor = k; left = plus_root; right = number 0 }
      ∷ record { factor = opposite k; left = minus_root; right = number 0 }
      ∷ [] in
      one_is_not_zero (identity values one (number 0) all (h, (plus_zero, (minus_zero, tt))) refl)

-- ---- the factors of a sum's z

module _ (f : IsField) (a b u v : ℕ) (p : IsFlat a b) (q : IsFlat u v) where
  four : Values
  four = and a p.x (and b p.y (and u q.x (and v q.y none)))

  f_some : meaning (a ∷ b ∷ u ∷ v ∷ []) (factor_f first second) ≢ 0
  unfolding four
  f_some e =
      let zero : Fact = record { factor = opposite half; left = factor_f first second; right = number 0 } in
      let given = identity four (signed one) one (zero ∷ []) (e, tt) refl in
      impossible f a b u v 1 p q (omega arith) (ring none (one ⊗ one) one refl) given

  g_some : meaning (a ∷ b ∷ u ∷ v ∷ []) (factor_g first second) ≢ 0
  unfolding four
  g_some e =
      let s : Term = number (prime - 1) in
      let zero : Fact = record { factor = opposite half; left = factor_g first second; right = number 0 } in
      let given = identity four (signed s) one (zero ∷ []) (e, tt) refl in
      impossible f a b u v (prime - 1) p q (omega arith) (ring none (s ⊗ s) one refl) given

  pub sum_some : (added (flat a b) (flat u v)).z ≢ 0
  unfolding added
  sum_some = nonzero_product f _ _ (minus_below _ _) (plus_below _ _) f_some g_some
