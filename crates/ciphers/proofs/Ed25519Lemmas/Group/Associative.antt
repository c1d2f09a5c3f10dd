-- The sums of three points whose z is 1 are the same point, however they are grouped.
use Rattle.std.proofs.Common.{◌≡◌, ℕ, ◌<◌, List, [], ◌∷◌, refl}
use Rattle.ciphers.specs.X25519.Field.{prime}
use Rattle.ciphers.specs.Ed25519.Point.{added}
use Rattle.ciphers.proofs.Ed25519Lemmas.Group.Identities.{Fact, Term, Values, and, identity, meaning, meaning_below, none, number, variable, ◌⊕◌, ◌⊖◌, ◌⊗◌}
use Rattle.ciphers.proofs.Ed25519Lemmas.Group.Points.{AreSame}
use Rattle.ciphers.proofs.Ed25519Lemmas.Group.Coordinates.{Coordinates, curve_times, d, factor_e, factor_f, factor_g, factor_h, first, one, opposite, second, sum_of, third}
use Rattle.ciphers.proofs.Ed25519Lemmas.Group.Flat.{IsFlat, flat}

-- ---- what the equations of the points are multiplied by

-- the numerators of x and y of a sum, and what their denominators differ from 1 by
abbrev mixed : (p q : Coordinates) → Term
mixed p q = p.x ⊗ q.y ⊕ p.y ⊗ q.x

abbrev alike : (p q : Coordinates) → Term
alike p q = p.y ⊗ q.y ⊕ p.x ⊗ q.x

abbrev shift : (p q : Coordinates) → Term
shift p q = d ⊗ p.t ⊗ q.t

-- For an outer point, whose coordinates are x and y. They change places in the proof for y of the sum.
abbrev outer : (x y : Term) (p q : Coordinates) → Term
outer x y p q = shift p q ⊗ (x ⊗ alike p q ⊗ (one ⊕ shift p q) ⊖ y ⊗ mixed p q ⊗ (one ⊖ shift p q))

-- for the point between, and for one side of it
abbrev inner : (x y : Term) (p q : Coordinates) → Term
inner x y p q = x ⊗ y ⊗ (y ⊗ mixed p q ⊖ x ⊗ alike p q)

abbrev facts : (a b u v : Term) → List Fact
facts a b u v =
    let scale : Term = number 64 ⊗ d ⊗ d ⊗ first.t ⊗ second.t ⊗ third.t in
    curve_times (number 64 ⊗ outer a b second third) first
    ∷ curve_times (scale ⊗ (inner a b second third ⊖ inner u v first second)) second
    ∷ curve_times (opposite (number 64 ⊗ outer u v first second)) third
    ∷ []

-- ---- x / z and y / z of two sums, whose factors f and g are these

module _ (v : Values) (e f g a b c : Term) where
  of : (t : Term) → meaning v.list t < prime
  of t = meaning_below v.list t v.below

  six : Values
  six = and _ (of e) (and _ (of f) (and _ (of g) (and _ (of a) (and _ (of b) (and _ (of c) none)))))

  -- x / z is e / g
  same_x : meaning v.list (e ⊗ c) ≡ meaning v.list (a ⊗ g) → meaning v.list (e ⊗ f ⊗ (b ⊗ c)) ≡ meaning v.list (a ⊗ b ⊗ (f ⊗ g))
  unfolding six
  same_x s =
      let given : Fact = record { factor = variable 1 ⊗ variable 4; left = variable 0 ⊗ variable 5; right = variable 3 ⊗ variable 2 } in
      let left : Term = variable 0 ⊗ variable 1 ⊗ (variable 4 ⊗ variable 5) in
      identity six left (variable 3 ⊗ variable 4 ⊗ (variable 1 ⊗ variable 2)) (given ∷ []) (s, tt) refl

  -- y / z is h / f
  same_y : meaning v.list (e ⊗ b) ≡ meaning v.list (a ⊗ f) → meaning v.list (g ⊗ e ⊗ (b ⊗ c)) ≡ meaning v.list (c ⊗ a ⊗ (f ⊗ g))
  unfolding six
  same_y s =
      let given : Fact = record { factor = variable 2 ⊗ variable 5; left = variable 0 ⊗ variable 4; right = variable 3 ⊗ variable 1 } in
      let left : Term = variable 2 ⊗ variable 0 ⊗ (variable 4 ⊗ variable 5) in
      identity six left (variable 5 ⊗ variable 3 ⊗ (variable 1 ⊗ variable 2)) (given ∷ []) (s, tt) refl

-- ---- the sums

abbrev low : Coordinates
low = sum_of first second

abbrev high : Coordinates
high = sum_of second third

abbrev low_f : Term
low_f = factor_f low third

abbrev low_g : Term
low_g = factor_g low third

abbrev high_f : Term
high_f = factor_f first high

abbrev high_g : Term
high_g = factor_g first high

module _ (a b u v x y : ℕ) (p : IsFlat a b) (q : IsFlat u v) (r : IsFlat x y) where
  values : Values
  values = and a p.x (and b p.y (and u q.x (and v q.y (and x r.x (and y r.y none)))))

  pub flat_associates : AreSame (added (added (flat a b) (flat u v)) (flat x y)) (added (flat a b) (added (flat u v) (flat x y)))
  unfolding added values
  flat_associates =
      let e : Term = factor_e low third in
      let k : Term = factor_e first high in
      let h : Term = factor_h low third in
      let m : Term = factor_h first high in
      let by_x : List Fact = facts first.x first.y third.x third.y in
      let by_y : List Fact = facts first.y first.x third.y third.x in
      let x_numerators = identity values (e ⊗ high_g) (k ⊗ low_g) by_x (p.curve, (q.curve, (r.curve, tt))) refl in
      let y_numerators = identity values (h ⊗ high_f) (m ⊗ low_f) by_y (p.curve, (q.curve, (r.curve, tt))) refl in
      record { x = same_x values e low_f low_g k high_f high_g x_numerators; y = same_y values h low_f low_g m high_f high_g y_numerators }
