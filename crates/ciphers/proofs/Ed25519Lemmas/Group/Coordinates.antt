-- Points whose coordinates are terms.
use Rattle.std.proofs.Common.{ℕ, ◌+◌}
use Rattle.ciphers.specs.Ed25519.Point as point
use Rattle.ciphers.proofs.Ed25519Lemmas.Group.Identities.{Fact, Term, number, variable, ◌⊕◌, ◌⊖◌, ◌⊗◌}

pub record Coordinates : Type 0 where
  pub x : Term
  pub y : Term
  pub z : Term
  pub t : Term

-- the four variables from this place on
abbrev pub variables : ℕ → Coordinates
variables n = record { x = variable n; y = variable (n + 1); z = variable (n + 2); t = variable (n + 3) }

abbrev pub d : Term
d = number point.d

abbrev pub one : Term
one = number 1

abbrev pub opposite : Term → Term
opposite a = number 0 ⊖ a

-- ---- a sum

-- the four products that it is made of
abbrev pub less : (p q : Coordinates) → Term
less p q = (p.y ⊖ p.x) ⊗ (q.y ⊖ q.x)

abbrev pub more : (p q : Coordinates) → Term
more p q = (p.y ⊕ p.x) ⊗ (q.y ⊕ q.x)

abbrev pub twisted : (p q : Coordinates) → Term
twisted p q = p.t ⊗ (d ⊕ d) ⊗ q.t

abbrev pub twice : (p q : Coordinates) → Term
twice p q = p.z ⊗ (q.z ⊕ q.z)

-- the four factors of its coordinates
abbrev pub factor_e : (p q : Coordinates) → Term
factor_e p q = more p q ⊖ less p q

abbrev pub factor_f : (p q : Coordinates) → Term
factor_f p q = twice p q ⊖ twisted p q

abbrev pub factor_g : (p q : Coordinates) → Term
factor_g p q = twice p q ⊕ twisted p q

abbrev pub factor_h : (p q : Coordinates) → Term
factor_h p q = more p q ⊕ less p q

abbrev pub sum_of : (p q : Coordinates) → Coordinates
sum_of p q = record {
  x = factor_e p q ⊗ factor_f p q;
  y = factor_g p q ⊗ factor_h p q;
  z = factor_f p q ⊗ factor_g p q;
  t = factor_e p q ⊗ factor_h p q;
}

abbrev pub multiple_of : Term → Coordinates → Coordinates
multiple_of k p = record { x = k ⊗ p.x; y = k ⊗ p.y; z = k ⊗ p.z; t = k ⊗ p.t }

-- ---- the equations of a point

-- that t is x y / z
abbrev pub product_times : Term → Coordinates → Fact
product_times k p = record { factor = k; left = p.x ⊗ p.y; right = p.z ⊗ p.t }

-- that of the curve
abbrev pub curve_left : Coordinates → Term
curve_left p = p.y ⊗ p.y ⊖ p.x ⊗ p.x

abbrev pub curve_right : Coordinates → Term
curve_right p = p.z ⊗ p.z ⊕ d ⊗ (p.t ⊗ p.t)

abbrev pub curve_times : Term → Coordinates → Fact
curve_times k p = record { factor = k; left = curve_left p; right = curve_right p }

-- ---- three points whose z is 1, by six variables

abbrev pub flat_term : Term → Term → Coordinates
flat_term x y = record { x = x; y = y; z = one; t = x ⊗ y }

abbrev pub first : Coordinates
first = flat_term (variable 0) (variable 1)

abbrev pub second : Coordinates
second = flat_term (variable 2) (variable 3)

abbrev pub third : Coordinates
third = flat_term (variable 4) (variable 5)
