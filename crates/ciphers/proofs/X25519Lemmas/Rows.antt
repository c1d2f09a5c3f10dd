-- The rows of a product of an element with itself, each product of two different limbs made once.
use Rattle.std.proofs.Common.{◌≡◌, ◌+◌, ◌*◌, arith}
use Rattle.ciphers.specs.declared.x25519.field.Element.{Element}
use Rattle.ciphers.specs.X25519.Field as field

pub row_a : (x : Element) → x.a * x.a + 2 * (x.b * (x.e * 19)) + 2 * (x.c * (x.d * 19)) ≡ field.row_a x x
row_a x = omega arith

pub row_b : (x : Element) → 2 * (x.a * x.b) + 2 * (x.c * (x.e * 19)) + x.d * (x.d * 19) ≡ field.row_b x x
row_b x = omega arith

pub row_c : (x : Element) → 2 * (x.a * x.c) + x.b * x.b + 2 * (x.d * (x.e * 19)) ≡ field.row_c x x
row_c x = omega arith

pub row_d : (x : Element) → 2 * (x.a * x.d) + 2 * (x.b * x.c) + x.e * (x.e * 19) ≡ field.row_d x x
row_d x = omega arith

pub row_e : (x : Element) → 2 * (x.a * x.e) + 2 * (x.b * x.d) + x.c * x.c ≡ field.row_e x x
row_e x = omega arith
