-- The numbers that constant elements stand for.
use Rattle.std.proofs.Common.{◌≡◌, ℕ, ◌<◌, refl, ◌∙◌, arith}
use Rattle.std.proofs.Math.Nat.{mod-eq_of_lt}
use Rattle.ciphers.specs.declared.x25519.field.Element.{Element}
use Rattle.ciphers.specs.X25519.Field.{number, prime, residue}
use Rattle.ciphers.specs.X25519.Residues.{minus, plus, times}
use Rattle.ciphers.specs.Ed25519.Encoding.{root_of_minus_one}
use Rattle.ciphers.specs.Ed25519.Point.{base_x, base_y}
use Rattle.ciphers.specs.Ed25519.Point as point

pub zero : residue (record { a = 0; b = 0; c = 0; d = 0; e = 0 }) ≡ 0
unfolding residue
zero = refl

pub one : residue (record { a = 1; b = 0; c = 0; d = 0; e = 0 }) ≡ 1
unfolding residue
one = refl

pub twice_d : residue (record { a = 1859910466990425; b = 932731440258426; c = 1072319116312658; d = 1815898335770999; e = 633789495995903 }) ≡ plus point.d point.d
unfolding residue plus
twice_d = refl

pub d : residue (record { a = 929955233495203; b = 466365720129213; c = 1662059464998953; d = 2033849074728123; e = 1442794654840575 }) ≡ point.d
unfolding residue
d = refl

pub root : residue (record { a = 1718705420411056; b = 234908883556509; c = 2233514472574048; d = 2117202627021982; e = 765476049583133 }) ≡ root_of_minus_one
unfolding residue
root = refl

pub ruleset roots = (one, d, root)

pub small_residue : (x : Element) (n : ℕ) → number x ≡ n → n < prime → residue x ≡ n
unfolding residue
small_residue x n e h = mod-eq_of_lt (omega arith) ∙ e

pub d_is : times point.d 121666 ≡ minus 0 121665
unfolding times minus
d_is = refl

pub on_curve : minus (times base_y base_y) (times base_x base_x) ≡ plus 1 (times point.d (times (times base_x base_x) (times base_y base_y)))
unfolding times minus plus
on_curve = refl

pub y_is : times base_y 5 ≡ 4
unfolding times
y_is = refl

pub root_is : times root_of_minus_one root_of_minus_one ≡ minus 0 1
unfolding times minus
root_is = refl

pub ruleset curve_numbers = (d_is, on_curve, y_is, root_is)
