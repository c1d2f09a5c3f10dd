-- X25519 (RFC 7748 section 5) by the Montgomery ladder, over the numbers below the prime.
use Rattle.std.specs.Prelude.{ℕ, zero, suc, ◌-◌, ◌%◌, ◌^◌, ◌≤◌, List, ◌∷◌, Option, Some, None}
use Rattle.std.specs.Prelude.{if◌then◌else◌, bit_and, bit_or, bit_xor, nat_eq, replicate, slice_index, slice_set}
use Rattle.std.specs.Cmp.Lexicographic.{pointwise}
use Rattle.ciphers.specs.declared.x25519.field.Element.{Element}
use Rattle.ciphers.specs.declared.x25519.curve.Ladder.{Ladder}
use Rattle.ciphers.specs.X25519.Bytes.{bit_of, le_bytes, value}
use Rattle.ciphers.specs.X25519.Field.{IsTight, picked, prime, residue}
use Rattle.ciphers.specs.X25519.Residues.{minus, plus, power, times}

abbrev pub zero_element : Element
zero_element = record { a = 0; b = 0; c = 0; d = 0; e = 0 }

abbrev pub one_element : Element
one_element = record { a = 1; b = 0; c = 0; d = 0; e = 0 }

-- the scalar of a secret
abbrev pub clamped : List ℕ → List ℕ
clamped scalar =
    let low = slice_set scalar 0 (bit_and (slice_index scalar 0) 248) in
    slice_set low 31 (bit_or (bit_and (slice_index scalar 31) 127) 64)

-- the invariant on each rung
pub record IsRung (l : Ladder) : Type 0 where
  pub x2 : IsTight l.x2
  pub z2 : IsTight l.z2
  pub x3 : IsTight l.x3
  pub z3 : IsTight l.z3
  pub swap : l.swap ≤ 1

-- Two points of the ladder as four numbers, and whether they stand swapped.
pub record Rungs : Type 0 where
  pub x2 : ℕ
  pub z2 : ℕ
  pub x3 : ℕ
  pub z3 : ℕ
  pub swap : ℕ

-- the numbers that the elements of a ladder stand for
abbrev pub numbers : Ladder → Rungs
numbers l = record { x2 = residue l.x2; z2 = residue l.z2; x3 = residue l.x3; z3 = residue l.z3; swap = l.swap }

-- one step (section 5), where 121665 is (A - 2) / 4 of the curve's A
unfoldable pub step : Rungs → ℕ → ℕ → Rungs
step l x1 bit =
    let swap : ℕ = bit_xor l.swap bit in
    let x2 : ℕ = picked swap l.x2 l.x3 in
    let x3 : ℕ = picked swap l.x3 l.x2 in
    let z2 : ℕ = picked swap l.z2 l.z3 in
    let z3 : ℕ = picked swap l.z3 l.z2 in
    let a : ℕ = plus x2 z2 in
    let aa : ℕ = times a a in
    let b : ℕ = minus x2 z2 in
    let bb : ℕ = times b b in
    let e : ℕ = minus aa bb in
    let da : ℕ = times (minus x3 z3) a in
    let cb : ℕ = times (plus x3 z3) b in
    let s : ℕ = plus da cb in
    let d : ℕ = minus da cb in
    record {
      x2 = times aa bb;
      z2 = times e (plus aa (times e 121665));
      x3 = times s s;
      z3 = times x1 (times d d);
      swap = bit;
    }

-- the first rungs of the ladder, from the bit 254 down
unfoldable pub rungs : List ℕ → ℕ → ℕ → Rungs
rungs k x1 zero = record { x2 = 1; z2 = 0; x3 = x1; z3 = 1; swap = 0 }
rungs k x1 (suc n) = step (rungs k x1 n) x1 (bit_of k (254 - n))

-- the number of the 255 low bits of a point's bytes, below the prime
abbrev pub u_of : List ℕ → ℕ
u_of point = value point % 2 ^ 255 % prime

-- x2 / z2, after a last swap
unfoldable pub u_at : Rungs → ℕ
u_at l = times (picked l.swap l.x2 l.x3) (power (picked l.swap l.z2 l.z3) (prime - 2))

unfoldable pub x25519 : List ℕ → List ℕ → List ℕ
x25519 scalar point = le_bytes (u_at (rungs (clamped scalar) (u_of point) 255))

-- the base point, whose u is 9
abbrev pub base_point : List ℕ
base_point = 9 ∷ replicate 31 0

-- the shared bytes, if they are not zero
abbrev pub shared_of : List ℕ → List ℕ → Option (List ℕ)
shared_of secret theirs =
    if pointwise nat_eq (x25519 secret theirs) (replicate 32 0) then None else Some (x25519 secret theirs)
