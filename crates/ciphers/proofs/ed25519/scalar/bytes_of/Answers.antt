use Rattle.std.proofs.Common.{◌≡◌, ◌/◌, ◌%◌, ◌^◌, refl, arith}
use Rattle.ciphers.specs.X25519.Bytes.{le_bytes}
use Rattle.ciphers.specs.Ed25519.Scalar.{number}
use Rattle.ciphers.proofs.ed25519.scalar.bytes_of.Goals as goal

pub returns : goal.returns
unfolding le_bytes
returns c =
    let s = c.args.s in
    let a : number s % 2 ^ 64 ≡ s.a = omega arith in
    let b : number s / 2 ^ 64 % 2 ^ 64 ≡ s.b = omega arith in
    let d : number s / 2 ^ 128 % 2 ^ 64 ≡ s.c = omega arith in
    let e : number s / 2 ^ 192 % 2 ^ 64 ≡ s.d = omega arith in
    rw (a, b, d, e, c.to_le_bytes-v.ensures, c.to_le_bytes-w.ensures, c.to_le_bytes-x.ensures, c.to_le_bytes-y.ensures) refl
