use Rattle.std.proofs.Common.{◌≡◌, ◌-◌, ◌<◌, length}
use Rattle.ciphers.specs.Ed25519.Scalar.{number, order}
use Rattle.ciphers.proofs.Ed25519Lemmas.Products.{product_from}
use Rattle.ciphers.proofs.ed25519.scalar.times.Given as goal

abbrev pub invariant-loop-i : goal.invariant-loop-i
invariant-loop-i l = (number l.product ≡ product_from l.bytes (length l.bytes - l.i) (number l.s)) × (number l.product < order)
