use Rattle.std.proofs.Common.{ℕ, ◌<◌, length, slice_index, arith}
use Rattle.std.proofs.Math.Facts.{Fits-lt-pow}
use Rattle.ciphers.specs.Ed25519.Scalar.{number}
use Rattle.ciphers.proofs.Ed25519Lemmas.Products.{no_bytes, one_byte}
use Rattle.ciphers.proofs.ed25519.scalar.times.Goals as goal

pub loop-i-init : goal.loop-i-init
loop-i-init c =
    let fits : (i : ℕ) → slice_index c.args.bytes.now i < 256 = λ i. Fits-lt-pow (c.type_inv.bytes i) in
    (no_bytes c.args.bytes.now (number c.args.s) fits, omega arith)

pub loop-i-preserved : goal.loop-i-preserved
loop-i-preserved c =
    let fits : (i : ℕ) → slice_index c.args.bytes.now i < 256 = λ i. Fits-lt-pow (c.type_inv.bytes i) in (
      one_byte c.args.bytes.now (length c.args.bytes.now) c.loop-i.i (number c.args.s) (number c.loop-i.product) (number c.with_byte-product.result)
          fits c.loop-i-test.true c.loop-i.invariant.0 c.with_byte-product.ensures.value,
      c.with_byte-product.ensures.below,
    )
