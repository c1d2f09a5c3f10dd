use Rattle.std.proofs.Common.{ℕ, slice_index, arith}
use Rattle.ciphers.specs.AesGcm.Ghash.{product}
use Rattle.ciphers.specs.AesGcm.Tables.{bytes_of, element_of, nibble}
use Rattle.ciphers.proofs.AesGcmLemmas.Basis.{first_spread, spread_more}
use Rattle.ciphers.proofs.aes_gcm.table.fill.Goals as goal

pub loop-g-preserved : goal.loop-g-preserved
loop-g-preserved c =
    let products : ℕ → ℕ → ℕ = λ (n j : ℕ). slice_index (bytes_of (product (element_of (nibble n)) c.args.key)) j in
    record {
      done = spread_more products c.loop-g.table c.put_places.new.table c.bit_products.new.products c.loop-g.g c.loop-g.invariant.done c.bit_products.ensures.bytes c.put_places.ensures.here c.put_places.ensures.before;
      long = c.put_places.ensures.long;
    }

pub returns : goal.returns
returns c = first_spread c.loop-g.table c.args.key c.requires.key c.loop-g.invariant.long (λ m j h. c.loop-g.invariant.done m j (omega (arith, h)))
