use Rattle.std.proofs.Common.{ℕ, ◌*◌, slice_index, ◌∙◌, arith}
use Rattle.ciphers.specs.AesGcm.Streams.{byte_in, sum_of}
use Rattle.ciphers.specs.AesGcm.Tables.{bit_column, place}
use Rattle.ciphers.proofs.AesGcmLemmas.Basis.{double_spread, spread_more}
use Rattle.ciphers.proofs.AesGcmLemmas.StreamLanes.{same_sum}
use Rattle.ciphers.proofs.aes_gcm.table.double.Goals as goal

pub loop-g-preserved : goal.loop-g-preserved
loop-g-preserved c =
    let t = c.args.from.now in
    let g : ℕ = c.loop-g.g in
    let products : ℕ → ℕ → ℕ = λ (n j : ℕ). sum_of t (λ (i : ℕ). slice_index t (place n i)) (16 * j) 0 16 in
    record {
      done = spread_more products c.loop-g.to c.put_places.new.table c.multiply.new.products g c.loop-g.invariant.done
          (λ l j h lt. c.multiply.ensures.bytes l j h lt
          ∙ same_sum t (byte_in c.bit_columns.new.columns l) (λ (i : ℕ). slice_index t (place (bit_column g l) i)) (16 * j) 0 16 (λ i ih. c.bit_columns.ensures.bytes l i h ih))
          c.put_places.ensures.here c.put_places.ensures.before;
      long = c.put_places.ensures.long;
    }

pub returns : goal.returns
returns c m k is = double_spread m c.args.from.now c.loop-g.to k (λ i. (c.type_inv.from i).fits) is c.loop-g.invariant.long (λ n j h. c.loop-g.invariant.done n j (omega (arith, h)))
