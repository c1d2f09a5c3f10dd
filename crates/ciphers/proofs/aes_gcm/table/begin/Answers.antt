use Rattle.std.proofs.Common.{◌≢◌, ℕ, zero, suc, ◌+◌, ◌*◌, slice_index, sym, ap, ◌∙◌, arith}
use Rattle.ciphers.specs.declared.aes_gcm.ghash.Element.{Element}
use Rattle.ciphers.specs.AesGcm.Streams.{byte_in}
use Rattle.ciphers.specs.AesGcm.Tables.{bytes_of, plus}
use Rattle.ciphers.proofs.AesGcmLemmas.Blocks.{element_at}
use Rattle.ciphers.proofs.AesGcmLemmas.Tables.{element_below_16, element_of_bytes, place_below_16}
use Rattle.ciphers.proofs.aes_gcm.table.begin.Goals as goal

pub returns-clause-turned : goal.returns-clause-turned
returns-clause-turned c zero h =
    let new = c.put_column.new.table in
    let x : Element = c.whole-with_sum.result in
    element_below_16 (byte_in new 0) (slice_index (bytes_of x)) (λ j k. ap (slice_index new) (place_below_16 0 j h) ∙ c.put_column.ensures.here j k)
    ∙ element_of_bytes x c.whole-with_sum.ensures.word
    ∙ c.whole-with_sum.ensures.same
    ∙ ap (plus c.args.sum) c.block_at-first.ensures
returns-clause-turned c (suc l) h =
    let new = c.put_column.new.table in
    let old = c.turn.new.all in
    let b = c.args.bytes.now in
    let ne : suc l ≢ 0 = λ e. omega (arith, e) in
    element_below_16 (byte_in new (suc l)) (λ (j : ℕ). slice_index b (16 * suc l + j))
    (λ j k. ap (slice_index new) (place_below_16 (suc l) j h) ∙ c.put_column.ensures.additional (suc l) j ne k ∙ ap (slice_index old) (sym (place_below_16 (suc l) j h)) ∙ c.turn.ensures.bytes (suc l) j h k)
    ∙ element_at b (suc l)
