use Rattle.std.proofs.Common.{ℕ, ◌+◌, ◌*◌, get_or, length, ap, ◌∙◌, arith}
use Rattle.std.proofs.lemmas.Simd.{get_or-put_chunk_above, get_or-put_chunk_at, get_or-put_chunk_below, length-put_chunk}
use Rattle.ciphers.proofs.aes_gcm.key_stream.put_block.Goals as goal

pub returns : goal.returns
returns c =
    let old = c.args.bytes.now in
    let x = c.in_columns.result in
    let k : ℕ = c.args.k in
    let long = c.in_columns.ensures.long in
    record {
      here = λ i h. ap (λ l. get_or l (16 * k + i) 0) c.store.ensures
          ∙ get_or-put_chunk_at (16 * k) old x i 0 (omega (arith, long)) (omega (arith, long, c.requires.bytes)) ∙ c.in_columns.ensures.lanes i h;
      before = λ i h. ap (λ l. get_or l i 0) c.store.ensures ∙ get_or-put_chunk_below (16 * k) old x i 0 h;
      after = λ i h. ap (λ l. get_or l i 0) c.store.ensures ∙ get_or-put_chunk_above (16 * k) old x i 0 (omega (arith, long));
      long = ap length c.store.ensures ∙ length-put_chunk (16 * k) old x;
    }
