use Rattle.std.proofs.Common.{◌≡◌, ℕ, length, ◌+◌, ◌*◌, get_or, ap, ◌∙◌, inl, inr, arith}
use Rattle.std.proofs.lemmas.Bool.{cases_lt}
use Rattle.std.proofs.lemmas.Simd.{get_or-put_chunk_at, get_or-put_chunk_below, get_or-replicate, length-put_chunk}
use Rattle.ciphers.specs.AesGcm.Streams.{byte_in, sum_of}
use Rattle.ciphers.proofs.aes_gcm.table.multiply.Goals as goal

pub loop-j-preserved : goal.loop-j-preserved
loop-j-preserved c =
    let old = c.loop-j.products in
    let x = c.times.result in
    let t = c.args.table.now in
    let j : ℕ = c.loop-j.j in
    record {
      done = λ i k h lt. ap (λ l. get_or l (16 * k + i) 0) c.store.ensures ∙ elim (cases_lt k j) [
        | inl below ↦ get_or-put_chunk_below (16 * j) old x (16 * k + i) 0 (omega arith) ∙ c.loop-j.invariant.done i k h below
        | inr above ↦
            let e : k ≡ j = omega arith in
            rw e (get_or-put_chunk_at (16 * j) old x i 0 (omega (arith, c.times.ensures.long)) (omega (arith, c.times.ensures.long, c.loop-j.invariant.long)) ∙ c.times.ensures.lanes i h
            ∙ ap (λ (b : ℕ). sum_of t (byte_in c.args.columns.now i) (16 * j) b 16) (get_or-replicate 16 i 0 0 h))
      ];
      long = ap length c.store.ensures ∙ length-put_chunk (16 * j) old x ∙ c.loop-j.invariant.long;
    }
