use Rattle.std.proofs.Common.{◌≡◌, ℕ, length, ◌+◌, ◌*◌, get_or, ap, ◌∙◌, inl, inr, arith}
use Rattle.std.proofs.lemmas.Bool.{cases_lt}
use Rattle.std.proofs.lemmas.Simd.{get_or-put_chunk_at, get_or-put_chunk_below, length-put_chunk}
use Rattle.ciphers.proofs.aes_gcm.table.turn.Goals as goal

pub loop-j-preserved : goal.loop-j-preserved
loop-j-preserved c =
    let old = c.loop-j.all in
    let x = c.row.result in
    let j : ℕ = c.loop-j.j in
    let b = c.args.bytes.now in
    record {
      done = λ i k h lt. ap (λ l. get_or l (16 * k + i) 0) c.store.ensures ∙ elim (cases_lt k j) [
        | inl below ↦ get_or-put_chunk_below (16 * j) old x (16 * k + i) 0 (omega arith) ∙ c.loop-j.invariant.done i k h below
        | inr above ↦
            let e : k ≡ j = omega arith in
            let p : j + 16 * i ≡ 16 * i + j = omega arith in
            rw e (get_or-put_chunk_at (16 * j) old x i 0 (omega (arith, c.row.ensures.long)) (omega (arith, c.row.ensures.long, c.loop-j.invariant.long)) ∙ c.row.ensures.lanes i h ∙ ap (λ n. get_or b n 0) p)
      ];
      long = ap length c.store.ensures ∙ length-put_chunk (16 * j) old x ∙ c.loop-j.invariant.long;
    }
