use Rattle.std.proofs.Common.{◌≡◌, ℕ, length, ◌+◌, ◌*◌, ◌/◌, ◌%◌, get_or, slice_index, subst, ap, ◌∙◌, inl, inr, arith}
use Rattle.std.proofs.lemmas.Bool.{cases_lt}
use lib.Lanes.{put_chunk}
use Rattle.std.proofs.lemmas.Simd.{get_or-put_chunk_at, get_or-put_chunk_below, length-put_chunk}
use Rattle.ciphers.specs.AesGcm.Tables.{sum_at}
use Rattle.ciphers.proofs.AesGcmLemmas.Basis.{sum_at_same}
use Rattle.ciphers.proofs.aes_gcm.table.put_places.Goals as goal

pub loop-s-preserved : goal.loop-s-preserved
loop-s-preserved c =
    let old = c.loop-s.table in
    let x = c.sums.result in
    let s : ℕ = c.loop-s.s in
    let g : ℕ = c.args.g in
    let bits = c.args.bits.now in
    let at : ℕ = 16 * (s % 16) + 4 * (s / 16) in
    let zero : at ≡ at + 0 = omega arith in
    record {
      here = λ t i h lt. ap (λ l. get_or l (1024 * g + 16 * t + i) 0) c.store.ensures ∙ elim (cases_lt t s) [
        | inl below ↦ get_or-put_chunk_below (16 * (64 * g + s)) old x (1024 * g + 16 * t + i) 0 (omega arith) ∙ c.loop-s.invariant.here t i below lt
        | inr above ↦
            let e : s ≡ t = omega arith in
            let place : 1024 * g + 16 * s + i ≡ 16 * (64 * g + s) + i = omega arith in
            subst (λ (r : ℕ). get_or (put_chunk (16 * (64 * g + s)) old x) (1024 * g + 16 * r + i) 0 ≡ sum_at (λ (b : ℕ). slice_index bits (16 * (r % 16) + 4 * (r / 16) + b)) i) e
            (ap (λ n. get_or (put_chunk (16 * (64 * g + s)) old x) n 0) place
            ∙ get_or-put_chunk_at (16 * (64 * g + s)) old x i 0 (omega (arith, c.sums.ensures.long)) (omega (arith, c.sums.ensures.long, c.loop-s.invariant.long))
            ∙ c.sums.ensures.lanes i lt ∙ sum_at_same (λ (b : ℕ). slice_index bits (at + b)) i (slice_index bits at) (ap (slice_index bits) zero))
      ];
      before = λ i h. ap (λ l. get_or l i 0) c.store.ensures ∙ get_or-put_chunk_below (16 * (64 * g + s)) old x i 0 (omega (arith, h)) ∙ c.loop-s.invariant.before i h;
      long = ap length c.store.ensures ∙ length-put_chunk (16 * (64 * g + s)) old x ∙ c.loop-s.invariant.long;
    }
