use Rattle.std.proofs.Common.{◌≡◌, ℕ, ◌<◌, ◌+◌, ◌-◌, ◌*◌, ◌/◌, ◌%◌, slice_index, subst, ap₂, ◌∙◌, inl, inr, arith}
use Rattle.std.proofs.lemmas.Bool.{cases_lt}
use Rattle.ciphers.specs.AesGcm.Rows.{lane}
use Rattle.ciphers.specs.AesGcm.Same.{lane_of}
use Rattle.ciphers.specs.AesGcm.SameBytes.{number_of}
use Rattle.ciphers.proofs.AesGcmLemmas.KeyStream.{half}
use Rattle.ciphers.proofs.aes_gcm.key_stream.fill.Goals as goal

pub returns-clause-bytes : goal.returns-clause-bytes
returns-clause-bytes c k keys i h =
    let n : ℕ = c.args.n in
    let nonce = c.args.nonce.now in
    let v = c.counter_vectors-blocks.result in
    let t = c.encrypted_vectors.result in
    let number : ℕ → ℕ → ℕ = λ (l j : ℕ). number_of (lane t l) j in
    let put : slice_index c.put_blocks.new.bytes i ≡ number (lane_of (i % 16)) (i / 16) = c.put_blocks.ensures.bytes i h in
    let fits : number (lane_of (i % 16)) (i / 16) < 256 = subst (λ (x : ℕ). x < 256) put (c.type_inv.bytes i).fits in
    elim (cases_lt i 64) [
      | inl below ↦
          let l : lane_of (i % 16) ≡ lane_of i = omega arith in
          let j : i / 16 ≡ 0 + i / 16 = omega arith in
          let e : number (lane_of (i % 16)) (i / 16) ≡ number (lane_of i) (0 + i / 16) = ap₂ number l j in
          put ∙ e
          ∙ half 0 (2 * n) (8 * n + 1) k nonce v t (omega arith) (omega arith) c.fits-nonce c.counter_vectors-blocks.ensures.lanes
          (λ w s. c.encrypted_vectors.ensures.bytes 0 k.schedule w (omega arith) keys.first s) i (128 * n + i) below (subst (λ (x : ℕ). x < 256) e fits) (omega arith)
      | inr above ↦
          let m : ℕ = i - 64 in
          let l : lane_of (i % 16) ≡ lane_of m = omega (arith, above) in
          let j : i / 16 ≡ 4 + m / 16 = omega (arith, above) in
          let e : number (lane_of (i % 16)) (i / 16) ≡ number (lane_of m) (4 + m / 16) = ap₂ number l j in
          put ∙ e
          ∙ half 4 (2 * n + 1) (8 * n + 1) k nonce v t (omega arith) (omega arith) c.fits-nonce c.counter_vectors-blocks.ensures.lanes
          (λ w s. c.encrypted_vectors.ensures.bytes 4 k.schedule w (omega arith) keys.second s) m (128 * n + i) (omega (arith, h)) (subst (λ (x : ℕ). x < 256) e fits) (omega (arith, above))
    ]
