use Rattle.std.proofs.Common.{◌≡◌, ℕ, ◌<◌, ◌+◌, ◌-◌, ◌*◌, ◌/◌, ◌%◌, bit_xor, length, slice_index, sym, refl, ap, ap₂, ◌∙◌, inl, inr, arith}
use Rattle.std.proofs.lemmas.Bool.{cases_lt}
use Rattle.ciphers.specs.declared.aes_gcm.gcm.KeyParts.{KeyParts}
use Rattle.ciphers.specs.AesGcm.Gcm.{stream}
use Rattle.ciphers.proofs.AesGcmLemmas.KeyStream.{masked_from_bytes}
use Rattle.ciphers.proofs.aes_gcm.gcm.GcmKey.mask.Goals as goal
use Rattle.ciphers.proofs.aes_gcm.gcm.GcmKey.mask.Goals.{then-block-eq0, else-block-eq0}

pub loop-i-init : goal.loop-i-init
loop-i-init c = record {
  fresh = λ k h. c.fill.ensures.bytes c.self.inside.parts c.self.invariant.keys k h ∙ ap (λ (p : KeyParts). stream p c.args.nonce.now (0 + k)) c.self.view_is;
  full = c.fill.ensures.long;
  done = λ k h l. absurd (omega (arith, h));
  rest = λ k h. refl;
  long = refl;
}

pub loop-i-preserved : goal.loop-i-preserved
loop-i-preserved c =
    let i : ℕ = c.loop-i.i in
    let f : ℕ → ℕ = stream c.args.self.now c.args.nonce.now in
    let text = c.loop-i.text in
    let old = c.args.text.now in
    let bytes = c.if-block-eq0.bytes in
    let fresh : (k : ℕ) → k < 128 → slice_index bytes k ≡ f (128 * ((i + 1) / 8) + k) = elim c.if-block-eq0.branch [
      | then-block-eq0 w ↦ λ k h. ap (λ l. slice_index l k) w.bytes-is ∙ w.fill-then-block-eq0.ensures.bytes c.self.inside.parts c.self.invariant.keys k h
          ∙ ap (λ (p : KeyParts). stream p c.args.nonce.now (128 * ((i + 1) / 8) + k)) c.self.view_is
      | else-block-eq0 w ↦ λ k h.
          let same : 128 * (i / 8) + k ≡ 128 * ((i + 1) / 8) + k = omega (arith, w.if-block-eq0.false) in
          ap (λ l. slice_index l k) w.bytes-is ∙ c.loop-i.invariant.fresh k h ∙ ap f same
    ] in
    let full : length bytes ≡ 128 = elim c.if-block-eq0.branch [
      | then-block-eq0 w ↦ ap length w.bytes-is ∙ w.fill-then-block-eq0.ensures.long
      | else-block-eq0 w ↦ ap length w.bytes-is ∙ c.loop-i.invariant.full
    ] in
    record {
      fresh = fresh;
      full = full;
      done = λ k h fits. elim (cases_lt k (16 * i)) [
        | inl below ↦ c.add_block.ensures.before k below ∙ c.loop-i.invariant.done k below fits
        | inr above ↦
            let j : ℕ = k - 16 * i in
            let place : 16 * i + j ≡ k = omega (arith, above) in
            let at : 128 * ((i + 1) / 8) + (16 * ((i + 1) % 8) + j) ≡ 16 + k = omega (arith, above) in
            let from : ℕ = 16 * ((i + 1) % 8) in
            let here : slice_index c.add_block.new.text (16 * i + j) ≡ bit_xor (slice_index text (16 * i + j)) (slice_index bytes (from + j)) =
            c.add_block.ensures.here j (omega (arith, h, above)) (omega (arith, fits, place, c.loop-i.invariant.long)) in
            ap (slice_index c.add_block.new.text) (sym place) ∙ here
            ∙ ap₂ bit_xor (ap (slice_index text) place ∙ c.loop-i.invariant.rest k above) (fresh (from + j) (omega (arith, h, above)) ∙ ap f at)
      ];
      rest = λ k h. c.add_block.ensures.after k (omega (arith, h)) ∙ c.loop-i.invariant.rest k (omega (arith, h));
      long = c.add_block.ensures.long ∙ c.loop-i.invariant.long;
    }

pub returns : goal.returns
returns c = masked_from_bytes (stream c.args.self.now c.args.nonce.now) 16 c.args.text.now c.loop-i.text c.loop-i.invariant.long
    (λ k h. c.loop-i.invariant.done k (omega (arith, h, c.loop-i-test.false, c.loop-i.auto.text)) h)
