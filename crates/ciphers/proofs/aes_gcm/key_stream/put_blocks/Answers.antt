use Rattle.std.proofs.Common.{◌≡◌, ℕ, ◌<◌, ◌+◌, ◌*◌, ◌/◌, ◌%◌, slice_index, sym, ap, ◌∙◌, arith}
use Rattle.ciphers.specs.AesGcm.Rows.{lane}
use Rattle.ciphers.specs.AesGcm.Same.{lane_of}
use Rattle.ciphers.specs.AesGcm.SameBytes.{number_of}
use Rattle.ciphers.proofs.AesGcmLemmas.Transposed.{below_8}
use Rattle.ciphers.proofs.aes_gcm.key_stream.put_blocks.Goals as goal

pub returns : goal.returns
returns c = record {
  bytes = λ i h.
      let l : ℕ = i % 16 in
      let lh : l < 16 = omega arith in
      let kh : i / 16 < 8 = omega (arith, h) in
      let place : 16 * (i / 16) + l ≡ i = omega arith in
      let all = c.put_block-8.new.bytes in
      ap (slice_index all) (sym place)
      ∙ below_8 (λ (k : ℕ). slice_index all (16 * k + l) ≡ number_of (lane c.args.blocks (lane_of l)) k)
      (c.put_block-8.ensures.before (16 * 0 + l) (omega (arith, lh)) ∙ c.put_block-7.ensures.before (16 * 0 + l) (omega (arith, lh)) ∙ c.put_block-6.ensures.before (16 * 0 + l) (omega (arith, lh)) ∙ c.put_block-5.ensures.before (16 * 0 + l) (omega (arith, lh)) ∙ c.put_block-4.ensures.before (16 * 0 + l) (omega (arith, lh)) ∙ c.put_block-3.ensures.before (16 * 0 + l) (omega (arith, lh)) ∙ c.put_block-2.ensures.before (16 * 0 + l) (omega (arith, lh)) ∙ c.put_block.ensures.here l lh)
      (c.put_block-8.ensures.before (16 * 1 + l) (omega (arith, lh)) ∙ c.put_block-7.ensures.before (16 * 1 + l) (omega (arith, lh)) ∙ c.put_block-6.ensures.before (16 * 1 + l) (omega (arith, lh)) ∙ c.put_block-5.ensures.before (16 * 1 + l) (omega (arith, lh)) ∙ c.put_block-4.ensures.before (16 * 1 + l) (omega (arith, lh)) ∙ c.put_block-3.ensures.before (16 * 1 + l) (omega (arith, lh)) ∙ c.put_block-2.ensures.here l lh)
      (c.put_block-8.ensures.before (16 * 2 + l) (omega (arith, lh)) ∙ c.put_block-7.ensures.before (16 * 2 + l) (omega (arith, lh)) ∙ c.put_block-6.ensures.before (16 * 2 + l) (omega (arith, lh)) ∙ c.put_block-5.ensures.before (16 * 2 + l) (omega (arith, lh)) ∙ c.put_block-4.ensures.before (16 * 2 + l) (omega (arith, lh)) ∙ c.put_block-3.ensures.here l lh)
      (c.put_block-8.ensures.before (16 * 3 + l) (omega (arith, lh)) ∙ c.put_block-7.ensures.before (16 * 3 + l) (omega (arith, lh)) ∙ c.put_block-6.ensures.before (16 * 3 + l) (omega (arith, lh)) ∙ c.put_block-5.ensures.before (16 * 3 + l) (omega (arith, lh)) ∙ c.put_block-4.ensures.here l lh)
      (c.put_block-8.ensures.before (16 * 4 + l) (omega (arith, lh)) ∙ c.put_block-7.ensures.before (16 * 4 + l) (omega (arith, lh)) ∙ c.put_block-6.ensures.before (16 * 4 + l) (omega (arith, lh)) ∙ c.put_block-5.ensures.here l lh)
      (c.put_block-8.ensures.before (16 * 5 + l) (omega (arith, lh)) ∙ c.put_block-7.ensures.before (16 * 5 + l) (omega (arith, lh)) ∙ c.put_block-6.ensures.here l lh)
      (c.put_block-8.ensures.before (16 * 6 + l) (omega (arith, lh)) ∙ c.put_block-7.ensures.here l lh)
      (c.put_block-8.ensures.here l lh)
      (i / 16) kh;
  long = c.put_block-8.ensures.long ∙ c.put_block-7.ensures.long ∙ c.put_block-6.ensures.long ∙ c.put_block-5.ensures.long ∙ c.put_block-4.ensures.long ∙ c.put_block-3.ensures.long ∙ c.put_block-2.ensures.long ∙ c.put_block.ensures.long ∙ c.requires.bytes;
}
