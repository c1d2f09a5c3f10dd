use Rattle.std.proofs.Common.{ℕ, ◌+◌, ◌*◌, slice_index, refl, sym, ◌∙◌}
use Rattle.ciphers.specs.AesGcm.Streams.{byte_in, stream}
use Rattle.ciphers.proofs.AesGcmLemmas.StreamLanes.{one_step, same_sum}
use Rattle.ciphers.proofs.aes_gcm.streams.gather.Goals as goal

pub loop-n-init : goal.loop-n-init
unfolding stream
loop-n-init c = record { bytes = λ i j h k. refl; long = c.requires.all }

pub loop-n-preserved : goal.loop-n-preserved
loop-n-preserved c =
    let t = c.args.table.now in
    let n : ℕ = c.loop-n.n in
    let b = c.args.bytes.now in
    let first = byte_in c.args.all.now in
    record {
      bytes = λ i j h k. c.step.ensures.bytes i j h k
          ∙ same_sum t (byte_in c.loop-n.all i) (stream t first b n i) (16 * j) (slice_index b (256 * n + j + 16 * i)) 16 (λ m lt. c.loop-n.invariant.bytes i m h lt)
          ∙ sym (one_step t first b n i j);
      long = c.step.ensures.long;
    }
