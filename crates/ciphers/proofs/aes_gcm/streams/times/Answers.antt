use Rattle.std.proofs.Common.{◌≡◌, ℕ, ◌+◌, ◌*◌, slice_index, bit_xor, refl, sym, ap, ◌∙◌, arith}
use Rattle.ciphers.specs.AesGcm.Streams.{byte_in, entry_of, sum_of}
use Rattle.ciphers.proofs.AesGcmLemmas.StreamLanes.{one_byte}
use Rattle.ciphers.proofs.aes_gcm.streams.times.Goals as goal

pub loop-i-init : goal.loop-i-init
unfolding sum_of
loop-i-init c = record { lanes = λ k h. refl; long = c.fits-first.0 }

pub loop-i-preserved : goal.loop-i-preserved
loop-i-preserved c = record {
  lanes = λ k h. c.more-sum.ensures.lanes k h
      ∙ ap (λ (n : ℕ). bit_xor n (entry_of c.args.table.now (512 * c.loop-i.i + c.args.at) (byte_in c.args.all.now k c.loop-i.i))) (c.loop-i.invariant.lanes k h)
      ∙ sym (one_byte c.args.table.now (byte_in c.args.all.now k) c.args.at (slice_index c.args.first k) c.loop-i.i);
  long = c.more-sum.ensures.long;
}

pub returns : goal.returns
returns c = record {
  lanes = λ k h. let e : c.loop-i.i ≡ 16 = omega arith in
      c.loop-i.invariant.lanes k h ∙ ap (sum_of c.args.table.now (byte_in c.args.all.now k) c.args.at (slice_index c.args.first k)) e;
  long = c.loop-i.invariant.long;
}
