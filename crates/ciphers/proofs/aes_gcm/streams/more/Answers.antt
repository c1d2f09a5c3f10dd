use Rattle.std.proofs.Common.{ℕ, ◌+◌, ◌*◌, slice_index, bit_xor, ap, ◌∙◌}
use Rattle.std.proofs.lemmas.Simd.{get_or-chunk}
use Rattle.ciphers.specs.AesGcm.Streams.{entry_of}
use Rattle.ciphers.proofs.aes_gcm.streams.more.Goals as goal

pub returns : goal.returns
returns c = record {
  lanes = λ l h. c.with_entry.ensures.lanes l h
      ∙ ap (λ (n : ℕ). bit_xor (slice_index c.args.sum l) (entry_of c.args.table.now (512 * c.args.i + c.args.at) n)) (get_or-chunk (16 * c.args.i) 16 c.args.all.now l 0 h);
  long = c.with_entry.ensures.long;
}
