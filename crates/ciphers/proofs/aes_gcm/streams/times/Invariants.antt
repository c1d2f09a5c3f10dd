use Rattle.std.proofs.Common.{◌≡◌, ℕ, ◌<◌, length, slice_index}
use Rattle.ciphers.specs.AesGcm.Streams.{byte_in, sum_of}
use Rattle.ciphers.proofs.aes_gcm.streams.times.Given as goal

abbrev pub invariant-loop-i : goal.invariant-loop-i
invariant-loop-i l = record {
  lanes : (k : ℕ) → k < 16 → slice_index l.sum k ≡ sum_of l.table (byte_in l.all k) l.at (slice_index l.fn.first k) l.i;
  long : length l.sum ≡ 16;
}
