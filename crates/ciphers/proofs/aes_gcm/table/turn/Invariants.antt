use Rattle.std.proofs.Common.{◌≡◌, ℕ, ◌<◌, ◌+◌, ◌*◌, length, slice_index}
use Rattle.ciphers.specs.AesGcm.Streams.{byte_in}
use Rattle.ciphers.proofs.aes_gcm.table.turn.Given as goal

abbrev pub invariant-loop-j : goal.invariant-loop-j
invariant-loop-j l = record {
  done : (i k : ℕ) → i < 16 → k < l.j → byte_in l.all i k ≡ slice_index l.bytes (16 * i + k);
  long : length l.all ≡ 256;
}
