use Rattle.std.proofs.Common.{◌≡◌, ℕ, ◌<◌, length}
use Rattle.ciphers.specs.AesGcm.Streams.{byte_in, stream}
use Rattle.ciphers.proofs.aes_gcm.streams.gather.Given as goal

abbrev pub invariant-loop-n : goal.invariant-loop-n
invariant-loop-n l = record {
  bytes : (i j : ℕ) → i < 16 → j < 16 → byte_in l.all i j ≡ stream l.table (byte_in l.initial.all) l.bytes l.n i j;
  long : length l.all ≡ 256;
}
