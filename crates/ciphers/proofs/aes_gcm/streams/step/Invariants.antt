use Rattle.std.proofs.Common.{◌≡◌, ℕ, ◌<◌, length}
use Rattle.ciphers.specs.AesGcm.Streams.{byte_in, next_of}
use Rattle.ciphers.proofs.aes_gcm.streams.step.Given as goal

abbrev pub invariant-loop-j : goal.invariant-loop-j
invariant-loop-j l = record {
  done : (i k : ℕ) → i < 16 → k < l.j → byte_in l.all i k ≡ next_of l.table (byte_in l.old i) l.bytes l.place i k;
  long : length l.all ≡ 256;
}
