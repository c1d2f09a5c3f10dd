use Rattle.std.proofs.Common.{◌≡◌, ℕ, ◌<◌, ◌*◌, length}
use Rattle.ciphers.specs.AesGcm.Streams.{byte_in, sum_of}
use Rattle.ciphers.proofs.aes_gcm.table.multiply.Given as goal

abbrev pub invariant-loop-j : goal.invariant-loop-j
invariant-loop-j l = record {
  done : (i k : ℕ) → i < 16 → k < l.j → byte_in l.products i k ≡ sum_of l.table (byte_in l.columns i) (16 * k) 0 16;
  long : length l.products ≡ 256;
}
