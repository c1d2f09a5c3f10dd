use Rattle.std.proofs.Common.{◌≡◌, ℕ, ◌*◌, length, slice_index}
use Rattle.ciphers.specs.AesGcm.Streams.{sum_of}
use Rattle.ciphers.specs.AesGcm.Tables.{place}
use Rattle.ciphers.proofs.AesGcmLemmas.Basis.{Spread}
use Rattle.ciphers.proofs.aes_gcm.table.double.Given as goal

abbrev pub invariant-loop-g : goal.invariant-loop-g
invariant-loop-g l = record {
  done : Spread (λ (c j : ℕ). sum_of l.from (λ (i : ℕ). slice_index l.from (place c i)) (16 * j) 0 16) l.to (64 * l.g);
  long : length l.to ≡ 8192;
}
