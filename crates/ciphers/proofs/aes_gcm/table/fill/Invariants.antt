use Rattle.std.proofs.Common.{◌≡◌, ℕ, ◌*◌, length, slice_index}
use Rattle.ciphers.specs.AesGcm.Ghash.{product}
use Rattle.ciphers.specs.AesGcm.Tables.{bytes_of, element_of, nibble}
use Rattle.ciphers.proofs.AesGcmLemmas.Basis.{Spread}
use Rattle.ciphers.proofs.aes_gcm.table.fill.Given as goal

abbrev pub invariant-loop-g : goal.invariant-loop-g
invariant-loop-g l = record {
  done : Spread (λ (c j : ℕ). slice_index (bytes_of (product (element_of (nibble c)) l.key)) j) l.table (64 * l.g);
  long : length l.table ≡ 8192;
}
