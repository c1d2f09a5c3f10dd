use Rattle.std.proofs.Common.{◌≡◌, ℕ, ◌<◌, length, slice_index}
use Rattle.ciphers.specs.AesGcm.Ghash.{product}
use Rattle.ciphers.specs.AesGcm.Streams.{byte_in}
use Rattle.ciphers.specs.AesGcm.Tables.{bit_column, bytes_of, element_of, nibble}
use Rattle.ciphers.proofs.aes_gcm.table.bit_products.Given as goal

abbrev pub invariant-loop-l : goal.invariant-loop-l
invariant-loop-l l = record {
  done : (i j : ℕ) → i < l.l → j < 16 → byte_in l.products i j ≡ slice_index (bytes_of (product (element_of (nibble (bit_column l.g i))) l.key)) j;
  long : length l.products ≡ 256;
}
