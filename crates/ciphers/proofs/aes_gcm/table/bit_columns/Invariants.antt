use Rattle.std.proofs.Common.{◌≡◌, ℕ, ◌<◌, ◌/◌, ◌%◌, length, slice_index}
use Rattle.ciphers.specs.AesGcm.Tables.{bit_column, place}
use Rattle.ciphers.proofs.aes_gcm.table.bit_columns.Given as goal

abbrev pub invariant-loop-n : goal.invariant-loop-n
invariant-loop-n l = record {
  done : (n : ℕ) → n < l.n → slice_index l.columns n ≡ slice_index l.table (place (bit_column l.g (n % 16)) (n / 16));
  long : length l.columns ≡ 256;
}
