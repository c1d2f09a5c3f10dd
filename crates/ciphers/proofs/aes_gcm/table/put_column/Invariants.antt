use Rattle.std.proofs.Common.{◌≡◌, ◌≢◌, ℕ, ◌<◌, length, slice_index}
use Rattle.ciphers.specs.AesGcm.Tables.{place}
use Rattle.ciphers.proofs.aes_gcm.table.put_column.Given as goal

abbrev pub invariant-loop-j : goal.invariant-loop-j
invariant-loop-j l = record {
  here : (i : ℕ) → i < l.j → slice_index l.table (place l.n i) ≡ slice_index l.bytes i;
  additional : (m i : ℕ) → m ≢ l.n → i < 16 → slice_index l.table (place m i) ≡ slice_index l.initial.table (place m i);
  long : length l.table ≡ length l.initial.table;
}
