use Rattle.std.proofs.Common.{◌≡◌, ℕ, ◌<◌, ◌+◌, ◌*◌, ◌/◌, ◌%◌, length, slice_index}
use Rattle.ciphers.specs.AesGcm.Tables.{sum_at}
use Rattle.ciphers.proofs.aes_gcm.table.put_places.Given as goal

abbrev pub invariant-loop-s : goal.invariant-loop-s
invariant-loop-s l = record {
  here : (s i : ℕ) → s < l.s → i < 16 → slice_index l.table (1024 * l.g + 16 * s + i) ≡ sum_at (λ (b : ℕ). slice_index l.bits (16 * (s % 16) + 4 * (s / 16) + b)) i;
  before : (i : ℕ) → i < 1024 * l.g → slice_index l.table i ≡ slice_index l.initial.table i;
  long : length l.table ≡ 8192;
}
