use Rattle.std.proofs.Common.{◌≡◌, ℕ, ◌+◌, ◌*◌, ◌/◌, ◌≤◌, ◌<◌, bit_xor, length, slice_index}
use Rattle.ciphers.specs.AesGcm.Gcm.{stream}
use Rattle.ciphers.proofs.aes_gcm.gcm.GcmKey.mask.Given as goal

abbrev pub invariant-loop-i : goal.invariant-loop-i
invariant-loop-i l = record {
  fresh : (k : ℕ) → k < 128 → slice_index l.bytes k ≡ stream l.self l.nonce (128 * (l.i / 8) + k);
  full : length l.bytes ≡ 128;
  done : (k : ℕ) → k < 16 * l.i → k < length l.initial.text → slice_index l.text k ≡ bit_xor (slice_index l.initial.text k) (stream l.self l.nonce (16 + k));
  rest : (k : ℕ) → 16 * l.i ≤ k → slice_index l.text k ≡ slice_index l.initial.text k;
  long : length l.text ≡ length l.initial.text;
}
