use Rattle.std.proofs.Common.{◌≡◌, ℕ, ◌<◌, ◌≤◌, ◌+◌, slice_index, bit_xor}
use Rattle.ciphers.proofs.aes_gcm.key_stream.add_bytes.Given as goal

abbrev pub invariant-loop-i : goal.invariant-loop-i
invariant-loop-i l = record {
  here : (i : ℕ) → i < l.i → slice_index l.text (l.at + i) ≡ bit_xor (slice_index l.initial.text (l.at + i)) (slice_index l.bytes (l.from + i));
  rest : (i : ℕ) → l.i ≤ i → slice_index l.text (l.at + i) ≡ slice_index l.initial.text (l.at + i);
  before : (i : ℕ) → i < l.at → slice_index l.text i ≡ slice_index l.initial.text i;
}
