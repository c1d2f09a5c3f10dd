use Rattle.std.proofs.Common.{ℕ, List, slice_index, refl, ap}
use Rattle.ciphers.proofs.AesGcmLemmas.WordBits.{below_16}
use Rattle.ciphers.proofs.aes_gcm.key_stream.counter_vector.Goals as goal

pub returns-clause-lanes : goal.returns-clause-lanes
returns-clause-lanes c =
    let at = λ (n : ℕ). ap (λ (l : List ℕ). slice_index l n) c.to_be_bytes-c.ensures in
    below_16 _ refl refl refl (at 0) refl refl refl (at 1) refl refl refl (at 2) refl refl refl (at 3)
