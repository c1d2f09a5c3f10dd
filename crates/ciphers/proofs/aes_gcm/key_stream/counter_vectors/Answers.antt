use Rattle.std.proofs.Common.{◌≡◌, ℕ, ◌+◌, slice_index, ap, ◌∙◌, arith}
use Rattle.ciphers.specs.AesGcm.Gcm.{counter_block}
use Rattle.ciphers.specs.AesGcm.Rows.{lane}
use Rattle.ciphers.specs.AesGcm.Same.{lane_of}
use Rattle.ciphers.specs.AesGcm.SameBytes.{number_of}
use Rattle.ciphers.specs.declared.aes_gcm.lanes.Vectors.{Vectors}
use Rattle.ciphers.proofs.AesGcmLemmas.Transposed.{below_8}
use Rattle.ciphers.proofs.aes_gcm.key_stream.counter_vectors.Goals as goal

pub returns-clause-lanes : goal.returns-clause-lanes
returns-clause-lanes c k l kh lh =
    let nonce = c.args.nonce.now in
    let first = c.args.first in
    let v : Vectors = record { p0 = c.counter_vector.result; p1 = c.counter_vector-2.result; p2 = c.counter_vector-3.result; p3 = c.counter_vector-4.result; p4 = c.counter_vector-5.result; p5 = c.counter_vector-6.result; p6 = c.counter_vector-7.result; p7 = c.counter_vector-8.result } in
    let same : first ≡ first + 0 = omega arith in
    below_8 (λ (k : ℕ). number_of (lane v l) k ≡ slice_index (counter_block nonce (first + k)) (lane_of l))
    (c.counter_vector.ensures.lanes l lh ∙ ap (λ (n : ℕ). slice_index (counter_block nonce n) (lane_of l)) same)
    (c.counter_vector-2.ensures.lanes l lh) (c.counter_vector-3.ensures.lanes l lh) (c.counter_vector-4.ensures.lanes l lh) (c.counter_vector-5.ensures.lanes l lh) (c.counter_vector-6.ensures.lanes l lh) (c.counter_vector-7.ensures.lanes l lh) (c.counter_vector-8.ensures.lanes l lh) k kh
