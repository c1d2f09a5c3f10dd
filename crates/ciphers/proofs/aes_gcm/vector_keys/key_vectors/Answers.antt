use Rattle.std.proofs.Common.{◌≡◌, ℕ, ◌<◌, ◌+◌, ◌/◌, List, slice_index, ap, ◌∙◌, arith}
use Rattle.ciphers.specs.declared.aes_gcm.lanes.Vectors.{Vectors}
use Rattle.ciphers.specs.AesGcm.Rows.{lane}
use Rattle.ciphers.specs.AesGcm.Same.{lane_of}
use Rattle.ciphers.specs.AesGcm.SameBytes.{number_of}
use Rattle.ciphers.proofs.AesGcmLemmas.EightBlocks.{key_same}
use Rattle.ciphers.proofs.AesGcmLemmas.WordBits.{below_16, below_64}
use Rattle.ciphers.proofs.aes_gcm.vector_keys.key_vectors.Goals as goal

pub returns-clause-first : goal.returns-clause-first
returns-clause-first c =
    let bytes : List ℕ = c.unpacked-bytes.result in
    let v : Vectors = record { p0 = c.block_of-a.result; p1 = c.block_of-b.result; p2 = c.block_of-c.result; p3 = c.block_of-d.result; p4 = c.block_of-a.result; p5 = c.block_of-b.result; p6 = c.block_of-c.result; p7 = c.block_of-d.result } in
    let each : (n : ℕ) → n < 64 → number_of (lane v (lane_of n)) (0 + n / 16) ≡ slice_index bytes n = below_64 (λ (n : ℕ). number_of (lane v (lane_of n)) (0 + n / 16) ≡ slice_index bytes n)
    (below_16 (λ (l : ℕ). number_of (lane v (lane_of l)) (0 + l / 16) ≡ slice_index bytes l) (c.block_of-a.ensures.lanes 0 (omega arith)) (c.block_of-a.ensures.lanes 4 (omega arith)) (c.block_of-a.ensures.lanes 8 (omega arith)) (c.block_of-a.ensures.lanes 12 (omega arith)) (c.block_of-a.ensures.lanes 1 (omega arith)) (c.block_of-a.ensures.lanes 5 (omega arith)) (c.block_of-a.ensures.lanes 9 (omega arith)) (c.block_of-a.ensures.lanes 13 (omega arith)) (c.block_of-a.ensures.lanes 2 (omega arith)) (c.block_of-a.ensures.lanes 6 (omega arith)) (c.block_of-a.ensures.lanes 10 (omega arith)) (c.block_of-a.ensures.lanes 14 (omega arith)) (c.block_of-a.ensures.lanes 3 (omega arith)) (c.block_of-a.ensures.lanes 7 (omega arith)) (c.block_of-a.ensures.lanes 11 (omega arith)) (c.block_of-a.ensures.lanes 15 (omega arith)))
    (below_16 (λ (l : ℕ). number_of (lane v (lane_of (16 + l))) (0 + (16 + l) / 16) ≡ slice_index bytes (16 + l)) (c.block_of-b.ensures.lanes 0 (omega arith)) (c.block_of-b.ensures.lanes 4 (omega arith)) (c.block_of-b.ensures.lanes 8 (omega arith)) (c.block_of-b.ensures.lanes 12 (omega arith)) (c.block_of-b.ensures.lanes 1 (omega arith)) (c.block_of-b.ensures.lanes 5 (omega arith)) (c.block_of-b.ensures.lanes 9 (omega arith)) (c.block_of-b.ensures.lanes 13 (omega arith)) (c.block_of-b.ensures.lanes 2 (omega arith)) (c.block_of-b.ensures.lanes 6 (omega arith)) (c.block_of-b.ensures.lanes 10 (omega arith)) (c.block_of-b.ensures.lanes 14 (omega arith)) (c.block_of-b.ensures.lanes 3 (omega arith)) (c.block_of-b.ensures.lanes 7 (omega arith)) (c.block_of-b.ensures.lanes 11 (omega arith)) (c.block_of-b.ensures.lanes 15 (omega arith)))
    (below_16 (λ (l : ℕ). number_of (lane v (lane_of (32 + l))) (0 + (32 + l) / 16) ≡ slice_index bytes (32 + l)) (c.block_of-c.ensures.lanes 0 (omega arith)) (c.block_of-c.ensures.lanes 4 (omega arith)) (c.block_of-c.ensures.lanes 8 (omega arith)) (c.block_of-c.ensures.lanes 12 (omega arith)) (c.block_of-c.ensures.lanes 1 (omega arith)) (c.block_of-c.ensures.lanes 5 (omega arith)) (c.block_of-c.ensures.lanes 9 (omega arith)) (c.block_of-c.ensures.lanes 13 (omega arith)) (c.block_of-c.ensures.lanes 2 (omega arith)) (c.block_of-c.ensures.lanes 6 (omega arith)) (c.block_of-c.ensures.lanes 10 (omega arith)) (c.block_of-c.ensures.lanes 14 (omega arith)) (c.block_of-c.ensures.lanes 3 (omega arith)) (c.block_of-c.ensures.lanes 7 (omega arith)) (c.block_of-c.ensures.lanes 11 (omega arith)) (c.block_of-c.ensures.lanes 15 (omega arith)))
    (below_16 (λ (l : ℕ). number_of (lane v (lane_of (48 + l))) (0 + (48 + l) / 16) ≡ slice_index bytes (48 + l)) (c.block_of-d.ensures.lanes 0 (omega arith)) (c.block_of-d.ensures.lanes 4 (omega arith)) (c.block_of-d.ensures.lanes 8 (omega arith)) (c.block_of-d.ensures.lanes 12 (omega arith)) (c.block_of-d.ensures.lanes 1 (omega arith)) (c.block_of-d.ensures.lanes 5 (omega arith)) (c.block_of-d.ensures.lanes 9 (omega arith)) (c.block_of-d.ensures.lanes 13 (omega arith)) (c.block_of-d.ensures.lanes 2 (omega arith)) (c.block_of-d.ensures.lanes 6 (omega arith)) (c.block_of-d.ensures.lanes 10 (omega arith)) (c.block_of-d.ensures.lanes 14 (omega arith)) (c.block_of-d.ensures.lanes 3 (omega arith)) (c.block_of-d.ensures.lanes 7 (omega arith)) (c.block_of-d.ensures.lanes 11 (omega arith)) (c.block_of-d.ensures.lanes 15 (omega arith)))
    in
    key_same 0 c.args.key v c.transposed.result (omega arith) c.transposed.ensures.lanes (λ n h. each n h ∙ ap (λ (l : List ℕ). slice_index l n) c.unpacked-bytes.ensures)

pub returns-clause-second : goal.returns-clause-second
returns-clause-second c =
    let bytes : List ℕ = c.unpacked-bytes.result in
    let v : Vectors = record { p0 = c.block_of-a.result; p1 = c.block_of-b.result; p2 = c.block_of-c.result; p3 = c.block_of-d.result; p4 = c.block_of-a.result; p5 = c.block_of-b.result; p6 = c.block_of-c.result; p7 = c.block_of-d.result } in
    let each : (n : ℕ) → n < 64 → number_of (lane v (lane_of n)) (4 + n / 16) ≡ slice_index bytes n = below_64 (λ (n : ℕ). number_of (lane v (lane_of n)) (4 + n / 16) ≡ slice_index bytes n)
    (below_16 (λ (l : ℕ). number_of (lane v (lane_of l)) (4 + l / 16) ≡ slice_index bytes l) (c.block_of-a.ensures.lanes 0 (omega arith)) (c.block_of-a.ensures.lanes 4 (omega arith)) (c.block_of-a.ensures.lanes 8 (omega arith)) (c.block_of-a.ensures.lanes 12 (omega arith)) (c.block_of-a.ensures.lanes 1 (omega arith)) (c.block_of-a.ensures.lanes 5 (omega arith)) (c.block_of-a.ensures.lanes 9 (omega arith)) (c.block_of-a.ensures.lanes 13 (omega arith)) (c.block_of-a.ensures.lanes 2 (omega arith)) (c.block_of-a.ensures.lanes 6 (omega arith)) (c.block_of-a.ensures.lanes 10 (omega arith)) (c.block_of-a.ensures.lanes 14 (omega arith)) (c.block_of-a.ensures.lanes 3 (omega arith)) (c.block_of-a.ensures.lanes 7 (omega arith)) (c.block_of-a.ensures.lanes 11 (omega arith)) (c.block_of-a.ensures.lanes 15 (omega arith)))
    (below_16 (λ (l : ℕ). number_of (lane v (lane_of (16 + l))) (4 + (16 + l) / 16) ≡ slice_index bytes (16 + l)) (c.block_of-b.ensures.lanes 0 (omega arith)) (c.block_of-b.ensures.lanes 4 (omega arith)) (c.block_of-b.ensures.lanes 8 (omega arith)) (c.block_of-b.ensures.lanes 12 (omega arith)) (c.block_of-b.ensures.lanes 1 (omega arith)) (c.block_of-b.ensures.lanes 5 (omega arith)) (c.block_of-b.ensures.lanes 9 (omega arith)) (c.block_of-b.ensures.lanes 13 (omega arith)) (c.block_of-b.ensures.lanes 2 (omega arith)) (c.block_of-b.ensures.lanes 6 (omega arith)) (c.block_of-b.ensures.lanes 10 (omega arith)) (c.block_of-b.ensures.lanes 14 (omega arith)) (c.block_of-b.ensures.lanes 3 (omega arith)) (c.block_of-b.ensures.lanes 7 (omega arith)) (c.block_of-b.ensures.lanes 11 (omega arith)) (c.block_of-b.ensures.lanes 15 (omega arith)))
    (below_16 (λ (l : ℕ). number_of (lane v (lane_of (32 + l))) (4 + (32 + l) / 16) ≡ slice_index bytes (32 + l)) (c.block_of-c.ensures.lanes 0 (omega arith)) (c.block_of-c.ensures.lanes 4 (omega arith)) (c.block_of-c.ensures.lanes 8 (omega arith)) (c.block_of-c.ensures.lanes 12 (omega arith)) (c.block_of-c.ensures.lanes 1 (omega arith)) (c.block_of-c.ensures.lanes 5 (omega arith)) (c.block_of-c.ensures.lanes 9 (omega arith)) (c.block_of-c.ensures.lanes 13 (omega arith)) (c.block_of-c.ensures.lanes 2 (omega arith)) (c.block_of-c.ensures.lanes 6 (omega arith)) (c.block_of-c.ensures.lanes 10 (omega arith)) (c.block_of-c.ensures.lanes 14 (omega arith)) (c.block_of-c.ensures.lanes 3 (omega arith)) (c.block_of-c.ensures.lanes 7 (omega arith)) (c.block_of-c.ensures.lanes 11 (omega arith)) (c.block_of-c.ensures.lanes 15 (omega arith)))
    (below_16 (λ (l : ℕ). number_of (lane v (lane_of (48 + l))) (4 + (48 + l) / 16) ≡ slice_index bytes (48 + l)) (c.block_of-d.ensures.lanes 0 (omega arith)) (c.block_of-d.ensures.lanes 4 (omega arith)) (c.block_of-d.ensures.lanes 8 (omega arith)) (c.block_of-d.ensures.lanes 12 (omega arith)) (c.block_of-d.ensures.lanes 1 (omega arith)) (c.block_of-d.ensures.lanes 5 (omega arith)) (c.block_of-d.ensures.lanes 9 (omega arith)) (c.block_of-d.ensures.lanes 13 (omega arith)) (c.block_of-d.ensures.lanes 2 (omega arith)) (c.block_of-d.ensures.lanes 6 (omega arith)) (c.block_of-d.ensures.lanes 10 (omega arith)) (c.block_of-d.ensures.lanes 14 (omega arith)) (c.block_of-d.ensures.lanes 3 (omega arith)) (c.block_of-d.ensures.lanes 7 (omega arith)) (c.block_of-d.ensures.lanes 11 (omega arith)) (c.block_of-d.ensures.lanes 15 (omega arith)))
    in
    key_same 4 c.args.key v c.transposed.result (omega arith) c.transposed.ensures.lanes (λ n h. each n h ∙ ap (λ (l : List ℕ). slice_index l n) c.unpacked-bytes.ensures)
