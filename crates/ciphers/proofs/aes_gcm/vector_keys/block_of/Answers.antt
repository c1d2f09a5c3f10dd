use lib.Lanes.{chunk}
use Rattle.std.proofs.Common.{◌∙◌, arith}
use Rattle.std.proofs.lemmas.Simd.{get_or-chunk, length-chunk}
use Rattle.ciphers.proofs.AesGcmLemmas.WordBits.{below_16}
use Rattle.ciphers.proofs.AesGcmLemmas.VectorLanes.{own_lane}
use Rattle.ciphers.proofs.aes_gcm.vector_keys.block_of.Goals as goal

pub returns-clause-lanes : goal.returns-clause-lanes
returns-clause-lanes c =
    let t = c.args.bytes.now in
    let at = c.args.at in
    let part = chunk at 16 t in
    let long = length-chunk at 16 t c.requires in
    below_16 _ (own_lane part long 0 (omega arith) ∙ get_or-chunk at 16 t 0 0 (omega arith)) (own_lane part long 4 (omega arith) ∙ get_or-chunk at 16 t 4 0 (omega arith)) (own_lane part long 8 (omega arith) ∙ get_or-chunk at 16 t 8 0 (omega arith)) (own_lane part long 12 (omega arith) ∙ get_or-chunk at 16 t 12 0 (omega arith)) (own_lane part long 1 (omega arith) ∙ get_or-chunk at 16 t 1 0 (omega arith)) (own_lane part long 5 (omega arith) ∙ get_or-chunk at 16 t 5 0 (omega arith)) (own_lane part long 9 (omega arith) ∙ get_or-chunk at 16 t 9 0 (omega arith)) (own_lane part long 13 (omega arith) ∙ get_or-chunk at 16 t 13 0 (omega arith)) (own_lane part long 2 (omega arith) ∙ get_or-chunk at 16 t 2 0 (omega arith)) (own_lane part long 6 (omega arith) ∙ get_or-chunk at 16 t 6 0 (omega arith)) (own_lane part long 10 (omega arith) ∙ get_or-chunk at 16 t 10 0 (omega arith)) (own_lane part long 14 (omega arith) ∙ get_or-chunk at 16 t 14 0 (omega arith)) (own_lane part long 3 (omega arith) ∙ get_or-chunk at 16 t 3 0 (omega arith)) (own_lane part long 7 (omega arith) ∙ get_or-chunk at 16 t 7 0 (omega arith)) (own_lane part long 11 (omega arith) ∙ get_or-chunk at 16 t 11 0 (omega arith)) (own_lane part long 15 (omega arith) ∙ get_or-chunk at 16 t 15 0 (omega arith))
