use Rattle.std.proofs.Common.{arith}
use Rattle.ciphers.proofs.AesGcmLemmas.WordBits.{below_16}
use Rattle.ciphers.proofs.AesGcmLemmas.VectorLanes.{own_lane}
use Rattle.ciphers.proofs.aes_gcm.lanes.rotated_two.Goals as goal

pub returns-clause-lanes : goal.returns-clause-lanes
returns-clause-lanes c =
    let own = own_lane c.args.x c.fits-x.0 in
    below_16 _ (own 8 (omega arith)) (own 9 (omega arith)) (own 10 (omega arith)) (own 11 (omega arith)) (own 12 (omega arith)) (own 13 (omega arith)) (own 14 (omega arith)) (own 15 (omega arith)) (own 0 (omega arith)) (own 1 (omega arith)) (own 2 (omega arith)) (own 3 (omega arith)) (own 4 (omega arith)) (own 5 (omega arith)) (own 6 (omega arith)) (own 7 (omega arith))
