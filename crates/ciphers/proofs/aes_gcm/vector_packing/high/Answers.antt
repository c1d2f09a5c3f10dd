use Rattle.ciphers.proofs.AesGcmLemmas.VectorLanes.{high_lane, high_long}
use Rattle.ciphers.proofs.aes_gcm.vector_packing.high.Goals as goal

pub returns-clause-lanes : goal.returns-clause-lanes
returns-clause-lanes c l h = high_lane c.args.x c.args.y c.args.mask c.args.places l c.requires.x c.requires.y h

pub returns-clause-long : goal.returns-clause-long
returns-clause-long c = high_long c.args.x c.args.y c.args.mask c.args.places c.requires.x c.requires.y
