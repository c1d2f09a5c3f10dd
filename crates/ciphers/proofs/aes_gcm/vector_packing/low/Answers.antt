use Rattle.ciphers.proofs.AesGcmLemmas.VectorLanes.{low_lane, low_long}
use Rattle.ciphers.proofs.aes_gcm.vector_packing.low.Goals as goal

pub returns-clause-lanes : goal.returns-clause-lanes
returns-clause-lanes c l h = low_lane c.args.x c.args.y c.args.mask c.args.places l c.requires.x c.requires.y h

pub returns-clause-long : goal.returns-clause-long
returns-clause-long c = low_long c.args.x c.args.y c.args.mask c.args.places c.requires.x c.requires.y
