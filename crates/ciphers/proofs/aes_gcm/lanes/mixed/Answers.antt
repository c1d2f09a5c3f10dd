use Rattle.std.proofs.Common.{bit_xor, ap₂, ◌∙◌}
use lib.Lanes.{zip2}
use Rattle.ciphers.proofs.AesGcmLemmas.VectorLanes.{xor_lane, xor_long}
use Rattle.ciphers.proofs.aes_gcm.lanes.mixed.Goals as goal

pub returns-clause-lanes : goal.returns-clause-lanes
returns-clause-lanes c l h =
    let d = c.args.doubled in
    let b = c.args.following in
    xor_lane (zip2 bit_xor d b) c.rotated_two.result l (xor_long d b c.requires.doubled c.requires.following) c.rotated_two.ensures.long h
    ∙ ap₂ bit_xor (xor_lane d b l c.requires.doubled c.requires.following h) (c.rotated_two.ensures.lanes l h)

pub returns-clause-long : goal.returns-clause-long
returns-clause-long c = xor_long (zip2 bit_xor c.args.doubled c.args.following) c.rotated_two.result (xor_long c.args.doubled c.args.following c.requires.doubled c.requires.following) c.rotated_two.ensures.long
