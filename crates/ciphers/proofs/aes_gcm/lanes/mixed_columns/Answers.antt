use Rattle.std.proofs.Common.{bit_xor, ap₂, ◌∙◌}
use lib.Lanes.{zip2}
use Rattle.ciphers.proofs.AesGcmLemmas.VectorLanes.{pair_following, pair_lane, xor_lane, xor_long}
use Rattle.ciphers.proofs.AesGcmLemmas.Bits.{eight_same, mixed_same}
use Rattle.ciphers.proofs.aes_gcm.lanes.mixed_columns.Goals as goal

pub mixed-requires-clause-doubled : goal.mixed-requires-clause-doubled
mixed-requires-clause-doubled c = (xor_long c.args.a.p7 c.rotated_one-r7.result c.requires.p7 c.rotated_one-r7.ensures.long)

pub mixed-requires-2-clause-doubled : goal.mixed-requires-2-clause-doubled
mixed-requires-2-clause-doubled c = xor_long (zip2 bit_xor c.args.a.p0 c.rotated_one-r0.result) (zip2 bit_xor c.args.a.p7 c.rotated_one-r7.result) (xor_long c.args.a.p0 c.rotated_one-r0.result c.requires.p0 c.rotated_one-r0.ensures.long) (xor_long c.args.a.p7 c.rotated_one-r7.result c.requires.p7 c.rotated_one-r7.ensures.long)

pub mixed-requires-3-clause-doubled : goal.mixed-requires-3-clause-doubled
mixed-requires-3-clause-doubled c = (xor_long c.args.a.p1 c.rotated_one-r1.result c.requires.p1 c.rotated_one-r1.ensures.long)

pub mixed-requires-4-clause-doubled : goal.mixed-requires-4-clause-doubled
mixed-requires-4-clause-doubled c = xor_long (zip2 bit_xor c.args.a.p2 c.rotated_one-r2.result) (zip2 bit_xor c.args.a.p7 c.rotated_one-r7.result) (xor_long c.args.a.p2 c.rotated_one-r2.result c.requires.p2 c.rotated_one-r2.ensures.long) (xor_long c.args.a.p7 c.rotated_one-r7.result c.requires.p7 c.rotated_one-r7.ensures.long)

pub mixed-requires-5-clause-doubled : goal.mixed-requires-5-clause-doubled
mixed-requires-5-clause-doubled c = xor_long (zip2 bit_xor c.args.a.p3 c.rotated_one-r3.result) (zip2 bit_xor c.args.a.p7 c.rotated_one-r7.result) (xor_long c.args.a.p3 c.rotated_one-r3.result c.requires.p3 c.rotated_one-r3.ensures.long) (xor_long c.args.a.p7 c.rotated_one-r7.result c.requires.p7 c.rotated_one-r7.ensures.long)

pub mixed-requires-6-clause-doubled : goal.mixed-requires-6-clause-doubled
mixed-requires-6-clause-doubled c = (xor_long c.args.a.p4 c.rotated_one-r4.result c.requires.p4 c.rotated_one-r4.ensures.long)

pub mixed-requires-7-clause-doubled : goal.mixed-requires-7-clause-doubled
mixed-requires-7-clause-doubled c = (xor_long c.args.a.p5 c.rotated_one-r5.result c.requires.p5 c.rotated_one-r5.ensures.long)

pub mixed-requires-8-clause-doubled : goal.mixed-requires-8-clause-doubled
mixed-requires-8-clause-doubled c = (xor_long c.args.a.p6 c.rotated_one-r6.result c.requires.p6 c.rotated_one-r6.ensures.long)

pub returns-clause-lanes : goal.returns-clause-lanes
returns-clause-lanes c l h =
    let s0 = pair_lane c.args.a.p0 c.rotated_one-r0.result l c.requires.p0 c.rotated_one-r0.ensures.long c.rotated_one-r0.ensures.lanes h in
    let t0 = pair_following c.args.a.p0 c.rotated_one-r0.result l c.requires.p0 c.rotated_one-r0.ensures.long c.rotated_one-r0.ensures.lanes h in
    let r0 = c.rotated_one-r0.ensures.lanes l h in
    let s1 = pair_lane c.args.a.p1 c.rotated_one-r1.result l c.requires.p1 c.rotated_one-r1.ensures.long c.rotated_one-r1.ensures.lanes h in
    let t1 = pair_following c.args.a.p1 c.rotated_one-r1.result l c.requires.p1 c.rotated_one-r1.ensures.long c.rotated_one-r1.ensures.lanes h in
    let r1 = c.rotated_one-r1.ensures.lanes l h in
    let s2 = pair_lane c.args.a.p2 c.rotated_one-r2.result l c.requires.p2 c.rotated_one-r2.ensures.long c.rotated_one-r2.ensures.lanes h in
    let t2 = pair_following c.args.a.p2 c.rotated_one-r2.result l c.requires.p2 c.rotated_one-r2.ensures.long c.rotated_one-r2.ensures.lanes h in
    let r2 = c.rotated_one-r2.ensures.lanes l h in
    let s3 = pair_lane c.args.a.p3 c.rotated_one-r3.result l c.requires.p3 c.rotated_one-r3.ensures.long c.rotated_one-r3.ensures.lanes h in
    let t3 = pair_following c.args.a.p3 c.rotated_one-r3.result l c.requires.p3 c.rotated_one-r3.ensures.long c.rotated_one-r3.ensures.lanes h in
    let r3 = c.rotated_one-r3.ensures.lanes l h in
    let s4 = pair_lane c.args.a.p4 c.rotated_one-r4.result l c.requires.p4 c.rotated_one-r4.ensures.long c.rotated_one-r4.ensures.lanes h in
    let t4 = pair_following c.args.a.p4 c.rotated_one-r4.result l c.requires.p4 c.rotated_one-r4.ensures.long c.rotated_one-r4.ensures.lanes h in
    let r4 = c.rotated_one-r4.ensures.lanes l h in
    let s5 = pair_lane c.args.a.p5 c.rotated_one-r5.result l c.requires.p5 c.rotated_one-r5.ensures.long c.rotated_one-r5.ensures.lanes h in
    let t5 = pair_following c.args.a.p5 c.rotated_one-r5.result l c.requires.p5 c.rotated_one-r5.ensures.long c.rotated_one-r5.ensures.lanes h in
    let r5 = c.rotated_one-r5.ensures.lanes l h in
    let s6 = pair_lane c.args.a.p6 c.rotated_one-r6.result l c.requires.p6 c.rotated_one-r6.ensures.long c.rotated_one-r6.ensures.lanes h in
    let t6 = pair_following c.args.a.p6 c.rotated_one-r6.result l c.requires.p6 c.rotated_one-r6.ensures.long c.rotated_one-r6.ensures.lanes h in
    let r6 = c.rotated_one-r6.ensures.lanes l h in
    let s7 = pair_lane c.args.a.p7 c.rotated_one-r7.result l c.requires.p7 c.rotated_one-r7.ensures.long c.rotated_one-r7.ensures.lanes h in
    let t7 = pair_following c.args.a.p7 c.rotated_one-r7.result l c.requires.p7 c.rotated_one-r7.ensures.long c.rotated_one-r7.ensures.lanes h in
    let r7 = c.rotated_one-r7.ensures.lanes l h in
    eight_same
    (c.mixed.ensures.lanes l h ∙ mixed_same s7 r0 t0)
    (c.mixed-2.ensures.lanes l h ∙ mixed_same (xor_lane (zip2 bit_xor c.args.a.p0 c.rotated_one-r0.result) (zip2 bit_xor c.args.a.p7 c.rotated_one-r7.result) l (xor_long c.args.a.p0 c.rotated_one-r0.result c.requires.p0 c.rotated_one-r0.ensures.long) (xor_long c.args.a.p7 c.rotated_one-r7.result c.requires.p7 c.rotated_one-r7.ensures.long) h ∙ ap₂ bit_xor s0 s7) r1 t1)
    (c.mixed-3.ensures.lanes l h ∙ mixed_same s1 r2 t2)
    (c.mixed-4.ensures.lanes l h ∙ mixed_same (xor_lane (zip2 bit_xor c.args.a.p2 c.rotated_one-r2.result) (zip2 bit_xor c.args.a.p7 c.rotated_one-r7.result) l (xor_long c.args.a.p2 c.rotated_one-r2.result c.requires.p2 c.rotated_one-r2.ensures.long) (xor_long c.args.a.p7 c.rotated_one-r7.result c.requires.p7 c.rotated_one-r7.ensures.long) h ∙ ap₂ bit_xor s2 s7) r3 t3)
    (c.mixed-5.ensures.lanes l h ∙ mixed_same (xor_lane (zip2 bit_xor c.args.a.p3 c.rotated_one-r3.result) (zip2 bit_xor c.args.a.p7 c.rotated_one-r7.result) l (xor_long c.args.a.p3 c.rotated_one-r3.result c.requires.p3 c.rotated_one-r3.ensures.long) (xor_long c.args.a.p7 c.rotated_one-r7.result c.requires.p7 c.rotated_one-r7.ensures.long) h ∙ ap₂ bit_xor s3 s7) r4 t4)
    (c.mixed-6.ensures.lanes l h ∙ mixed_same s4 r5 t5)
    (c.mixed-7.ensures.lanes l h ∙ mixed_same s5 r6 t6)
    (c.mixed-8.ensures.lanes l h ∙ mixed_same s6 r7 t7)
