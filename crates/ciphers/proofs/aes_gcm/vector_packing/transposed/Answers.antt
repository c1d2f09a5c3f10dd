use Rattle.std.proofs.Common.{◌≡◌, slice_index, refl, ap₂, ◌∙◌}
use Rattle.ciphers.specs.AesGcm.VectorPacking.{high, low, transposed_lane}
use Rattle.ciphers.proofs.AesGcmLemmas.Bits.{eight_same}
use Rattle.ciphers.proofs.aes_gcm.vector_packing.transposed.Goals as goal

pub returns-clause-lanes : goal.returns-clause-lanes
unfolding transposed_lane
returns-clause-lanes c l h =
    let e_a0 : slice_index c.args.a.p0 l ≡ slice_index c.args.a.p0 l = refl in
    let e_a1 : slice_index c.args.a.p1 l ≡ slice_index c.args.a.p1 l = refl in
    let e_a2 : slice_index c.args.a.p2 l ≡ slice_index c.args.a.p2 l = refl in
    let e_a3 : slice_index c.args.a.p3 l ≡ slice_index c.args.a.p3 l = refl in
    let e_a4 : slice_index c.args.a.p4 l ≡ slice_index c.args.a.p4 l = refl in
    let e_a5 : slice_index c.args.a.p5 l ≡ slice_index c.args.a.p5 l = refl in
    let e_a6 : slice_index c.args.a.p6 l ≡ slice_index c.args.a.p6 l = refl in
    let e_a7 : slice_index c.args.a.p7 l ≡ slice_index c.args.a.p7 l = refl in
    let e_b0 = c.low-b0.ensures.lanes l h ∙ ap₂ (low 0x55 1) e_a0 e_a1 in
    let e_b1 = c.high-b1.ensures.lanes l h ∙ ap₂ (high 0xaa 1) e_a0 e_a1 in
    let e_b2 = c.low-b2.ensures.lanes l h ∙ ap₂ (low 0x55 1) e_a2 e_a3 in
    let e_b3 = c.high-b3.ensures.lanes l h ∙ ap₂ (high 0xaa 1) e_a2 e_a3 in
    let e_b4 = c.low-b4.ensures.lanes l h ∙ ap₂ (low 0x55 1) e_a4 e_a5 in
    let e_b5 = c.high-b5.ensures.lanes l h ∙ ap₂ (high 0xaa 1) e_a4 e_a5 in
    let e_b6 = c.low-b6.ensures.lanes l h ∙ ap₂ (low 0x55 1) e_a6 e_a7 in
    let e_b7 = c.high-b7.ensures.lanes l h ∙ ap₂ (high 0xaa 1) e_a6 e_a7 in
    let e_c0 = c.low-c0.ensures.lanes l h ∙ ap₂ (low 0x33 2) e_b0 e_b2 in
    let e_c1 = c.low-c1.ensures.lanes l h ∙ ap₂ (low 0x33 2) e_b1 e_b3 in
    let e_c2 = c.high-c2.ensures.lanes l h ∙ ap₂ (high 0xcc 2) e_b0 e_b2 in
    let e_c3 = c.high-c3.ensures.lanes l h ∙ ap₂ (high 0xcc 2) e_b1 e_b3 in
    let e_c4 = c.low-c4.ensures.lanes l h ∙ ap₂ (low 0x33 2) e_b4 e_b6 in
    let e_c5 = c.low-c5.ensures.lanes l h ∙ ap₂ (low 0x33 2) e_b5 e_b7 in
    let e_c6 = c.high-c6.ensures.lanes l h ∙ ap₂ (high 0xcc 2) e_b4 e_b6 in
    let e_c7 = c.high-c7.ensures.lanes l h ∙ ap₂ (high 0xcc 2) e_b5 e_b7 in
    eight_same
    (c.low.ensures.lanes l h ∙ ap₂ (low 0x0f 4) e_c0 e_c4)
    (c.low-2.ensures.lanes l h ∙ ap₂ (low 0x0f 4) e_c1 e_c5)
    (c.low-3.ensures.lanes l h ∙ ap₂ (low 0x0f 4) e_c2 e_c6)
    (c.low-4.ensures.lanes l h ∙ ap₂ (low 0x0f 4) e_c3 e_c7)
    (c.high.ensures.lanes l h ∙ ap₂ (high 0xf0 4) e_c0 e_c4)
    (c.high-2.ensures.lanes l h ∙ ap₂ (high 0xf0 4) e_c1 e_c5)
    (c.high-3.ensures.lanes l h ∙ ap₂ (high 0xf0 4) e_c2 e_c6)
    (c.high-4.ensures.lanes l h ∙ ap₂ (high 0xf0 4) e_c3 e_c7)
