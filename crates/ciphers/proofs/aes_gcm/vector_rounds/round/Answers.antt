use Rattle.ciphers.specs.AesGcm.Planes as words
use Rattle.ciphers.specs.AesGcm.SubBytes as plane_bytes
use Rattle.ciphers.specs.AesGcm.Aes.{round}
use Rattle.ciphers.proofs.AesGcmLemmas.Rounds.{added_same, mixed_same_bits, shifted_same}
use Rattle.ciphers.proofs.aes_gcm.vector_rounds.round.Goals as goal

pub returns-clause-bits : goal.returns-clause-bits
unfolding round
returns-clause-bits c b a k lt s t =
    let x = plane_bytes.sub_bytes a in
    let y = words.shifted_rows x in
    let z = words.mixed_columns y in
    added_same b z k c.mixed_columns.result c.args.key c.added.result c.added.ensures.lanes
    (mixed_same_bits b y c.shifted_rows.result c.mixed_columns.result c.mixed_columns.ensures.lanes
    (shifted_same b x c.substituted.result c.shifted_rows.result c.shifted_rows.ensures.lanes (c.substituted.ensures.bits b a lt s)))
    t
