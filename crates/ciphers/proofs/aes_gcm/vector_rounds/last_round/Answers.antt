use Rattle.ciphers.specs.AesGcm.Planes as words
use Rattle.ciphers.specs.AesGcm.SubBytes as plane_bytes
use Rattle.ciphers.specs.AesGcm.Aes.{last_round}
use Rattle.ciphers.proofs.AesGcmLemmas.Rounds.{added_same, shifted_same}
use Rattle.ciphers.proofs.aes_gcm.vector_rounds.last_round.Goals as goal

pub returns-clause-bits : goal.returns-clause-bits
unfolding last_round
returns-clause-bits c b a k lt s t =
    let x = plane_bytes.sub_bytes a in
    let y = words.shifted_rows x in
    added_same b y k c.shifted_rows.result c.args.key c.added.result c.added.ensures.lanes
    (shifted_same b x c.substituted.result c.shifted_rows.result c.shifted_rows.ensures.lanes (c.substituted.ensures.bits b a lt s))
    t
