use Rattle.ciphers.specs.AesGcm.Aes.{round}
use Rattle.ciphers.proofs.aes_gcm.vector_rounds.four_rounds.Goals as goal

pub returns-clause-bits : goal.returns-clause-bits
returns-clause-bits c b a k lt s keys =
    let a10 = round a k.k10 in
    let s10 = c.round-s10.ensures.bits b a k.k10 lt s keys.k10 in
    let a11 = round a10 k.k11 in
    let s11 = c.round-s11.ensures.bits b a10 k.k11 lt s10 keys.k11 in
    let a12 = round a11 k.k12 in
    let s12 = c.round-s12.ensures.bits b a11 k.k12 lt s11 keys.k12 in
    c.round.ensures.bits b a12 k.k13 lt s12 keys.k13
