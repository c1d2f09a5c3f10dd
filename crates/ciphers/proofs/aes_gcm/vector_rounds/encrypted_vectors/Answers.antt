use Rattle.ciphers.specs.AesGcm.Aes.{further, last_round, round}
use Rattle.ciphers.specs.AesGcm.Packing.{transposed}
use Rattle.ciphers.specs.AesGcm.Planes.{added}
use Rattle.ciphers.specs.AesGcm.SameBytes.{rounds_of}
use Rattle.ciphers.proofs.AesGcmLemmas.Turned.{bytes_same}
use Rattle.ciphers.proofs.aes_gcm.vector_rounds.encrypted_vectors.Goals as goal

pub returns-clause-bytes : goal.returns-clause-bytes
unfolding rounds_of
returns-clause-bytes c b k w lt keys bytes =
    let a0 = added (transposed w) k.k0 in
    let s0 = c.start-s0.ensures.bits b k.k0 w lt keys.k0 bytes in
    let a1 = round a0 k.k1 in
    let s1 = c.round-s1.ensures.bits b a0 k.k1 lt s0 keys.k1 in
    let a2 = round a1 k.k2 in
    let s2 = c.round-s2.ensures.bits b a1 k.k2 lt s1 keys.k2 in
    let a3 = round a2 k.k3 in
    let s3 = c.round-s3.ensures.bits b a2 k.k3 lt s2 keys.k3 in
    let a4 = round a3 k.k4 in
    let s4 = c.round-s4.ensures.bits b a3 k.k4 lt s3 keys.k4 in
    let a5 = round a4 k.k5 in
    let s5 = c.round-s5.ensures.bits b a4 k.k5 lt s4 keys.k5 in
    let a6 = round a5 k.k6 in
    let s6 = c.round-s6.ensures.bits b a5 k.k6 lt s5 keys.k6 in
    let a7 = round a6 k.k7 in
    let s7 = c.round-s7.ensures.bits b a6 k.k7 lt s6 keys.k7 in
    let a8 = round a7 k.k8 in
    let s8 = c.round-s8.ensures.bits b a7 k.k8 lt s7 keys.k8 in
    let a9 = round a8 k.k9 in
    let s9 = c.round-s9.ensures.bits b a8 k.k9 lt s8 keys.k9 in
    let a13 = further k.more a9 in
    let s13 = c.further-s13.ensures.bits b a9 k.more lt s9 keys.more in
    let s14 = c.last_round-last.ensures.bits b a13 k.last lt s13 keys.last in
    record { same = bytes_same b (last_round a13 k.last) c.last_round-last.result c.transposed.result lt c.transposed.ensures.lanes s14 }
