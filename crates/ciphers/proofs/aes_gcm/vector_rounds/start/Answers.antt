use Rattle.ciphers.specs.AesGcm.Packing.{transposed}
use Rattle.ciphers.proofs.AesGcmLemmas.Rounds.{added_same}
use Rattle.ciphers.proofs.AesGcmLemmas.Turned.{turned_same}
use Rattle.ciphers.proofs.aes_gcm.vector_rounds.start.Goals as goal

pub returns-clause-bits : goal.returns-clause-bits
returns-clause-bits c b k w lt same bytes =
    added_same b (transposed w) k c.transposed.result c.args.key c.added.result c.added.ensures.lanes
    (turned_same b w c.args.blocks c.transposed.result lt c.transposed.ensures.lanes bytes.same) same
