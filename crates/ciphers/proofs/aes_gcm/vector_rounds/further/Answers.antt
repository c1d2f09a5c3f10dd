use Rattle.std.proofs.Common.{Option, subst}
use Rattle.ciphers.specs.AesGcm.SameBytes.{SameMore}
use Rattle.ciphers.specs.declared.aes_gcm.vector_rounds.MoreVectors.{MoreVectors}
use Rattle.ciphers.proofs.AesGcmLemmas.More.{none_more, some_more}
use Rattle.ciphers.proofs.aes_gcm.vector_rounds.further.Goals as goal

pub returns-in-Some-clause-bits : goal.returns-in-Some-clause-bits
returns-in-Some-clause-bits c b a k lt s same =
    some_more b a k c.in-Some.more c.four_rounds.result (λ m h. c.four_rounds.ensures.bits b a m lt s h)
    (subst (λ (o : Option MoreVectors). SameMore b k o) c.in-Some.is same)

pub returns-in-None-clause-bits : goal.returns-in-None-clause-bits
returns-in-None-clause-bits c b a k lt s same = none_more b a k c.args.s s (subst (λ (o : Option MoreVectors). SameMore b k o) c.in-None.is same)
