use Rattle.ciphers.proofs.AesGcmLemmas.More.{same_more, same_none}
use Rattle.ciphers.proofs.aes_gcm.vector_keys.more_vectors.Goals as goal

pub returns-in-Some-clause-first : goal.returns-in-Some-clause-first
returns-in-Some-clause-first c = same_more 0 c.in-Some.more c.four_vectors.result c.args.more c.in-Some.is c.four_vectors.ensures.first

pub returns-in-Some-clause-second : goal.returns-in-Some-clause-second
returns-in-Some-clause-second c = same_more 4 c.in-Some.more c.four_vectors.result c.args.more c.in-Some.is c.four_vectors.ensures.second

pub returns-in-Some-clause-long : goal.returns-in-Some-clause-long
returns-in-Some-clause-long c = c.four_vectors.ensures.long

pub returns-in-None-clause-first : goal.returns-in-None-clause-first
returns-in-None-clause-first c = same_none 0 c.args.more c.in-None.is

pub returns-in-None-clause-second : goal.returns-in-None-clause-second
returns-in-None-clause-second c = same_none 4 c.args.more c.in-None.is

pub returns-in-None-clause-long : goal.returns-in-None-clause-long
returns-in-None-clause-long c = tt
