use Rattle.std.proofs.Common.{refl}
use Rattle.ciphers.proofs.aes_gcm.gcm.GcmKey.by.Goals as goal

pub returns : goal.returns
returns c = rw (c.word_at.ensures, c.word_at-2.ensures, c.encrypted-zero.ensures) refl
