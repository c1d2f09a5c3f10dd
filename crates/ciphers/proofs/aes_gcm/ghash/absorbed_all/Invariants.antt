use Rattle.std.proofs.Common.{◌≡◌}
use Rattle.ciphers.specs.AesGcm.Ghash.{absorbed_all}
use Rattle.ciphers.proofs.aes_gcm.ghash.absorbed_all.Given as goal

abbrev pub invariant-loop-i : goal.invariant-loop-i
invariant-loop-i l = l.all ≡ absorbed_all l.key l.initial.all l.bytes l.i
