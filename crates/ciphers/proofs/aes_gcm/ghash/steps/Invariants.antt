use Rattle.std.proofs.Common.{◌≡◌}
use Rattle.ciphers.specs.AesGcm.Ghash.{steps}
use Rattle.ciphers.proofs.aes_gcm.ghash.steps.Given as goal

abbrev pub invariant-loop-i : goal.invariant-loop-i
invariant-loop-i l = l.b ≡ steps l.i l.initial.b
