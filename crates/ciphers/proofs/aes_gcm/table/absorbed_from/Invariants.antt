use Rattle.std.proofs.Common.{◌≡◌}
use Rattle.ciphers.specs.AesGcm.Ghash.{absorbed_all}
use Rattle.ciphers.specs.declared.aes_gcm.ghash.Element.{Element}
use Rattle.ciphers.proofs.aes_gcm.table.absorbed_from.Given as goal

abbrev pub invariant-loop-i : goal.invariant-loop-i
invariant-loop-i l = (s : Element) → l.initial.all ≡ absorbed_all l.key s l.bytes l.fn.first → l.all ≡ absorbed_all l.key s l.bytes l.i
