use Rattle.std.proofs.Common.{◌≡◌, ℕ}
use Rattle.ciphers.specs.AesGcm.Streams.{byte_in}
use Rattle.ciphers.specs.AesGcm.Tables.{absorb, element_of, none}
use Rattle.ciphers.proofs.aes_gcm.table.absorbed_streams.Given as goal

abbrev pub invariant-loop-l : goal.invariant-loop-l
invariant-loop-l c = c.sum ≡ absorb c.key none (λ (l : ℕ). element_of (byte_in c.all l)) c.l
