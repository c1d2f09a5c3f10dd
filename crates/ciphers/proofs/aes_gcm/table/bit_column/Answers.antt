use Rattle.std.proofs.Common.{◌%◌, arith}
use Rattle.ciphers.proofs.AesGcmLemmas.Basis.{power_lt}
use Rattle.ciphers.proofs.aes_gcm.table.bit_column.Goals as goal

pub returns-clause-below : goal.returns-clause-below
returns-clause-below c = omega (arith, power_lt (c.args.l % 4) (omega arith))
