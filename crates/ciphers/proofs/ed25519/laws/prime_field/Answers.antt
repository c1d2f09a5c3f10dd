use Rattle.ciphers.proofs.Ed25519Lemmas.Field.Laws.{d_is_no_square, inverse_is, no_divisors}
use Rattle.ciphers.proofs.ed25519.laws.prime_field.Goals as goal

pub returns : goal.returns
returns c = record { divisors = no_divisors; inverse = inverse_is; d = d_is_no_square }
