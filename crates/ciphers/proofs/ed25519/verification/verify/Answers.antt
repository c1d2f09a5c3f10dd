use Rattle.ciphers.proofs.Ed25519Lemmas.Curve.{decoded_numbers}
use Rattle.ciphers.proofs.ed25519.verification.verify.Goals as goal

pub commitment-requires-clause-curve : goal.commitment-requires-clause-curve
commitment-requires-clause-curve c = decoded_numbers c.in-Some.key c.args.public.now c.in-Some.ensures.value
