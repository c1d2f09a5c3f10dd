use Rattle.ciphers.proofs.x25519.curve.rungs.Goals as goal
use Rattle.ciphers.proofs.X25519Lemmas.Steps.{first_rung}

pub loop-i-init : goal.loop-i-init
loop-i-init c = first_rung c.args.k.now c.args.x1 c.requires
