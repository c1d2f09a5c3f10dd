use Rattle.ssh_model.specs.declared.side.Side.TheVariants.{Client}
use Rattle.ssh_held.specs.Signing.{signature_by, signing}
use Rattle.ssh_held.proofs.Signatures.{each_sent}
use Rattle.ssh_held.proofs.signing_laws.own_or_given.Goals as goal

pub returns : goal.returns
returns g c = λ p own list h run known.
    each_sent own list p h (c.signs_when_asked.ensures.run (signing (signature_by own list) p) Client h run) known
