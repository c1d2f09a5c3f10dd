use Rattle.divrelca_c.specs.Embedded.Signing.{own_signatures}
use Rattle.divrelca_c.proofs.embedded.signing_laws.signed_by_program.Goals as goal

pub returns : goal.returns
returns g c = λ p signer h run known. c.own_or_given.ensures p (own_signatures signer.own) signer.list.items h run known
