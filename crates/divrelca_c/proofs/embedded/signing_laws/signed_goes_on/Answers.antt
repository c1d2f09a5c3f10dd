use Rattle.divrelca_c.specs.Embedded.Signing.{is_signed_by}
use Rattle.ssh_end_machine.specs.Stands.{state_of}
use Rattle.divrelca_c.proofs.embedded.signing_laws.signed_goes_on.Goals as goal

pub returns : goal.returns
returns c = λ p client history asked given new o sums signed x known.
    c.settled_goes_on.ensures.asked p (is_signed_by client.end.role.own.signer) history (state_of client.end) asked given new o sums signed x known
