use Rattle.std.proofs.Common.{◌++◌}
use Rattle.ssh_held.specs.Signing.{is_signed, signature_by, signing}
use Rattle.ssh_held.proofs.Signatures.{more_signed, same_signature}
use Rattle.ssh_held.proofs.signing_laws.signatures_added.Goals as goal

pub returns : goal.returns
returns g c = record {
  agrees = λ p own list more h y. c.signer_exchanged.ensures (signing (signature_by own list) p) (signature_by own (list ++ more))
      (is_signed own list) h (same_signature own list more p) y;
  known = λ p own list more h y. more_signed own list more p h
      (λ q given settled other wider. c.settled_signing.ensures.more q given settled other h wider) y;
}
