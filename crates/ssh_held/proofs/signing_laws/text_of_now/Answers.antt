use Rattle.ssh_held.proofs.Signatures.{known_now}
use Rattle.ssh_held.proofs.signing_laws.text_of_now.Goals as goal

pub returns : goal.returns
returns g c = known_now
