use Rattle.ssh_held.proofs.Books.{signed}
use Rattle.ssh_held.proofs.laws.accepted_is_signed.Goals as goal

pub returns : goal.returns
returns c = signed
