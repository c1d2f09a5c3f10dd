use Rattle.ssh_auth.proofs.Names.{one_truth}
use Rattle.ssh_auth.proofs.configured.is_configured.Goals as goal

pub returns : goal.returns
returns c = one_truth _ _ _ c.contains.ensures
