use Rattle.ssh_held.proofs.HostBooks.{trusted_before}
use Rattle.ssh_held.proofs.laws.hosts_added.Goals as goal

pub returns : goal.returns
returns c = trusted_before
