use Rattle.ssh_model.proofs.Sessions.Blocked.{keeps_to_exchange}
use Rattle.ssh_model.proofs.laws.one_end.blocked_ends.Goals as goal

pub returns : goal.returns
returns g c = keeps_to_exchange
