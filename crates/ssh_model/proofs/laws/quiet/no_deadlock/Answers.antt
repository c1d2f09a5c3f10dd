use Rattle.ssh_model.proofs.Sessions.Settled.{settled_run}
use Rattle.ssh_model.proofs.laws.quiet.no_deadlock.Goals as goal

pub returns : goal.returns
returns g c = settled_run
