use Rattle.ssh_model.proofs.Sessions.EndRuns.{end_run}
use Rattle.ssh_model.proofs.laws.one_end.runs_of_each_end.Goals as goal

pub returns : goal.returns
returns g c = end_run
