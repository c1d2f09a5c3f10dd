use Rattle.ssh_model.proofs.Example.Bounded.{toy_delivered, toy_settled, not_settled_while_blocked}
use Rattle.ssh_model.proofs.Example.Run.{session_runs}
use Rattle.ssh_model.proofs.laws.quiet.no_deadlock_example.Goals as goal

pub returns : goal.returns
returns c = record { runs = session_runs; delivered = toy_delivered; settled = toy_settled; not_while_blocked = not_settled_while_blocked }
