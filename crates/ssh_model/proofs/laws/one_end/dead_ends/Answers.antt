use Rattle.ssh_model.proofs.Sessions.Dead.{turn_still, first_dead_rest}
use Rattle.ssh_model.proofs.laws.one_end.dead_ends.Goals as goal

pub returns : goal.returns
returns g c = record { do_nothing = turn_still; keep_nothing = first_dead_rest }
