use Rattle.ssh_model.proofs.Sessions.Played.{first_plays}
use Rattle.ssh_model.proofs.laws.one_end.played_from_the_first.Goals as goal

pub returns : goal.returns
returns g c = first_plays
