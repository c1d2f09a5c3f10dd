use Rattle.ssh_model.proofs.Sessions.Played.{beginning_is_honest}
use Rattle.ssh_model.proofs.laws.session.honest_beginnings.Goals as goal

pub returns : goal.returns
returns g c = beginning_is_honest
