use Rattle.ssh_model.proofs.Sessions.Played.{plays_run}
use Rattle.ssh_model.proofs.laws.session.every_play.Goals as goal

pub returns : goal.returns
returns g c = plays_run
