use Rattle.ssh_model.proofs.Sessions.Played.{session_pieces}
use Rattle.ssh_model.proofs.laws.session.session_pieces.Goals as goal

pub returns : goal.returns
returns g c = session_pieces
