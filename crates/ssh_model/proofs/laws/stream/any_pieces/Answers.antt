use Rattle.ssh_model.proofs.Wire.Units.{reading_pieces}
use Rattle.ssh_model.proofs.laws.stream.any_pieces.Goals as goal

pub returns : goal.returns
returns g c = λ laws h last one two rest. reading_pieces g.E.StreamEnd.crypto laws g.E.StreamEnd.stage g.E.StreamEnd.after g.E.StreamEnd.is_dead h last one two rest
