use Rattle.ssh_model.proofs.WholeEnd.Reading.{end_pieces}
use Rattle.ssh_model.proofs.laws.end.pieces.Goals as goal

pub returns : goal.returns
returns g c = λ p sealing side h last one two rest. end_pieces p side sealing h last one two rest
