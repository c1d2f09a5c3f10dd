use Rattle.ssh_model.proofs.Sessions.Answered.{units_answered}
use Rattle.ssh_model.proofs.Sessions.AsksAnswered.{asks_answered}
use Rattle.ssh_model.proofs.laws.one_end.nothing_unanswered.Goals as goal

pub returns : goal.returns
returns g c = record { units = units_answered; asks = asks_answered }
