use Rattle.ssh_model.proofs.KeyExchange.Firsts.{right_guess, wrong_guess, no_guess}
use Rattle.ssh_model.proofs.laws.choice.guess.Goals as goal

pub returns-clause-is_right : goal.returns-clause-is_right
returns-clause-is_right c = right_guess

pub returns-clause-is_wrong : goal.returns-clause-is_wrong
returns-clause-is_wrong c = wrong_guess

pub returns-clause-is_none : goal.returns-clause-is_none
returns-clause-is_none c = no_guess
