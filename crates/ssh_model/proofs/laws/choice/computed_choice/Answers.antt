use Rattle.ssh_model.proofs.KeyExchange.Firsts.{choice_computed, choice_only}
use Rattle.ssh_model.proofs.KeyExchange.OneChoice.{no_choice}
use Rattle.ssh_model.proofs.laws.choice.computed_choice.Goals as goal

pub returns : goal.returns
returns c = record {
  computed = choice_computed;
  there = λ client server choice is. (choice_only client server choice is).0;
  is = λ client server choice is. (choice_only client server choice is).1;
  none = no_choice;
}
