use Rattle.ssh_held.specs.Book.{is_said}
use Rattle.ssh_held.proofs.Deciding.{opened_settled, seen_settled, unseen_settled}
use Rattle.ssh_held.proofs.laws.decided_goes_on.Goals as goal

pub returns : goal.returns
returns g c = record {
  opened = λ p knows verdicts. opened_settled p (is_said knows verdicts);
  seen = λ knows verdicts. seen_settled (is_said knows verdicts);
  unseen = λ knows verdicts. unseen_settled (is_said knows verdicts);
}
