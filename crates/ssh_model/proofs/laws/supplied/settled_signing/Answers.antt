use Rattle.ssh_model.proofs.Sessions.Signing.{settled_asked, settled_more, settled_unasked}
use Rattle.ssh_model.proofs.laws.supplied.settled_signing.Goals as goal

pub returns : goal.returns
returns g c = record {
  unasked = settled_unasked;
  asked = settled_asked;
  more = λ p given settled. settled_more p settled given;
}
