use Rattle.ssh_model.proofs.Sessions.Signing.{ask_signed, fed_none, opening_none, run_signed, unit_none}
use Rattle.ssh_model.proofs.laws.supplied.signs_when_asked.Goals as goal

pub returns : goal.returns
returns g c = record {
  opened = opening_none;
  bytes = unit_none;
  fed = fed_none;
  asked = ask_signed;
  run = run_signed;
}
