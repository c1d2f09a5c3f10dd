use Rattle.ssh_model.proofs.Sessions.Supplied.{supplied_run, supplied_sums, supplied_transport_run, supplied_transport_sums}
use Rattle.ssh_model.proofs.Sessions.Supplied.{supplied_laws, supplied_are}
use Rattle.ssh_model.proofs.laws.supplied.parts_exchanged.Goals as goal

pub returns : goal.returns
returns g c = record {
  runs = supplied_run;
  sums = supplied_sums;
  transports = supplied_transport_run;
  transport_sums = supplied_transport_sums;
  lawful = supplied_laws;
  given = supplied_are;
}
