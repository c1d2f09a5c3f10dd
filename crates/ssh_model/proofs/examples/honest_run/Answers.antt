use Rattle.ssh_model.proofs.Example.Run.{session_runs}
use Rattle.ssh_model.proofs.Example.Honest.{session_is_honest, two_exchanges, request_accepted, data_came, later_keys, both_live}
use Rattle.ssh_model.proofs.examples.honest_run.Goals as goal

pub returns : goal.returns
returns c = record {
  runs = session_runs;
  honest = session_is_honest;
  exchanges_twice = two_exchanges;
  accepted = request_accepted;
  data_came = data_came;
  later_keys = later_keys;
  live = both_live;
}
