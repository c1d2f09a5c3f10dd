use Rattle.ssh_model.proofs.Example.PlainRun.{plain_is_lawful, plain_session_runs, plain_session_is_honest, prefix_is_lost}
use Rattle.ssh_model.proofs.laws.strict_exchange.lost_prefix.Goals as goal

pub returns : goal.returns
returns c = record {
  lawful = plain_is_lawful;
  runs = plain_session_runs;
  honest = plain_session_is_honest;
  lost = prefix_is_lost;
}
