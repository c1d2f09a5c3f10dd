use Rattle.ssh_model.proofs.Example.AnyPeer.{toy_runs, toy_serves, toy_accepts, toy_is_strict, toy_taken_by_server, toy_taken_by_client, toy_sent_by_server, toy_sent_by_client, toy_is_fresh}
use Rattle.ssh_model.proofs.laws.any_peer.guarded_example.Goals as goal

pub returns : goal.returns
returns c = record {
  runs = toy_runs;
  serves = toy_serves;
  accepts = toy_accepts;
  strict = toy_is_strict;
  taken_by_server = toy_taken_by_server;
  taken_by_client = toy_taken_by_client;
  sent_by_server = toy_sent_by_server;
  sent_by_client = toy_sent_by_client;
  fresh = toy_is_fresh;
}
