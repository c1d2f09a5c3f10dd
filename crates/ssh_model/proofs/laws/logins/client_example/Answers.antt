use Rattle.ssh_model.proofs.Example.AnyPeer.{toy_runs}
use Rattle.ssh_model.specs.declared.side.Side.TheVariants.{Client}
use Rattle.ssh_model.proofs.Example.Bounded.{toy_logs_in, not_unasked_success, not_channel_before_login}
use Rattle.ssh_model.proofs.laws.logins.client_example.Goals as goal

pub returns : goal.returns
returns c = record { runs = toy_runs Client; logs_in = toy_logs_in; unasked_success = not_unasked_success; channel_before_login = not_channel_before_login }
