use Rattle.ssh_model.proofs.Example.AnyPeer.{toy_runs}
use Rattle.ssh_model.proofs.Example.Bounded.{toy_sent, toy_took, toy_asked, toy_owes, not_unasked_messages}
use Rattle.ssh_model.proofs.laws.bounds.few_answers_example.Goals as goal

pub returns : goal.returns
returns c = record { runs = toy_runs; sent = toy_sent; took = toy_took; asks = toy_asked; owes = toy_owes; unasked_messages = not_unasked_messages }
