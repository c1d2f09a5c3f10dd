use Rattle.ssh_transport.proofs.AskLaws.{ask_lifted, disconnect_lifted}
use Rattle.ssh_transport.proofs.laws.machine.ask_turns.Goals as goal

pub returns-clause-asked : goal.returns-clause-asked
returns-clause-asked g c = ask_lifted (record {
  sent = c.ask_turns.ensures.sent;
  disconnected = c.ask_turns.ensures.disconnected;
  refused = c.refused_and_spent.ensures.ask_refused;
  spent = c.refused_and_spent.ensures.ask_spent;
  disconnect_spent = c.refused_and_spent.ensures.disconnect_spent;
})

pub returns-clause-disconnected : goal.returns-clause-disconnected
returns-clause-disconnected g c = disconnect_lifted (record {
  sent = c.ask_turns.ensures.sent;
  disconnected = c.ask_turns.ensures.disconnected;
  refused = c.refused_and_spent.ensures.ask_refused;
  spent = c.refused_and_spent.ensures.ask_spent;
  disconnect_spent = c.refused_and_spent.ensures.disconnect_spent;
})
