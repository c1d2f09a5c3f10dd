use Rattle.ssh_model.proofs.TransportLayer.Ending as ending
use Rattle.ssh_model.proofs.laws.transport.ask_turns.Goals as goal

pub returns-clause-sent : goal.returns-clause-sent
returns-clause-sent g c = λ p side history s sums alive ask message payload new more fine asks puts. ending.ask_sent p side history s sums alive ask message payload new more fine asks puts

pub returns-clause-disconnected : goal.returns-clause-disconnected
returns-clause-disconnected g c = λ p side history s sums alive description payload new more fine dead puts. ending.ask_disconnects p side history s sums alive description payload new more fine dead puts
