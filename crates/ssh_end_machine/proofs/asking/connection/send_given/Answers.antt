use Rattle.ssh_channels.specs.Values.{ask_of, sent_of}
use Rattle.ssh_end_machine.proofs.AsksConnection.{given_sent}
use Rattle.ssh_end_machine.proofs.asking.connection.send_given.Goals as goal

pub returns-clause-sent : goal.returns-clause-sent
returns-clause-sent g c =
    given_sent _ c.args.transport.now.machine c.send_message.new.transport.machine _ (ask_of c.args.ask.now) (sent_of (ask_of c.args.ask.now) c.args.given.now) _ c.in_ok-answer.ensures.answers c.given_step.result c.given_step.ensures
