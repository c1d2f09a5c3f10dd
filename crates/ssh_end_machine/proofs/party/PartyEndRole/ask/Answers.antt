use Rattle.ssh_end_machine.specs.Sessions.{end_of}
use Rattle.ssh_end_machine.proofs.AsksSessions.{turned}
use Rattle.ssh_end_machine.proofs.TurnsAbove.{role_of}
use Rattle.ssh_end_machine.proofs.party.PartyEndRole.ask.Goals as goal

pub returns-clause-asks : goal.returns-clause-asks
returns-clause-asks g c = record {
  in_session = λ p side history by sums. turned c.ask_is_one_turn.ensures.refused c.ask_is_one_turn.ensures.taken p side history (end_of c.args.transport.now.machine.kept c.args.layers.now) _ sums c.take_ask.result _ _ (c.take_ask.ensures.row p side (λ alive. role_of side history c.args.layers.now.authentication (sums.above alive).authentication_sums) by (λ alive. (sums.transport.live alive).settings_are));
  settings = c.take_ask.ensures.settings;
}
