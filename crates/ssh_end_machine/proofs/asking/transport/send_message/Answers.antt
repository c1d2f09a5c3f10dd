use Rattle.ssh_message.specs.Meaning.{meaning}
use Rattle.ssh_end_machine.proofs.Following.{answers_by, encoded_goes}
use Rattle.ssh_end_machine.proofs.asking.transport.send_message.Goals as goal

pub send-requires : goal.send-requires
send-requires g c = encoded_goes c.args.transport.now.machine.kept (meaning c.args.message.now) c.in-Ok.payload.items c.in-Ok.ensures.encoded c.in-Ok.ensures.some c.requires.goes

pub returns-in_ok-send-in-Ok-clause-answers : goal.returns-in_ok-send-in-Ok-clause-answers
returns-in_ok-send-in-Ok-clause-answers g c = answers_by g.X.Sealing.Sealing.crypto c.args.transport.now.machine c.send.new.self.machine (meaning c.args.message.now) c.in-Ok.payload.items _ _ c.in-Ok.ensures.encoded c.in_ok-send-in-Ok.ensures.answered
