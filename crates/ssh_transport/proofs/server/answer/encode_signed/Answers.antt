use Rattle.ssh_kex.specs.Values.{chosen_of}
use Rattle.ssh_transport.proofs.OfServer.Replies.{encoded_answer}
use Rattle.ssh_transport.proofs.server.answer.encode_signed.Goals as goal

pub returns : goal.returns
returns g c =
    encoded_answer _ _ c.args.machine.now.kept (chosen_of c.args.choice) c.args.client.now.point c.args.client.now.shared _ _ _ c.requires.side c.requires.shares c.requires.chosen c.requires.signed
    _ c.as_bytes.result.now c.in_ok-made.ensures.chosen c.as_bytes.ensures.bytes _ _ _ _ _ c.in_ok-reply.ensures.encoded c.in_ok-reply.ensures.some c.in_ok-made.ensures.keys c.in_ok-made.ensures.announcement
