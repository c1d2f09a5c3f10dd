use Rattle.std.proofs.Common.{subst}
use Rattle.ssh_channels.specs.Values.{reply_of}
use Rattle.ssh_model.specs.State.Channels.Summary.{reply_sent}
use Rattle.ssh_model.specs.Protocol.Sessions.Turns.{IsEncoded}
use Rattle.ssh_model.specs.Protocol.Wire.Message.{Msg}
use Rattle.ssh_end_machine.proofs.Following.{encoded_goes, reply_goes, sends_by}
use Rattle.ssh_end_machine.proofs.owed.give_reply.Goals as goal

pub put-requires : goal.put-requires
put-requires g c =
    let encoded = subst (λ (m : Msg). IsEncoded m c.in-Ok.payload.items) c.message.ensures.means c.in-Ok.ensures.encoded in
    record { can = record { alive = c.requires.alive; room = c.requires.left; can = encoded_goes c.args.transport.now.machine.kept (reply_sent (reply_of c.args.reply)) c.in-Ok.payload.items encoded c.in-Ok.ensures.some (reply_goes c.args.transport.now.machine.kept c.requires.free (reply_of c.args.reply)) } }

pub returns-clause-sends : goal.returns-clause-sends
returns-clause-sends g c =
    let encoded = subst (λ (m : Msg). IsEncoded m c.in-Ok.payload.items) c.message.ensures.means c.in-Ok.ensures.encoded in
    sends_by g.X.Sealing.Sealing.crypto c.args.transport.now.machine.kept.sending (reply_sent (reply_of c.args.reply)) c.in-Ok.payload.items _ encoded c.in_ok-put.ensures.put.puts
