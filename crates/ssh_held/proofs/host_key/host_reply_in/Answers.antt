use Rattle.ssh_model.specs.Protocol.Wire.Message.Msg.{KexEcdhReply}
use Rattle.ssh_message.specs.Meaning.{meaning}
use Rattle.ssh_held.proofs.HostKeys.{reply_found, reply_only}
use Rattle.ssh_held.proofs.host_key.host_reply_in.Goals as goal

pub returns-in-Ok-clause-found : goal.returns-in-Ok-clause-found
returns-in-Ok-clause-found c = reply_found c.args.payload.now (meaning c.in-Ok.message) c.in-Ok.ensures.found c.reply_of.result c.reply_of.ensures

pub returns-in-Ok-clause-only : goal.returns-in-Ok-clause-only
returns-in-Ok-clause-only c = λ probing key point signature x.
    reply_only (meaning c.in-Ok.message) key point signature
    (c.in-Ok.ensures.only (KexEcdhReply key point signature) (record { context = tt; row = x.row })) c.reply_of.result c.reply_of.ensures

pub returns-in-Err-clause-only : goal.returns-in-Err-clause-only
returns-in-Err-clause-only c = λ probing key point signature x.
    c.in-Err.ensures.only (KexEcdhReply key point signature) (record { context = tt; row = x.row })
