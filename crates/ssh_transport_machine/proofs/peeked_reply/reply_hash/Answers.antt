use Rattle.ssh_model.specs.Protocol.Wire.Message.Msg.{KexEcdhReply}
use Rattle.ssh_transport_machine.proofs.peeked_reply.reply_hash.Goals as goal

pub returns-in-Ok-clause-none : goal.returns-in-Ok-clause-none
returns-in-Ok-clause-none g c = λ e host_key point signature read good most.
    c.message_hash.ensures.none e host_key point signature (c.in-Ok.ensures.only (KexEcdhReply host_key point signature) read) good

pub returns-in-Err-clause-none : goal.returns-in-Err-clause-none
returns-in-Err-clause-none g c = λ e host_key point signature read good most.
    c.in-Err.ensures.only (KexEcdhReply host_key point signature) read
