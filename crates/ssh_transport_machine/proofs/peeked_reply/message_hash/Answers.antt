use Rattle.std.proofs.Common.{ap, sym}
use Rattle.ssh_message.specs.Meaning.{meaning}
use Rattle.ssh_transport_machine.proofs.Replies.{key_fits}
use Rattle.ssh_transport_machine.proofs.peeked_reply.message_hash.Goals as goal

pub exchange_hash_of-requires-clause-short : goal.exchange_hash_of-requires-clause-short
exchange_hash_of-requires-clause-short g c =
    key_fits c.in-KexEcdhReply.k_s.now c.in-KexEcdhReply.q_s.now c.in-KexEcdhReply.signature.now c.args.payload.now (meaning c.args.message)
    c.payload_sizes.ensures (ap meaning (sym c.in-KexEcdhReply.is)) c.requires.read c.requires.most
