use Rattle.ssh_message.specs.Meaning.{meaning}
use Rattle.ssh_message.proofs.Writing.{has_size}
use Rattle.ssh_message.proofs.encoding.encode.Goals as goal

pub returns-clause-size : goal.returns-clause-size
returns-clause-size c = has_size c.put.result (meaning c.args.message.now) c.args.out.now.items c.put.new.out.items c.payload_sizes.ensures c.put.ensures.written c.put.ensures.unknown
