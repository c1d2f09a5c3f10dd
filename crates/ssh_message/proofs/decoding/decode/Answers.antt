use Rattle.ssh_message.proofs.Payloads.{again, numbered, only}
use Rattle.ssh_message.proofs.decoding.decode.Goals as goal

pub returns-clause-only : goal.returns-clause-only
returns-clause-only c = only c.one_message.ensures c.args.probing c.read.result c.args.payload.now c.read.ensures.found c.read.ensures.refused

pub returns-clause-again : goal.returns-clause-again
returns-clause-again c = again c.one_message.ensures c.args.probing c.read.result c.args.payload.now c.read.ensures.found c.read.ensures.refused

pub returns-clause-number : goal.returns-clause-number
returns-clause-number c = numbered c.payload_numbers.ensures c.args.probing c.read.result c.args.payload.now c.read.ensures.found
