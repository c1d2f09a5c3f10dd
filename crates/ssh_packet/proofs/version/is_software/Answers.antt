use Rattle.ssh_packet.proofs.Softwares.{tested_whole, tested_space, tested_none}
use Rattle.ssh_packet.proofs.version.is_software.Goals as goal

pub returns-in-None : goal.returns-in-None
returns-in-None c = tested_whole c.args.bytes.now c.is_empty.result c.is_empty.ensures c.in-None.ensures.place

pub returns-then-end-gt0 : goal.returns-then-end-gt0
returns-then-end-gt0 c = tested_space c.args.bytes.now c.in-Some.end c.in-Some.ensures.place c.if-end-gt0.true

pub returns-else-end-gt0 : goal.returns-else-end-gt0
returns-else-end-gt0 c = tested_none c.args.bytes.now c.in-Some.end c.in-Some.ensures.place c.if-end-gt0.false
