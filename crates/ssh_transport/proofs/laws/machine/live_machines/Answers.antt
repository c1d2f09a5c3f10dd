use Rattle.ssh_transport.proofs.Living.{answer_live, ask_live, fed_live, line_live, opened_live, packet_live, same_side}
use Rattle.ssh_transport.proofs.laws.machine.live_machines.Goals as goal

pub returns-clause-opened : goal.returns-clause-opened
returns-clause-opened g c = opened_live

pub returns-clause-lines : goal.returns-clause-lines
returns-clause-lines g c = line_live

pub returns-clause-packets : goal.returns-clause-packets
returns-clause-packets g c = packet_live

pub returns-clause-asks : goal.returns-clause-asks
returns-clause-asks g c = ask_live

pub returns-clause-answers : goal.returns-clause-answers
returns-clause-answers g c = answer_live

pub returns-clause-fed : goal.returns-clause-fed
returns-clause-fed g c = fed_live

pub returns-clause-others : goal.returns-clause-others
returns-clause-others g c = same_side
