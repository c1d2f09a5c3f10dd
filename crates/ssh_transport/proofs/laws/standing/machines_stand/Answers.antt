use Rattle.ssh_transport.proofs.Roles.{asks, authenticated, dead, fed, lines, opened, packets, refused, sent}
use Rattle.ssh_transport.proofs.laws.standing.machines_stand.Goals as goal

pub returns-clause-opened : goal.returns-clause-opened
returns-clause-opened g c = opened

pub returns-clause-lines : goal.returns-clause-lines
returns-clause-lines g c = lines

pub returns-clause-packets : goal.returns-clause-packets
returns-clause-packets g c = packets

pub returns-clause-asks : goal.returns-clause-asks
returns-clause-asks g c = asks

pub returns-clause-fed : goal.returns-clause-fed
returns-clause-fed g c = fed

pub returns-clause-authenticated : goal.returns-clause-authenticated
returns-clause-authenticated g c = authenticated

pub returns-clause-over : goal.returns-clause-over
returns-clause-over g c = dead

pub returns-clause-refused : goal.returns-clause-refused
returns-clause-refused g c = refused

pub returns-clause-sent : goal.returns-clause-sent
returns-clause-sent g c = sent
