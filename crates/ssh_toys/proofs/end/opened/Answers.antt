use Rattle.ssh_toys.proofs.end.opened.Goals as goal

pub returns-in_ok-end-in-Client-clause-opened : goal.returns-in_ok-end-in-Client-clause-opened
returns-in_ok-end-in-Client-clause-opened c = rw c.in-Client.is c.in_ok-end-in-Client.ensures.opened

pub returns-in_ok-end-in-Client-clause-placed : goal.returns-in_ok-end-in-Client-clause-placed
returns-in_ok-end-in-Client-clause-placed c = rw c.in-Client.is c.in_ok-end-in-Client.ensures.placed

pub returns-in_ok-end-in-Server-clause-opened : goal.returns-in_ok-end-in-Server-clause-opened
returns-in_ok-end-in-Server-clause-opened c = rw c.in-Server.is c.in_ok-end-in-Server.ensures.opened

pub returns-in_ok-end-in-Server-clause-placed : goal.returns-in_ok-end-in-Server-clause-placed
returns-in_ok-end-in-Server-clause-placed c = rw c.in-Server.is c.in_ok-end-in-Server.ensures.placed
