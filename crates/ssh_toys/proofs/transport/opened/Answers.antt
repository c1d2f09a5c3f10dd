use Rattle.ssh_toys.proofs.transport.opened.Goals as goal

pub returns-in_ok-end-in-Client-clause-opened : goal.returns-in_ok-end-in-Client-clause-opened
returns-in_ok-end-in-Client-clause-opened c = rw c.in-Client.is c.in_ok-end-in-Client.ensures.opened

pub returns-in_ok-end-in-Server-clause-opened : goal.returns-in_ok-end-in-Server-clause-opened
returns-in_ok-end-in-Server-clause-opened c = rw c.in-Server.is c.in_ok-end-in-Server.ensures.opened
