use Rattle.ssh_toys.proofs.transport.ToyTransport.take.Goals as goal

pub returns-in-Client-clause-takes : goal.returns-in-Client-clause-takes
returns-in-Client-clause-takes c = rw c.in-Client.is c.take.ensures.takes

pub returns-in-Client-clause-fails : goal.returns-in-Client-clause-fails
returns-in-Client-clause-fails c = rw c.in-Client.is c.take.ensures.fails

pub returns-in-Server-clause-takes : goal.returns-in-Server-clause-takes
returns-in-Server-clause-takes c = rw c.in-Server.is c.take-in-Server.ensures.takes

pub returns-in-Server-clause-fails : goal.returns-in-Server-clause-fails
returns-in-Server-clause-fails c = rw c.in-Server.is c.take-in-Server.ensures.fails
