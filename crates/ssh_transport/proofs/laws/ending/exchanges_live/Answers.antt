use Rattle.ssh_transport.proofs.Keyed.{keyed_chooses, keyed_on}
use Rattle.ssh_transport.proofs.Living.{noted_on, own_on, sent_on}
use Rattle.ssh_transport.proofs.laws.ending.exchanges_live.Goals as goal

pub returns-clause-sent : goal.returns-clause-sent
returns-clause-sent g c k = sent_on k k.requested

pub returns-clause-own : goal.returns-clause-own
returns-clause-own g c = own_on

pub returns-clause-noted : goal.returns-clause-noted
returns-clause-noted g c = noted_on

pub returns-clause-keyed : goal.returns-clause-keyed
returns-clause-keyed g c = keyed_on

pub returns-clause-ended : goal.returns-clause-ended
returns-clause-ended g c = keyed_chooses
