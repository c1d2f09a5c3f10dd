use Rattle.ssh_model.proofs.Channels.Pair.{windows_kept, not_refused, data_in_order}
use Rattle.ssh_model.proofs.Channels.Partner.{partnered}
use Rattle.ssh_model.proofs.laws.channel.channels.Goals as goal

pub returns-clause-windows : goal.returns-clause-windows
returns-clause-windows c = windows_kept

pub returns-clause-refused : goal.returns-clause-refused
returns-clause-refused c = not_refused

pub returns-clause-data : goal.returns-clause-data
returns-clause-data c = data_in_order

pub returns-clause-partner : goal.returns-clause-partner
returns-clause-partner c = partnered
