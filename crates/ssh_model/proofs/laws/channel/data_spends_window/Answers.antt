use Rattle.ssh_model.proofs.Channels.Laws.{took_data, said_data}
use Rattle.ssh_model.proofs.laws.channel.data_spends_window.Goals as goal

pub returns-clause-taken : goal.returns-clause-taken
returns-clause-taken c = took_data

pub returns-clause-said : goal.returns-clause-said
returns-clause-said c = said_data
