use Rattle.ssh_model.proofs.Channels.End.{part_turns, end_run, each_here, each_there}
use Rattle.ssh_model.proofs.laws.channel.runs_of_one_end.Goals as goal

pub returns-clause-turns : goal.returns-clause-turns
returns-clause-turns c = end_run

pub returns-clause-here : goal.returns-clause-here
returns-clause-here c = each_here

pub returns-clause-there : goal.returns-clause-there
returns-clause-there c = each_there

pub returns-clause-parts : goal.returns-clause-parts
returns-clause-parts c = part_turns
