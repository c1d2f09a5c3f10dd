use Rattle.ssh_model.proofs.Channels.Laws.{free_is, held_is, over_lists, place_is, full_is}
use Rattle.ssh_model.proofs.laws.channel.numbers_in_use.Goals as goal

pub returns-clause-free : goal.returns-clause-free
returns-clause-free c = free_is

pub returns-clause-held : goal.returns-clause-held
returns-clause-held c = held_is

pub returns-clause-over : goal.returns-clause-over
returns-clause-over c = over_lists

pub returns-clause-place : goal.returns-clause-place
returns-clause-place c = place_is

pub returns-clause-full : goal.returns-clause-full
returns-clause-full c = full_is
