use Rattle.ssh_transport.proofs.Choices.{answer_choosing, ask_choosing, goes_on, line_choosing, noted_choice, opened_choosing, packet_choosing}
use Rattle.ssh_transport.proofs.laws.ending.choices_kept.Goals as goal

pub returns-clause-opened : goal.returns-clause-opened
returns-clause-opened g c = opened_choosing

pub returns-clause-lines : goal.returns-clause-lines
returns-clause-lines g c = line_choosing

pub returns-clause-packets : goal.returns-clause-packets
returns-clause-packets g c = packet_choosing

pub returns-clause-asks : goal.returns-clause-asks
returns-clause-asks g c = ask_choosing

pub returns-clause-answers : goal.returns-clause-answers
returns-clause-answers g c = answer_choosing

pub returns-clause-kexinits : goal.returns-clause-kexinits
returns-clause-kexinits g c = noted_choice

pub returns-clause-others : goal.returns-clause-others
returns-clause-others g c = goes_on
