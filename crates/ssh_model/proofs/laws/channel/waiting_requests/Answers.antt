use Rattle.ssh_model.proofs.Channels.Laws.{request_taken, request_late, reply_said, request_said, reply_taken}
use Rattle.ssh_model.proofs.laws.channel.waiting_requests.Goals as goal

pub returns-clause-taken : goal.returns-clause-taken
returns-clause-taken c = request_taken

pub returns-clause-late : goal.returns-clause-late
returns-clause-late c = request_late

pub returns-clause-replied : goal.returns-clause-replied
returns-clause-replied c = reply_said

pub returns-clause-said : goal.returns-clause-said
returns-clause-said c = request_said

pub returns-clause-answered : goal.returns-clause-answered
returns-clause-answered c = reply_taken
