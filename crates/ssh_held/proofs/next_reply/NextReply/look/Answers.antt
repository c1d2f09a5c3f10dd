use Rattle.std.proofs.Common.{sym, ◌∙◌}
use Rattle.ssh_held.proofs.HostKeys.{none_if}
use Rattle.ssh_held.proofs.next_reply.NextReply.look.Goals as goal

pub returns-clause-answered : goal.returns-clause-answered
returns-clause-answered g c = λ e.
    c.unanswered_host-wanted.ensures.answered (none_if c.unanswered_host-wanted.result (sym c.is_some.ensures ∙ e))
