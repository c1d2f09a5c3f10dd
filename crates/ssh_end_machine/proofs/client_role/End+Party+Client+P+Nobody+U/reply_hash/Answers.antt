use Rattle.ssh_end_machine.proofs.client_role.End+Party+Client+P+Nobody+U.reply_hash.Goals as goal

pub returns-clause-none : goal.returns-clause-none
returns-clause-none g c = rw (← c.self.view_is) (λ e alive phase. c.reply_hash.ensures.none e alive phase)
