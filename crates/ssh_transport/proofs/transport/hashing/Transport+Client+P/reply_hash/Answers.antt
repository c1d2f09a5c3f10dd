use Rattle.ssh_transport.proofs.transport.hashing.Transport+Client+P.reply_hash.Goals as goal

pub returns-clause-none : goal.returns-clause-none
returns-clause-none g c = rw (← c.self.view_is) (λ e alive phase. c.reply_hash.ensures.none e)
