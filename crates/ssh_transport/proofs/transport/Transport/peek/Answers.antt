use Rattle.ssh_transport.proofs.transport.Transport.peek.Goals as goal

pub returns-clause-none : goal.returns-clause-none
returns-clause-none g c = rw (← c.self.view_is) (λ e payload x. c.peek.ensures.none e payload x)
