use Rattle.ssh_transport_machine.proofs.machine.Machine.peek.Goals as goal

pub returns-clause-none : goal.returns-clause-none
returns-clause-none g c = rw (← c.self.view_is) (λ e payload x. c.peek.ensures.none e payload x.opens)
