use Rattle.ssh_end_machine.proofs.end.End.peek.Goals as goal

pub returns-clause-none : goal.returns-clause-none
returns-clause-none g c = rw (← c.self.view_is) (λ e payload x. c.peek.ensures.none e payload x)
