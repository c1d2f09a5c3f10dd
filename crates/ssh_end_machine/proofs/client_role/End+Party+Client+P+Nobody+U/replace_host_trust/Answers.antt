use Rattle.ssh_end_machine.proofs.client_role.End+Party+Client+P+Nobody+U.replace_host_trust.Goals as goal

pub returns-clause-placed : goal.returns-clause-placed
returns-clause-placed g c = rw (← c.self.view_is, c.replace_host_trust.ensures.new)
    (λ p history at alive agree. c.parts_exchanged.ensures.host_trust p _ _ _ _ _ history _ _ at alive agree)
