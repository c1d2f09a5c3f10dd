use Rattle.ssh_end_machine.proofs.client_role.End+Party+Client+P+Nobody+U.replace_user.Goals as goal

pub returns-clause-placed : goal.returns-clause-placed
returns-clause-placed g c = rw (← c.self.view_is, c.replace.ensures.after)
    (λ p history at alive agree. c.parts_exchanged.ensures.user_signature p _ _ _ _ _ history _ _ at alive agree)
