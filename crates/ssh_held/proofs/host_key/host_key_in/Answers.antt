use Rattle.ssh_held.proofs.host_key.host_key_in.Goals as goal

pub returns-in-Some-clause-only : goal.returns-in-Some-clause-only
returns-in-Some-clause-only c = λ probing key point signature x. (c.in-Some.ensures.only probing key point signature x).0
