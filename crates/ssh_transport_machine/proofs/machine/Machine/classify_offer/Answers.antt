use Rattle.ssh_transport_machine.specs.Classifying.{MessageIs.kexinit, MessageIs.kexinit_refused}
use Rattle.ssh_message.specs.Meaning.{proposal_meaning}
use Rattle.ssh_transport_machine.proofs.machine.Machine.classify_offer.Goals as goal

pub returns-in-Ok : goal.returns-in-Ok
returns-in-Ok g c = kexinit (proposal_meaning c.args.theirs) c.in-Ok.facts c.in-Ok.ensures.fine

pub returns-in-Err : goal.returns-in-Err
returns-in-Err g c = kexinit_refused (proposal_meaning c.args.theirs) c.in-Err.why c.in-Err.ensures.refused
