use Rattle.ssh_message.proofs.Announcing.{fewer}
use Rattle.ssh_message.proofs.extensions.ExtensionsIterIterator.next.Goals as goal

pub invariant_of-self : goal.invariant_of-self
invariant_of-self c = record { checked = fewer c.args.self.now.rest.count c.args.self.now.rest.bytes.now c.in_ok-extension.bytes.now c.if-self-eq0.false c.args.self.now.rest.checked c.in_ok-extension.ensures.rest }
