use Rattle.std.proofs.Common.{ap}
use Rattle.ssh_transport.proofs.transport.Transport.die.Goals as goal

pub returns-clause-placed : goal.returns-clause-placed
returns-clause-placed g c =
    rw (← c.self.view_is) (λ p history place.
    c.transports_lift.ensures.died c.self.inside.role p history c.self.inside.machine.kept place c.die.new.self.kept (ap (λ s. s.kept.dead) c.die.ensures))
