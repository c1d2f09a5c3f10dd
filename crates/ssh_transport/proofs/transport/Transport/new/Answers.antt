use Rattle.ssh_config.specs.Meaning.{settings_of}
use Rattle.ssh_transport.proofs.transport.Transport.new.Goals as goal

pub returns-clause-placed : goal.returns-clause-placed
returns-clause-placed g c = λ p lawful settings is.
    c.transports_lift.ensures.opened c.of-filler.result.1 p lawful is (settings_of c.args.config) settings c.args.cookie c.args.secret c.is_material.ensures c.in_ok-opened.field-0 _
    (rw c.SIDE.ensures at (rw c.swap.ensures.x_after at (rw (← c.swap-2.ensures.y_after) at c.in_ok-opened.ensures.opened)))
