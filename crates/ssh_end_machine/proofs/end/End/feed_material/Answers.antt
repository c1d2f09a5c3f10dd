use Rattle.std.proofs.Common.{sym, subst}
use Rattle.ssh_end_machine.specs.Login.{authentication_of}
use Rattle.ssh_end_machine.specs.Sessions.{AreOf}
use Rattle.ssh_end_machine.specs.Stands.{StandsAt}
use Rattle.ssh_end_machine.proofs.Placing.{fed_to}
use Rattle.ssh_end_machine.proofs.end.End.feed_material.Goals as goal

pub returns-clause-placed : goal.returns-clause-placed
returns-clause-placed g c = λ p history given.
    let place = subst (λ v. StandsAt g.R.EndRole g.R.Exchange.Role p history v) (sym c.self.view_is) given in
    rw c.feed_material.ensures.role (fed_to (record { guards = c.against_any_peer.ensures; taken = c.feed_is_one_turn.ensures.taken; run = c.feed_is_one_turn.ensures.run }) p g.R.Exchange.Role.SIDE (g.R.EndRole.is_of c.self.inside.transport.role c.self.inside.role p) (AreOf p c.self.inside.layers) history c.self.inside.transport.machine
    (authentication_of c.self.inside.layers.authentication) c.self.inside.layers.channels place c.args.cookie c.args.secret c.is_material.ensures c.feed_material.result c.feed_material.ensures.fed c.feed_material.new.self.machine c.feed_material.ensures.kept c.feed_material.ensures.same)
