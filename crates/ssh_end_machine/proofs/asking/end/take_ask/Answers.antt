use Rattle.std.proofs.Common.{subst, sym}
use Rattle.ssh_end_machine.specs.Following.{FollowsOn}
use Rattle.ssh_end_machine.specs.Layers.{Layers}
use Rattle.ssh_end_machine.proofs.Following.{kept_follows}
use Rattle.ssh_end_machine.proofs.asking.end.take_ask.Goals as goal

pub returns-in-Service-clause-follows : goal.returns-in-Service-clause-follows
returns-in-Service-clause-follows g c = λ alive. kept_follows c.args.transport.now.machine.kept c.ask_transport.new.transport.machine.kept c.args.layers.now.authentication (c.ask_transport.ensures.user alive) (c.requires.follows (c.ask_transport.ensures.alive alive))

pub returns-in-Rekey-clause-follows : goal.returns-in-Rekey-clause-follows
returns-in-Rekey-clause-follows g c = λ alive. kept_follows c.args.transport.now.machine.kept c.ask_transport-in-Rekey.new.transport.machine.kept c.args.layers.now.authentication (c.ask_transport-in-Rekey.ensures.user alive) (c.requires.follows (c.ask_transport-in-Rekey.ensures.alive alive))

pub returns-in-Connection-clause-follows : goal.returns-in-Connection-clause-follows
returns-in-Connection-clause-follows g c = λ alive. kept_follows c.args.transport.now.machine.kept c.ask_connection.new.transport.machine.kept c.layers.inside.authentication (c.ask_connection.ensures.user alive)
    (subst (λ (l : Layers). FollowsOn c.args.transport.now.machine l.authentication) (sym c.layers.view_is) c.requires.follows (c.ask_connection.ensures.alive alive))
