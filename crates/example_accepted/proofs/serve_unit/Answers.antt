use Rattle.std.proofs.Common.{refl}
use Rattle.ssh_model.specs.declared.side.Side.TheVariants.{Server}
use Rattle.ssh_end_machine.specs.Sessions.{end_of}
use Rattle.example_accepted.proofs.Telling.{ReadsUnit, served_unit}
use Rattle.example_accepted.proofs.serve_unit.Goals as goal

pub returns-clause-serves : goal.returns-clause-serves
returns-clause-serves g c = λ p history given.
    let old = c.args.server.now in
    let reads : ReadsUnit p history = λ unit items more new turned. c.deliveries.ensures.unit p Server history (end_of old.machine.kept old.layers) given.sums c.requires.alive unit items more new turned in
    served_unit p _ _ history _ _ _ _ _ c.last_turn.result refl reads c.take_step.new.self.step (c.in_ok-used.ensures.advances.placed p history given) c.last_turn.ensures.shows c.last_turn.ensures.more c.lets_in.result c.lets_in.ensures
