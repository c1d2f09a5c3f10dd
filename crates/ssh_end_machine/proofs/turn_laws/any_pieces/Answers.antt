use Rattle.ssh_end_machine.specs.Sessions.{end_of}
use Rattle.ssh_end_machine.proofs.turn_laws.any_pieces.Goals as goal

pub returns-clause-pieces : goal.returns-clause-pieces
returns-clause-pieces g c = λ role p history machine layers place last one two rest.
    c.pieces.ensures p place.lawful.sealing g.R.Exchange.Role.SIDE history last one two rest

pub returns-clause-takes : goal.returns-clause-takes
returns-clause-takes g c = λ role p history machine layers place alive unit done new later o x following last rest delivered.
    c.deliveries.ensures.unit p g.R.Exchange.Role.SIDE history (end_of machine.kept layers) place.sums alive unit x.turned.items x.turned.more (end_of new.kept later) x.turned.turned following last rest delivered

pub returns-clause-waits : goal.returns-clause-waits
returns-clause-waits g c = λ role p history machine layers place alive bytes new later o x.
    c.deliveries.ensures.waits p g.R.Exchange.Role.SIDE history (end_of machine.kept layers) place.sums alive bytes x.waits

pub returns-clause-dead : goal.returns-clause-dead
returns-clause-dead g c = λ role p history machine layers place over bytes.
    c.deliveries.ensures.dead p g.R.Exchange.Role.SIDE history (end_of machine.kept layers) place.sums over bytes
