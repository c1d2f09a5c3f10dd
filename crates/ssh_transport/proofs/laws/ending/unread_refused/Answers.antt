use Rattle.ssh_transport.proofs.Endings.{message_refused}
use Rattle.ssh_transport.proofs.laws.ending.unread_refused.Goals as goal

pub returns : goal.returns
returns g c side p history s sums alive old new o taken read x = message_refused p side history s old new o taken read (c.payload_is_one_turn.ensures.refused p side history s sums alive) x
