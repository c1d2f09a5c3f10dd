use Rattle.ssh_transport.proofs.Sending.{is_plain, success_with, sums_with}
use Rattle.ssh_transport.proofs.laws.payloads_sent.Goals as goal

pub returns-clause-sent : goal.returns-clause-sent
returns-clause-sent g c p side history old new o channel probing message payload is other can sums x =
    sums_with p side _ old new x.sent.after
    (c.items_of_other_layers.ensures.sent p side history old.kept channel message payload (is_plain message payload (c.payload_numbers.ensures probing message payload is) can.number other) sums)

pub returns-clause-success : goal.returns-clause-success
returns-clause-success g c p history old new o channel payload sums x =
    success_with p _ old new x.sent.after (c.items_of_other_layers.ensures.success_sent p history old.kept channel payload sums)
