use Rattle.ssh_transport.proofs.Deaths.{turn_lacks}
use Rattle.ssh_transport.proofs.MachineUnits.{packet_lacks}
use Rattle.ssh_transport.proofs.laws.machine.memory_deaths.Goals as goal

pub returns-clause-payloads : goal.returns-clause-payloads
returns-clause-payloads g c = turn_lacks (record {
  answered = c.payload_is_one_turn.ensures.answered;
  skipped = c.payload_is_one_turn.ensures.skipped;
  disconnected = c.payload_is_one_turn.ensures.disconnected;
  refused = c.payload_is_one_turn.ensures.refused;
  spent = c.payload_is_one_turn.ensures.spent;
  numbers = c.payload_numbers.ensures;
})

pub returns-clause-packets : goal.returns-clause-packets
returns-clause-packets g c = λ p side h old sums alive live found. packet_lacks (record {
  packets = c.same_units.ensures.packets;
  lines = c.same_units.ensures.lines;
  refused = c.same_units.ensures.refused;
  version = c.lines_are_summed_up.ensures.version;
  other = c.lines_are_summed_up.ensures.other;
}) p side h old sums alive live found (record {
  answered = c.payload_is_one_turn.ensures.answered;
  skipped = c.payload_is_one_turn.ensures.skipped;
  disconnected = c.payload_is_one_turn.ensures.disconnected;
  refused = c.payload_is_one_turn.ensures.refused;
  spent = c.payload_is_one_turn.ensures.spent;
  numbers = c.payload_numbers.ensures;
})
