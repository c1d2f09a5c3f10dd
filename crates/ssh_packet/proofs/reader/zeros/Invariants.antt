use Rattle.std.proofs.Common.{◌≡◌}
use Rattle.std.specs.Prelude.{vec_len, vec_capacity}
use Rattle.ssh_packet.proofs.reader.zeros.Given as goal
use Rattle.ssh_model.specs.Protocol.Bounds.{largest_packet}

abbrev pub invariant-loop : goal.invariant-loop
invariant-loop l = (vec_len l.buffer ≡ l.counter) × (vec_capacity l.buffer ≡ largest_packet)
