use Rattle.std.proofs.Common.{◌≡◌}
use Rattle.ssh_model.specs.Protocol.KeyExchange.Choice.{methods}
use Rattle.ssh_types.specs.Values.{names, names_left}
use Rattle.ssh_kex.proofs.common.first_method.Given as goal

abbrev pub invariant-loop-name : goal.invariant-loop-name
invariant-loop-name l = methods (names l.list) ≡ methods (names_left l.name-iterator)
