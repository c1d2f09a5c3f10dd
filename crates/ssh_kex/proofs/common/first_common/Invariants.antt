use Rattle.ssh_types.specs.Values.{names, names_left}
use Rattle.ssh_kex.proofs.Commons.{Skipped}
use Rattle.ssh_kex.proofs.common.first_common.Given as goal

abbrev pub invariant-loop-name : goal.invariant-loop-name
invariant-loop-name l = Skipped (names l.client) (names_left l.name-iterator) (names l.server)
