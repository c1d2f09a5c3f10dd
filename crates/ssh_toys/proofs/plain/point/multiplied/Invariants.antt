use Rattle.ssh_toys.specs.Plain.{IsPoint}
use Rattle.ssh_toys.proofs.plain.point.multiplied.Given as goal

abbrev pub invariant-loop-i : goal.invariant-loop-i
invariant-loop-i l = IsPoint l.q
