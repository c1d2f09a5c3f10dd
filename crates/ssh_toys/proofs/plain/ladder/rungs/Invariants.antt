use Rattle.ssh_toys.specs.Plain.{IsRung}
use Rattle.ssh_toys.proofs.plain.ladder.rungs.Given as goal

abbrev pub invariant-loop-i : goal.invariant-loop-i
invariant-loop-i l = IsRung l.l
