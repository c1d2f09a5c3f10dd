use Rattle.ciphers.specs.X25519.Field.{IsLoose}
use Rattle.ssh_toys.proofs.plain.powers.squared_times.Given as goal

abbrev pub invariant-loop-i : goal.invariant-loop-i
invariant-loop-i l = IsLoose l.y
