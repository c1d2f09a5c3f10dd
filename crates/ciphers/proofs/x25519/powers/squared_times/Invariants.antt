use Rattle.std.proofs.Common.{◌≡◌}
use Rattle.ciphers.specs.X25519.Field.{IsLoose}
use Rattle.ciphers.specs.X25519.Powers.{squared_times}
use Rattle.ciphers.proofs.x25519.powers.squared_times.Given as goal

abbrev pub invariant-loop-i : goal.invariant-loop-i
invariant-loop-i l = (l.y ≡ squared_times l.initial.y l.i) × IsLoose l.y
