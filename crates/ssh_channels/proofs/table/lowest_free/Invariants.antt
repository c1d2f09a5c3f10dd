use Rattle.std.proofs.Common.{◌<◌, ℕ, IsSome}
use Rattle.ssh_model.specs.State.Channels.Places.{at}
use Rattle.ssh_channels.proofs.table.lowest_free.Given as goal

abbrev pub invariant-loop-number : goal.invariant-loop-number
invariant-loop-number l = (lower : ℕ) → lower < l.number → IsSome (at l.keys lower)
